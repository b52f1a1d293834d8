-- What a step puts on the line.
-- Assumes nothing.
use Rattle.std.specs.Prelude.{ℕ, Bool, List, [], ◌++◌, take, Option}
use Rattle.refusals.specs.Pick.{pick}
use Rattle.reception.specs.Said.{reply_bytes}
use Rattle.hearing.specs.declared.hearing.Single.{Single}

-- what goes on the line: 06, 15 or 18, then the copy
abbrev pub line_bytes : Option Single → Bool → ℕ → List ℕ → List ℕ
line_bytes reply copy size frame = reply_bytes reply ++ pick copy (take size frame) []
