-- What carries the promises of the calls between the functions that answer them.
-- Assumes nothing.
use Rattle.std.specs.Prelude.{ℕ, ◌≡◌, Bool, List, [], length, take, Option}
use Rattle.frame.specs.Bytes.{over}
use Rattle.frame.specs.Frame.{MAX_BODY, MAX_FRAME}
use Rattle.writing.specs.Writing.{line_bytes}
use Rattle.link.specs.Out.{Out, out_report, core_of}
use Rattle.link.specs.declared.link.Link.{Link}
use Rattle.report.specs.declared.Report.{Report}
use Rattle.step.specs.declared.deciding.Outcome.{Outcome}
use Rattle.step.specs.declared.numbers.Core.{Core}
use Rattle.hearing.specs.declared.hearing.Hearing.{Hearing}
use Rattle.hearing.specs.declared.hearing.Single.{Single}

-- the report of an outcome, with the numbers of bytes written
abbrev pub report_of : Outcome → ℕ → ℕ → Report
report_of o line up = record { reception = o.reception; sending = o.sending; session = o.session; reset = o.reset; line = line; up = up }

-- What goes out of a link's own arrays. How many bytes that is, any arrays of these sizes tell: so a proof of the counts shows nothing of
-- the bytes.
pub record LineOut (reply : Option Single) (copy : Bool) (size : ℕ) (frame line : List ℕ) (r : ℕ) (line' : List ℕ) : Type 0 where
  pub count : (x : List ℕ) → length x ≡ MAX_FRAME → r ≡ length (line_bytes reply copy size x)
  pub left : line' ≡ over (line_bytes reply copy size frame) line

pub record UpOut (n : ℕ) (body up : List ℕ) (r : ℕ) (up' : List ℕ) : Type 0 where
  pub count : (x : List ℕ) → length x ≡ MAX_BODY → r ≡ length (take n x)
  pub left : up' ≡ over (take n body) up

-- an accepted call that hands nothing up
pub record Emitted (o : Out) (line : List ℕ) (link : Link) (r : Report) (line' : List ℕ) : Type 0 where
  pub link_left : link ≡ o.link
  pub report : r ≡ out_report o
  pub line_left : line' ≡ over o.line line
  pub none_up : o.up ≡ []

-- An accepted call that hands up, on a link of these numbers and arrays: the numbers that it leaves, what goes out of each array, and the
-- report, of which these arrays tell no more than any of their sizes.
pub record Concluded (k : Core) (body frame : List ℕ) (o : Outcome) (h : Hearing) (line up : List ℕ) (k' : Core) (r : Report) (line' up' : List ℕ) : Type 0 where
  pub core_left : k' ≡ core_of o h k.size k.choice
  pub report : (x y : List ℕ) → length x ≡ MAX_BODY → length y ≡ MAX_FRAME → r ≡ report_of o (length (line_bytes o.reply o.copy k.size y)) (length (take o.up x))
  pub line_left : line' ≡ over (line_bytes o.reply o.copy k.size frame) line
  pub up_left : up' ≡ over (take o.up body) up
