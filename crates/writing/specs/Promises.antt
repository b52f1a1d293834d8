-- What the writers of lent buffers promise: all of the bytes over the front where there is room for them, else none. A reader need not believe it: the link promises
-- every lent byte by `over` and `line_bytes`.
-- Assumes nothing.
use Rattle.std.specs.Prelude.{ℕ, ◌≡◌, Bool, true, false, List, [], ltb, length, take, Option}
use Rattle.frame.specs.Bytes.{over}
use Rattle.refusals.specs.Pick.{pick}
use Rattle.hearing.specs.declared.hearing.Single.{Single}
use Rattle.frame.specs.Frame.{MAX_FRAME}
use Rattle.reception.specs.Said.{reply_bytes}
use Rattle.writing.specs.Writing.{line_bytes}

-- bytes written over the front of a lent buffer, and how many
pub record Put (bytes lent : List ℕ) (r : ℕ) (lent' : List ℕ) : Type 0 where
  pub count : r ≡ length bytes
  pub left : lent' ≡ over bytes lent

-- Room in the lent buffer: for a single byte, for one and any copy of the frame, which has at most 257 bytes, and for the body.
abbrev pub byte_fits : List ℕ → Bool
byte_fits line = pick (ltb (length line) 1) false true

abbrev pub copy_fits : List ℕ → List ℕ → Bool
copy_fits frame line = pick (ltb MAX_FRAME (length frame)) false (ltb (length frame) (length line))

abbrev pub body_fits : List ℕ → List ℕ → Bool
body_fits body up = pick (ltb (length up) (length body)) false true

-- what goes on the line and what is handed up: all of it where there is room, else nothing
pub record PutReply (reply : Option Single) (line : List ℕ) (r : ℕ) (line' : List ℕ) : Type 0 where
  pub put : Put (pick (byte_fits line) (reply_bytes reply) []) line r line'

pub record PutLine (reply : Option Single) (copy : Bool) (size : ℕ) (frame line : List ℕ) (r : ℕ) (line' : List ℕ) : Type 0 where
  pub put : Put (pick (copy_fits frame line) (line_bytes reply copy size frame) []) line r line'

pub record PutUp (n : ℕ) (body up : List ℕ) (r : ℕ) (up' : List ℕ) : Type 0 where
  pub put : Put (pick (body_fits body up) (take n body) []) up r up'
