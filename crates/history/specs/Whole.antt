-- A frame that comes whole, in whatever calls: how its reception ends, by what the frame reader says of the same bytes.
-- Assumes nothing.
use Rattle.std.specs.Prelude.{ℕ, ◌≤◌, ◌<◌, ◌≡◌, Bool, true, false, List, [], ◌∷◌, ◌++◌, eqb, length, take, Result, Ok, Err}
use Rattle.refusals.specs.Pick.{pick}
use Rattle.refusals.specs.declared.Refusal.{Refusal}
use Rattle.refusals.specs.declared.Refusal.TheVariants as refusal
use Rattle.reading.specs.Reader.{parameters_of, read}
use Rattle.reading.specs.declared.reader.Parts.{Parts}
use Rattle.rules.specs.Rules.{Rules}
use Rattle.sending.specs.Events.{awaits}
use Rattle.link.specs.Out.{Out, Taken}
use Rattle.hearing.specs.declared.hearing.Hearing.TheVariants.{Hunting}
use Rattle.job.specs.declared.job.Job.{Job}
use Rattle.job.specs.declared.job.Job.TheVariants.{Idle, Due, Waiting, BackingOff, Awaiting}
use Rattle.report.specs.declared.Reception.{Reception}
use Rattle.report.specs.declared.Reception.TheVariants as reception
use Rattle.link.specs.declared.link.Link.{Link}
use Rattle.history.specs.Perform.{Call, perform}
use Rattle.history.specs.History.{next, run, ticks_in, restarts_in}
use Rattle.history.specs.Received.{taken_by, if_taken, received}
use Rattle.history.specs.Section11.{cancels_now, AtMostCopy}
use Rattle.frame.specs.Frame.{START, REQ, ACK, NAK, CAN, MIN_LENGTH}

-- ---- the bytes
-- 01 and a Length below 3; or 01, Length, and then "Length − 1 body bytes, then Checksum".
pub data Whole (xs : List ℕ) : Type 0 where
  short : (len : ℕ) → xs ≡ START ∷ len ∷ [] → len < MIN_LENGTH → Whole xs
  full : (len : ℕ) (rest : List ℕ) → xs ≡ START ∷ len ∷ rest → MIN_LENGTH ≤ len → len ≤ 255 → length rest ≡ len → Whole xs

-- ---- the calls that take them
-- by what a call took: nothing, so that the first byte is taken later; or the first byte, so that what is behind the call counts
abbrev pub from_first : List ℕ → ℕ → ℕ → ℕ
from_first [] behind later = later
from_first (b ∷ bs) behind later = behind

-- the accepted ticks behind the call that takes the first byte of all: where that is the 01 of a frame, its clock counts them
abbrev pub clock_in : Rules → Link → List Call → ℕ
clock_in R l [] = 0
clock_in R l (c ∷ h) =
    from_first (if_taken (perform R l c) (taken_by R l c.what))
    (ticks_in R (next l (perform R l c)) h)
    (clock_in R (next l (perform R l c)) h)

-- The bytes xs come whole to the link l, in the calls k and then the call c, by single bytes or runs. Ticks, sends and sessions may lie between, accepted or not.
pub record ComesWhole (R : Rules) (l : Link) (k : List Call) (c : Call) (xs : List ℕ) : Type 0 where
  pub whole : Whole xs
  pub bytes : received R l k ++ taken_by R (run R l k) c.what ≡ xs
  -- the last of them in the call c
  pub last : 0 < length (taken_by R (run R l k) c.what)
  -- no accepted restart lies between
  pub restarts : restarts_in R l k ≡ 0
  -- "A frame whose last byte comes after 1,500 ticks counts; the 1,501st tick aborts."
  pub ticks : clock_in R l k ≤ 1500

-- ---- the end of the reception
-- "The call that ends a reception (any end in section 4) puts out a due copy after the 06 or 15, if there is one."
abbrev pub due_copy : Job → List ℕ → List ℕ
due_copy Idle held = []
due_copy (Due a n) held = held
due_copy (Waiting a n e) held = []
due_copy (BackingOff a n b) held = []
due_copy (Awaiting c n e) held = []

-- with the job j and the held frame before it: what is reported, the answer on the line, and what is handed up
pub record Ending (j : Job) (held : List ℕ) (r : Reception) (answer handed : List ℕ) (o : Out) : Type 0 where
  pub hunting : o.link.core.hearing ≡ Hunting
  pub reception : o.reception ≡ r
  pub line : o.line ≡ answer ++ due_copy j held
  pub up : o.up ≡ handed

-- "A frame handed up is reported as the frame end, or as stray response in its place": a RES that is not awaited.
abbrev pub frame_report : ℕ → ℕ → Job → Reception
frame_report kind command j = pick (eqb kind REQ) reception.Frame (pick (awaits command j) reception.Frame reception.StrayResponse)

-- "Checksum right, Type 00 or 01: put out 06 and hand up the body." And of a stand-in that waits for an ACK: "answered with 18, reported as
-- cancelled and not handed up".
abbrev pub FrameEnds : (cancelled : Bool) → Job → List ℕ → ℕ → ℕ → List ℕ → Out → Type 0
FrameEnds false j held kind command ps o = Ending j held (frame_report kind command j) (ACK ∷ []) (kind ∷ command ∷ ps) o
FrameEnds true j held kind command ps o = Ending j held reception.Cancelled (CAN ∷ []) [] o

-- The reader's answer to the bytes xs decides. LENGTH: "report bad length, hunt again. No byte is put out." SUM: "put out 15, report bad sum."
-- KIND: "put out 06, hand up nothing, report reserved." Parts: it is handed up, or cancelled. It has no other answer to bytes that come whole.
abbrev pub EndsBy : Bool → Job → List ℕ → List ℕ → Result Parts Refusal → Out → Type 0
EndsBy x j held xs (Err refusal.Room) o = ⊥
EndsBy x j held xs (Err refusal.Busy) o = ⊥
EndsBy x j held xs (Err refusal.Kind) o = Ending j held reception.Reserved (ACK ∷ []) [] o
EndsBy x j held xs (Err refusal.Long) o = ⊥
EndsBy x j held xs (Err refusal.Short) o = ⊥
EndsBy x j held xs (Err refusal.Start) o = ⊥
EndsBy x j held xs (Err refusal.Length) o = Ending j held reception.BadLength [] [] o
EndsBy x j held xs (Err refusal.Tail) o = ⊥
EndsBy x j held xs (Err refusal.Sum) o = Ending j held reception.BadSum (NAK ∷ []) [] o
EndsBy x j held xs (Err refusal.Form) o = ⊥
EndsBy x j held xs (Err refusal.Range) o = ⊥
EndsBy x j held xs (Ok r) o = FrameEnds x j held r.kind r.command (parameters_of xs r.count) o

-- of a call on the link l that takes the last of the bytes xs and gives o
abbrev pub AsRead : Rules → Link → List ℕ → Result Parts Refusal → Out → Type 0
AsRead R l xs r o = EndsBy (cancels_now R l.core.job) l.core.job (take l.core.size l.frame) xs r o

-- a run that gives this took n bytes, and its last ended the frame as read
pub record RunAsRead (R : Rules) (l : Link) (xs : List ℕ) (n : ℕ) (t : Taken) : Type 0 where
  pub taken : t.taken ≡ n
  pub out : AsRead R l xs (read xs) t.out

-- The frame that `build` gives, byte by byte: what the byte of the Checksum does, on the link l that the first byte came to.
pub record Receives (l : Link) (kind command : ℕ) (ps : List ℕ) (o : Out) : Type 0 where
  pub hunting : o.link.core.hearing ≡ Hunting
  -- "A frame handed up is reported as the frame end, or as stray response in its place."
  pub reception : o.reception ≡ frame_report kind command l.core.job
  -- "Checksum right, Type 00 or 01: put out 06 and hand up the body."
  pub up : o.up ≡ kind ∷ command ∷ ps
  pub behind : List ℕ
  pub copy : AtMostCopy l behind
  pub line : o.line ≡ ACK ∷ behind
