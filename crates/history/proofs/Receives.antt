-- Reception of frames: the frame that `build` gives is handed up.
-- Assumes nothing.
use Prim.Native.Nat.{ℕ, ◌≤◌}
use mathlib.Core.Path.{◌≡◌, ap, ◌∙◌, subst}
use mathlib.Core.Bool.{Bool, true, false}
use mathlib.Core.List.{List, [], ◌∷◌}
use lib.ListN.{length, take}
use Rattle.frame.specs.Frame.{START, RES, CAN, MAX_PARAMETERS, MAX_BODY, counted, checksum, frame_of}
use Rattle.std.specs.Prelude.{Result, Ok}
use Rattle.reading.specs.Reader.{frame_parts, parameters_of}
use Rattle.reading.specs.declared.reader.Parts.{Parts}
use Rattle.refusals.specs.declared.Refusal.{Refusal}
use Rattle.reading.proofs.Theorems.{built_reads}
use Rattle.rules.specs.Rules.{Rules}
use Rattle.link.specs.Out.{byte_out}
use Rattle.hearing.specs.declared.hearing.Hearing.TheVariants.{Hunting}
use Rattle.job.specs.declared.job.Job.{Job}
use Rattle.job.specs.declared.job.Job.TheVariants.{Idle, Due, Waiting, BackingOff, Awaiting}
use Rattle.report.specs.declared.Reception.TheVariants as reception
use Rattle.link.specs.declared.link.Link.{Link}
use Rattle.history.specs.Received.{feed}
use Rattle.history.specs.Section11.{cancels_now, AtMostCopy, no_copy, one_copy}
use Rattle.history.specs.Whole.{due_copy, Ending, FrameEnds, AsRead, Receives}
use Rattle.history.proofs.AsRead.{frame_is_whole, fed_as_read}

due_at_most : (l : Link) (j : Job) → AtMostCopy l (due_copy j (take l.core.size l.frame))
due_at_most l Idle = no_copy
due_at_most l (Due a n) = one_copy
due_at_most l (Waiting a n e) = no_copy
due_at_most l (BackingOff a n b) = no_copy
due_at_most l (Awaiting c n e) = no_copy

-- The frame that `build` gives, byte by byte to a link that hunts: what its last byte does, as the frame reader reads the frame.
built_as_read : (R : Rules) (l : Link) (kind command : ℕ) (ps : List ℕ) → l.core.hearing ≡ Hunting → length l.body ≡ MAX_BODY → kind ≤ RES → length ps ≤ MAX_PARAMETERS
    → AsRead R l (frame_of kind command ps) (Ok (frame_parts kind command (length ps))) (byte_out R (feed R l (START ∷ counted kind command ps)) (checksum (counted kind command ps)))
unfolding frame_of
built_as_read R l kind command ps q r k n =
    let b = checksum (counted kind command ps) in
    let o = byte_out R (feed R l (START ∷ counted kind command ps)) b in
    subst (λ (z : Result Parts Refusal). AsRead R l (frame_of kind command ps) z o) (built_reads kind command ps k).0 (fed_as_read R l (START ∷ counted kind command ps) b q r (frame_is_whole kind command ps n))

-- Its last byte hands up its body, unless it is a stand-in's that waits for an ACK.
pub receives : (R : Rules) (l : Link) (kind command : ℕ) (ps : List ℕ) → cancels_now R l.core.job ≡ false → l.core.hearing ≡ Hunting → length l.body ≡ MAX_BODY
    → kind ≤ RES → length ps ≤ MAX_PARAMETERS
    → Receives l kind command ps (byte_out R (feed R l (START ∷ counted kind command ps)) (checksum (counted kind command ps)))
receives R l kind command ps x q r k n =
    let held = take l.core.size l.frame in
    let o = byte_out R (feed R l (START ∷ counted kind command ps)) (checksum (counted kind command ps)) in
    let a = subst (λ (y : Bool). FrameEnds y l.core.job held kind command (parameters_of (frame_of kind command ps) (length ps)) o) x (built_as_read R l kind command ps q r k n) in
    record {
      hunting = a.hunting;
      reception = a.reception;
      up = a.up ∙ ap (λ (z : List ℕ). kind ∷ command ∷ z) (built_reads kind command ps k).1;
      behind = due_copy l.core.job held;
      copy = due_at_most l l.core.job;
      line = a.line;
    }

-- and then it is cancelled: 18 and nothing else goes out, and nothing is handed up
pub receives_cancelled : (R : Rules) (l : Link) (kind command : ℕ) (ps : List ℕ) → cancels_now R l.core.job ≡ true → l.core.hearing ≡ Hunting
    → length l.body ≡ MAX_BODY → kind ≤ RES → length ps ≤ MAX_PARAMETERS
    → Ending l.core.job (take l.core.size l.frame) reception.Cancelled (CAN ∷ []) []
    (byte_out R (feed R l (START ∷ counted kind command ps)) (checksum (counted kind command ps)))
receives_cancelled R l kind command ps x q r k n =
    let o = byte_out R (feed R l (START ∷ counted kind command ps)) (checksum (counted kind command ps)) in
    subst (λ (y : Bool). FrameEnds y l.core.job (take l.core.size l.frame) kind command (parameters_of (frame_of kind command ps) (length ps)) o) x
    (built_as_read R l kind command ps q r k n)
