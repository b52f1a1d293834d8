-- What the definitions of demand 3 count, on short histories that compute: each counts what it is named for.
-- Assumes nothing.
use Rattle.std.specs.Prelude.{None, Some}
use Prim.Native.Nat.{ℕ}
use mathlib.Core.Path.{◌≡◌, refl, ap}
use mathlib.Core.Bool.{true, false, false≢true}
use mathlib.Core.List.{[], ◌∷◌, ◌++◌, map}
use lib.ListN.{replicate}
use lib.Dec.{eqb}
use Rattle.refusals.specs.Pick.{pick}
use Rattle.frame.specs.Bytes.{fold}
use native.Mathlib.Omega.{arith}
use Rattle.frame.specs.Frame.{REQ, ACK, NAK, CAN, frame_of}
use Rattle.rules.specs.Rules.{is_module, usual, base}
use Rattle.rules.specs.declared.Role.{Role}
use Rattle.rules.specs.declared.Role.TheVariants.{Host, Module}
use Rattle.link.specs.Link.{fresh_link, no_body, no_frame}
use Rattle.report.specs.declared.Sending.TheVariants as sending
use Rattle.report.specs.declared.Session.TheVariants as sessions
use Rattle.link.specs.Out.{byte_out, tick_out, open_out, restart_out, run_from}
use Rattle.history.specs.Perform.{byte, tick, send, restart, lent, out_of}
use Rattle.history.specs.Counts.{sent07, asked07, every_call}
use Rattle.history.specs.History.{after, ticks_in, restarts_in}
use Rattle.history.specs.Cut.{frames, singles, IsAnswer, ack, nak, can}
use Rattle.history.specs.Watch.{Verdict, acknowledged, failed, response, no_response, unsent, is_own, none, says, both, verdict_in, verdict_count, settled, watched, verdicts_from, abandons_from, lines_from}

-- one verdict of a send that is acknowledged
pub one_verdict : verdicts_from base None sent07 (lent (byte 0x06) ∷ []) ≡ 1
unfolding byte_out open_out frame_of fold no_body no_frame
one_verdict = refl

-- the bytes of a watch are those of the accepting call, and those of the call of the verdict
pub verdict_bytes : watched base (Some 0x07) asked07 (map (λ (b : ℕ). lent (byte b)) (0x06 ∷ 0x01 ∷ 0x03 ∷ 0x01 ∷ 0x07 ∷ 0xFA ∷ []))
    ≡ settled (response 1) 0 (0x01 ∷ 0x03 ∷ 0x00 ∷ 0x07 ∷ 0xFB ∷ 0x06 ∷ [])
unfolding byte_out open_out frame_of fold no_body no_frame
verdict_bytes = refl

-- the bytes until another is accepted are those of every call: here of the tick that aborts a frame and puts the due copy out, and of two restarts
pub every_line : lines_from base (out_of base (after base (lent (byte 0x01) ∷ [])) (send REQ 0x07 [])) (replicate 1501 (lent tick) ++ (lent restart ∷ lent restart ∷ []))
    ≡ 0x01 ∷ 0x03 ∷ 0x00 ∷ 0x07 ∷ 0xFB ∷ 0x15 ∷ 0x15 ∷ []
unfolding byte_out tick_out open_out restart_out frame_of fold no_body no_frame
every_line = refl

-- one accepted tick and one accepted restart
pub accepted_counted : (ticks_in base (fresh_link usual) every_call ≡ 1) × (restarts_in base (fresh_link usual) every_call ≡ 1)
unfolding byte_out tick_out open_out restart_out run_from frame_of fold no_body no_frame
accepted_counted = (refl, refl)

-- A verdict is found in either part, whichever the send was; two are two. A session's ACK with waiting is none, its failure with not sent07 is one.
pub both_parts : (c n m : ℕ) → (verdict_in None sending.Nothing (sessions.Response n) ≡ says (response n))
    × (verdict_in None (sending.Acknowledged n) (sessions.Response m) ≡ both (acknowledged n) (response m))
    × (verdict_in (Some c) (sending.Failed n) sessions.Nothing ≡ says (failed n))
    × (verdict_in (Some c) (sending.Acknowledged n) sessions.Abandoned ≡ says (acknowledged n))
    × (verdict_in (Some c) (sending.Failed n) (sessions.Response m) ≡ both (response m) (failed n))
both_parts c n m = (refl, refl, refl, refl, refl)

pub ack_or_failure : (c n m : ℕ) → (verdict_in (Some c) (sending.Acknowledged n) sessions.Waiting ≡ none)
    × (verdict_in (Some c) (sending.Failed n) sessions.Waiting ≡ says (failed n))
    × (verdict_in (Some c) (sending.Failed n) (sessions.NotSent m) ≡ says (unsent m))
    × (verdict_in (Some c) (sending.Acknowledged n) (sessions.NotSent m) ≡ both (unsent m) (acknowledged n))
ack_or_failure c n m = (refl, refl, refl, refl)

pub two_are_two : (v w : Verdict) → verdict_count (both v w) ≡ 2
two_are_two v w = refl

-- abandoned said once of a send that is restarted, and twice restarted
pub one_abandoned : abandons_from base sent07 (lent restart ∷ lent restart ∷ []) ≡ 1
unfolding open_out restart_out frame_of fold no_body no_frame
one_abandoned = refl

-- the cutting finds single bytes and frames in their order
pub cut_finds : (frames (0x06 ∷ 0x01 ∷ 0x03 ∷ 0x00 ∷ 0x07 ∷ 0xFB ∷ 0x15 ∷ []) ≡ (0x01 ∷ 0x03 ∷ 0x00 ∷ 0x07 ∷ 0xFB ∷ []) ∷ [])
    × (singles (0x06 ∷ 0x01 ∷ 0x03 ∷ 0x00 ∷ 0x07 ∷ 0xFB ∷ 0x15 ∷ []) ≡ 0x06 ∷ 0x15 ∷ [])
cut_finds = (refl, refl)

-- an answer of the host is 06 or 15
pub answer_either : (b : ℕ) → IsAnswer Host b → pick (eqb b ACK) true (eqb b NAK) ≡ true
answer_either b ack = refl
answer_either b nak = refl
answer_either b (can e) = absurd (no-module e)
  where
    no-module : Host ≡ Module → ⊥
    no-module q = let z : ◌≡◌ {A = ℕ} 0 1 = ap (λ (r : Role). pick (is_module r) 1 0) q in omega arith

-- and of a stand-in 06, 15 or 18
pub answer_of_three : (b : ℕ) → IsAnswer Module b → pick (eqb b ACK) true (pick (eqb b NAK) true (eqb b CAN)) ≡ true
answer_of_three b ack = refl
answer_of_three b nak = refl
answer_of_three b (can e) = refl

-- each verdict is a send's or a session's, and not both
pub own_apart : (c : ℕ) (v : Verdict) → is_own None v ≡ true → is_own (Some c) v ≡ false
own_apart c (acknowledged n) e = refl
own_apart c (failed n) e = refl
own_apart c (response n) e = absurd (false≢true e)
own_apart c (no_response n) e = absurd (false≢true e)
own_apart c (unsent n) e = absurd (false≢true e)
