-- The machine on one page: every row of both tables computes, and what a row shows of one number holds of all on its side of the edge.
-- Assumes nothing.
use Rattle.std.specs.Prelude.{Option, Some}
use Prim.Native.Nat.{ℕ, ◌+◌, ◌-◌, ◌≤◌, ◌<◌}
use mathlib.Core.Path.{◌≡◌, refl}
use mathlib.Core.Bool.{Bool, true, false}
use native.Mathlib.Omega.{arith}
use lib.Dec.{ltb}
use borrow.Author.Tests.{lt-ltb, le-ltb, eq-eqb, ne_eqb}
use Rattle.frame.specs.Frame.{START, RES, ACK, NAK, CAN, MIN_LENGTH}
use Rattle.rules.specs.Rules.{wire_time, rules_of}
use Rattle.rules.specs.declared.Choice.{Choice}
use Rattle.rules.specs.declared.Role.{Role}
use Rattle.rules.specs.declared.Role.TheVariants.{Host, Module}
use Rattle.rules.specs.declared.Mode.TheVariants.{Sooner, Spaced}
use Rattle.hearing.specs.Hearing.{heard, begun, more, ended, later, hear_byte, hear_tick}
use Rattle.hearing.specs.declared.hearing.Partial.{Partial}
use Rattle.hearing.specs.declared.hearing.Hearing.TheVariants.{Hunting, Head, Body}
use Rattle.hearing.specs.declared.hearing.End.TheVariants.{BadSum, Reserved, Request, Response}
use Rattle.hearing.specs.declared.hearing.Event.TheVariants.{Inside, Kept, Skipped, Ended, TickInside}
use Rattle.report.specs.declared.Reception.TheVariants as reception
use Rattle.reception.specs.Said.{saying, said_on}
use Rattle.reception.specs.declared.said.Awaited.{Awaited}
use Rattle.reception.specs.declared.said.Awaited.TheVariants as awaited
use Rattle.job.specs.Job.{next_copy, still}
use Rattle.job.specs.Ticks.{on_tick}
use Rattle.job.specs.declared.job.Job.TheVariants.{Waiting, BackingOff, Awaiting}
use Rattle.sending.specs.Events.{respond, on_event}
use Rattle.link.specs.Out.{restart_out}
use Rattle.scenes.specs.Machine.{AllRows, AllHear, idle_rows, due_rows, waiting_rows, sooner_rows, spaced_rows, backing_off_rows, awaiting_rows, hunting_rows, head_rows, body_rows, frame_rows, cancel_rows, end_rows, JobTable, HearingTable, Starts}
use Rattle.hearing.specs.declared.hearing.Single.TheVariants as single

-- ---- the rows
idle_rows_lem : (o : Choice) (size : ℕ) (a : Option ℕ) (at k f : ℕ) → AllRows o size (idle_rows a at k f)
idle_rows_lem o size a at k f = (refl, (refl, (refl, (refl, (refl, (refl, (refl, (refl, (refl, (refl, (refl, (refl, (refl, (refl, (refl, (refl, (refl, tt)))))))))))))))))

due_rows_lem : (o : Choice) (size : ℕ) (a b : Option ℕ) (c n at k f : ℕ) (hunting : Bool) → AllRows o size (due_rows a b c n at k f hunting)
due_rows_lem o size a b c n at k f hunting = (refl, (refl, (refl, (refl, (refl, (refl, (refl, (refl, (refl, (refl, (refl, (refl, (refl, (refl, (refl, (refl, (refl, (refl, (refl, (refl, (refl, tt)))))))))))))))))))))

-- the tick that makes the wait 1,600 and the time on the wire, and the one before it
lost_then : (size : ℕ) → ltb (1_599 + wire_time size + 1) (1_600 + wire_time size) ≡ false
lost_then size = le-ltb (1_599 + wire_time size + 1) (1_600 + wire_time size) (omega arith)

waits_then : (size : ℕ) → ltb (1_598 + wire_time size + 1) (1_600 + wire_time size) ≡ true
waits_then size = lt-ltb (1_598 + wire_time size + 1) (1_600 + wire_time size) (omega arith)

counted : (size : ℕ) → 1_598 + wire_time size + 1 ≡ 1_599 + wire_time size
counted size = omega arith

waiting_rows_lem : (o : Choice) (size : ℕ) (a b : Option ℕ) (c n e at k f : ℕ) (hunting : Bool) → AllRows o size (waiting_rows (wire_time size) a b c n e at k f hunting)
waiting_rows_lem o size a b c n e at k f hunting = (refl, (refl, (refl, (refl, (refl, (refl, (refl, (refl, (refl, (refl, (rw (lost_then size), (rw (lost_then size), (rw (lost_then size), (refl, (refl, (rw (lost_then size), (rw (lost_then size), (rw (lost_then size), (rw (waits_then size, counted size), (rw (waits_then size, counted size), (rw (waits_then size, counted size), (refl, (refl, (refl, (refl, (refl, (refl, (refl, (refl, (refl, (refl, (refl, tt))))))))))))))))))))))))))))))))

sooner_rows_lem : (role : Role) (size : ℕ) (a : Option ℕ) → AllRows (record { role = role; mode = Sooner }) size (sooner_rows (wire_time size) a)
sooner_rows_lem role size a = (rw (lost_then size), (rw (lost_then size), (rw (lost_then size), (rw (lost_then size), (rw (lost_then size), (rw (lost_then size), (rw (lost_then size), (rw (lost_then size), (rw (lost_then size), tt)))))))))

spaced_rows_lem : (role : Role) (size : ℕ) (a : Option ℕ) → AllRows (record { role = role; mode = Spaced }) size (spaced_rows (wire_time size) a)
spaced_rows_lem role size a = (rw (lost_then size), (rw (lost_then size), (rw (lost_then size), (rw (lost_then size), (rw (lost_then size), (rw (lost_then size), (rw (lost_then size), (rw (lost_then size), (rw (lost_then size), tt)))))))))

backing_off_rows_lem : (o : Choice) (size : ℕ) (a b : Option ℕ) (c n l at k f : ℕ) (hunting : Bool) → AllRows o size (backing_off_rows a b c n l at k f hunting)
backing_off_rows_lem o size a b c n l at k f hunting = (refl, (refl, (refl, (refl, (refl, (refl, (refl, (refl, (refl, (refl, (refl, (refl, (refl, (refl, (refl, (refl, (refl, (refl, (refl, (refl, (refl, (refl, (refl, tt)))))))))))))))))))))))

awaiting_rows_lem : (o : Choice) (size : ℕ) (b : Option ℕ) (c n e at k : ℕ) (hunting : Bool) → AllRows o size (awaiting_rows b c n e at k hunting)
awaiting_rows_lem o size b c n e at k hunting = (refl, (refl, (refl, (refl, (refl, (refl, (refl, (refl, (refl, (refl, (refl, (refl, (refl, (refl, (refl, (refl, (refl, (refl, (refl, (refl, tt))))))))))))))))))))

pub job_table : (o : Choice) (size : ℕ) (a b : Option ℕ) (c n e l at k f : ℕ) (hunting : Bool) → JobTable o size a b c n e l at k f hunting
job_table o size a b c n e l at k f hunting =
    (idle_rows_lem o size a at k f, (due_rows_lem o size a b c n at k f hunting, (waiting_rows_lem o size a b c n e at k f hunting, (sooner_rows_lem o.role size a, (spaced_rows_lem o.role size a, (backing_off_rows_lem o size a b c n l at k f hunting, awaiting_rows_lem o size b c n e at k hunting))))))

hunting_rows_lem : (role : Role) (w : Awaited) (bad : ℕ) → AllHear role (hunting_rows w bad)
unfolding restart_out
hunting_rows_lem role w bad = (refl, (refl, (refl, (refl, (refl, (refl, (refl, (refl, (refl, (refl, (refl, (refl, (refl, (refl, (refl, tt)))))))))))))))

head_rows_lem : (role : Role) (w : Awaited) (bad c : ℕ) → AllHear role (head_rows w bad c)
unfolding restart_out
head_rows_lem role w bad c = (refl, (refl, (refl, (refl, (refl, (refl, (refl, (refl, tt))))))))

body_rows_lem : (role : Role) (w : Awaited) (bad c s t m b : ℕ) → AllHear role (body_rows w bad c s t m b)
body_rows_lem role w bad c s t m b = (refl, (refl, (refl, tt)))

host_frame_rows : (w : Awaited) (bad c m : ℕ) → AllHear Host (frame_rows w bad c m)
host_frame_rows w bad c m = (refl, (refl, (refl, (refl, tt))))

-- the stand-in's, with nothing awaited and with a response
idle_frame_rows : (bad c m : ℕ) → AllHear Module (frame_rows awaited.Nothing bad c m)
idle_frame_rows bad c m = (refl, (refl, (refl, (refl, tt))))

asking_frame_rows : (v bad c m : ℕ) → AllHear Module (frame_rows (awaited.Response v) bad c m)
asking_frame_rows v bad c m = (refl, (refl, (refl, (refl, tt))))

cancel_rows_lem : (bad c m : ℕ) → AllHear Module (cancel_rows bad c m)
cancel_rows_lem bad c m = (refl, (refl, tt))

end_rows_lem : (role : Role) (w : Awaited) (bad c k at s t m : ℕ) → AllHear role (end_rows w bad c k at s t m)
unfolding restart_out
end_rows_lem role w bad c k at s t m = (refl, (refl, (refl, (refl, (refl, (refl, (refl, (refl, tt))))))))

pub hearing_table : (role : Role) (w : Awaited) (bad c k at s t m b v : ℕ) → HearingTable role w bad c k at s t m b v
hearing_table role w bad c k at s t m b v =
    (hunting_rows_lem role w bad, (head_rows_lem role w bad c, (body_rows_lem role w bad c s t m b, (host_frame_rows w bad c m, (idle_frame_rows bad c m, (asking_frame_rows v bad c m, (cancel_rows_lem bad c m, end_rows_lem role w bad c k at s t m)))))))

pub starts : (o : Choice) → Starts o
starts o = (refl, refl)

-- ---- between the rows of the job
-- "copy n + 1": no link from opening is due or backing off with more than 3 copies
pub copy_next : (n : ℕ) → n < 4 → next_copy n ≡ n + 1
copy_next n h = rw (lt-ltb n 4 h)

-- "a tick up to": it counts, and does nothing else; an abort is a tick while hunting
pub wait_counts : (o : Choice) (size : ℕ) (hunting : Bool) (a : Option ℕ) (n e : ℕ) → e + 1 < 1_600 + wire_time size → on_tick (rules_of o) size hunting (Waiting a n e) ≡ still (Waiting a n (e + 1))
wait_counts o size hunting a n e h = rw (lt-ltb (e + 1) (1_600 + wire_time size) h)

pub back_off_counts : (o : Choice) (size : ℕ) (hunting : Bool) (a : Option ℕ) (n l : ℕ) → 1 < l → on_tick (rules_of o) size hunting (BackingOff a n l) ≡ still (BackingOff a n (l - 1))
back_off_counts o size hunting a n l h = rw (lt-ltb 1 l h)

pub response_counts : (o : Choice) (size : ℕ) (hunting : Bool) (c n e : ℕ) → e + 1 < 5_000 → on_tick (rules_of o) size hunting (Awaiting c n e) ≡ still (Awaiting c n (e + 1))
response_counts o size hunting c n e h = rw (lt-ltb (e + 1) 5_000 h)

-- "the response with its Command", "another response": any two Commands
pub its_response : (o : Choice) (size c n e k : ℕ) → on_event (rules_of o) size (Ended (Response k c)) (Awaiting c n e) ≡ respond (Awaiting c n e)
its_response o size c n e k = rw (eq-eqb c c refl)

pub another_response : (o : Choice) (size c n e k f : ℕ) → (f ≡ c → ⊥) → on_event (rules_of o) size (Ended (Response k f)) (Awaiting c n e) ≡ still (Awaiting c n e)
another_response o size c n e k f h = rw (ne_eqb f c h)

-- ---- between the rows of hearing
pub head_counts : (c : ℕ) → c + 1 < 1_501 → hear_tick (Head c) ≡ heard (Head (c + 1)) TickInside
head_counts c h = rw (lt-ltb (c + 1) 1_501 h)

pub body_counts : (p : Partial) → p.clock + 1 < 1_501 → hear_tick (Body p) ≡ heard (Body (later p)) TickInside
body_counts p h = rw (lt-ltb (p.clock + 1) 1_501 h)

-- "any other byte"
pub other_skipped : (b : ℕ) → (b ≡ START → ⊥) → (b ≡ ACK → ⊥) → (b ≡ NAK → ⊥) → (b ≡ CAN → ⊥) → hear_byte b Hunting ≡ heard Hunting Skipped
other_skipped b h₁ h₂ h₃ h₄ = rw (ne_eqb b 0x01 h₁, ne_eqb b 0x06 h₂, ne_eqb b 0x15 h₃, ne_eqb b 0x18 h₄)

-- "Length 03 to FF"
pub length_begins : (c b : ℕ) → MIN_LENGTH ≤ b → hear_byte b (Head c) ≡ heard (Body (begun c b)) Inside
length_begins c b h = rw (le-ltb b 3 h)

-- "a body byte", "the right Checksum", "a wrong Checksum": any frame
pub body_byte : (p : Partial) (b : ℕ) → p.at < p.size → hear_byte b (Body p) ≡ heard (Body (more p b)) (Kept p.at)
body_byte p b h = rw (lt-ltb p.at p.size h)

pub right_sum : (p : Partial) → p.size ≤ p.at → hear_byte p.sum (Body p) ≡ heard Hunting (Ended (ended p))
right_sum p h = rw (le-ltb p.at p.size h, eq-eqb p.sum p.sum refl)

pub wrong_sum : (p : Partial) (b : ℕ) → p.size ≤ p.at → (b ≡ p.sum → ⊥) → hear_byte b (Body p) ≡ heard Hunting (Ended BadSum)
wrong_sum p b h k = rw (le-ltb p.at p.size h, ne_eqb b p.sum k)

-- "Type 02 to FF"
pub type_reserved : (p : Partial) → RES < p.kind → ended p ≡ Reserved
type_reserved p h = rw (ne_eqb p.kind 0 (λ z. omega arith), ne_eqb p.kind 1 (λ z. omega arith))

-- "awaited", "not awaited"
pub awaited_frame : (role : Role) (k c : ℕ) → said_on role (Ended (Response k c)) (awaited.Response c) ≡ saying reception.Frame (Some single.Ack) k
awaited_frame Host k c = rw (eq-eqb c c refl)
awaited_frame Module k c = rw (eq-eqb c c refl)

pub not_awaited_stray : (role : Role) (k f c : ℕ) → (f ≡ c → ⊥) → said_on role (Ended (Response k f)) (awaited.Response c) ≡ saying reception.StrayResponse (Some single.Ack) k
not_awaited_stray Host k f c h = rw (ne_eqb f c h)
not_awaited_stray Module k f c h = rw (ne_eqb f c h)

-- the host that awaits an ACK hands up as ever: a response is then stray
pub ack_awaited_stray : (k f : ℕ) → said_on Host (Ended (Response k f)) awaited.Ack ≡ saying reception.StrayResponse (Some single.Ack) k
ack_awaited_stray k f = refl

-- "of a stand-in that awaits its ACK": any size and any Command
pub request_cancelled : (k : ℕ) → said_on Module (Ended (Request k)) awaited.Ack ≡ saying reception.Cancelled (Some single.Can) 0
request_cancelled k = refl

pub response_cancelled : (k f : ℕ) → said_on Module (Ended (Response k f)) awaited.Ack ≡ saying reception.Cancelled (Some single.Can) 0
response_cancelled k f = refl
