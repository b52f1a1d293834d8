-- Hearing's promises fix their answers, and the body that they leave (document 01, section 12).
--     hear_byte_determined, hear_tick_determined                    the next hearing and the event
--     hunted_determined, measured_determined, followed_determined   the same, by where the hearing stands
--     hunting_determined                                            whether it hunts
--     keep_determined                                               the body of 254 bytes after a byte
--     keep_length                                                   a byte kept leaves the body as long as it was
--     single_of_determined, byte_of_determined, single_back         which single byte a byte is, and its byte; each is read back from its byte
-- Assumes nothing.
use mathlib.Core.Path.{◌≡◌, refl}
use mathlib.Core.Bool.{Bool}
use mathlib.Core.List.{List}
use Prim.Native.Nat.{ℕ}
use lib.ListN.{length, length-set}
use Rattle.refusals.proofs.Theorems.{fixed}
use Rattle.hearing.specs.declared.hearing.Event.{Event}
use Rattle.hearing.specs.declared.hearing.Event.TheVariants.{Inside, Kept, Skipped, Alone, Ended, TickHunting, TickInside, Aborted}
use Rattle.hearing.specs.declared.hearing.Heard.{Heard}
use Rattle.hearing.specs.declared.hearing.Hearing.{Hearing}
use Rattle.hearing.specs.declared.hearing.Partial.{Partial}
use Rattle.hearing.specs.declared.hearing.Single.{Single}
use Rattle.hearing.specs.declared.hearing.Single.TheVariants.{Ack, Nak, Can}
use Rattle.std.specs.Prelude.{Option, Some}
use Rattle.hearing.specs.Hearing.{byte_of, single_of, hunted, measured, followed, hear_byte, hear_tick, is_hunting, keep}

pub hear_byte_determined : (h : Hearing) (b : ℕ) {r q : Heard} → r ≡ hear_byte b h → q ≡ hear_byte b h → r ≡ q
hear_byte_determined h b x y = fixed x y

pub hear_tick_determined : (h : Hearing) {r q : Heard} → r ≡ hear_tick h → q ≡ hear_tick h → r ≡ q
hear_tick_determined h x y = fixed x y

pub hunted_determined : (b : ℕ) {r q : Heard} → r ≡ hunted b → q ≡ hunted b → r ≡ q
hunted_determined b x y = fixed x y

pub measured_determined : (clock b : ℕ) {r q : Heard} → r ≡ measured clock b → q ≡ measured clock b → r ≡ q
measured_determined clock b x y = fixed x y

pub followed_determined : (p : Partial) (b : ℕ) {r q : Heard} → r ≡ followed p b → q ≡ followed p b → r ≡ q
followed_determined p b x y = fixed x y

pub hunting_determined : (h : Hearing) {r q : Bool} → r ≡ is_hunting h → q ≡ is_hunting h → r ≡ q
hunting_determined h x y = fixed x y

pub keep_determined : (e : Event) (b : ℕ) (body : List ℕ) {r q : List ℕ}
    → r ≡ keep e b body → q ≡ keep e b body → r ≡ q
keep_determined e b body x y = fixed x y

-- Keeping a byte leaves the body as long as it was.
pub keep_length : (e : Event) (b : ℕ) (body : List ℕ) → length (keep e b body) ≡ length body
keep_length Inside b body = refl
keep_length (Kept at) b body = length-set body at b
keep_length Skipped b body = refl
keep_length (Alone s) b body = refl
keep_length (Ended e) b body = refl
keep_length TickHunting b body = refl
keep_length TickInside b body = refl
keep_length Aborted b body = refl

pub single_of_determined : (b : ℕ) {r q : Option Single} → r ≡ single_of b → q ≡ single_of b → r ≡ q
single_of_determined b x y = fixed x y

pub byte_of_determined : (s : Single) {r q : ℕ} → r ≡ byte_of s → q ≡ byte_of s → r ≡ q
byte_of_determined s x y = fixed x y

-- A single byte that is put out is heard as the same.
pub single_back : (s : Single) → single_of (byte_of s) ≡ Some s
single_back Ack = refl
single_back Nak = refl
single_back Can = refl
