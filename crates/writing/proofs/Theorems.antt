-- The promises of writing fix the answer and every lent byte (document 01, section 12).
--     put_determined    any bytes over the front of a lent buffer
--     reply_determined  put_reply
--     line_determined   put_line
--     up_determined     put_up
-- Assumes nothing.
use Rattle.std.specs.Prelude.{Option}
use mathlib.Core.Path.{◌≡◌}
use mathlib.Core.Bool.{Bool}
use mathlib.Core.List.{List}
use Prim.Native.Nat.{ℕ}
use Rattle.refusals.proofs.Theorems.{fixed}
use Rattle.hearing.specs.declared.hearing.Single.{Single}
use Rattle.writing.specs.Promises.{Put, PutReply, PutLine, PutUp}

pub put_determined : {bytes lent : List ℕ} {r q : ℕ} {a b : List ℕ} → Put bytes lent r a → Put bytes lent q b → (r ≡ q) × (a ≡ b)
put_determined x y = (fixed x.count y.count, fixed x.left y.left)

pub reply_determined : {reply : Option Single} {line : List ℕ} {r q : ℕ} {a b : List ℕ} → PutReply reply line r a → PutReply reply line q b → (r ≡ q) × (a ≡ b)
reply_determined x y = put_determined x.put y.put

pub line_determined : {reply : Option Single} {copy : Bool} {size : ℕ} {frame line : List ℕ} {r q : ℕ} {a b : List ℕ}
    → PutLine reply copy size frame line r a → PutLine reply copy size frame line q b → (r ≡ q) × (a ≡ b)
line_determined x y = put_determined x.put y.put

pub up_determined : {n : ℕ} {body up : List ℕ} {r q : ℕ} {a b : List ℕ} → PutUp n body up r a → PutUp n body up q b → (r ≡ q) × (a ≡ b)
up_determined x y = put_determined x.put y.put
