-- Bytes put behind what has been put: what `put_line` and `put_up` leave.
-- Assumes nothing.
use mathlib.Core.Path.{◌≡◌, ap, ◌∙◌}
use mathlib.Core.Bool.{Bool}
use mathlib.Core.List.{List, ◌++◌}
use Prim.Native.Nat.{ℕ, ◌+◌, ◌≤◌, min}
use native.Mathlib.Nat.{min-le_right}
use native.Mathlib.Omega.{arith}
use lib.ListN.{length, take, length-append, length-take}
use borrow.Author.Tests.{lt-ltb, le-ltb}
use Rattle.frame.specs.Bytes.{over}
use Rattle.frame.specs.Promises.{Lay}
use Rattle.std.proofs.lemmas.List.{take_min}
use Rattle.frame.proofs.Over.{over_length, put_bytes, laid_in}
use Rattle.hearing.specs.declared.hearing.Single.{Single}
use Rattle.std.specs.Prelude.{Option}
use Rattle.writing.specs.Writing.{line_bytes}
use Rattle.writing.specs.Promises.{Put, PutLine, PutUp}

-- the first bytes of src, laid right behind bs
pub put_behind : (bs src lent : List ℕ) (size n at : ℕ) {lent₁ lent₂ : List ℕ} {r : Bool}
    → at ≡ length bs → lent₁ ≡ over bs lent → n ≡ min size (length src) → length bs + length src ≤ length lent
    → Lay src n lent₁ at r lent₂ → Put (bs ++ take size src) lent (at + n) lent₂
put_behind bs src lent size n at {lent₁} {lent₂} a l e room laid =
    let in_src : n ≤ length src = omega (arith, e, min-le_right size (length src)) in
    let same : length lent₁ ≡ length lent = ap length l ∙ over_length bs lent (omega arith) in
    let whole : lent₂ ≡ over (bs ++ take n src) lent =
    laid_in in_src (omega (arith, same)) laid ∙ simp (a, l) (put_bytes bs src lent n in_src) in
    record {
      count = simp (length-append, length-take, a, e);
      left = whole ∙ ap (λ (s : List ℕ). over (bs ++ s) lent) (ap (λ (k : ℕ). take k src) e ∙ take_min size src);
    }

-- there is room in the buffers that a call takes
pub line_in : {reply : Option Single} {copy : Bool} {size r : ℕ} {frame line line' : List ℕ} → PutLine reply copy size frame line r line'
    → length frame ≡ 257 → 258 ≤ length line → Put (line_bytes reply copy size frame) line r line'
line_in {line = line} p e h = simp (e, lt-ltb 257 (length line) h) at p.put

pub up_in : {n r : ℕ} {body up up' : List ℕ} → PutUp n body up r up' → length body ≡ 254 → 254 ≤ length up → Put (take n body) up r up'
up_in {up = up} p e h = simp (e, le-ltb (length up) 254 h) at p.put
