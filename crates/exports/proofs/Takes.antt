-- Runs until all bytes are taken.
--     some_left, none_left   what the test of the loop says of the bytes left
--     taken_most   a run takes no more bytes than it is given
--     runs_..      one run more, at what is left of the bytes
-- Assumes nothing.
use Rattle.std.proofs.Common.{◌≡◌, Ok, Err, Bool, true, ◌==◌, ℕ, zero, suc, ◌+◌, ◌-◌, ◌<◌, ◌≤◌, min, false, eqb, List, [], ◌∷◌, length, drop, sym, refl, ap, ◌∙◌, arith, length-take, eq-eqb, ne_eqb}
use Rattle.std.proofs.lemmas.Bool.{eqb-true}
use Rattle.rules.specs.Rules.{Rules, rules_of}
use Rattle.link.specs.Out.{Out, Taken, byte_out, news, run_from, run_out, quiet}
use Rattle.step.specs.Checks.{Checked, checks, passes}
use Rattle.link.specs.Calls.{Ran, ran, RunPromise}
use Rattle.link.specs.declared.link.Link.{Link}
use Rattle.exports.specs.Numbers.{mix, run_number, run_taken}
use Rattle.exports.specs.Feeding.{Fed, at, part, ran_by, run_fed, runs_fed}
use Rattle.exports.proofs.Feeds.{same_checks}
use Rattle.refusals.proofs.Picks.{pick_ok}

abbrev pub fed : Link → List ℕ → List ℕ → ℕ → Fed
fed = at

from_most : (R : Rules) (o : Out) (n : ℕ) (bs : List ℕ) → (run_from R o n bs).taken ≤ n + length bs
unfolding run_from
from_most R o n [] = omega arith
from_most R o n (b ∷ bs) =
    let next = byte_out R o.link b in
    let rest = from_most R next (n + 1) bs in
    pick_ok (λ (t : Taken). t.taken ≤ n + suc (length bs)) (news next) (record { out = next; taken = n + 1 }) (run_from R next (n + 1) bs) (omega arith) (omega (arith, rest))

pub taken_most : (k : Checked) (l : Link) (bs : List ℕ) → run_taken (ran k (run_out (rules_of l.core.choice) l bs) l).answer ≤ length bs
taken_most (Ok _) l bs = let h = from_most (rules_of l.core.choice) (quiet l) 0 bs in omega (arith, h)
taken_most (Err x) l bs = omega arith

-- What the test of a run's loop says of the bytes left.

pub some_left : (empty : Bool) (rest : List ℕ) → empty ≡ (length rest == 0) → empty ≡ false → 0 < length rest
some_left empty [] e f = absurd (cc (e, f))
some_left empty (b ∷ rest) e f = omega arith

pub none_left : (empty : Bool) (rest : List ℕ) → empty ≡ (length rest == 0) → empty ≡ true → length rest ≡ 0
none_left empty rest e t = eqb-true (length rest) 0 (sym e ∙ t)

part_most : (most : ℕ) (bs : List ℕ) → length (part most bs) ≤ length bs
part_most most bs = rw (length-take (min (length bs) most) bs) (omega arith)

module _ (line₀ up₀ : List ℕ) (most : ℕ) where
  abbrev k : Checked
  k = checks line₀ up₀ passes

  -- a run on what is left
  module _ (l : Link) (line up : List ℕ) (s : ℕ) (rest : List ℕ) where
    abbrev f : Fed
    f = at l line up s

    pub runs_end : (fuel : ℕ) → length rest ≡ 0 → runs_fed fuel k most f rest ≡ f
    unfolding runs_fed
    runs_end zero h = refl
    runs_end (suc n) h = rw (eq-eqb (length rest) 0 h) refl

    module _ (bytes line' up' : List ℕ) (r : Ran) (number taken n m : ℕ) (is : bytes ≡ part most rest) (p : length line ≡ length line₀) (q : length up ≡ length up₀) (x : RunPromise (run_out (rules_of l.core.choice) l bytes) l line up r line' up') (a : number ≡ run_number r.answer) (t : taken ≡ run_taken r.answer) (e : n ≡ mix s number) (g : m ≡ mix n taken) where
      abbrev own : Checked
      own = checks line up passes

      same : own ≡ k
      same = same_checks passes line up line₀ up₀ p q

      ran_as : r ≡ ran_by k f (part most rest)
      ran_as = x.answer ∙ ap (λ (z : Checked). ran_by z f bytes) same ∙ ap (ran_by k f) is

      took : taken ≡ run_taken (ran_by k f (part most rest)).answer
      took = t ∙ ap (λ (z : Ran). run_taken z.answer) ran_as

      pub taken_left : taken ≤ length rest
      taken_left =
          let h = taken_most k l (part most rest) in
          let w = part_most most rest in
          omega (arith, took, h, w)

      fed_as : run_fed own f bytes ≡ at r.link line' up' m
      fed_as = simp (g, e, a, t, x.answer, x.line_left, x.up_left)

      run_as : run_fed k f (part most rest) ≡ at r.link line' up' m
      run_as =
          ap (run_fed k f) (sym is)
          ∙ ap (λ (z : Checked). run_fed z f bytes) (sym same)
          ∙ fed_as

      some : 0 < length rest → eqb (length rest) 0 ≡ false
      some h = ne_eqb (length rest) 0 (λ z. omega (arith, z, h))

      pub runs_stop : (fuel : ℕ) → 0 < length rest → 0 < fuel → taken ≡ 0 → runs_fed fuel k most f rest ≡ at r.link line' up' m
      unfolding runs_fed
      runs_stop zero h lt z = absurd (omega (arith, lt))
      runs_stop (suc fuel) h lt z = rw (some h) (rw (eq-eqb (run_taken (ran_by k f (part most rest)).answer) 0 (sym took ∙ z)) run_as)

      pub runs_on : (fuel : ℕ) → 0 < length rest → 0 < fuel → (taken ≡ 0 → ⊥)
          → runs_fed fuel k most f rest ≡ runs_fed (fuel - 1) k most (at r.link line' up' m) (drop taken rest)
      unfolding runs_fed
      runs_on zero h lt z = absurd (omega (arith, lt))
      runs_on (suc fuel) h lt z =
          let d : suc fuel - 1 ≡ fuel = omega arith in
          rw (some h)
          (rw (ne_eqb (run_taken (ran_by k f (part most rest)).answer) 0 (λ w. z (took ∙ w)))
          (ap (λ (y : Fed). runs_fed fuel k most y (drop (run_taken (ran_by k f (part most rest)).answer) rest)) run_as
          ∙ ap (λ (y : ℕ). runs_fed fuel k most (at r.link line' up' m) (drop y rest)) (sym took)
          ∙ ap (λ (y : ℕ). runs_fed y k most (at r.link line' up' m) (drop taken rest)) (sym d)))
