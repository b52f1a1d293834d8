-- One call more, at what is left of the bytes or of the ticks.
--     bytes_on, bytes_end   every byte in a call of its own
--     ticks_..              ticks
--     ended                 what is reached is what is answered
--     asked_.., heard_on    how a link is made ready
-- Assumes nothing.
use Rattle.std.proofs.Common.{◌≡◌, Some, ℕ, ◌+◌, ◌-◌, ◌<◌, ◌≤◌, Bool, true, false, List, length, get_or, drop, sym, refl, ap, ◌∙◌, add-one, arith, drop_of_length-le, drop-cons}
use Rattle.rules.specs.Rules.{rules_of}
use Rattle.link.specs.Out.{Out, byte_out, tick_out, open_out}
use Rattle.step.specs.Checks.{Checked, checks, passes, session_own}
use Rattle.link.specs.Calls.{Answered, CallPromise}
use Rattle.link.specs.declared.link.Link.{Link}
use Rattle.frame.specs.Frame.{frame_of}
use Rattle.exports.specs.Numbers.{mix, answer_number}
use Rattle.exports.specs.Feeding.{Fed, at, after_call, byte_fed, tick_fed, bytes_fed, ticks_fed, asked, unsummed, heard_fed, FedTo}

pub same_checks : (own : Checked) (line up line₀ up₀ : List ℕ) → length line ≡ length line₀ → length up ≡ length up₀
    → checks line up own ≡ checks line₀ up₀ own
same_checks own line up line₀ up₀ p q = simp (p, q)

fed : (own k : Checked) (o : Out) (l : Link) (line up line' up' : List ℕ) (r : Answered) (s n m : ℕ)
    → checks line up own ≡ k → CallPromise own o l line up r line' up' → n ≡ mix s m → m ≡ answer_number r.answer
    → after_call k o (at l line up s) ≡ at r.link line' up' n
fed own k o l line up line' up' r s n m e p q a = simp (← e, q, a, p.answer, p.line_left, p.up_left)

-- k is of the buffers as they were lent; here they are line and up
module _ (line₀ up₀ : List ℕ) (l : Link) (line up : List ℕ) (s : ℕ) where
  abbrev k : Checked
  k = checks line₀ up₀ passes

  abbrev f : Fed
  f = at l line up s

  module _ (i : ℕ) (bytes : List ℕ) where
    pub bytes_end : length bytes ≤ i → bytes_fed k f (drop i bytes) ≡ f
    unfolding bytes_fed
    bytes_end h = simp (drop_of_length-le bytes h)

    bytes_more : i < length bytes → bytes_fed k f (drop i bytes) ≡ bytes_fed k (byte_fed k f (get_or bytes i 0)) (drop (i + 1) bytes)
    unfolding bytes_fed
    bytes_more h = rw (drop-cons bytes i 0 h) (simp add-one)

    pub bytes_on : (line' up' : List ℕ) (r : Answered) (n m : ℕ) → i < length bytes
        → length line ≡ length line₀ → length up ≡ length up₀
        → CallPromise passes (byte_out (rules_of l.core.choice) l (get_or bytes i 0)) l line up r line' up' → n ≡ mix s m → m ≡ answer_number r.answer
        → bytes_fed k f (drop i bytes) ≡ bytes_fed k (at r.link line' up' n) (drop (i + 1) bytes)
    bytes_on line' up' r n m h p q x e a =
        bytes_more h
        ∙ ap (λ (g : Fed). bytes_fed k g (drop (i + 1) bytes)) (fed passes k (byte_out (rules_of l.core.choice) l (get_or bytes i 0)) l line up line' up' r s n m (same_checks passes line up line₀ up₀ p q) x e a)

  module _ (i n : ℕ) where
    pub ticks_start : i ≡ 0 → ticks_fed k f n ≡ ticks_fed k f (n - i)
    ticks_start h = let e : n ≡ n - i = omega (arith, h) in ap (ticks_fed k f) e

    pub ticks_end : n ≤ i → ticks_fed k f (n - i) ≡ f
    unfolding ticks_fed
    ticks_end h = let e : n - i ≡ 0 = omega (arith, h) in rw e refl

    ticks_more : i < n → ticks_fed k f (n - i) ≡ ticks_fed k (tick_fed k f) (n - (i + 1))
    unfolding ticks_fed
    ticks_more h = let e : n - i ≡ n - (i + 1) + 1 = omega (arith, h) in rw (e ∙ add-one (n - (i + 1))) refl

    pub ticks_on : (line' up' : List ℕ) (r : Answered) (t m : ℕ) → i < n
        → length line ≡ length line₀ → length up ≡ length up₀
        → CallPromise passes (tick_out (rules_of l.core.choice) l) l line up r line' up' → t ≡ mix s m → m ≡ answer_number r.answer
        → ticks_fed k f (n - i) ≡ ticks_fed k (at r.link line' up' t) (n - (i + 1))
    ticks_on line' up' r t m h p q x e a =
        ticks_more h
        ∙ ap (λ (g : Fed). ticks_fed k g (n - (i + 1))) (fed passes k (tick_out (rules_of l.core.choice) l) l line up line' up' r s t m (same_checks passes line up line₀ up₀ p q) x e a)

-- what is reached is what is answered
pub ended : (f : Fed) (l : Link) (line up : List ℕ) (s : ℕ) → f ≡ at l line up s → FedTo f s line up
ended f l line up s e =
    record {
      answer = sym (ap (λ (g : Fed). g.sum) e);
      line_left = sym (ap (λ (g : Fed). g.line) e);
      up_left = sym (ap (λ (g : Fed). g.up) e);
    }

-- ---- how a link is made ready
module _ (ps line up : List ℕ) (l fresh : Link) (same : l ≡ fresh) where
  pub asked_on : (asks : Bool) (line' up' : List ℕ) (r : Answered) → asks ≡ true
      → CallPromise (session_own l.core.job (length ps)) (open_out l (Some 7) (frame_of 0 7 ps)) l line up r line' up'
      → asked asks ps (at fresh line up 0) ≡ at r.link line' up' 0
  asked_on asks line' up' r e x = simp (e, x.answer, x.line_left, x.up_left, same)

  pub asked_not : (asks : Bool) → asks ≡ false → asked asks ps (at fresh line up 0) ≡ at l line up 0
  asked_not asks e = simp (e, same)

pub heard_on : (bs : List ℕ) (f : Fed) (l l' : Link) (line up line' up' : List ℕ) (s : ℕ) → f ≡ at l line up 0
    → bytes_fed (checks line up passes) (at l line up 0) bs ≡ at l' line' up' s → heard_fed bs f ≡ at l' line' up' 0
heard_on bs f l l' line up line' up' s e x = ap (heard_fed bs) e ∙ ap unsummed x
