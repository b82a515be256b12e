-- A scan by stretches: it passes over columns that don't show f, puts one entry on where bytes f begin, and passes over the rest of them. Assumes nothing.
use Prim.Native.Nat.{ℕ, zero, suc, ◌+◌, ◌*◌, ◌-◌, ◌<◌, ◌≤◌}
use native.Mathlib.Omega.{arith}
use mathlib.Core.Path.{◌≡◌, refl, sym, ap, ◌∙◌}
use mathlib.Core.List.{List, ◌∷◌}
use mathlib.Core.Bool.{true, false}
use mathlib.Core.Logic.{⊎_elim}
use lib.ListN.{get_or, length}
use borrow.Author.Tests.{eq-eqb, ne_eqb}
use Rattle.pieces.proofs.Numbers.{same}
use Rattle.fill.specs.Order.{seeds}
use Rattle.fill.specs.Stretch.{past_others, past_run}
use Rattle.fill.proofs.Scan.{seeds_off_at, seeds_on_at, seeds_new_at, seeds_end, seeds_grow}

module _ (p : List ℕ) (base f : ℕ) where
  -- a look at one column
  pub others_none : (x n : ℕ) → n ≡ 0 → past_others p base f x n ≡ x
  unfolding past_others
  others_none x n e = ap (past_others p base f x) e

  pub others_here : (x n m : ℕ) → n ≡ suc m → get_or p (base + x) 0 ≡ f → past_others p base f x n ≡ x
  unfolding past_others
  others_here x n m e h = rw (e, past_others, eq-eqb (get_or p (base + x) 0) f h)

  pub others_on : (x z n m : ℕ) → z ≡ suc x → n ≡ suc m → (get_or p (base + x) 0 ≡ f → ⊥) → past_others p base f x n ≡ past_others p base f z m
  unfolding past_others
  others_on x z n m e e' h = rw (e, e', past_others, ne_eqb (get_or p (base + x) 0) f h)

  pub run_none : (x n : ℕ) → n ≡ 0 → past_run p base f x n ≡ x
  unfolding past_run
  run_none x n e = ap (past_run p base f x) e

  pub run_here : (x n m : ℕ) → n ≡ suc m → (get_or p (base + x) 0 ≡ f → ⊥) → past_run p base f x n ≡ x
  unfolding past_run
  run_here x n m e h = rw (e, past_run, ne_eqb (get_or p (base + x) 0) f h)

  pub run_on : (x z n m : ℕ) → z ≡ suc x → n ≡ suc m → get_or p (base + x) 0 ≡ f → past_run p base f x n ≡ past_run p base f z m
  unfolding past_run
  run_on x z n m e e' h = rw (e, e', past_run, eq-eqb (get_or p (base + x) 0) f h)

  -- the first column from x on that shows f, or the end e where none does
  pub others_is : (n x e r : ℕ) → e ≡ x + n → x ≤ r → r ≤ e → ((k : ℕ) → x ≤ k → k < r → get_or p (base + k) 0 ≡ f → ⊥) → (r < e → get_or p (base + r) 0 ≡ f) → r ≡ past_others p base f x n
  others_is zero x e r q low high before shown = let z : r ≡ x = omega arith in z ∙ sym (others_none x 0 refl)
  others_is (suc n) x e r q low high before shown =
      ⊎_elim
      (λ z. z ∙ sym (others_here x (suc n) n refl (ap (λ (k : ℕ). get_or p (base + k) 0) (sym z) ∙ shown (omega arith))))
      (λ z.
      others_is n (suc x) e r (omega arith) (omega arith) high (λ k a b. before k (omega arith) b) shown
      ∙ sym (others_on x (suc x) (suc n) n refl refl (before x (omega arith) (omega arith))))
      (same r x)

  -- the first that shows another byte
  pub run_is : (n x e r : ℕ) → e ≡ x + n → x ≤ r → r ≤ e → ((k : ℕ) → x ≤ k → k < r → get_or p (base + k) 0 ≡ f) → (r < e → get_or p (base + r) 0 ≡ f → ⊥) → r ≡ past_run p base f x n
  run_is zero x e r q low high before shown = let z : r ≡ x = omega arith in z ∙ sym (run_none x 0 refl)
  run_is (suc n) x e r q low high before shown =
      ⊎_elim
      (λ z. z ∙ sym (run_here x (suc n) n refl (λ h. shown (omega arith) (ap (λ (k : ℕ). get_or p (base + k) 0) z ∙ h))))
      (λ z.
      run_is n (suc x) e r (omega arith) (omega arith) high (λ k a b. before k (omega arith) b) shown
      ∙ sym (run_on x (suc x) (suc n) n refl refl (before x (omega arith) (omega arith))))
      (same r x)

  -- r is a column from x on that shows f, or the end e
  pub record Onset (x e r : ℕ) : Type 0 where
    pub low : x ≤ r
    pub high : r ≤ e
    pub shown : r < e → get_or p (base + r) 0 ≡ f

  -- `past_others` answers such a column
  pub onset : (n x e r : ℕ) → e ≡ x + n → r ≡ past_others p base f x n → Onset x e r
  onset zero x e r q g = let z : r ≡ x = g ∙ others_none x 0 refl in record { low = omega arith; high = omega arith; shown = λ l. absurd (omega arith) }
  onset (suc n) x e r q g =
      ⊎_elim
      (λ h.
      let z : r ≡ x = g ∙ others_here x (suc n) n refl h in
      record { low = omega arith; high = omega arith; shown = λ l. ap (λ (k : ℕ). get_or p (base + k) 0) z ∙ h })
      (λ h.
      let o = onset n (suc x) e r (omega arith) (g ∙ others_on x (suc x) (suc n) n refl refl h) in
      record { low = omega (arith, o.low); high = o.high; shown = o.shown })
      (same (get_or p (base + x) 0) f)

  -- `past_run` answers a column from x on, e at most
  pub run_within : (n x e r : ℕ) → e ≡ x + n → r ≡ past_run p base f x n → (x ≤ r) × (r ≤ e)
  run_within zero x e r q g = let z : r ≡ x = g ∙ run_none x 0 refl in (omega arith, omega arith)
  run_within (suc n) x e r q g =
      ⊎_elim
      (λ h. let b = run_within n (suc x) e r (omega arith) (g ∙ run_on x (suc x) (suc n) n refl refl h) in (omega (arith, b.0), b.1))
      (λ h. let z : r ≡ x = g ∙ run_here x (suc n) n refl h in (omega arith, omega arith))
      (same (get_or p (base + x) 0) f)

  module _ (w y : ℕ) (at : base ≡ y * w) {A : Type 0} (mk : ℕ → A) where
    -- other bytes put nothing on
    pub seeds_others : (n x e r : ℕ) (st : List A) → e ≡ x + n → r ≡ past_others p base f x n → seeds mk p w f y x n false st ≡ seeds mk p w f y r (e - r) false st
    seeds_others zero x e r st q g =
        let z : x ≡ r = sym (g ∙ others_none x 0 refl) in
        let d : 0 ≡ e - r = omega arith in
        λ i. seeds mk p w f y (z i) (d i) false st
    seeds_others (suc n) x e r st q g =
        ⊎_elim
        (λ h.
        let z : x ≡ r = sym (g ∙ others_here x (suc n) n refl h) in
        let d : suc n ≡ e - r = omega arith in
        λ i. seeds mk p w f y (z i) (d i) false st)
        (λ h. seeds_off_at p w f y mk base at x n false st h ∙ seeds_others n (suc x) e r st (omega arith) (g ∙ others_on x (suc x) (suc n) n refl refl h))
        (same (get_or p (base + x) 0) f)

    -- nor do bytes f that go on
    seeds_run : (n x e r : ℕ) (st : List A) → e ≡ x + n → r ≡ past_run p base f x n → seeds mk p w f y x n true st ≡ seeds mk p w f y r (e - r) false st
    seeds_run zero x e r st q g =
        let z : r ≡ x = g ∙ run_none x 0 refl in
        let d : e - r ≡ 0 = omega arith in
        seeds_end p w f y mk x true st ∙ sym (rw d (seeds_end p w f y mk r false st))
    seeds_run (suc n) x e r st q g =
        ⊎_elim
        (λ h. seeds_on_at p w f y mk base at x n st h ∙ seeds_run n (suc x) e r st (omega arith) (g ∙ run_on x (suc x) (suc n) n refl refl h))
        (λ h.
        let z : x ≡ r = sym (g ∙ run_here x (suc n) n refl h) in
        let d : suc n ≡ e - r = omega arith in
        seeds_off_at p w f y mk base at x n true st h ∙ sym (seeds_off_at p w f y mk base at x n false st h) ∙ (λ i. seeds mk p w f y (z i) (d i) false st))
        (same (get_or p (base + x) 0) f)

    -- bytes f that begin at x put one entry on, for which the list has to have room
    pub seeds_more : (x e : ℕ) (st : List A) → x < e → get_or p (base + x) 0 ≡ f → length st < length (seeds mk p w f y x (e - x) false st)
    seeds_more x e st l h =
        let new = seeds_new_at p w f y mk base at x (x + 1) (e - x) (e - (x + 1)) st (mk x ∷ st) refl (omega arith) (omega arith) h in
        omega (arith, ap length new, seeds_grow p w f y mk (x + 1) (e - (x + 1)) true (mk x ∷ st))

    -- and the scan goes on where they begin again
    pub seeds_turn : (x e past r : ℕ) (st st' : List A) → x < e → get_or p (base + x) 0 ≡ f → st' ≡ mk x ∷ st → past ≡ past_run p base f (x + 1) (e - (x + 1)) → r ≡ past_others p base f past (e - past)
        → seeds mk p w f y x (e - x) false st ≡ seeds mk p w f y r (e - r) false st'
    seeds_turn x e past r st st' l h q g g' =
        let within = run_within (e - (x + 1)) (x + 1) e past (omega arith) g in
        seeds_new_at p w f y mk base at x (x + 1) (e - x) (e - (x + 1)) st st' q (omega arith) (omega arith) h
        ∙ seeds_run (e - (x + 1)) (x + 1) e past st' (omega arith) g
        ∙ seeds_others (e - past) past e r st' (omega (arith, within)) g'
