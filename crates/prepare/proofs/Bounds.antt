-- No average of a picture's bytes is above 255 x s: along a run, at its end, and as it is kept for a row's columns. Assumes nothing.
use Prim.Native.Nat.{ℕ, zero, suc, ◌+◌, ◌*◌, ◌≤◌}
use mathlib.Core.Path.{◌≡◌, sym, ap, ◌∙◌}
use mathlib.Core.List.{List, [], ◌∷◌, reverse, reverse_aux, zip_with}
use native.Mathlib.Omega.{arith}
use lib.ListN.{length, get_or, take, drop}
use lib.Seq.{get_or-take, get_or-drop}
use Rattle.prepare.specs.Threshold.{step, after, along, from_right, sums, shade, shaded}
use Rattle.prepare.specs.Run.{Kept, Columns}
use Rattle.prepare.proofs.Reciprocal.{step_low}

-- no element is above m
abbrev pub Low : ℕ → List ℕ → Type 0
Low m l = (i : ℕ) → get_or l i 0 ≤ m

pub low_take : (m n : ℕ) (l : List ℕ) → Low m l → Low m (take n l)
low_take m zero l p i = omega arith
low_take m (suc n) [] p i = omega arith
low_take m (suc n) (x ∷ l) p zero = p 0
low_take m (suc n) (x ∷ l) p (suc i) = low_take m n l (λ j. p (suc j)) i

pub low_drop : (m n : ℕ) (l : List ℕ) → Low m l → Low m (drop n l)
low_drop m n l p i = rw (get_or-drop n l i 0) (p (n + i))

low_onto : (m : ℕ) (l r : List ℕ) → Low m l → Low m r → Low m (reverse_aux l r)
low_onto m [] r p q = q
low_onto m (x ∷ l) r p q = low_onto m l (x ∷ r) (λ i. p (suc i)) onto
  where
    onto : Low m (x ∷ r)
    onto zero = p 0
    onto (suc i) = q i

pub low_reverse : (m : ℕ) (l : List ℕ) → Low m l → Low m (reverse l)
low_reverse m l p = low_onto m l [] p (λ i. omega arith)

pub along_low : (s average : ℕ) (row : List ℕ) → 1 ≤ s → average ≤ 255 * s → Low 255 row → Low (255 * s) (along s average row)
unfolding along
along_low s average [] some low bytes i = omega arith
along_low s average (p ∷ row) some low bytes zero = step_low s average p some low (bytes 0)
along_low s average (p ∷ row) some low bytes (suc i) = along_low s (step s average p) row some (step_low s average p some low (bytes 0)) (λ j. bytes (suc j)) i

pub after_low : (s average : ℕ) (row : List ℕ) → 1 ≤ s → average ≤ 255 * s → Low 255 row → after s average row ≤ 255 * s
after_low s average [] some low bytes = low
after_low s average (p ∷ row) some low bytes = after_low s (step s average p) row some (step_low s average p some low (bytes 0)) (λ j. bytes (suc j))

pub right_low : (s average : ℕ) (row : List ℕ) → 1 ≤ s → average ≤ 255 * s → Low 255 row → Low (255 * s) (from_right s average row)
unfolding from_right
right_low s average row some low bytes = low_reverse (255 * s) (along s average (reverse row)) (along_low s average (reverse row) some low (low_reverse 255 row bytes))

-- what is kept of a run can be summed, and shades the row
module _ (s left right : ℕ) (row lefts rights : List ℕ) (kept : Kept s left right row lefts rights) where
  pub kept_columns : 1 ≤ s → s ≤ 100 → left ≤ 255 * s → right ≤ 255 * s → Low 255 row → length row ≤ length lefts → length row ≤ length rights → Columns row lefts rights
  kept_columns some few left-low' right-low' bytes j k = record {
    left_room = j;
    right_room = k;
    low = λ x h.
        let a = along_low s left row some left-low' bytes x in
        let b = right_low s right row some right-low' bytes x in
        let p = sym (get_or-take (length row) lefts x 0 h) ∙ ap (λ (l : List ℕ). get_or l x 0) kept.from_left in
        let q = sym (get_or-take (length row) rights x 0 h) ∙ ap (λ (l : List ℕ). get_or l x 0) kept.from_the_right in
        omega arith;
  }

  pub kept_shades : zip_with (shade s) row (zip_with ◌+◌ (take (length row) lefts) (take (length row) rights)) ≡ shaded s left right row
  unfolding shaded sums
  kept_shades = rw (kept.from_left, kept.from_the_right)
