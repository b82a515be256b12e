-- Values stored place by place are put one behind the other, and those of a thing after the other. Assumes nothing.
use Prim.Native.Nat.{ℕ, suc, ◌+◌, ◌-◌, ◌*◌, ◌≤◌, ◌<◌}
use native.Mathlib.Omega.{arith}
use native.Mathlib.Numerals.{add-one, unary_clauses}
use mathlib.Core.Path.{◌≡◌, refl, ◌∙◌}
use mathlib.Core.List.{List, [], ◌∷◌}
use lib.ListN.{length, set, length-set}
use Rattle.told_places.specs.Put.{put_at, put_each}

module _ {A : Type 0} where
  pub put_two : (s : List A) (at : ℕ) (a b : A) → set (set s at a) (at + 1) b ≡ put_at s at (a ∷ b ∷ [])
  unfolding put_at
  put_two s at a b = simp unary_clauses refl

  pub put_four : (s : List A) (at : ℕ) (a b c d : A) → set (set (set (set s at a) (at + 1) b) (at + 2) c) (at + 3) d ≡ put_at s at (a ∷ b ∷ c ∷ d ∷ [])
  unfolding put_at
  put_four s at a b c d = simp unary_clauses refl

  pub put_eight : (s : List A) (at : ℕ) (a b c d e f g h : A)
      → set (set (set (set (set (set (set (set s at a) (at + 1) b) (at + 2) c) (at + 3) d) (at + 4) e) (at + 5) f) (at + 6) g) (at + 7) h ≡ put_at s at (a ∷ b ∷ c ∷ d ∷ e ∷ f ∷ g ∷ h ∷ [])
  unfolding put_at
  put_eight s at a b c d e f g h = simp unary_clauses refl

  pub put_nine : (s : List A) (at : ℕ) (a b c d e f g h i : A)
      → set (set (set (set (set (set (set (set (set s at a) (at + 1) b) (at + 1 + 1) c) (at + 3) d) (at + 3 + 1) e) (at + 5) f) (at + 5 + 1) g) (at + 7) h) (at + 7 + 1) i
      ≡ put_at s at (a ∷ b ∷ c ∷ d ∷ e ∷ f ∷ g ∷ h ∷ i ∷ [])
  unfolding put_at
  put_nine s at a b c d e f g h i = simp unary_clauses refl

  pub put_ten : (s : List A) (at : ℕ) (a b c d e f g h i j : A)
      → set (set (set (set (set (set (set (set (set (set s at a) (at + 1) b) (at + 2) c) (at + 2 + 1) d) (at + 4) e) (at + 4 + 1) f) (at + 6) g) (at + 6 + 1) h) (at + 8) i) (at + 8 + 1) j
      ≡ put_at s at (a ∷ b ∷ c ∷ d ∷ e ∷ f ∷ g ∷ h ∷ i ∷ j ∷ [])
  unfolding put_at
  put_ten s at a b c d e f g h i j = simp unary_clauses refl

  -- the slice keeps its length
  pub put_length : (s : List A) (at : ℕ) (vs : List A) → length (put_at s at vs) ≡ length s
  unfolding put_at
  put_length s at [] = refl
  put_length s at (v ∷ vs) = put_length (set s at v) (suc at) vs ∙ length-set s at v

  module _ (values : ℕ → List A) (size n k : ℕ) (s : List A) where
    pub each_next : k < n → put_each values size (n - k) k s ≡ put_each values size (n - (k + 1)) (k + 1) (put_at s (k * size) (values k))
    unfolding put_each
    each_next low = let left : n - k ≡ suc (n - (k + 1)) = omega arith in rw (left, add-one k)

    pub each_last : n ≤ k → put_each values size (n - k) k s ≡ s
    unfolding put_each
    each_last past = let none : n - k ≡ 0 = omega arith in rw none
