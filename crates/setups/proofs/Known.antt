-- What is remembered is what a setup of the same corners comes to; and since a setup sees white and not white alone, it is as true on every picture that is white at the same pixels. Assumes nothing.
use Prim.Native.Nat.{ℕ, zero, suc, ◌<◌}
use native.Mathlib.Omega.{arith}
use mathlib.Core.Path.{◌≡◌, refl, sym, ap, ◌∙◌}
use mathlib.Core.List.{List, [], ◌∷◌}
use lib.ListN.{set, replicate}
use Rattle.refusals.specs.Finding.{found}
use Rattle.points.specs.declared.Point.{Point}
use Rattle.geometry.specs.Create.{sight_of}
use Rattle.geometry.specs.declared.Sight.{Sight}
use Rattle.geometry.specs.declared.Sight.TheVariants.{Made, Flat}
use Rattle.fitness.specs.Fitness.{SameWhite}
use Rattle.refine.proofs.Alike.{refined_white}
use Rattle.grids.specs.Grid.{Modules, grid_of, refined_grid, seen_grid, span, set_up}
use Rattle.setups.specs.Remember.{no_setup, MadeOf, Remembers, AllRemember}
use Rattle.setups.specs.declared.Setup.{Setup}

module _ {w h : ℕ} (p q : List ℕ) (white : SameWhite w h p q) where
  seen_white : (size : ℕ) (s : Sight) → seen_grid p w h size s ≡ seen_grid q w h size s
  unfolding seen_grid refined_grid
  seen_white size (Made c) = ap (grid_of size) (refined_white p q w h white size c)
  seen_white size Flat = refl

  pub set_up_white : (size : ℕ) (p0 p1 p2 p3 : Point) → set_up p w h size p0 p1 p2 p3 ≡ set_up q w h size p0 p1 p2 p3
  unfolding set_up
  set_up_white size p0 p1 p2 p3 =
      let side = span p w h size in
      rw (seen_white size (sight_of p0 p1 p2 p3 side side))

  pub remembers_before : {s : Setup} → Remembers q w h s → Remembers p w h s
  remembers_before {s} R = record { is = λ some. set_up_white s.size s.p0 s.p1 s.p2 s.p3 ∙ R.is some }

  pub remembers_after : {s : Setup} → Remembers p w h s → Remembers q w h s
  remembers_after {s} R = record { is = λ some. sym (set_up_white s.size s.p0 s.p1 s.p2 s.p3) ∙ R.is some }

-- where the corners and the size are the same, so is the grid
pub taken_again : {p : List ℕ} {w h : ℕ} {s : Setup} {a b c d : Point} {n : ℕ} → Remembers p w h s → Modules n → MadeOf s a b c d n → found (s.grid ∷ []) ≡ set_up p w h n a b c d
taken_again {p} {w} {h} {s} R M S =
    let some : 0 < s.size = omega (arith, S.size, M.is) in
    sym (rw (← S.size, ← S.p0, ← S.p1, ← S.p2, ← S.p3) (R.is some))

-- a blank says nothing that is untrue
pub blank_remembers : {p : List ℕ} {w h : ℕ} {s : Setup} → s ≡ no_setup → Remembers p w h s
blank_remembers {s = s} e = let none : s.size ≡ 0 = ap (λ (k : Setup). k.size) e in record { is = λ some. absurd (omega arith) }

-- nor do blanks
blanks_true : {p : List ℕ} {w h : ℕ} (n : ℕ) → AllRemember p w h (replicate n no_setup)
blanks_true zero k = blank_remembers refl
blanks_true (suc n) zero = blank_remembers refl
blanks_true (suc n) (suc k) = blanks_true n k

pub blanks_remember : {p : List ℕ} {w h : ℕ} {l : List Setup} (n : ℕ) → l ≡ replicate n no_setup → AllRemember p w h l
blanks_remember n e = rw e (blanks_true n)

-- with one more that is true, all are
pub one_remembered : {p : List ℕ} {w h : ℕ} (l : List Setup) (i : ℕ) (s : Setup) → AllRemember p w h l → Remembers p w h s → AllRemember p w h (set l i s)
one_remembered [] i s A R k = A k
one_remembered (x ∷ l) zero s A R zero = R
one_remembered (x ∷ l) zero s A R (suc k) = A (suc k)
one_remembered (x ∷ l) (suc i) s A R zero = A zero
one_remembered (x ∷ l) (suc i) s A R (suc k) = one_remembered l i s (λ j. A (suc j)) R k
