-- Where a run ends, pixel by pixel: a like pixel goes on, another ends it, and so does the end of the line. Assumes nothing.
use Prim.Native.Nat.{ℕ, suc, ◌+◌, ◌-◌, ◌≤◌, ◌<◌}
use native.Mathlib.Omega.{arith}
use native.Mathlib.Numerals.{add-one}
use mathlib.Core.Path.{◌≡◌, refl, sym}
use mathlib.Core.Bool.{Bool, true, false, not, beq}
use mathlib.Core.List.{List}
use lib.ListN.{get_or}
use borrow.Author.Tests.{eq-eqb, ne_eqb}
use Rattle.scanner.specs.Edges.{dark, run_end}

pub is_light : (p : List ℕ) (base x : ℕ) → get_or p (base + x) 0 ≡ 0 → dark p base x ≡ false
is_light p base x e = rw (eq-eqb _ _ e)

pub is_dark : (p : List ℕ) (base x : ℕ) → (get_or p (base + x) 0 ≡ 0 → ⊥) → dark p base x ≡ true
is_dark p base x e = rw (ne_eqb _ _ e)

pub like : (b : Bool) → beq b b ≡ true
like true = refl
like false = refl

pub unlike : (b : Bool) → beq (not b) b ≡ false
unlike true = refl
unlike false = refl

-- a pixel of the run's shade, as the code compares
pub on_shade : (d shade : Bool) → not (beq d shade) ≡ false → d ≡ shade
on_shade true true e = refl
on_shade true false e = e
on_shade false true e = sym e
on_shade false false e = refl

-- and one of the other shade
pub off_shade : (d shade : Bool) → not (beq d shade) ≡ true → d ≡ not shade
off_shade true true e = sym e
off_shade true false e = refl
off_shade false true e = refl
off_shade false false e = e

module _ (shade : Bool) (p : List ℕ) (base w x : ℕ) where
  pub goes_on : x < w → dark p base x ≡ shade → run_end shade p base (w - x) x ≡ run_end shade p base (w - (x + 1)) (x + 1)
  unfolding run_end
  goes_on on e =
      let left : w - x ≡ suc (w - (x + 1)) = omega arith in
      rw (left, e, like shade, add-one x)

  pub ends_here : x < w → dark p base x ≡ not shade → run_end shade p base (w - x) x ≡ x
  unfolding run_end
  ends_here on e =
      let left : w - x ≡ suc (w - (x + 1)) = omega arith in
      rw (left, e, unlike shade)

  pub ends_last : w ≤ x → run_end shade p base (w - x) x ≡ x
  unfolding run_end
  ends_last off = let none : w - x ≡ 0 = omega arith in rw none
