-- What `place_of` finds is the first place of a number. Assumes nothing.
use Prim.Native.Nat.{ℕ, zero, suc, ◌<◌}
use native.Mathlib.Omega.{arith}
use mathlib.Core.Path.{◌≡◌, refl}
use mathlib.Core.List.{List, [], ◌∷◌}
use mathlib.Core.Bool.{false}
use lib.ListN.{get_or, take}
use lib.Dec.{eqb}
use borrow.Author.Tests.{eqb-true}
use Rattle.std.specs.List.{position}
use Rattle.std.specs.Prelude.{Some}
use Rattle.std.proofs.lemmas.List.Quantifiers.{position-Some}
use Rattle.table.specs.Age.{FirstAt, times}

-- k is not among the first i
none_before : (k : ℕ) (l : List ℕ) (i : ℕ) → ((j : ℕ) → j < i → eqb (get_or l j 0) k ≡ false) → times k (take i l) ≡ 0
unfolding times
none_before k l zero other = refl
none_before k [] (suc i) other = refl
none_before k (x ∷ l) (suc i) other = rw (other 0 (omega arith)) (none_before k l i (λ j h. other (suc j) (omega arith)))

-- the place at which k is met first
pub first_met : (k : ℕ) (l : List ℕ) (i : ℕ) → position (λ x. eqb x k) l ≡ Some i → FirstAt k i l
first_met k l i found =
    let at = position-Some (λ x. eqb x k) l i 0 found in
    record { inside = at.0; is_k = eqb-true _ k at.1; not_before = none_before k l i at.2 }
