-- Chains: both ends are of the set, they go back, go on, run along a line, and stay in a larger set. Assumes nothing.
use Prim.Native.Nat.{ℕ, zero, suc, ◌≤◌}
use native.Mathlib.Omega.{arith}
use mathlib.Core.Path.{sym, subst}
use mathlib.Core.Logic.{⊎_elim}
use Rattle.pieces.specs.Chain.{Chain, start, west, east, north, south}
use Rattle.pieces.specs.Piece.{Pixels}
use Rattle.pieces.proofs.Numbers.{same}
use Rattle.pieces.proofs.Counting.{number_over}

module _ {S : ℕ → ℕ → Type 0} {x y : ℕ} where
  pub last_of : {a b : ℕ} → Chain S x y a b → S a b
  last_of (start s) = s
  last_of (west c s) = s
  last_of (east c s) = s
  last_of (north c s) = s
  last_of (south c s) = s

  pub first_of : {a b : ℕ} → Chain S x y a b → S x y
  first_of (start s) = s
  first_of (west c s) = first_of c
  first_of (east c s) = first_of c
  first_of (north c s) = first_of c
  first_of (south c s) = first_of c

  pub go_on : {a b c d : ℕ} → Chain S x y a b → Chain S a b c d → Chain S x y c d
  go_on j (start s) = j
  go_on j (west c s) = west (go_on j c) s
  go_on j (east c s) = east (go_on j c) s
  go_on j (north c s) = north (go_on j c) s
  go_on j (south c s) = south (go_on j c) s

  -- along a line of the set, to the left and to the right
  pub go_left : (a l b : ℕ) → l ≤ a → Chain S x y a b → ((k : ℕ) → l ≤ k → k ≤ a → S k b) → Chain S x y l b
  go_left zero l b le c g = subst (λ (k : ℕ). Chain S x y k b) (omega arith) c
  go_left (suc a) l b le c g =
      ⊎_elim
      (λ e. subst (λ (k : ℕ). Chain S x y k b) (sym e) c)
      (λ n. go_left a l b (omega arith) (west c (g a (omega arith) (omega arith))) (λ k u v. g k u (omega arith)))
      (same l (suc a))

  pub go_right : (r a b : ℕ) → a ≤ r → Chain S x y a b → ((k : ℕ) → a ≤ k → k ≤ r → S k b) → Chain S x y r b
  go_right zero a b le c g = subst (λ (k : ℕ). Chain S x y k b) (omega arith) c
  go_right (suc r) a b le c g =
      ⊎_elim
      (λ e. subst (λ (k : ℕ). Chain S x y k b) e c)
      (λ n. east (go_right r a b (omega arith) c (λ k u v. g k u (omega arith))) (g (suc r) (omega arith) (omega arith)))
      (same a (suc r))

pub go_back : {S : ℕ → ℕ → Type 0} {x y a b : ℕ} → Chain S x y a b → Chain S a b x y
go_back (start s) = start s
go_back (west c s) = go_on (east (start s) (last_of c)) (go_back c)
go_back (east c s) = go_on (west (start s) (last_of c)) (go_back c)
go_back (north c s) = go_on (south (start s) (last_of c)) (go_back c)
go_back (south c s) = go_on (north (start s) (last_of c)) (go_back c)

pub in_larger : {S R : ℕ → ℕ → Type 0} {x y a b : ℕ} → ((c d : ℕ) → S c d → R c d) → Chain S x y a b → Chain R x y a b
in_larger {x = x} {y = y} g (start s) = start (g x y s)
in_larger g (west {a} {b} c s) = west (in_larger g c) (g a b s)
in_larger g (east {a} {b} c s) = east (in_larger g c) (g (suc a) b s)
in_larger g (north {a} {b} c s) = north (in_larger g c) (g a b s)
in_larger g (south {a} {b} c s) = south (in_larger g c) (g a (suc b) s)

-- a chain whose every pixel, reached from the start, is of R as well, is a chain of R
pub in_other : {S R : ℕ → ℕ → Type 0} {x y a b : ℕ} → ((c d : ℕ) → Chain S x y c d → R c d) → Chain S x y a b → Chain R x y a b
in_other {x = x} {y = y} g (start s) = start (g x y (start s))
in_other g (west {a} {b} c s) = west (in_other g c) (g a b (west c s))
in_other g (east {a} {b} c s) = east (in_other g c) (g (suc a) b (east c s))
in_other g (north {a} {b} c s) = north (in_other g c) (g a b (north c s))
in_other g (south {a} {b} c s) = south (in_other g c) (g a (suc b) (south c s))

-- a piece has one count, from whichever of its pixels it is taken
pub pixels_from : {S : ℕ → ℕ → Type 0} {x y a b n : ℕ} → Chain S x y a b → Pixels (Chain S x y) n → Pixels (Chain S a b) n
pixels_from j N = number_over (λ e c. go_on (go_back j) c) (λ e c. go_on j c) N
