-- A claim is determined: two outcomes that its contract allows coincide, in answer and picture. Assumes nothing.
use Rattle.std.specs.Prelude.{Result, Ok, Err}
use Rattle.refusals.specs.declared.Refusal.{Refusal}
use Rattle.fill.specs.declared.paint.Counts.{Counts}
use Prim.Native.Nat.{ℕ}
use native.Mathlib.Omega.{arith}
use mathlib.Core.Path.{◌≡◌, sym, ap, ◌∙◌}
use mathlib.Core.List.{List}
use Rattle.refusals.proofs.Distinct.{refusal_only}
use Rattle.pieces.specs.Pairs.{Pushes}
use Rattle.pieces.proofs.Counting.{number_unique}
use Rattle.pieces.proofs.Paints.{paints_unique}
use Rattle.claim.specs.Outcome.{claimed, Outcome}
use Rattle.claim.proofs.Accepted.{claim_seeded}

pub pushes_only : {S : ℕ → ℕ → Type 0} {n m : ℕ} → Pushes S n → Pushes S m → n ≡ m
pushes_only P Q = omega (arith, P.is, Q.is, number_unique P.number Q.number)

module _ (pic : List ℕ) (width height lent x y target : ℕ) (p q : List ℕ) where
  pub claim_only : (a b : Result Counts Refusal) → Outcome pic width height lent x y target p (claimed a) → Outcome pic width height lent x y target q (claimed b) → (a ≡ b) × (p ≡ q)
  claim_only (Ok c) (Ok d) A B =
      let s = claim_seeded pic width height lent x y target A.0 in
      let rows = number_unique A.1.rows B.1.rows in
      let pixels = number_unique A.1.pixels B.1.pixels in
      let pushes = pushes_only A.1.pushes B.1.pushes in
      ((λ i. Ok (record { rows = rows i; pixels = pixels i; pushes = pushes i })), paints_unique s.sized.whole s.in_x A.1.paints B.1.paints)
  claim_only (Ok c) (Err r) A B = let z : ◌≡◌ {A = ℕ} 0 1 = cc in absurd (omega arith)
  claim_only (Err r) (Ok d) A B = let z : ◌≡◌ {A = ℕ} 0 1 = cc in absurd (omega arith)
  claim_only (Err r) (Err s) A B = (ap Err (refusal_only {a = r} {b = s} (sym A.0 ∙ B.0)), A.1 ∙ sym B.1)
