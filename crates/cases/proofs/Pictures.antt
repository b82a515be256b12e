-- The examples of pictures and paint, computed. Assumes nothing.
use Prim.Native.Nat.{ℕ}
use native.Mathlib.Omega.{arith}
use mathlib.Core.Path.{◌≡◌, refl}
use Rattle.pieces.specs.Chain.{start, west, east, north, south}
use Rattle.pieces.specs.Piece.{Piece}
use mathlib.Core.List.{[], ◌∷◌, zip_with}
use Rattle.refusals.specs.Finding.{found}
use Rattle.picture.specs.Sides.{side}
use Rattle.prepare.specs.Threshold.{thresholded, rows, shaded, shade, sums, from_right, along, step}
use Rattle.fill.specs.Order.{left_end, right_end, row_at, paint_run, paint_row, seeds, above, below, seeded, meet, turn, turns, filled}
use Rattle.fill.specs.Fold.{folded}
use Rattle.claim.specs.Outcome.{Outcome}
use Rattle.claim.proofs.Rule.{claim_ruled}
use Rattle.cases.specs.Case.{AllHold}
use Rattle.cases.specs.Pictures.{arch, diagonal, pictures}

-- no chain of black pixels leaves (0,0) in rows 10 / 01
alone : {a b : ℕ} → Piece diagonal 2 2 0 0 a b → (a ≡ 0) × (b ≡ 0)
alone (start s) = (refl, refl)
alone (west c s) = absurd (omega (arith, (alone c).0))
alone (east {a} {b} c s) = let at = alone c in let white = s.2 in absurd (omega (arith, rw (at.0, at.1) at white))
alone (north c s) = absurd (omega (arith, (alone c).1))
alone (south {a} {b} c s) = let at = alone c in let white = s.2 in absurd (omega (arith, rw (at.0, at.1) at white))

-- the claim's one outcome, computed
arch_claimed : Outcome arch 3 2 6 0 0 2 (2 ∷ 0 ∷ 2 ∷ 2 ∷ 2 ∷ 2 ∷ []) (found (record { rows = 3; pixels = 5; pushes = 3 }))
unfolding side left_end right_end row_at paint_run paint_row seeds above below seeded meet turn turns filled folded
arch_claimed = claim_ruled arch 3 2 6 0 0 2 refl

pub pictures_hold : AllHold pictures
unfolding AllHold pictures zip_with thresholded rows shaded shade sums from_right along step
pictures_hold = (refl, (refl, (refl, (refl, (refl, (refl, (arch_claimed, ((λ c. omega (arith, (alone c).0)), tt))))))))
