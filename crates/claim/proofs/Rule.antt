-- The one outcome of an accepted claim is what the fill's rule computes. Assumes nothing.
use Prim.Native.Nat.{ℕ}
use mathlib.Core.Path.{◌≡◌, refl}
use mathlib.Core.List.{List}
use Rattle.refusals.specs.Finding.{found}
use Rattle.refusals.specs.First.{first, sound}
use Rattle.fill.specs.Order.{filled, rows_met, entries_pushed}
use Rattle.fill.specs.Fold.{folded, one_more, width_more}
use Rattle.fill.specs.declared.paint.Counts.{Counts}
use Rattle.fill.proofs.Filling.{can_fill}
use Rattle.fill.proofs.Laws.{rule_paints}
use Rattle.claim.specs.Tests.{claim_tests}
use Rattle.claim.specs.Outcome.{Outcome}
use Rattle.claim.proofs.Accepted.{claim_fillable, claims_piece}

module _ (pic : List ℕ) (width height lent x y target : ℕ) where
  -- the counts that the rule computes
  abbrev pub ruled : Counts
  ruled = record {
    rows = folded one_more 0 (rows_met pic width height x y target);
    pixels = folded width_more 0 (rows_met pic width height x y target);
    pushes = entries_pushed pic width height x y target;
  }

  pub claim_ruled : first (claim_tests pic width height lent x y target) sound ≡ sound → Outcome pic width height lent x y target (filled pic width height x y target).pic (found ruled)
  claim_ruled passed = (
    passed,
    claims_piece pic width height lent x y target passed (rule_paints (can_fill (claim_fillable pic width height lent x y target passed))) (record { rows = refl; pixels = refl; pushes = refl }),
  )
