-- How far refinement moves each coefficient: document 01, "adjustments start at 0.02 of each coefficient and halve after each pass". Definitions alone.
use Rattle.std.specs.Prelude.{ℕ, zero, suc, ◌/◌, ◌%◌, cond, eqb, Float}
use Rattle.floats.specs.Float64.{◌⊗◌}
use Rattle.changes.specs.Change.{coefficient, raised, lowered}
use Rattle.geometry.specs.declared.Perspective.{Perspective}
use Rattle.cell_fitness.specs.Seen.{ratio}

-- each coefficient times k
unfoldable pub scaled : Perspective → Float → Perspective
scaled p k = record {
  c0 = p.c0 ⊗ k;
  c1 = p.c1 ⊗ k;
  c2 = p.c2 ⊗ k;
  c3 = p.c3 ⊗ k;
  c4 = p.c4 ⊗ k;
  c5 = p.c5 ⊗ k;
  c6 = p.c6 ⊗ k;
  c7 = p.c7 ⊗ k;
}

-- the adjustments of pass n, one for each coefficient: those of the first pass, halved after each
unfoldable pub adjustments : Perspective → ℕ → Perspective
adjustments steps zero = steps
adjustments steps (suc n) = scaled (adjustments steps n) (ratio 5 10)

-- what trial i of a pass tries: coefficient i / 2 is first lowered, and then raised
unfoldable pub adjusted : Perspective → Perspective → ℕ → Perspective
adjusted steps c i = cond (eqb (i % 2) 0) (lowered c (i / 2) (coefficient steps (i / 2))) (raised c (i / 2) (coefficient steps (i / 2)))
