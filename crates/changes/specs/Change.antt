-- A perspective with one coefficient changed, as refinement tries it. Assumes nothing.
use Rattle.std.specs.Prelude.{ℕ, cond, eqb, Float}
use Rattle.floats.specs.Float64.{◌⊕◌, ◌⊖◌}
use Rattle.geometry.specs.declared.Perspective.{Perspective}

-- coefficient j, and the last from 7 on
unfoldable pub coefficient : Perspective → ℕ → Float
coefficient p j =
    cond (eqb j 0) p.c0
    (cond (eqb j 1) p.c1
    (cond (eqb j 2) p.c2
    (cond (eqb j 3) p.c3
    (cond (eqb j 4) p.c4
    (cond (eqb j 5) p.c5
    (cond (eqb j 6) p.c6 p.c7))))))

-- p with c for its coefficient j; p itself from 8 on
unfoldable pub replaced : Perspective → ℕ → Float → Perspective
replaced p j c = record {
  c0 = cond (eqb j 0) c p.c0;
  c1 = cond (eqb j 1) c p.c1;
  c2 = cond (eqb j 2) c p.c2;
  c3 = cond (eqb j 3) c p.c3;
  c4 = cond (eqb j 4) c p.c4;
  c5 = cond (eqb j 5) c p.c5;
  c6 = cond (eqb j 6) c p.c6;
  c7 = cond (eqb j 7) c p.c7;
}

-- p with its coefficient j a step higher
unfoldable pub raised : Perspective → ℕ → Float → Perspective
raised p j step = replaced p j (coefficient p j ⊕ step)

-- p with its coefficient j a step lower
unfoldable pub lowered : Perspective → ℕ → Float → Perspective
lowered p j step = replaced p j (coefficient p j ⊖ step)
