-- A perspective whose coefficients are numbers. Definitions alone.
use Rattle.std.specs.Prelude.{◌≡◌}
use Rattle.std.specs.Float.{nan}
use Rattle.geometry.specs.declared.Perspective.{Perspective}

-- no coefficient is a NaN
pub record Numbers (c : Perspective) : Type 0 where
  pub c0 : c.c0 ≡ nan → ⊥
  pub c1 : c.c1 ≡ nan → ⊥
  pub c2 : c.c2 ≡ nan → ⊥
  pub c3 : c.c3 ≡ nan → ⊥
  pub c4 : c.c4 ≡ nan → ⊥
  pub c5 : c.c5 ≡ nan → ⊥
  pub c6 : c.c6 ≡ nan → ⊥
  pub c7 : c.c7 ≡ nan → ⊥
