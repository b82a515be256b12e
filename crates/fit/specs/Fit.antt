-- What fitting a group promises: the finding, the picture q and the table U, for every input. Definitions alone.
use Rattle.std.specs.Prelude.{ℕ, ◌≡◌, Bool, true, false, List, [], ◌∷◌, length}
use Rattle.refusals.specs.Finding.{Finding, found, refused}
use Rattle.refusals.specs.First.{first, sound}
use Rattle.points.specs.declared.Point.{Point}
use Rattle.table.specs.declared.Table.{Table}
use Rattle.groups.specs.declared.CapStoneGroup.{CapStoneGroup}
use Rattle.outline.specs.Outline.{outline_of}
use Rattle.outline.specs.declared.Outline.{Outline}
use Rattle.grids.specs.Grid.{set_up}
use Rattle.grids.specs.declared.SkewedGridLocation.{SkewedGridLocation}
use Rattle.fourth_corner.specs.Corner.{Corners}
use Rattle.fit.specs.Tests.{fit_tests}

-- the grid of an outline and its fourth corner, if there is one: the corners 0 of the second stone and the third, the fourth corner, and the corner 0 of the first stone
unfoldable pub located_by : List ℕ → ℕ → ℕ → Outline → Finding (List Point) → Finding (List SkewedGridLocation)
located_by q w h o (found (corner ∷ more)) = set_up q w h o.size o.group.second.corner0 o.group.third.corner0 corner o.group.first.corner0
located_by q w h o (found []) = found []
located_by q w h o (refused n) = refused n

-- what an outline comes to: the fourth corner, then the grid
pub record Completes (p : List ℕ) (w h : ℕ) (T : Table) (o : Outline) (f : Finding (List SkewedGridLocation)) (q : List ℕ) (U : Table) : Type 0 where
  pub corner : Finding (List Point)
  pub corners : Corners p w h T o corner q U
  pub is : f ≡ located_by q w h o corner

-- a group is fitted, step by step, and the paint stays: a refused outline is the group's refusal, and lines that stay apart give no grid
pub data Fits (p : List ℕ) (w h : ℕ) (T : Table) (g : CapStoneGroup) (f : Finding (List SkewedGridLocation)) (q : List ℕ) (U : Table) : Type 0 where
  not_outlined : (n : ℕ) → outline_of p w h g ≡ refused n → f ≡ refused n → q ≡ p → U ≡ T → Fits p w h T g f q U
  apart : outline_of p w h g ≡ found [] → f ≡ found [] → q ≡ p → U ≡ T → Fits p w h T g f q U
  outlined : (o : Outline) → outline_of p w h g ≡ found (o ∷ []) → Completes p w h T o f q U → Fits p w h T g f q U

unfoldable pub is_refusal : {A : Type 0} → Finding A → Bool
is_refusal (found a) = false
is_refusal (refused n) = true

-- "A refused call leaves picture and table as at entry; fit and detect do so even late"; no grid is no refusal, and "leaves the paint the Rust leaves"
pub data FitsWhole (p : List ℕ) (w h : ℕ) (T : Table) (g : CapStoneGroup) (f : Finding (List SkewedGridLocation)) (q : List ℕ) (U : Table) : Type 0 where
  put_back : is_refusal f ≡ true → (m : List ℕ) (Left : Table) → Fits p w h T g f m Left → q ≡ p → U ≡ T → FitsWhole p w h T g f q U
  stands : is_refusal f ≡ false → Fits p w h T g f q U → FitsWhole p w h T g f q U

-- fitting with any input: the first refusal that applies, or as the steps go
pub data FitPost (p : List ℕ) (w h lent room : ℕ) (T : Table) (g : CapStoneGroup) (f : Finding (List SkewedGridLocation)) (q : List ℕ) (U : Table) : Type 0 where
  refuses : (n : ℕ) → f ≡ refused n → first (fit_tests w h (length p) lent room T g) sound ≡ refused n → q ≡ p → U ≡ T → FitPost p w h lent room T g f q U
  fits : first (fit_tests w h (length p) lent room T g) sound ≡ sound → FitsWhole p w h T g f q U → FitPost p w h lent room T g f q U
