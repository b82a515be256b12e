-- The fourth corner of an outline: document 01, "The alignment search runs only above 21"; that the pattern's leftmost point is taken is from the Rust, `from_group`. Definitions alone.
use Rattle.std.specs.Prelude.{ℕ, ◌≤◌, ◌<◌, ◌≡◌, true, List, [], ◌∷◌, length}
use Rattle.refusals.specs.Finding.{Finding, found, refused}
use Rattle.points.specs.declared.Point.{Point}
use Rattle.picture.specs.Sides.{Roomy}
use Rattle.table.specs.Sound.{sound_test}
use Rattle.table.specs.declared.Table.{Table}
use Rattle.alignment.specs.Spiral.{first_pass}
use Rattle.alignment.specs.Search.{Spirals}
use Rattle.alignment.specs.Estimate.{estimate_of}
use Rattle.alignment.specs.Pattern.{Aligns}
use Rattle.outline.specs.declared.Outline.{Outline}

-- a picture with room for a fill, and a table that 9 does not refuse
pub record Workable (p : List ℕ) (w h lent : ℕ) (T : Table) : Type 0 where
  pub roomy : Roomy w h (length p) lent
  pub sound : sound_test T w h ≡ true

-- what the search makes of the corner: none, a refusal, or a place, whose piece is claimed and whose leftmost point it is
pub data Takes (m : List ℕ) (w h : ℕ) (hd : Point) (sight f : Finding (List Point)) (q : List ℕ) : Type 0 where
  nowhere : sight ≡ found [] → f ≡ found [] → q ≡ m → Takes m w h hd sight f q
  stopped : (n : ℕ) → sight ≡ refused n → f ≡ refused n → q ≡ m → Takes m w h hd sight f q
  claimed : (at corner : Point) → sight ≡ found (at ∷ []) → Aligns m w h at hd corner q → f ≡ found (corner ∷ []) → Takes m w h hd sight f q

-- an alignment pattern of a size is looked for, from the corner on
pub record Seeks (p : List ℕ) (w h : ℕ) (T : Table) (corner hd : Point) (estimate : ℕ) (f : Finding (List Point)) (q : List ℕ) (U : Table) : Type 0 where
  pub sight : Finding (List Point)
  pub between : List ℕ
  pub spirals : Spirals w h estimate first_pass corner p T sight between U
  pub takes : Takes between w h hd sight f q

-- the largest size that has no alignment pattern
abbrev pub plain_size : ℕ
plain_size = 21

-- the fourth corner: up to size 21 where the lines meet; else by the alignment pattern, whose size is estimated first
pub data Corners (p : List ℕ) (w h : ℕ) (T : Table) (o : Outline) (f : Finding (List Point)) (q : List ℕ) (U : Table) : Type 0 where
  plain : o.size ≤ plain_size → f ≡ found (o.corner ∷ []) → q ≡ p → U ≡ T → Corners p w h T o f q U
  unguessed : plain_size < o.size → (n : ℕ) → estimate_of o.group.first.c o.group.third.c o.corner ≡ refused n → f ≡ refused n → q ≡ p → U ≡ T → Corners p w h T o f q U
  sought : plain_size < o.size → (estimate : ℕ) → estimate_of o.group.first.c o.group.third.c o.corner ≡ found estimate
      → Seeks p w h T o.corner o.hd estimate f q U → Corners p w h T o f q U
