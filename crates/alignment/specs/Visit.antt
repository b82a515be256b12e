-- A visit of the spiral: document 01 ("a claimed region makes the pass skip its move", refusal 10); all else is taken from the Rust (`find_alignment_pattern`). Definitions alone.
use Rattle.std.specs.Prelude.{ℕ, ◌*◌, ◌/◌, ◌≡◌, Bool, true, false, cond, ◌&&◌, List, ltb, leb, ℤ, pos, negsuc, Option, Some, None, Result, Ok, Err}
use Rattle.refusals.specs.declared.Refusal.{Refusal}
use Rattle.refusals.specs.Finding.{Finding, found}
use Rattle.refusals.specs.declared.Refusal.TheVariants as refusal
use Rattle.points.specs.declared.Point.{Point}
use Rattle.pieces.specs.Picture.{px}
use Rattle.table.specs.declared.Table.{Table}
use Rattle.regions.specs.Found.{Answer, claimed, unclaimed}
use Rattle.regions.specs.Tests.{unlisted}
use Rattle.regions.specs.Lookup.{Looks}
use Rattle.alignment.specs.declared.visit.Visit.{Visit}
use Rattle.alignment.specs.declared.visit.Visit.TheVariants.{Moves, Stays, Here}

-- the pixel of a picture at the coordinates (x, y), if there is one: what is negative lies beside the picture
unfoldable pub place_at : ℕ → ℕ → ℤ → ℤ → Option (ℕ × ℕ)
place_at w h (pos x) (pos y) = cond (ltb x w && ltb y h) (Some (x, y)) None
place_at w h (pos x) (negsuc y) = None
place_at w h (negsuc x) z = None

-- the same, for a point
abbrev pub place_of : ℕ → ℕ → Point → Option (ℕ × ℕ)
place_of w h at = place_at w h at.x at.y

-- as large as the alignment pattern is taken to be: at least half the estimate, at most twice
unfoldable pub size_like : ℕ → ℕ → Bool
size_like estimate count = leb (estimate / 2) count && leb count (estimate * 2)

-- what a lookup's answer makes of a visit: a claimed region makes the pass skip its move, an unclaimed one of the right size is the answer
unfoldable pub visit_of : ℕ → Answer → Result Visit Refusal
visit_of estimate (claimed colour) = Ok Stays
visit_of estimate (unclaimed r) = cond (size_like estimate r.entry.px) (Ok Here) (Ok Moves)

-- v is what the answer makes of the visit, where there is one
abbrev pub Comes : ℕ → Finding Answer → Result Visit Refusal → Type 0
Comes estimate f v = (a : Answer) → f ≡ found a → v ≡ visit_of estimate a

-- a visit at the pixel (x, y): a white one is passed by, one whose number no entry has is refused (10), any other is looked up
pub data VisitsPixel (p : List ℕ) (w h : ℕ) (T : Table) (estimate x y : ℕ) (v : Result Visit Refusal) (q : List ℕ) (U : Table) : Type 0 where
  white : px p w x y ≡ 0 → v ≡ Ok Moves → q ≡ p → U ≡ T → VisitsPixel p w h T estimate x y v q U
  not_listed : (px p w x y ≡ 0 → ⊥) → unlisted (px p w x y) T.n ≡ true → v ≡ Err refusal.Number → q ≡ p → U ≡ T → VisitsPixel p w h T estimate x y v q U
  looked : (px p w x y ≡ 0 → ⊥) → unlisted (px p w x y) T.n ≡ false → (a : Answer) → Looks p w h x y T a q U → v ≡ visit_of estimate a → VisitsPixel p w h T estimate x y v q U

-- a visit at any place: beside the picture the pass moves on
pub data Visits (p : List ℕ) (w h : ℕ) (T : Table) (estimate : ℕ) (at : Point) (v : Result Visit Refusal) (q : List ℕ) (U : Table) : Type 0 where
  beside : place_of w h at ≡ None → v ≡ Ok Moves → q ≡ p → U ≡ T → Visits p w h T estimate at v q U
  at_pixel : (x y : ℕ) → place_of w h at ≡ Some (x, y) → VisitsPixel p w h T estimate x y v q U → Visits p w h T estimate at v q U
