-- Demand 3, sentence by sentence. Definitions alone.
use Rattle.std.specs.Prelude.{ℕ, ◌+◌, ◌<◌, ◌≤◌, ◌≡◌, List, ◌⊎◌, ◌↔◌}
use Rattle.refusals.specs.Finding.{found}
use Rattle.pieces.specs.Picture.{px}
use Rattle.pieces.specs.Piece.{Dark, BitmapPiece, Pixels}
use Rattle.table.specs.Table.{entry_of}
use Rattle.table.specs.declared.Entry.{Entry}
use Rattle.table.specs.declared.Table.{Table}
use Rattle.regions.specs.Found.{Answer, unclaimed}
use Rattle.regions.specs.Lookup.{LookPost}
use Rattle.regions.specs.declared.Region.{Region}
use Rattle.demand.specs.Run.{Event, Latest, Unclaimed}

-- the entry e holds the count of the bitmap's piece that holds (a, b)
pub record Holds (B : List ℕ) (w h a b : ℕ) (e : Entry) : Type 0 where
  pub pixels : Pixels (BitmapPiece B w h a b) e.px

-- what demand 3 says of the picture p and the table T that the calls E have led to from the accepted bitmap B, w by h; "piece" is a piece of B
pub record Reached (B : List ℕ) (w h : ℕ) (E : List Event) (p : List ℕ) (T : Table) : Type 0 where
  -- "White pixels are exactly those that were white."
  pub white : (a b : ℕ) → a < w → b < h → (px p w a b ≡ 0) ↔ (px B w a b ≡ 0)
  -- "Each 4-connected piece of the rest has one colour;"
  pub one_colour : (a b c d : ℕ) → BitmapPiece B w h a b c d → px p w a b ≡ px p w c d
  -- "a claimed piece shows its latest accepted claim,"
  pub claimed : (a b c : ℕ) → Latest B w h E a b c → px p w a b ≡ c
  -- "any other is black or shows the number of the entry holding its count."
  pub other : (a b : ℕ) → Dark B w h a b → Unclaimed B w h E a b → (px p w a b ≡ 1) ⊎ ((k : ℕ) × (k < T.n) × (px p w a b ≡ 5 + k) × Holds B w h a b (entry_of T k))
  -- "No number stands on two pieces."
  pub one_piece : (a b c d : ℕ) → Dark B w h a b → Dark B w h c d → 5 ≤ px p w a b → px p w a b ≡ px p w c d → BitmapPiece B w h a b c d
  -- "An accepted lookup of an unclaimed piece gives its exact pixel count, however many came between": the next lookup does, after any calls
  pub count : (lent x y : ℕ) (a : Answer) (q : List ℕ) (U : Table) → LookPost p w h lent T x y (found a) q U → Unclaimed B w h E x y → (r : Region) × (a ≡ unclaimed r) × Holds B w h x y r.entry
