-- The number that an unclaimed piece has or gets, and the entry for it. Definitions alone.
use Rattle.std.specs.Prelude.{ℕ, ◌+◌, ◌-◌, ◌<◌, ◌≤◌, ◌≡◌, List, length, get_or}
use Rattle.picture.specs.Sides.{Seeded}
use Rattle.pieces.specs.Picture.{px}
use Rattle.pieces.specs.Paint.{Paints}
use Rattle.table.specs.Age.{Stands, FirstAt}
use Rattle.table.specs.Table.{most}
use Rattle.table.specs.Sound.{Inside}
use Rattle.table.specs.declared.Entry.{Entry}
use Rattle.regions.specs.Lookup.{Measures, FilledBack}

-- n entries with the age order l, and an unclaimed piece's byte: 1, or 5 and a number that stands in l
pub record Choosable (l : List ℕ) (n byte : ℕ) : Type 0 where
  pub size : length l ≡ most
  pub few : n ≤ most
  pub black : byte < 5 → byte ≡ 1
  pub listed : (k : ℕ) → byte ≡ 5 + k → Stands k l

-- the piece's number k, the place i from which it comes to the front of the age order, and how many entries there are then
pub data Chosen (l : List ℕ) (n byte k i count : ℕ) : Type 0 where
  its_own : byte ≡ 5 + k → FirstAt k i l → count ≡ n → Chosen l n byte k i count
  the_next : byte ≡ 1 → n < most → k ≡ n → i ≡ n → count ≡ n + 1 → Chosen l n byte k i count
  the_oldest : byte ≡ 1 → n ≡ most → k ≡ get_or l (n - 1) 0 → i ≡ n - 1 → count ≡ n → Chosen l n byte k i count

-- the piece of (x, y) can be entered for k: it is black where it has no number, and in a full table k's old entry has its seed in the picture
pub record Enterable (p : List ℕ) (w h lent x y : ℕ) (old : Entry) (k byte n : ℕ) : Type 0 where
  pub seeded : Seeded w h (length p) lent x y
  pub low : k < most
  pub black : byte < 5 → px p w x y ≡ 1
  pub old_inside : byte < 5 → most ≤ n → Inside old w h

-- e is the entry for k: the old one of a numbered piece; else that of the black piece, which is painted, in a full table after the old entry's piece is filled back
pub record Entered (p : List ℕ) (w h x y : ℕ) (old : Entry) (k byte n : ℕ) (e : Entry) (q : List ℕ) : Type 0 where
  pub kept : 5 ≤ byte → (e ≡ old) × (q ≡ p)
  pub fresh : byte < 5 → n < most → Measures p w h x y e × Paints p w h x y (5 + k) q
  pub again : byte < 5 → most ≤ n → (m : List ℕ) × FilledBack p w h old k m × Measures m w h x y e × Paints m w h x y (5 + k) q
