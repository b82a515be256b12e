-- What a call that searches a bitmap for marks tells. Definitions alone.
use Rattle.std.specs.Prelude.{ℕ, ◌≤◌, ◌<◌, ◌≡◌, List, [], ◌∷◌, ◌⊎◌, ℤ, Float, length, get_or}
use Rattle.capstones.specs.Blank.{no_stone}
use Rattle.capstones.specs.declared.CapStone.{CapStone}
use Rattle.marks.specs.OfBitmap.{OfBitmap}
use Rattle.marks.specs.declared.search.Marks.{Marks}
use Rattle.told_places.specs.Put.{put_each}
use Rattle.told_places.specs.Values.{floats_of, counted_put, status_of}

-- a stone's four corners and its centre, x before y
abbrev pub places_of : CapStone → List ℤ
places_of s =
    s.corner0.x ∷ s.corner0.y ∷ s.corner1.x ∷ s.corner1.y ∷ s.corner2.x ∷ s.corner2.y ∷ s.corner3.x ∷ s.corner3.y ∷ s.center.x ∷ s.center.y ∷ []

-- the k-th of an array
abbrev pub stone_at : List CapStone → ℕ → CapStone
stone_at stones k = get_or stones k no_stone

-- all 64 of them: ten numbers each, and eight floats each
abbrev pub all_places : List CapStone → List ℤ → List ℤ
all_places stones s = put_each (λ (k : ℕ). places_of (stone_at stones k)) 10 64 0 s

abbrev pub all_floats : List CapStone → List Float → List Float
all_floats stones s = put_each (λ (k : ℕ). floats_of (stone_at stones k).c) 8 64 0 s

-- the call leaves the picture pic' and returns a number; `places`, `floats` and `counts` were lent, and hold their values
pub data Tells (pic : List ℕ) (width height lent : ℕ) (pic' : List ℕ) (places places' : List ℤ) (floats floats' : List Float) (counts counts' : List ℕ) (number : ℕ) : Type 0 where
  -- with too few places nothing is searched
  short : (length places < 640) ⊎ (length floats < 512) ⊎ (length counts < 1006) → pic' ≡ pic → places' ≡ places → floats' ≡ floats → counts' ≡ counts → number ≡ 3 → Tells pic width height lent pic' places places' floats floats' counts counts' number
  -- else the marks are told: the stones, the table, how many entries and stones there are, and the verdict
  told : 640 ≤ length places → 512 ≤ length floats → 1006 ≤ length counts → (r : Marks) → OfBitmap pic width height lent pic' r → places' ≡ all_places r.stones places → floats' ≡ all_floats r.stones floats → counts' ≡ counted_put r.table r.n counts → number ≡ status_of r.verdict → Tells pic width height lent pic' places places' floats floats' counts counts' number
