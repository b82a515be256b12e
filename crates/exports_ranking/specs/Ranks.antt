-- What a call that ranks a stone's neighbours tells. Definitions alone.
use Rattle.std.specs.Prelude.{ℕ, ◌+◌, ◌*◌, ◌≤◌, ◌<◌, ◌≡◌, List, [], ◌∷◌, ◌⊎◌, ℤ, Float, length, get_or, set, Result, Ok, Err}
use Rattle.refusals.specs.declared.Refusal.{Refusal}
use Rattle.refusals.specs.Numbers.{number_of}
use Rattle.capstones.specs.Blank.{nowhere}
use Rattle.capstones.specs.declared.CapStone.{CapStone}
use Rattle.match_capstones.specs.Answer.{no_pair, ranking, Tells}
use Rattle.match_capstones.specs.declared.Pair.{Pair}
use Rattle.match_capstones.specs.declared.Ranked.{Ranked}
use Rattle.told.specs.Points.{point_at}
use Rattle.told_places.specs.Lent.{first_of, perspective_at}
use Rattle.told_places.specs.Put.{put_each}

-- stone k of a lent list: two numbers and eight floats; a ranking looks at no corner
unfoldable pub lent_stone : List ℤ → List Float → ℕ → CapStone
lent_stone ns cs k = record {
  corner0 = nowhere;
  corner1 = nowhere;
  corner2 = nowhere;
  corner3 = nowhere;
  center = point_at ns (k * 2) (k * 2 + 1);
  c = perspective_at cs (k * 8);
}

-- the first n of them
abbrev pub lent_stones : List ℤ → List Float → ℕ → List CapStone
lent_stones ns cs n = first_of (lent_stone ns cs) n

-- a pair's indices
abbrev pub pair_numbers : Pair → List ℕ
pair_numbers p = p.h ∷ p.v ∷ []

-- all 992 pairs of an array
abbrev pub all_pairs : List Pair → List ℕ → List ℕ
all_pairs pairs s = put_each (λ (k : ℕ). pair_numbers (get_or pairs k no_pair)) 2 992 0 s

-- their number stands behind them, where there is one
unfoldable pub count_put : Result ℕ Refusal → List ℕ → List ℕ
count_put (Ok count) s = set s 1984 count
count_put (Err why) s = s

-- what the call returns: 0, or the number of a refusal
unfoldable pub status_of : Result ℕ Refusal → ℕ
status_of (Ok count) = 0
status_of (Err why) = number_of why

-- the call returns a number, and leaves pairs' where it was lent `pairs`
pub data Ranks (centers : List ℤ) (floats : List Float) (n idx : ℕ) (pairs pairs' : List ℕ) (number : ℕ) : Type 0 where
  -- with too few places nothing is ranked
  short : (length centers < 128) ⊎ (length floats < 512) ⊎ (length pairs < 1985) → pairs' ≡ pairs → number ≡ 3 → Ranks centers floats n idx pairs pairs' number
  -- else the ranking is told
  told : 128 ≤ length centers → 512 ≤ length floats → 1985 ≤ length pairs → (r : Ranked) → Tells (ranking (lent_stones centers floats 64) n idx) r → pairs' ≡ count_put r.answer (all_pairs r.pairs pairs) → number ≡ status_of r.answer → Ranks centers floats n idx pairs pairs' number
