-- What a call that looks a piece up tells. Definitions alone.
use Rattle.std.specs.Prelude.{ℕ, ◌+◌, ◌≤◌, ◌<◌, ◌≡◌, List, length}
use Rattle.refusals.specs.Finding.{Finding, found, refused}
use Rattle.picture.specs.Colour.{byte_of, Shown}
use Rattle.table.specs.declared.Table.{Table}
use Rattle.regions.specs.Found.{Answer, claimed, unclaimed}
use Rattle.regions.specs.Lookup.{LookPost}
use Rattle.told_places.specs.Lent.{table_of}
use Rattle.told_places.specs.Values.{table_put}

-- a byte stands for the colour that is answered
abbrev pub ShownBy : Finding Answer → Type 0
ShownBy (found (claimed colour)) = Shown colour
ShownBy (found (unclaimed r)) = Unit {0}
ShownBy (refused n) = Unit {0}

-- what the call returns: 0, or a refusal's number
unfoldable pub status_of : Finding Answer → ℕ
status_of (found a) = 0
status_of (refused n) = n

-- the numbers after it: the table that the lookup left, the colour that the piece shows, and its pixel count, 0 for a claimed one; a
-- refusal leaves them as they were
unfoldable pub counts_after : Finding Answer → Table → List ℕ → List ℕ
counts_after (found (claimed colour)) T s = table_put T (byte_of colour) 0 s
counts_after (found (unclaimed r)) T s = table_put T (5 + r.number) r.entry.px s
counts_after (refused n) T s = s

-- the call leaves the picture pic' and returns a number; `counts` was lent to hand the table over, and to hold what it tells
pub data Tells (pic : List ℕ) (width height lent x y : ℕ) (pic' counts counts' : List ℕ) (number : ℕ) : Type 0 where
  -- with too few places nothing is looked up
  short : length counts < 1007 → pic' ≡ pic → counts' ≡ counts → number ≡ 3 → Tells pic width height lent x y pic' counts counts' number
  -- else what the lookup answers is told
  told : 1007 ≤ length counts → (f : Finding Answer) (left : Table) → LookPost pic width height lent (table_of counts) x y f pic' left → counts' ≡ counts_after f left counts → number ≡ status_of f → Tells pic width height lent x y pic' counts counts' number
