-- What a lookup promises: its answer, the picture q and the table U that it leaves, for every input. Definitions alone.
-- Document 01, "Picture and paint": each of its sentences on lookup stands beside the part that says it.
use Rattle.std.specs.Prelude.{ℕ, ◌+◌, ◌<◌, ◌≤◌, ◌≡◌, List}
use Rattle.refusals.specs.Finding.{Finding, found, refused}
use Rattle.refusals.specs.First.{first, sound}
use Rattle.picture.specs.Colour.{colour_of}
use Rattle.pieces.specs.Picture.{px}
use Rattle.pieces.specs.Piece.{Piece, Pixels}
use Rattle.pieces.specs.Paint.{Paints}
use Rattle.table.specs.Table.{most, entry_of, oldest_of, newest, added, replaced}
use Rattle.table.specs.declared.Entry.{Entry}
use Rattle.table.specs.declared.Table.{Table}
use Rattle.regions.specs.Found.{Answer, claimed, unclaimed, region}
use Rattle.regions.specs.Tests.{look_tests}

-- "Claimed pieces answer their colour."
pub record Claimed (p : List ℕ) (w x y : ℕ) (T : Table) (a : Answer) (q : List ℕ) (U : Table) : Type 0 where
  pub low : 2 ≤ px p w x y
  pub high : px p w x y ≤ 4
  pub answer : a ≡ claimed (colour_of (px p w x y))
  pub picture : q ≡ p
  pub table : U ≡ T

-- "A numbered piece answers its entry and makes it the newest."
pub record Known (p : List ℕ) (w x y : ℕ) (T : Table) (a : Answer) (q : List ℕ) (U : Table) : Type 0 where
  pub number : ℕ
  pub shows : px p w x y ≡ 5 + number
  pub answer : a ≡ unclaimed (region number (entry_of T number))
  pub picture : q ≡ p
  pub table : U ≡ newest T number

-- e is an entry for the piece of (x, y): where it was met, and how many pixels it has
pub record Measures (p : List ℕ) (w h x y : ℕ) (e : Entry) : Type 0 where
  pub seed_x : e.x ≡ x
  pub seed_y : e.y ≡ y
  pub pixels : Pixels (Piece p w h x y) e.px

-- "A black piece gets number n while n is below 251."
pub record Fresh (p : List ℕ) (w h x y : ℕ) (T : Table) (a : Answer) (q : List ℕ) (U : Table) : Type 0 where
  pub black : px p w x y ≡ 1
  pub few : T.n < most
  pub entry : Entry
  pub measures : Measures p w h x y entry
  pub paint : Paints p w h x y (5 + T.n) q
  pub answer : a ≡ unclaimed (region T.n entry)
  pub table : U ≡ added T entry

-- the number that a full table gives up
abbrev pub given_up : Table → ℕ
given_up T = oldest_of T

-- m is p with the piece of e, if it still shows the number k, filled back to black from its seed
pub data FilledBack (p : List ℕ) (w h : ℕ) (e : Entry) (k : ℕ) (m : List ℕ) : Type 0 where
  in_paint : px p w e.x e.y ≡ 5 + k → Paints p w h e.x e.y 1 m → FilledBack p w h e k m
  out_of_paint : (px p w e.x e.y ≡ 5 + k → ⊥) → m ≡ p → FilledBack p w h e k m

-- "Else the oldest entry goes, its piece (if still in its paint) is filled back to black from its seed, and its number is used again."
pub record Again (p : List ℕ) (w h x y : ℕ) (T : Table) (a : Answer) (q : List ℕ) (U : Table) : Type 0 where
  pub black : px p w x y ≡ 1
  pub full : T.n ≡ most
  pub between : List ℕ
  pub back : FilledBack p w h (entry_of T (given_up T)) (given_up T) between
  pub entry : Entry
  pub measures : Measures between w h x y entry
  pub paint : Paints between w h x y (5 + given_up T) q
  pub answer : a ≡ unclaimed (region (given_up T) entry)
  pub table : U ≡ replaced T (given_up T) entry

-- an answer, and what holds of it
abbrev pub Answered : Finding Answer → (Answer → Type 0) → Type 0
Answered f S = (a : Answer) × (f ≡ found a) × S a

-- an accepted lookup
pub data Looks (p : List ℕ) (w h x y : ℕ) (T : Table) (a : Answer) (q : List ℕ) (U : Table) : Type 0 where
  at_claimed : Claimed p w x y T a q U → Looks p w h x y T a q U
  at_known : Known p w x y T a q U → Looks p w h x y T a q U
  at_fresh : Fresh p w h x y T a q U → Looks p w h x y T a q U
  at_again : Again p w h x y T a q U → Looks p w h x y T a q U

-- a lookup with any input: the first refusal that applies, its number alone, with picture and table as at entry; or an answer
pub data LookPost (p : List ℕ) (w h lent : ℕ) (T : Table) (x y : ℕ) (f : Finding Answer) (q : List ℕ) (U : Table) : Type 0 where
  refuses : (n : ℕ) → f ≡ refused n → first (look_tests p w h lent T x y) sound ≡ refused n → q ≡ p → U ≡ T → LookPost p w h lent T x y f q U
  answers : (a : Answer) → f ≡ found a → first (look_tests p w h lent T x y) sound ≡ sound → Looks p w h x y T a q U → LookPost p w h lent T x y f q U
