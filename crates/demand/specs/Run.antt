-- Runs of lookups and claims, stated of their contracts alone. Definitions alone.
use Rattle.std.specs.Prelude.{ℕ, ◌≡◌, List, [], ◌∷◌, ◌⊎◌}
use Rattle.refusals.specs.Finding.{Finding, found, refused}
use Rattle.pieces.specs.Piece.{BitmapPiece}
use Rattle.fill.specs.declared.paint.Counts.{Counts}
use Rattle.table.specs.Table.{empty_table}
use Rattle.table.specs.declared.Table.{Table}
use Rattle.regions.specs.Found.{Answer}
use Rattle.regions.specs.Lookup.{LookPost}
use Rattle.claim.specs.Outcome.{Outcome}

-- a call with what it was given (the sides that it states, how many entries its stack has, the seed, the target), and its answer
pub data Event : Type 0 where
  look : (width height lent x y : ℕ) → Finding Answer → Event
  claim : (width height lent x y target : ℕ) → Finding Counts → Event

-- with the picture p and the table T before it, the call's contract allows its answer, and q and U after it; a claim has no table
abbrev pub Allowed : List ℕ → Table → Event → List ℕ → Table → Type 0
Allowed p T (look width height lent x y f) q U = LookPost p width height lent T x y f q U
Allowed p T (claim width height lent x y target f) q U = Outcome p width height lent x y target q f × (U ≡ T)

-- the call was refused, or it stated the bitmap's own sides
abbrev pub OwnSides : ℕ → ℕ → Event → Type 0
OwnSides w h (look width height lent x y (found a)) = (width ≡ w) × (height ≡ h)
OwnSides w h (look width height lent x y (refused n)) = Unit {0}
OwnSides w h (claim width height lent x y target (found c)) = (width ≡ w) × (height ≡ h)
OwnSides w h (claim width height lent x y target (refused n)) = Unit {0}

-- the calls E, the latest first, lead from the bitmap B, which is w by h, and the empty table to a picture and a table
pub data Run (B : List ℕ) (w h : ℕ) : List Event → List ℕ → Table → Type 0 where
  begin : Run B w h [] B empty_table
  next : {E : List Event} {p : List ℕ} {T : Table} → Run B w h E p T → (e : Event) (q : List ℕ) (U : Table) → OwnSides w h e → Allowed p T e q U → Run B w h (e ∷ E) q U

-- the call is an accepted claim of the piece that holds (a, b), with the target c
abbrev pub Claims : List ℕ → ℕ → ℕ → Event → ℕ → ℕ → ℕ → Type 0
Claims B w h (look width height lent x y f) a b c = ⊥
Claims B w h (claim width height lent x y target (found counts)) a b c = BitmapPiece B w h x y a b × (target ≡ c)
Claims B w h (claim width height lent x y target (refused n)) a b c = ⊥

-- it claims that piece with no target at all
abbrev pub Spares : List ℕ → ℕ → ℕ → Event → ℕ → ℕ → Type 0
Spares B w h e a b = (c : ℕ) → Claims B w h e a b c → ⊥

-- the latest accepted claim of the piece that holds (a, b) gave it the target c
abbrev pub Latest : List ℕ → ℕ → ℕ → List Event → ℕ → ℕ → ℕ → Type 0
Latest B w h [] a b c = ⊥
Latest B w h (e ∷ E) a b c = Claims B w h e a b c ⊎ (Spares B w h e a b × Latest B w h E a b c)

-- no claim of the piece that holds (a, b) was accepted
abbrev pub Unclaimed : List ℕ → ℕ → ℕ → List Event → ℕ → ℕ → Type 0
Unclaimed B w h [] a b = Unit {0}
Unclaimed B w h (e ∷ E) a b = Spares B w h e a b × Unclaimed B w h E a b
