-- What a fill and its step ask, and what a step answers. Definitions alone.
use Rattle.std.specs.Prelude.{ℕ, ◌*◌, ◌<◌, ◌≤◌, ◌≡◌, List, [], ◌∷◌, length}
use Rattle.pieces.specs.Picture.{px, Pixel}
use Rattle.pieces.specs.Count.{Mem}
use Rattle.pieces.specs.Piece.{Piece}
use Rattle.pieces.specs.Pairs.{Room}
use Rattle.pieces.specs.declared.Row.{Row}
use Rattle.fill.specs.Order.{turned, meet, turn}
use Rattle.fill.specs.Stack.{widest, held}
use Rattle.fill.specs.declared.step.Stepped.{Stepped}
use Rattle.fill.specs.declared.step.Stepped.TheVariants.{Met, Passed}

-- a picture w by h whose pixels fit the stack's entries
pub record Sized (p : List ℕ) (w h : ℕ) : Type 0 where
  pub size : length p ≡ w * h
  pub wide : w ≤ widest
  pub tall : h ≤ widest

-- the piece of (x, y) can be filled with t: the seed is in the picture and not of that byte, and the stack has room for what its piece pushes
pub record Fillable (p : List ℕ) (w h x y t room : ℕ) : Type 0 where
  pub sized : Sized p w h
  pub in_x : x < w
  pub in_y : y < h
  pub other : px p w x y ≡ t → ⊥
  pub enough : Room (Piece p w h x y) room

-- the row r can be met: it is in the picture, and what it pushes has room
pub record Meetable (p : List ℕ) (w h : ℕ) (r : Row) (f t : ℕ) (s : List ℕ) (sp : ℕ) : Type 0 where
  pub sized : Sized p w h
  pub order : r.left ≤ r.right
  pub wide : r.right < w
  pub deep : r.y < h
  pub room : length (meet w h f t p r (held s sp)).stack ≤ length s

-- it is met: from the picture p and the first sp entries of s that leaves p' and the first sp' entries of s'
pub record Meets (w h f t : ℕ) (p s : List ℕ) (sp : ℕ) (r : Row) (p' s' : List ℕ) (sp' : ℕ) : Type 0 where
  pub is : meet w h f t p r (held s sp) ≡ turned p' (held s' sp') (r ∷ [])

-- a step can be taken: there is an entry, all entries are in the picture, and what the step pushes has room
pub record Steppable (p : List ℕ) (w h f t : ℕ) (s : List ℕ) (sp : ℕ) : Type 0 where
  pub sized : Sized p w h
  pub some : 0 < sp
  pub fits : sp ≤ length s
  pub entries : (e : Pixel) → Mem e (held s sp) → (e.col < w) × (e.line < h)
  pub room : length (turn w h f t p (held s sp)).stack ≤ length s

-- what a step's answer says: the stack's new size, and the row met, if there is one
abbrev pub size_of : Stepped → ℕ
size_of (Met r sp) = sp
size_of (Passed sp) = sp

abbrev pub met_by : Stepped → List Row
met_by (Met r sp) = r ∷ []
met_by (Passed sp) = []

-- a step does one turn: from the picture p and the first sp entries of s it leaves p' and s', and answers a
pub record Steps (w h f t : ℕ) (p s : List ℕ) (sp : ℕ) (p' s' : List ℕ) (a : Stepped) : Type 0 where
  pub is : turn w h f t p (held s sp) ≡ turned p' (held s' (size_of a)) (met_by a)
