-- The order in which a fill meets the rows of its piece, as a rule that computes. It has no other source: taken from the Rust, `flood_fill` of src/prepare.rs.
-- A turn takes the entry that was pushed last. Where its pixel is painted by now nothing happens. Else its row is painted and met, and entries are
-- pushed for the line above and then for the line below, each from left to right.
-- Throughout, p is the picture, w by h; f is the byte that is filled and t the byte that it is filled with; st is the stack, its latest entry first.
use Rattle.std.specs.Prelude.{ℕ, zero, suc, ◌+◌, ◌*◌, ◌-◌, List, [], ◌∷◌, ◌++◌, Bool, true, false, set, length, eqb, ltb}
use Rattle.pieces.specs.Picture.{px, Pixel, pixel}
use Rattle.pieces.specs.Row.{row}
use Rattle.pieces.specs.declared.Row.{Row}

-- the leftmost column that is reached from column x of line y over bytes f
unfoldable pub left_end : List ℕ → ℕ → ℕ → ℕ → ℕ → ℕ
left_end p w f y zero = zero
left_end p w f y (suc x) = elim (eqb (px p w x y) f) [ true ↦ left_end p w f y x | false ↦ suc x ]

-- the rightmost, at most n columns on
unfoldable pub right_end : List ℕ → ℕ → ℕ → ℕ → ℕ → ℕ → ℕ
right_end p w f y x zero = x
right_end p w f y x (suc n) = elim (eqb (px p w (suc x) y) f) [ true ↦ right_end p w f y (suc x) n | false ↦ x ]

-- the row of bytes f that holds (x, y)
unfoldable pub row_at : ℕ → ℕ → List ℕ → ℕ → ℕ → Row
row_at w f p x y = row (left_end p w f y x) (right_end p w f y x (w - 1 - x)) y

-- how many pixels a row has
abbrev pub width_of : Row → ℕ
width_of r = r.right - r.left + 1

-- p with t in n places from i on
unfoldable pub paint_run : List ℕ → ℕ → ℕ → ℕ → List ℕ
paint_run p i zero t = p
paint_run p i (suc n) t = set (paint_run p i n t) (i + n) t

-- p with a row painted t
unfoldable pub paint_row : ℕ → ℕ → List ℕ → Row → List ℕ
paint_row w t p r = paint_run p (r.y * w + r.left) (width_of r) t

-- an entry, made by `mk`, for each of n columns from x on at which bytes f begin; `on` says whether the column before has byte f too. The last goes first
unfoldable pub seeds : {A : Type 0} → (ℕ → A) → List ℕ → ℕ → ℕ → ℕ → ℕ → ℕ → Bool → List A → List A
seeds mk p w f y x zero on st = st
seeds mk p w f y x (suc n) on st =
    elim (eqb (px p w x y) f) [
      | true ↦ elim on [ true ↦ seeds mk p w f y (suc x) n true st | false ↦ seeds mk p w f y (suc x) n true (mk x ∷ st) ]
      | false ↦ seeds mk p w f y (suc x) n false st
    ]

-- entries for the line above the n columns from l on of line y, where there is one
unfoldable pub above : {A : Type 0} → ℕ → ℕ → (ℕ → ℕ → A) → List ℕ → ℕ → ℕ → ℕ → List A → List A
above w f mk p l n zero st = st
above w f mk p l n (suc y) st = seeds (λ x. mk x y) p w f y l n false st

-- entries for the line below
unfoldable pub below : {A : Type 0} → ℕ → ℕ → ℕ → (ℕ → ℕ → A) → List ℕ → ℕ → ℕ → ℕ → List A → List A
below w h f mk p l n y st = elim (ltb (suc y) h) [ true ↦ seeds (λ x. mk x (suc y)) p w f (suc y) l n false st | false ↦ st ]

-- the stack after the row r was met in the picture p
unfoldable pub seeded : ℕ → ℕ → ℕ → List ℕ → Row → List Pixel → List Pixel
seeded w h f p r st = below w h f pixel p r.left (width_of r) r.y (above w f pixel p r.left (width_of r) r.y st)

-- what a turn leaves: the picture, the stack, and the row met, if there is one
pub record Turned : Type 0 where
  pub pic : List ℕ
  pub stack : List Pixel
  pub met : List Row

abbrev pub turned : List ℕ → List Pixel → List Row → Turned
turned p st met = record { pic = p; stack = st; met = met }

-- the row r is met: it is painted, and entries are pushed beside it
unfoldable pub meet : ℕ → ℕ → ℕ → ℕ → List ℕ → Row → List Pixel → Turned
meet w h f t p r st = turned (paint_row w t p r) (seeded w h f (paint_row w t p r) r st) (r ∷ [])

-- a turn, in a picture w by h, of a fill from the byte f to the byte t
unfoldable pub turn : ℕ → ℕ → ℕ → ℕ → List ℕ → List Pixel → Turned
turn w h f t p [] = turned p [] []
turn w h f t p (e ∷ st) =
    elim (eqb (px p w e.col e.line) f) [
      | true ↦ meet w h f t p (row_at w f p e.col e.line) st
      | false ↦ turned p st []
    ]

-- where a fill stands: the picture, the stack with the latest entry first, the rows met with the latest first, and how many entries were pushed
pub record State : Type 0 where
  pub pic : List ℕ
  pub stack : List Pixel
  pub rows : List Row
  pub pushed : ℕ

abbrev pub state : List ℕ → List Pixel → List Row → ℕ → State
state p st rows pushed = record { pic = p; stack = st; rows = rows; pushed = pushed }

-- after a turn: one entry less, and those that it pushed
abbrev pub after : State → Turned → State
after s d = state d.pic d.stack (d.met ++ s.rows) (s.pushed + (length d.stack - (length s.stack - 1)))

-- after n turns
unfoldable pub turns : ℕ → ℕ → ℕ → ℕ → ℕ → State → State
turns w h f t zero s = s
turns w h f t (suc n) s = let s' = turns w h f t n s in after s' (turn w h f t s'.pic s'.stack)

-- a fill from (x, y) begins with the seed alone
abbrev pub begun : List ℕ → ℕ → ℕ → State
begun p x y = state p (pixel x y ∷ []) [] 1

-- and ends within as many turns as the picture has pixels (an empty stack stays as it is)
unfoldable pub filled : List ℕ → ℕ → ℕ → ℕ → ℕ → ℕ → State
filled p w h x y t = turns w h (px p w x y) t (w * h) (begun p x y)

-- the rows that a fill of the piece of (x, y) with t meets, the latest first, and how many entries it pushes
abbrev pub rows_met : List ℕ → ℕ → ℕ → ℕ → ℕ → ℕ → List Row
rows_met p w h x y t = (filled p w h x y t).rows

abbrev pub entries_pushed : List ℕ → ℕ → ℕ → ℕ → ℕ → ℕ → ℕ
entries_pushed p w h x y t = (filled p w h x y t).pushed
