-- What a lookup's parts may ask: its pixel is in the picture, and each fill that it makes can be made. Assumes nothing.
use Prim.Native.Nat.{ℕ, ◌+◌, ◌*◌, ◌<◌, ◌≤◌}
use native.Mathlib.Nat.{mul-le-mul}
use native.Mathlib.Omega.{arith}
use mathlib.Core.Path.{◌≡◌, refl, sym, ap, ◌∙◌, subst}
use mathlib.Core.List.{List}
use lib.ListN.{length}
use Rattle.picture.specs.Sides.{Seeded}
use Rattle.pieces.specs.Picture.{px}
use Rattle.pieces.specs.Piece.{Piece, Pixels}
use Rattle.pieces.proofs.Chains.{last_of}
use Rattle.pieces.proofs.Index.{in_picture}
use Rattle.pieces.proofs.Paints.{pixels_few}
use Rattle.pieces.proofs.Rows.{room_enough}
use Rattle.fill.specs.Fill.{Fillable}
use Rattle.fill.specs.Fill.{Sized as Filled}
use Rattle.fill.specs.Fold.{Counted}
use Rattle.fill.specs.declared.paint.Counts.{Counts}
use Rattle.fill.proofs.Filling.{can_fill}
use Rattle.fill.proofs.Laws.{pixels_counted}
use Rattle.table.specs.declared.Entry.{Entry}
use Rattle.table.specs.declared.Table.{Table}
use Rattle.regions.specs.Tests.{Lookable}
use Rattle.regions.specs.Lookup.{Measures, FilledBack, in_paint, out_of_paint}
use Rattle.regions.proofs.Unique.{back_length}

-- the sides fit the stack's entries
pub fits_stack : (p : List ℕ) {w h lent x y : ℕ} → Seeded w h (length p) lent x y → Filled p w h
fits_stack p S = let Z = S.sized in record { size = Z.whole; wide = omega (arith, Z.wide); tall = omega (arith, Z.tall) }

-- a pixel's place in the picture
pub place : {p : List ℕ} {w h x y : ℕ} → Filled p w h → x < w → y < h → y * w + x < length p
place {p} {w} {h} {x} {y} S hx hy = in_picture w h p S.size x y hx hy

pub seed_place : {p : List ℕ} {w h lent : ℕ} {T : Table} {x y : ℕ} → Lookable p w h lent T x y → y * w + x < length p
seed_place {p} L = place (fits_stack p L.seeded) L.seeded.in_x L.seeded.in_y

-- a pixel of a picture that is lent an entry a pixel can be filled with any other byte
pub can_paint : {p : List ℕ} {w h x y t lent : ℕ} → Filled p w h → x < w → y < h → w * h ≤ lent → (px p w x y ≡ t → ⊥) → Fillable p w h x y t lent
can_paint {p} {w} {h} {x} {y} {t} {lent} S hx hy room other = record { sized = S; in_x = hx; in_y = hy; other = other; enough = room_enough p w h x y hx hy lent room }

-- a black pixel with any number
pub can_number : {p : List ℕ} {w h lent x y : ℕ} (k : ℕ) → Seeded w h (length p) lent x y → px p w x y ≡ 1 → Fillable p w h x y (5 + k) lent
can_number {p} k S black = can_paint (fits_stack p S) S.in_x S.in_y S.room (λ e. omega arith)

-- also after the piece of another entry was filled back: what was black stays black
pub still_black : {p : List ℕ} {w h : ℕ} {e : Entry} {k : ℕ} {m : List ℕ} {x y : ℕ} → FilledBack p w h e k m → x < w → y < h → px p w x y ≡ 1 → px m w x y ≡ 1
still_black {x = x} {y = y} (in_paint s P) hx hy black = P.rest x y hx hy (λ c. let b = (last_of c).2 in omega arith) ∙ black
still_black {w = w} {x = x} {y = y} (out_of_paint s e) hx hy black = ap (λ (v : List ℕ). px v w x y) e ∙ black

pub can_number_again : {p : List ℕ} {w h lent room x y : ℕ} {e : Entry} {k : ℕ} {m : List ℕ} → Seeded w h (length p) lent x y → lent ≤ room → px p w x y ≡ 1 → FilledBack p w h e k m → Fillable m w h x y (5 + k) room
can_number_again {p} S more black B =
    let shows = still_black B S.in_x S.in_y black in
    let F = fits_stack p S in
    can_paint (record { size = back_length B ∙ F.size; wide = F.wide; tall = F.tall }) S.in_x S.in_y (omega (arith, S.room)) (λ e. omega arith)

-- what a fill counts is the piece's pixels, and they are few
module _ {p : List ℕ} {w h x y t lent : ℕ} {c : Counts} (F : Fillable p w h x y t lent) (C : Counted p w h x y t c) where
  counted : Pixels (Piece p w h x y) c.pixels
  counted = subst (Pixels (Piece p w h x y)) (sym C.pixels) (pixels_counted (can_fill F))

  pub few_pixels : c.pixels ≤ 1024 * 1024
  few_pixels = omega (arith, pixels_few p w h x y counted, mul-le-mul F.sized.wide F.sized.tall)

  pub measured : Measures p w h x y (record { x = x; y = y; px = c.pixels })
  measured = record { seed_x = refl; seed_y = refl; pixels = counted }
