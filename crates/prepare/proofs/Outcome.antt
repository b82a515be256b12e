-- The picture in black and white: as long as the grey one, accepted as a bitmap, and all white where it is at most 15 wide. Assumes nothing.
use Prim.Native.Nat.{ℕ, zero, suc, ◌+◌, ◌-◌, ◌*◌, ◌/◌, ◌≤◌}
use mathlib.Core.Path.{◌≡◌, refl, sym, ap, ◌∙◌}
use mathlib.Core.Bool.{Bool, true, false, cond}
use mathlib.Core.List.{List, [], ◌∷◌, reverse, zip_with, reverse-reverse}
use native.Mathlib.Omega.{arith}
use native.Mathlib.Nat.{mul-zero}
use lib.Dec.{ltb, leb}
use lib.ListN.{length, take, drop, replicate, length-append, length-drop, replicate-append-replicate}
use lib.Seq.{length-take-le}
use borrow.Author.Tests.{le-ltb}
use Rattle.picture.specs.Sides.{Sized}
use Rattle.picture.specs.Bitmap.{bitmap, Accepted}
use Rattle.picture.specs.Colour.{byte_of}
use Rattle.picture.specs.declared.PixelColor.TheVariants.{White, Black}
use Rattle.picture.proofs.Bitmaps.{bitmap_append}
use Rattle.prepare.specs.Threshold.{span, step, after, along, from_right, sums, shade, shaded, thresholded}
use Rattle.prepare.proofs.Runs.{along_length, right_length}
use Rattle.prepare.proofs.Rows.{turned, rows_turned}

-- a row keeps its length
zip_length : {A B C : Type 0} (f : A → B → C) (xs : List A) (ys : List B) → length ys ≡ length xs → length (zip_with f xs ys) ≡ length xs
unfolding zip_with
zip_length f [] ys e = refl
zip_length f (x ∷ xs) [] e = absurd (omega arith)
zip_length f (x ∷ xs) (y ∷ ys) e = ap suc (zip_length f xs ys (omega arith))

shaded_length : (s left right : ℕ) (row : List ℕ) → length (shaded s left right row) ≡ length row
unfolding shaded sums
shaded_length s left right row =
    let sums-length : length (zip_with ◌+◌ (along s left row) (from_right s right row)) ≡ length row =
    zip_length ◌+◌ (along s left row) (from_right s right row) (right_length s right row ∙ sym (along_length s left row)) ∙ along_length s left row in
    zip_length (shade s) row _ sums-length

turned_length : (s width height left right : ℕ) (pic : List ℕ) → length pic ≡ width * height → length (turned s width height left right pic) ≡ length pic
unfolding turned
turned_length s width zero left right pic e = omega arith
turned_length s width (suc height) left right pic e =
    let row = take width pic in
    let fits : width ≤ length pic = omega arith in
    let row-long = length-take-le width pic fits in
    let rest-long = length-drop width pic in
    let more = turned_length s width height (after s right (reverse row)) (after s left row) (drop width pic) (omega arith) in
    rw length-append (omega (arith, shaded_length s left right row, more))

pub thresholded_length : (width height : ℕ) (pic : List ℕ) → length pic ≡ width * height → length (thresholded width height pic) ≡ length pic
unfolding thresholded
thresholded_length width height pic e = rw (rows_turned (span width) width height true 0 0 pic) (turned_length (span width) width height 0 0 pic e)

-- a shade is 0 or 1
shade_bit : (s pixel sum : ℕ) → leb (shade s pixel sum) 1 ≡ true
unfolding shade
shade_bit s pixel sum = go (ltb pixel (sum * 95 / (200 * s)))
  where
    go : (t : Bool) → leb (byte_of (cond t Black White)) 1 ≡ true
    go true = refl
    go false = refl

bits_bitmap : (s : ℕ) (row columns : List ℕ) → bitmap (zip_with (shade s) row columns) ≡ true
unfolding bitmap zip_with
bits_bitmap s [] columns = refl
bits_bitmap s (p ∷ row) [] = refl
bits_bitmap s (p ∷ row) (c ∷ columns) = rw (shade_bit s p c, bits_bitmap s row columns)

turned_bitmap : (s width height left right : ℕ) (pic : List ℕ) → bitmap (turned s width height left right pic) ≡ true
unfolding turned shaded bitmap
turned_bitmap s width zero left right pic = refl
turned_bitmap s width (suc height) left right pic = bitmap_append (shaded s left right (take width pic)) _ (bits_bitmap s (take width pic) _) (turned_bitmap s width height _ _ (drop width pic))

-- prepare's picture is accepted
pub prepared_accepted : (width height : ℕ) (pic : List ℕ) → Sized width height (length pic) → Accepted (thresholded width height pic) width height
unfolding thresholded
prepared_accepted width height pic z =
    let long = thresholded_length width height pic z.whole in
    record {
      sized = record { some_width = z.some_width; wide = z.wide; some_height = z.some_height; tall = z.tall; whole = long ∙ z.whole };
      bits = rw (rows_turned (span width) width height true 0 0 pic) (turned_bitmap (span width) width height 0 0 pic);
    }

-- where s is 1 an average is its last pixel, so a column's sum is twice its pixel: too little
along_one : (average : ℕ) (row : List ℕ) → along 1 average row ≡ row
unfolding along step
along_one average [] = refl
along_one average (p ∷ row) =
    let e : average * (1 - 1) / 1 + p ≡ p = omega arith in
    rw (e, along_one p row)

shade_one : (pixel : ℕ) → shade 1 pixel (pixel + pixel) ≡ 0
unfolding shade
shade_one pixel = rw (le-ltb pixel ((pixel + pixel) * 95 / (200 * 1)) (omega arith))

pairs_white : (row : List ℕ) → zip_with (shade 1) row (zip_with ◌+◌ row row) ≡ replicate (length row) 0
unfolding zip_with
pairs_white [] = refl
pairs_white (p ∷ row) = rw (shade_one p, pairs_white row)

shaded_white : (left right : ℕ) (row : List ℕ) → shaded 1 left right row ≡ replicate (length row) 0
unfolding shaded sums from_right
shaded_white left right row = rw (along_one left row, along_one right (reverse row), reverse-reverse row) (pairs_white row)

turned_white : (width height left right : ℕ) (pic : List ℕ) → length pic ≡ width * height → turned 1 width height left right pic ≡ replicate (width * height) 0
unfolding turned
turned_white width zero left right pic e = rw (mul-zero width)
turned_white width (suc height) left right pic e =
    let row-long = length-take-le width pic (omega arith) in
    let rest-long = length-drop width pic in
    let whole : width + width * height ≡ width * suc height = omega arith in
    rw (shaded_white left right (take width pic), row-long, turned_white width height _ _ (drop width pic) (omega arith), replicate-append-replicate, whole)

-- a picture of width 15 or less becomes all white
pub narrow_white : (width height : ℕ) (pic : List ℕ) → width ≤ 15 → length pic ≡ width * height → thresholded width height pic ≡ replicate (width * height) 0
unfolding thresholded
narrow_white width height pic narrow e =
    let one : span width ≡ 1 = omega arith in
    rw (one, rows_turned 1 width height true 0 0 pic) (turned_white width height 0 0 pic e)
