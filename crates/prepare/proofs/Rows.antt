-- The rows of a picture, one after the other: from row to row the two averages change sides. Assumes nothing.
use Prim.Native.Nat.{ℕ, zero, suc, ◌+◌, ◌-◌, ◌*◌, ◌≤◌, ◌<◌}
use mathlib.Core.Path.{◌≡◌, refl, sym, ap, ◌∙◌}
use mathlib.Core.Bool.{Bool, true, false, cond}
use mathlib.Core.List.{List, [], ◌++◌, reverse, append_assoc, append-nil}
use native.Mathlib.Omega.{arith}
use native.Mathlib.Nat.{mul_comm, mul-le-mul_right}
use lib.ListN.{length, take, drop, length-append, length-drop}
use lib.Seq.{take_all, take_at, drop_at, length-take-le}
use Rattle.refusals.specs.Limits.{longest_side}
use Rattle.prepare.specs.Threshold.{after, shaded, rows}
use Rattle.prepare.proofs.Bounds.{Low, low_take, low_drop, low_reverse, after_low}

-- rows in black and white, with the average that runs from the left along the first of them, and the one that runs from the right
unfoldable pub turned : (s width height : ℕ) → (left right : ℕ) → List ℕ → List ℕ
turned s width zero left right pic = []
turned s width (suc height) left right pic =
    let row = take width pic in
    shaded s left right row ++ turned s width height (after s right (reverse row)) (after s left row) (drop width pic)

-- v runs from the right on even rows and from the left on odd ones, u the other way: that is, they change sides
pub rows_turned : (s width height : ℕ) (even : Bool) (v u : ℕ) (pic : List ℕ) → rows s width height even v u pic ≡ turned s width height (cond even u v) (cond even v u) pic
unfolding rows turned
rows_turned s width zero even v u pic = refl
rows_turned s width (suc height) true v u pic = ap (λ (l : List ℕ). shaded s u v (take width pic) ++ l) (rows_turned s width height false (after s v (reverse (take width pic))) (after s u (take width pic)) (drop width pic))
rows_turned s width (suc height) false v u pic = ap (λ (l : List ℕ). shaded s v u (take width pic) ++ l) (rows_turned s width height true (after s v (take width pic)) (after s u (reverse (take width pic))) (drop width pic))

-- after y rows: those above are done, and with the rows still to come they make the whole
pub record Onward (s width height : ℕ) (before pic lefts rights : List ℕ) (left right base y : ℕ) : Type 0 where
  pub within : y ≤ height
  pub here : base ≡ y * width
  pub long : length pic ≡ width * height
  pub bytes : Low 255 pic
  pub left_low : left ≤ 255 * s
  pub right_low : right ≤ 255 * s
  pub lefts_long : length lefts ≡ longest_side
  pub rights_long : length rights ≡ longest_side
  pub whole : take base pic ++ turned s width (height - y) left right (drop base pic) ≡ turned s width height 0 0 before

module _ (s width height : ℕ) (before pic lefts rights : List ℕ) (left right base y : ℕ) (m : Onward s width height before pic lefts rights left right base y) where
  -- a row that is still to come lies in the picture
  pub row_within : y < height → base + width ≤ length pic
  row_within h =
      let n = mul-le-mul_right width h in
      let e = mul_comm width height in
      omega (arith, m.here, m.long)

  pub onward_ends : height ≤ y → pic ≡ turned s width height 0 0 before
  unfolding turned
  onward_ends h =
      let last : y ≡ height = omega (arith, m.within) in
      let done : height - y ≡ 0 = omega arith in
      let end : length pic ≤ base = omega (arith, m.long, m.here, ap (λ (n : ℕ). n * width) last, mul_comm width height) in
      sym (rw (append-nil, take_all base pic end)) ∙ (rw done at m.whole)

  -- one row more: it stands in the picture between the rows above and those below, and the averages have changed sides
  pub onward_goes_on : (k next : ℕ) (row lefts' rights' : List ℕ) (left' right' : ℕ) → y < height → 1 ≤ s → k ≡ width → next ≡ base + width → row ≡ shaded s left right (take k (drop base pic)) → length row ≡ length (take k (drop base pic))
      → Low 255 (take base pic ++ (row ++ drop k (drop base pic)))
      → left' ≡ after s right (reverse (take k (drop base pic))) → right' ≡ after s left (take k (drop base pic)) → length lefts' ≡ longest_side → length rights' ≡ longest_side
      → Onward s width height before (take base pic ++ (row ++ drop k (drop base pic))) lefts' rights' left' right' next (y + 1)
  unfolding turned
  onward_goes_on k next row lefts' rights' left' right' h some is below-row shade-row row-long bytes left_end right_end p q =
      let fits : base + width ≤ length pic = row_within h in
      let below = length-drop base pic in
      let line = take k (drop base pic) in
      let rest = drop k (drop base pic) in
      let line-long : length line ≡ k = length-take-le k (drop base pic) (omega arith) in
      let above-long : length (take base pic) ≡ base = length-take-le base pic (omega arith) in
      let rest-long = length-drop k (drop base pic) in
      let done-long : length (take base pic ++ row) ≡ base + width = rw length-append (omega arith) in
      let line_low : Low 255 line = low_take 255 k (drop base pic) (low_drop 255 base pic m.bytes) in
      let more : height - y ≡ suc (height - (y + 1)) = omega arith in
      let joined = sym (append_assoc (take base pic) row rest) in
      rw below-row
      record {
        within = omega arith;
        here = omega (arith, m.here);
        long = rw (length-append, length-append) (omega (arith, m.long));
        bytes = bytes;
        left_low = rw left_end (after_low s right (reverse line) some m.right_low (low_reverse 255 line line_low));
        right_low = rw right_end (after_low s left line some m.left_low line_low);
        lefts_long = p;
        rights_long = q;
        whole = rw (joined, take_at (take base pic ++ row) rest (base + width) done-long, drop_at (take base pic ++ row) rest (base + width) done-long, append_assoc, shade-row, left_end, right_end, is) (rw more at m.whole);
      }
