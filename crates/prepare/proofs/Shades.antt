-- A row in black and white, column by column: after some columns, and one column more. Assumes nothing.
use Prim.Native.Nat.{ℕ, suc, ◌+◌, ◌*◌, ◌≤◌, ◌<◌}
use mathlib.Core.Path.{◌≡◌, refl}
use mathlib.Core.List.{List, ◌++◌, append_assoc, append-nil, zip_with}
use native.Mathlib.Omega.{arith}
use native.Mathlib.Numerals.{add-one}
use borrow.Author.Tests.{le-leb, lt-leb}
use lib.ListN.{length, get_or, take, drop, set, drop_of_length-le}
use lib.Seq.{drop-cons, take-suc-set, drop-set-lt, take_all, length-take-le, get_or-take}
use Rattle.prepare.specs.Threshold.{shade}
use Rattle.prepare.proofs.Reciprocal.{below}

-- the shade with no division
pub shade_black : (s pixel sum : ℕ) → 1 ≤ s → (pixel + 1) * (40 * s) ≤ sum * 19 → shade s pixel sum ≡ 1
unfolding shade
shade_black s pixel sum some h = rw (below s pixel sum some, le-leb ((pixel + 1) * (40 * s)) (sum * 19) h)

pub shade_white : (s pixel sum : ℕ) → 1 ≤ s → sum * 19 < (pixel + 1) * (40 * s) → shade s pixel sum ≡ 0
unfolding shade
shade_white s pixel sum some h = rw (below s pixel sum some, lt-leb ((pixel + 1) * (40 * s)) (sum * 19) h)

-- what is shaded so far, and the rest by its columns
pub shading : ℕ → List ℕ → List ℕ → List ℕ → ℕ → List ℕ
shading s row lefts rights x = take x row ++ zip_with (shade s) (drop x row) (zip_with ◌+◌ (drop x lefts) (drop x rights))

pub shading_starts : (s : ℕ) (row lefts rights : List ℕ) → shading s row lefts rights 0 ≡ zip_with (shade s) row (zip_with ◌+◌ lefts rights)
unfolding shading
shading_starts s row lefts rights = refl

goes_on : (s : ℕ) (row lefts rights : List ℕ) (x v : ℕ) → x < length row → x < length lefts → x < length rights → v ≡ shade s (get_or row x 0) (get_or lefts x 0 + get_or rights x 0)
    → shading s row lefts rights x ≡ shading s (set row x v) lefts rights (x + 1)
unfolding shading zip_with
goes_on s row lefts rights x v h j k e = rw (add-one, take-suc-set row x v h, drop-set-lt (suc x) row x v (omega arith), drop-cons row x 0 h, drop-cons lefts x 0 j, drop-cons rights x 0 k, append_assoc, e)

-- one column more, by the averages that are kept for n columns
pub shading_goes_on : (s n : ℕ) (row lefts rights : List ℕ) (x v : ℕ) → n ≤ length lefts → n ≤ length rights → x < length row → x < n → v ≡ shade s (get_or row x 0) (get_or lefts x 0 + get_or rights x 0)
    → shading s row (take n lefts) (take n rights) x ≡ shading s (set row x v) (take n lefts) (take n rights) (x + 1)
shading_goes_on s n row lefts rights x v j k h l e =
    let left_end = length-take-le n lefts j in
    let right_end = length-take-le n rights k in
    goes_on s row (take n lefts) (take n rights) x v h (omega arith) (omega arith) (rw (get_or-take n lefts x 0 l, get_or-take n rights x 0 l) e)

pub shading_ends : (s : ℕ) (row lefts rights : List ℕ) (x : ℕ) → length row ≤ x → shading s row lefts rights x ≡ row
unfolding shading zip_with
shading_ends s row lefts rights x h = rw (take_all x row h, drop_of_length-le row {i = x} h, append-nil)
