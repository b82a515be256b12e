-- Both averages along a row, one from each end: where the run stands after some columns, one column more, and its end. Assumes nothing.
use Prim.Native.Nat.{ℕ, suc, ◌+◌, ◌*◌, ◌≤◌, ◌<◌}
use mathlib.Core.Path.{◌≡◌, refl, sym, ap, ◌∙◌}
use mathlib.Core.List.{List, [], ◌∷◌, ◌++◌, reverse, append_assoc, append-nil, reverse-append, reverse-cons}
use native.Mathlib.Omega.{arith}
use native.Mathlib.Numerals.{add-one}
use lib.ListN.{length, get_or, take, drop, set, length-set, length-reverse}
use lib.Seq.{drop-cons, drop-length, take-suc, take-suc-set, slice, slice-cons, get_or-set_same, drop-set-lt, take-set-lt}
use Rattle.prepare.specs.Threshold.{step, after, along, from_right}
use Rattle.prepare.proofs.Reciprocal.{step_low}
use Rattle.prepare.specs.Run.{Kept}

pub along_length : (s average : ℕ) (row : List ℕ) → length (along s average row) ≡ length row
unfolding along
along_length s average [] = refl
along_length s average (p ∷ row) = ap suc (along_length s (step s average p) row)

pub right_length : (s average : ℕ) (row : List ℕ) → length (from_right s average row) ≡ length row
unfolding from_right
right_length s average row = rw (length-reverse, along_length, length-reverse)

-- the last column is the first that a run from the right meets
right_snoc : (s average : ℕ) (row : List ℕ) (p : ℕ) → from_right s average (row ++ (p ∷ [])) ≡ from_right s (step s average p) row ++ (step s average p ∷ [])
unfolding from_right along
right_snoc s average row p = rw (reverse-append row (p ∷ []), reverse-cons (step s average p) (along s (step s average p) (reverse row)))

after_snoc : (s average : ℕ) (row : List ℕ) (p : ℕ) → after s average (reverse (row ++ (p ∷ []))) ≡ after s (step s average p) (reverse row)
after_snoc s average row p = rw (reverse-append row (p ∷ []))

-- after x columns: a has come from the left to column x, b from the right to column r, and what is kept so far and what is still to come make the whole
pub record Midway (s left right : ℕ) (row lefts rights : List ℕ) (a b x r : ℕ) : Type 0 where
  pub meets : x + r ≡ length row
  pub left_room : length row ≤ length lefts
  pub right_room : length row ≤ length rights
  pub a_low : a ≤ 255 * s
  pub b_low : b ≤ 255 * s
  pub lefts_whole : take x lefts ++ along s a (drop x row) ≡ along s left row
  pub rights_whole : from_right s b (take r row) ++ slice r (length row) rights ≡ from_right s right row
  pub a_whole : after s a (drop x row) ≡ after s left row
  pub b_whole : after s b (reverse (take r row)) ≡ after s right (reverse row)

-- one column more from the left
along_more : (s a : ℕ) (row lefts : List ℕ) (x : ℕ) → x < length row → x < length lefts
    → take x lefts ++ along s a (drop x row) ≡ take (x + 1) (set lefts x (step s a (get_or row x 0))) ++ along s (step s a (get_or row x 0)) (drop (x + 1) row)
unfolding along
along_more s a row lefts x h k = rw (add-one, drop-cons row x 0 h, take-suc-set lefts x (step s a (get_or row x 0)) k, append_assoc)

after_more : (s a : ℕ) (row : List ℕ) (x : ℕ) → x < length row → after s a (drop x row) ≡ after s (step s a (get_or row x 0)) (drop (x + 1) row)
after_more s a row x h = rw (add-one, drop-cons row x 0 h)

-- one column more from the right
right_more : (s b : ℕ) (row rights : List ℕ) (r : ℕ) → r < length row → length row ≤ length rights
    → from_right s b (take (suc r) row) ++ slice (suc r) (length row) rights ≡ from_right s (step s b (get_or row r 0)) (take r row) ++ slice r (length row) (set rights r (step s b (get_or row r 0)))
right_more s b row rights r h k =
    let b' = step s b (get_or row r 0) in
    let long : length row ≤ length (set rights r b') = simp length-set k in
    let same : slice (suc r) (length row) (set rights r b') ≡ slice (suc r) (length row) rights = rw (take-set-lt (length row) rights r b' h) (drop-set-lt (suc r) (take (length row) rights) r b' (omega arith)) in
    let kept : slice r (length row) (set rights r b') ≡ b' ∷ slice (suc r) (length row) rights =
    rw (slice-cons r (length row) (set rights r b') 0 h long, get_or-set_same rights r b' 0 (omega arith)) (ap (λ (l : List ℕ). b' ∷ l) same) in
    rw (kept, take-suc row r 0 h, right_snoc s b (take r row) (get_or row r 0), append_assoc)

after_right_more : (s b : ℕ) (row : List ℕ) (r : ℕ) → r < length row → after s b (reverse (take (suc r) row)) ≡ after s (step s b (get_or row r 0)) (reverse (take r row))
after_right_more s b row r h = rw (take-suc row r 0 h) (after_snoc s b (take r row) (get_or row r 0))

-- one column more from both ends: r columns were left, r' are left now, and q is r' as the loop has it
pub midway_goes_on : (s left right : ℕ) (row lefts rights : List ℕ) (a b x r r' q a' b' : ℕ) → 1 ≤ s → ((i : ℕ) → get_or row i 0 ≤ 255) → x < length row → r ≡ suc r' → q ≡ r'
    → a' ≡ step s a (get_or row x 0) → b' ≡ step s b (get_or row r' 0)
    → Midway s left right row lefts rights a b x r
    → Midway s left right row (set lefts x a') (set rights r' b') a' b' (x + 1) q
midway_goes_on s left right row lefts rights a b x r r' q a' b' some bytes h e d f g m =
    rw (d, f, g)
    record {
      meets = omega arith;
      left_room = simp length-set m.left_room;
      right_room = simp length-set m.right_room;
      a_low = step_low s a (get_or row x 0) some m.a_low (bytes x);
      b_low = step_low s b (get_or row r' 0) some m.b_low (bytes r');
      lefts_whole = sym (along_more s a row lefts x h (omega arith)) ∙ m.lefts_whole;
      rights_whole = sym (right_more s b row rights r' (omega arith) (omega arith)) ∙ (rw e at m.rights_whole);
      a_whole = sym (after_more s a row x h) ∙ m.a_whole;
      b_whole = sym (after_right_more s b row r' (omega arith)) ∙ (rw e at m.b_whole);
    }

pub midway_ends : (s left right : ℕ) (row lefts rights : List ℕ) (a b x r : ℕ) → length row ≤ x → Midway s left right row lefts rights a b x r
    → (a ≡ after s left row) × (b ≡ after s right (reverse row)) × Kept s left right row lefts rights
unfolding along from_right
midway_ends s left right row lefts rights a b x r h m =
    let x-end : x ≡ length row = omega arith in
    let r-end : r ≡ 0 = omega arith in (
      rw (x-end, drop-length row) at m.a_whole,
      rw r-end at m.b_whole,
      record { from_left = rw (x-end, drop-length row, append-nil) at m.lefts_whole; from_the_right = rw r-end at m.rights_whole },
    )
