-- How `once_each` goes down an age order: what it has seen is marked. Assumes nothing.
use Prim.Native.Nat.{ℕ, zero, suc, ◌-◌, ◌≤◌, ◌<◌}
use native.Mathlib.Omega.{arith}
use mathlib.Core.Path.{◌≡◌, refl, sym, ◌∙◌}
use mathlib.Core.List.{List, [], ◌∷◌}
use mathlib.Core.Bool.{Bool, true, false, and-false}
use lib.ListN.{length, get_or, set, take, drop, replicate, length-set, drop_of_length-le}
use lib.Seq.{drop-cons, get_or-set_same, get_or-set_other, get_or-take, length-take-le}
use lib.Dec.{eqb, ltb}
use borrow.Author.Tests.{eq-eqb, ne_eqb, eqb-true, eqb-false, le-ltb, lt-ltb, ltb-true, ltb-false}
use Rattle.table.specs.Age.{times}
use Rattle.table.specs.Sound.{once_each}

-- from place i on, the first n of the age order are right, and just these numbers are marked
pub record Marked (n : ℕ) (age : List ℕ) (seen : List Bool) (i : ℕ) : Type 0 where
  pub up_to : i ≤ n
  pub whole : n ≤ length age
  pub size : length seen ≡ 256
  pub right : once_each n (drop i (take n age)) ≡ true
  pub marks : (k : ℕ) → get_or seen k false ≡ ltb 0 (times k (drop i (take n age)))

-- a rest that is not right makes the whole wrong
once_wrong : (n i : ℕ) (l : List ℕ) → once_each n (drop i l) ≡ false → once_each n l ≡ false
unfolding once_each
once_wrong n zero l h = h
once_wrong n (suc i) [] h = h
once_wrong n (suc i) (x ∷ l) h = rw (once_wrong n i l h, and-false (eqb (times x l) 0), and-false (ltb x n))

none_marked : (n k : ℕ) → get_or (replicate n false) k false ≡ false
none_marked zero k = refl
none_marked (suc n) zero = refl
none_marked (suc n) (suc k) = none_marked n k

pub mark_begin : (n : ℕ) (age : List ℕ) → n ≤ length age → Marked n age (replicate 256 false) n
unfolding once_each times
mark_begin n age h =
    let none : drop n (take n age) ≡ [] = drop_of_length-le (take n age) {i = n} (omega (arith, length-take-le n age h)) in
    record { up_to = omega arith; whole = h; size = refl; right = rw none; marks = λ k. rw none (none_marked 256 k) }

module _ {n : ℕ} {age : List ℕ} {seen : List Bool} {i : ℕ} (M : Marked n age seen i) (more : 0 < i) where
  abbrev x : ℕ
  x = get_or age (i - 1) 0

  abbrev rest : List ℕ
  rest = drop i (take n age)

  down : drop (i - 1) (take n age) ≡ x ∷ rest
  down =
      let s : suc (i - 1) ≡ i = omega arith in
      let h : i - 1 < n = omega (arith, M.up_to) in
      drop-cons (take n age) (i - 1) 0 (omega (arith, length-take-le n age M.whole)) ∙ rw (s, get_or-take n age (i - 1) 0 h)

  pub mark_large : n ≤ x → false ≡ once_each n (take n age)
  unfolding once_each
  mark_large h = sym (once_wrong n (i - 1) (take n age) (rw (down, le-ltb x n h)))

  pub mark_again : get_or seen x false ≡ true → false ≡ once_each n (take n age)
  unfolding once_each
  mark_again h =
      let t : 0 < times x rest = ltb-true 0 _ (sym (M.marks x) ∙ h) in
      sym (once_wrong n (i - 1) (take n age) (rw (down, ne_eqb (times x rest) 0 (omega arith), and-false (ltb x n))))

  pub mark_more : x < n → x < 256 → get_or seen x false ≡ false → Marked n age (set seen x true) (i - 1)
  unfolding once_each times
  mark_more low fits new =
      let t : times x rest ≤ 0 = ltb-false 0 _ (sym (M.marks x) ∙ new) in
      let none : times x rest ≡ 0 = omega arith in
      record {
        up_to = omega (arith, M.up_to);
        whole = M.whole;
        size = length-set seen x true ∙ M.size;
        right = rw (down, lt-ltb x n low, none, M.right);
        marks = λ k. rw down (marked k (eqb x k) refl);
      }
    where
      marked : (k : ℕ) (b : Bool) → eqb x k ≡ b → get_or (set seen x true) k false ≡ ltb 0 (times k (x ∷ rest))
      marked k true e = rw (← eqb-true x k e, eq-eqb x x refl, get_or-set_same seen x true false (omega (arith, M.size)), lt-ltb 0 (suc (times k rest)) (omega arith))
      marked k false e = rw (e, get_or-set_other seen x k true false (λ g. eqb-false x k e (sym g)), M.marks k)

pub mark_end : {n : ℕ} {age : List ℕ} {seen : List Bool} {i : ℕ} → Marked n age seen i → i ≡ 0 → true ≡ once_each n (take n age)
mark_end M z = sym (rw z at M.right)
