-- Which stones are used, group by group, and after one group more. Assumes nothing.
use Prim.Native.Nat.{ℕ, suc, ◌+◌, ◌≤◌, ◌<◌}
use mathlib.Core.Path.{◌≡◌, refl, sym, ap, ◌∙◌}
use mathlib.Core.Bool.{Bool, true, false, ◌||◌}
use mathlib.Core.List.{List, [], ◌∷◌, ◌++◌}
use native.Mathlib.Numerals.{add-one}
use native.Mathlib.Omega.{arith}
use lib.Dec.{eqb}
use lib.ListN.{length, get_or, take, drop}
use lib.Seq.{drop-cons, drop-length, get_or-take, length-take-le}
use borrow.Author.Tests.{eq-eqb}
use Rattle.match_capstones.specs.declared.Pair.{Pair}
use Rattle.groupings.specs.Used.{names, is_used, pair_used}
use Rattle.groupings.specs.Held.{no_trio}
use Rattle.groupings.specs.declared.Trio.{Trio}

or_left : (a b : Bool) → a ≡ true → (a || b) ≡ true
or_left a b e = rw e

or_right : (a b : Bool) → b ≡ true → (a || b) ≡ true
or_right true b e = refl
or_right false b e = e

pub or_false : (a b : Bool) → (a || b) ≡ false → (a ≡ false) × (b ≡ false)
or_false true b e = let z : ◌≡◌ {A = ℕ} 0 1 = cc in absurd (omega arith)
or_false false b e = (refl, e)

or_with : (a b c : Bool) → (b ≡ true → c ≡ true) → (a || b) ≡ true → (a || c) ≡ true
or_with true b c g e = refl
or_with false b c g e = g e

-- a pair is used where one of its stones is
module _ (groups : List Trio) (pair : Pair) where
  pub h_used : is_used groups pair.h ≡ true → pair_used groups pair ≡ true
  h_used e = or_left (is_used groups pair.h) (is_used groups pair.v) e

  pub v_used : is_used groups pair.v ≡ true → pair_used groups pair ≡ true
  v_used e = or_right (is_used groups pair.h) (is_used groups pair.v) e

  pub neither_used : is_used groups pair.h ≡ false → is_used groups pair.v ≡ false → pair_used groups pair ≡ false
  neither_used e f = rw (e, f)

-- from the group at k on
used_step : (l : List Trio) (k i : ℕ) → k < length l → is_used (drop k l) i ≡ (names (get_or l k no_trio) i || is_used (drop (suc k) l) i)
unfolding is_used
used_step l k i low = rw (drop-cons l k no_trio low)

-- the groups are the first n of an array: none of the first k names stone i, and the next does, does not, or is past the end
module _ (all : List Trio) (n k i : ℕ) (whole : n ≤ length all) where
  long : length (take n all) ≡ n
  long = length-take-le n all whole

  module _ (low : k < n) (so_far : is_used (drop k (take n all)) i ≡ is_used (take n all) i) where
    one : is_used (drop k (take n all)) i ≡ (names (get_or all k no_trio) i || is_used (drop (suc k) (take n all)) i)
    one = used_step (take n all) k i (omega (arith, long)) ∙ ap (λ (t : Trio). names t i || is_used (drop (suc k) (take n all)) i) (get_or-take n all k no_trio low)

    pub used_hit : names (get_or all k no_trio) i ≡ true → is_used (take n all) i ≡ true
    used_hit e = sym so_far ∙ one ∙ or_left (names (get_or all k no_trio) i) (is_used (drop (suc k) (take n all)) i) e

    pub used_miss : names (get_or all k no_trio) i ≡ false → is_used (drop (k + 1) (take n all)) i ≡ is_used (take n all) i
    used_miss e = rw add-one (sym (one ∙ ap (λ (b : Bool). b || is_used (drop (suc k) (take n all)) i) e) ∙ so_far)

  pub used_none : n ≤ k → k ≤ n → is_used (drop k (take n all)) i ≡ is_used (take n all) i → is_used (take n all) i ≡ false
  unfolding is_used
  used_none above below so_far =
      let at : k ≡ length (take n all) = omega (arith, long) in
      let none : drop k (take n all) ≡ [] = ap (λ (j : ℕ). drop j (take n all)) at ∙ drop-length (take n all) in
      sym so_far ∙ ap (λ (l : List Trio). is_used l i) none

pub used_still : (l more : List Trio) (i : ℕ) → is_used l i ≡ true → is_used (l ++ more) i ≡ true
unfolding is_used
used_still [] more i e = let z : ◌≡◌ {A = ℕ} 0 1 = cc in absurd (omega arith)
used_still (t ∷ l) more i e = or_with (names t i) (is_used l i) (is_used (l ++ more) i) (used_still l more i) e

pub used_now : (l : List Trio) (t : Trio) (i : ℕ) → names t i ≡ true → is_used (l ++ (t ∷ [])) i ≡ true
unfolding is_used
used_now [] t i e = or_left (names t i) false e
used_now (s ∷ l) t i e = or_right (names s i) (is_used (l ++ (t ∷ [])) i) (used_now l t i e)

pub names_first : (t : Trio) → names t t.first ≡ true
unfolding names
names_first t = rw (eq-eqb t.first t.first refl)

pub names_third : (t : Trio) → names t t.third ≡ true
unfolding names
names_third t =
    or_right (eqb t.first t.third) (eqb t.second t.third || eqb t.third t.third)
    (or_right (eqb t.second t.third) (eqb t.third t.third) (eq-eqb t.third t.third refl))
