-- The test of refusal 9 is exact: it holds just where the table is sound. Assumes nothing.
use Prim.Native.Nat.{ℕ, zero, suc, ◌+◌, ◌-◌, ◌≤◌, ◌<◌}
use native.Mathlib.Decide.{ℕ_discrete, dec_lt}
use native.Mathlib.Omega.{arith}
use mathlib.Core.Path.{◌≡◌, refl, ap, subst, ◌∙◌}
use mathlib.Core.List.{List, [], ◌∷◌}
use mathlib.Core.Bool.{true, ◌&&◌, and-eq-true_iff}
use mathlib.Core.Logic.{◌↔◌, by_cases}
use lib.ListN.{length, get_or, take}
use lib.Seq.{length-take-le, get_or-take}
use lib.Dec.{eqb, ltb, leb}
use borrow.Author.Tests.{eq-eqb, ne_eqb, eqb-true, ltb-true, lt-ltb, leb-true, le-leb}
use Rattle.table.specs.Age.{times}
use Rattle.table.specs.Table.{most, entry_of, oldest_of}
use Rattle.table.specs.Sound.{OnceEach, Ordered, Inside, Sound, once_each, all_inside, sound_test}
use Rattle.table.proofs.Seeds.{seeds_inside, inside_seeds}
use Rattle.table.specs.declared.Table.{Table}

-- how many of l are below m
tally : ℕ → List ℕ → ℕ
tally zero l = 0
tally (suc m) l = times m l + tally m l

module _ (x : ℕ) (l : List ℕ) where
  tally_high : (m : ℕ) → m ≤ x → tally m (x ∷ l) ≡ tally m l
  unfolding tally times
  tally_high zero h = refl
  tally_high (suc m) h = let n : x ≡ m → ⊥ = λ e. omega arith in rw (ne_eqb x m n, tally_high m (omega arith))

  tally_low : (m : ℕ) → x < m → tally m (x ∷ l) ≡ suc (tally m l)
  unfolding tally times
  tally_low zero h = absurd (omega arith)
  tally_low (suc m) h =
      by_cases (ℕ_discrete x m)
      (λ e. rw (eq-eqb x m e, tally_high m (omega arith)) (omega arith))
      (λ n. rw (ne_eqb x m n, tally_low m (omega arith)) (omega arith))

tally_none : (m : ℕ) → tally m [] ≡ 0
unfolding tally times
tally_none zero = refl
tally_none (suc m) = rw (tally_none m)

-- where each stands once at most, as many as there are numbers means each of them
module _ (l : List ℕ) (few : (k : ℕ) → times k l ≤ 1) where
  tally_few : (m : ℕ) → tally m l ≤ m
  unfolding tally
  tally_few zero = omega arith
  tally_few (suc m) = omega (arith, few m, tally_few m)

  tally_full : (m : ℕ) → m ≤ tally m l → (k : ℕ) → k < m → times k l ≡ 1
  unfolding tally
  tally_full zero h k l = absurd (omega arith)
  tally_full (suc m) h k l =
      by_cases (ℕ_discrete k m)
      (λ e. rw e (omega (arith, few m, tally_few m)))
      (λ n. tally_full m (omega (arith, few m)) k (omega arith))

module _ (n : ℕ) where
  once_cons : (x : ℕ) (l : List ℕ) → once_each n (x ∷ l) ≡ true → (x < n) × (times x l ≡ 0) × (once_each n l ≡ true)
  unfolding once_each
  once_cons x l t =
      let a = (and-eq-true_iff (ltb x n) (eqb (times x l) 0 && once_each n l)).0 t in
      let b = (and-eq-true_iff (eqb (times x l) 0) (once_each n l)).0 a.1 in
      (ltb-true x n a.0, eqb-true (times x l) 0 b.0, b.1)

  once_low : (l : List ℕ) → once_each n l ≡ true → (k : ℕ) → n ≤ k → times k l ≡ 0
  unfolding times
  once_low [] t k h = refl
  once_low (x ∷ l) t k h =
      let c = once_cons x l t in
      let other : x ≡ k → ⊥ = λ e. omega (arith, c.0) in
      rw (ne_eqb x k other) (once_low l c.2 k h)

  once_few : (l : List ℕ) → once_each n l ≡ true → (k : ℕ) → times k l ≤ 1
  unfolding times
  once_few [] t k = omega arith
  once_few (x ∷ l) t k =
      let c = once_cons x l t in
      by_cases (ℕ_discrete x k)
      (λ e. rw (eq-eqb x k e) (omega (arith, ap (λ (j : ℕ). times j l) e, c.1)))
      (λ m. rw (ne_eqb x k m) (once_few l c.2 k))

  once_tally : (l : List ℕ) → once_each n l ≡ true → tally n l ≡ length l
  once_tally [] t = tally_none n
  once_tally (x ∷ l) t = let c = once_cons x l t in tally_low x l n c.0 ∙ ap suc (once_tally l c.2)

  few_once : (l : List ℕ) → ((k : ℕ) → times k l ≤ 1) → ((k : ℕ) → n ≤ k → times k l ≡ 0) → once_each n l ≡ true
  unfolding once_each times
  few_once [] few none = refl
  few_once (x ∷ l) few none =
      let here : suc (times x l) ≤ 1 = rw (eq-eqb x x refl) at (few x) in
      let low : n ≤ x → ⊥ = λ h. let z : suc (times x l) ≡ 0 = rw (eq-eqb x x refl) at (none x h) in omega arith in
      let last : times x l ≡ 0 = omega arith in
      let fewer : (k : ℕ) → times k l ≤ times k (x ∷ l) = λ k. by_cases (ℕ_discrete x k) (λ e. rw (eq-eqb x k e) (omega arith)) (λ m. rw (ne_eqb x k m) (omega arith)) in
      rw (lt-ltb x n (omega arith), last)
      (few_once l (λ k. omega (arith, fewer k, few k)) (λ k h. omega (arith, fewer k, none k h)))

  once_below : (l : List ℕ) (i : ℕ) → 0 < n → once_each n l ≡ true → get_or l i 0 < n
  once_below [] i some t = some
  once_below (x ∷ l) zero some t = (once_cons x l t).0
  once_below (x ∷ l) (suc i) some t = once_below l i some (once_cons x l t).2

  pub once_exact : (l : List ℕ) → length l ≡ n → (once_each n l ≡ true) ↔ OnceEach n l
  once_exact l len = (
    (λ t. record { each = tally_full l (once_few l t) n (omega (arith, once_tally l t)); no_other = once_low l t }),
    (λ o. few_once l (λ k. by_cases (dec_lt k n) (λ h. omega (arith, o.each k h)) (λ h. omega (arith, o.no_other k (omega arith)))) o.no_other),
  )

-- what the test says of a table, part by part
module _ (T : Table) (width height : ℕ) (t : sound_test T width height ≡ true) where
  parts : (leb T.n most ≡ true) × (once_each T.n (take T.n T.age) ≡ true) × (all_inside T.entries T.n width height ≡ true)
  unfolding sound_test
  parts =
      let a = (and-eq-true_iff (leb T.n most) _).0 t in
      let b = (and-eq-true_iff (once_each T.n (take T.n T.age)) (all_inside T.entries T.n width height)).0 a.1 in
      (a.0, b.0, b.1)

  pub test_few : T.n ≤ most
  test_few = leb-true T.n most parts.0

  pub test_seeds : (k : ℕ) → k < T.n → Inside (entry_of T k) width height
  test_seeds = seeds_inside T.entries T.n width height parts.2

  pub test_oldest : 0 < T.n → oldest_of T < T.n
  test_oldest some =
      let h : T.n - 1 < T.n = omega arith in
      subst (λ (k : ℕ). k < T.n) (get_or-take T.n T.age (T.n - 1) 0 h) (once_below T.n (take T.n T.age) (T.n - 1) some parts.1)

  pub test_ordered : most ≤ length T.age → Ordered T
  test_ordered whole =
      record {
        few = test_few;
        order = (once_exact T.n (take T.n T.age) (length-take-le T.n T.age (omega (arith, test_few)))).0 parts.1;
      }

-- refusal 9 is given to just the tables that are not sound
pub sound_exact : (T : Table) (width height : ℕ) → most ≤ length T.age → (sound_test T width height ≡ true) ↔ Sound T width height
unfolding sound_test
sound_exact T width height whole = (
  (λ t. record { ordered = test_ordered T width height t whole; seeds = test_seeds T width height t }),
  (λ s.
      let few : T.n ≤ most = s.ordered.few in
      rw (
        le-leb T.n most few,
        (once_exact T.n (take T.n T.age) (length-take-le T.n T.age (omega arith))).1 s.ordered.order,
        inside_seeds T.entries T.n width height s.seeds,
      )),
)
