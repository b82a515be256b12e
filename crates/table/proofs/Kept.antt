-- Every operation leaves a sound table sound, its arrays whole. Assumes nothing.
use Prim.Native.Nat.{ℕ, suc, ◌+◌, ◌-◌, ◌<◌}
use native.Mathlib.Decide.{ℕ_discrete, dec_lt}
use native.Mathlib.Numerals.{add-one}
use native.Mathlib.Omega.{arith}
use mathlib.Core.Path.{◌≡◌, refl, sym, ap, ◌∙◌}
use mathlib.Core.List.{List, [], ◌∷◌, ◌++◌, reverse}
use mathlib.Core.Logic.{by_cases}
use lib.ListN.{length, get_or, set, take, drop, length-set, length-append, length-drop, length-reverse}
use lib.Seq.{length-take-le, take-append_seam, take-suc, take-suc-set, take-set-le, get_or-take, get_or-set_same, get_or-set_other}
use borrow.Author.Tests.{eq-eqb, ne_eqb}
use Rattle.table.specs.Age.{Stands, FirstAt, times, without, turned_round}
use Rattle.table.specs.Table.{most, blank, empty_table, oldest_of, newest, appended, rewritten, added, replaced, copy_of}
use Rattle.table.specs.Sound.{OnceEach, Ordered, Inside, Sound}
use Rattle.table.proofs.Times.{times_append, times_reverse, times_stands, stands_times, times_front}
use Rattle.table.specs.declared.Entry.{Entry}
use Rattle.table.specs.declared.Table.{Table}

-- a list with the same counts is as much in order
once_same : (n : ℕ) (l m : List ℕ) → ((k : ℕ) → times k m ≡ times k l) → OnceEach n l → OnceEach n m
once_same n l m same o = record { each = λ k h. same k ∙ o.each k h; no_other = λ k h. same k ∙ o.no_other k h }

without_length : (k : ℕ) (l : List ℕ) → 0 < times k l → suc (length (without k l)) ≡ length l
unfolding without times
without_length k [] h = absurd (omega arith)
without_length k (x ∷ l) h = by_cases (ℕ_discrete x k) (λ e. rw (eq-eqb x k e)) (λ n. rw (ne_eqb x k n) (ap suc (without_length k l (rw (ne_eqb x k n) at h))))

module _ (T : Table) (A : length T.age ≡ most) (O : Ordered T) where
  first : length (take T.n T.age) ≡ T.n
  first = length-take-le T.n T.age (omega (arith, O.few, A))

  -- the number of an entry stands in the age order
  pub number_stands : (k : ℕ) → k < T.n → Stands k T.age
  number_stands k h =
      let s = times_stands k (take T.n T.age) (omega (arith, O.order.each k h)) in
      let i : s.0 < T.n = omega (arith, s.1, first) in
      (s.0, omega (arith, O.few, A), sym (get_or-take T.n T.age s.0 0 i) ∙ s.2)

  -- what stands in the age order is the number of an entry
  pub oldest_below : 0 < T.n → oldest_of T < T.n
  oldest_below some =
      let h : T.n - 1 < T.n = omega arith in
      let t = stands_times (oldest_of T) (take T.n T.age) (T.n - 1) (omega (arith, first)) (get_or-take T.n T.age (T.n - 1) 0 h) in
      by_cases (dec_lt (oldest_of T) T.n) (λ l. l) (λ m. absurd (omega (arith, O.order.no_other (oldest_of T) (omega arith))))

  -- the oldest stands at the end of the age order, and at no earlier place
  pub oldest_first : 0 < T.n → FirstAt (oldest_of T) (T.n - 1) T.age
  unfolding times
  oldest_first some =
      let k = oldest_of T in
      let once : times k (take T.n T.age) ≡ 1 = O.order.each k (oldest_below some) in
      let is : T.n ≡ suc (T.n - 1) = omega arith in
      let inside : T.n - 1 < length T.age = omega (arith, O.few, A) in
      let parts : times k (take T.n T.age) ≡ times k (take (T.n - 1) T.age) + times k (k ∷ []) =
      ap (λ (j : ℕ). times k (take j T.age)) is ∙ ap (times k) (take-suc T.age (T.n - 1) 0 inside) ∙ times_append k (take (T.n - 1) T.age) (k ∷ []) in
      let last : times k (k ∷ []) ≡ 1 = rw (eq-eqb k k refl) in
      record { inside = inside; is_k = refl; not_before = omega arith }

  -- the next number, written behind the others, stands at no earlier place
  pub next_first : T.n < most → FirstAt T.n T.n (set T.age T.n T.n)
  next_first room =
      record {
        inside = omega (arith, length-set T.age T.n T.n, A);
        is_k = get_or-set_same T.age T.n T.n 0 (omega (arith, A));
        not_before = ap (times T.n) (take-set-le T.n T.age T.n T.n (omega arith)) ∙ O.order.no_other T.n (omega arith);
      }

  module _ (k : ℕ) (h : k < T.n) where
    newest_length : length (newest T k).age ≡ most
    newest_length = let s = number_stands k h in without_length k T.age (stands_times k T.age s.0 s.1 s.2) ∙ A

    ordered_newest : Ordered (newest T k)
    ordered_newest = record { few = O.few; order = once_same T.n (take T.n T.age) _ (λ j. times_front j k T.n T.age (omega (arith, O.order.each k h))) O.order }

  module _ (e : Entry) (room : T.n < most) where
    last_times : (k : ℕ) → times k (take (T.n + 1) (set T.age T.n T.n)) ≡ times k (take T.n T.age) + times k (T.n ∷ [])
    last_times k = rw (add-one, take-suc-set T.age T.n T.n (omega (arith, A)), times_append)

    ordered_appended : Ordered (appended T e)
    unfolding times
    ordered_appended =
        record {
          few = omega arith;
          order =
              record {
                each = λ k h.
                    last_times k
                    ∙ by_cases (ℕ_discrete T.n k)
                    (λ g. rw (eq-eqb T.n k g) (omega (arith, O.order.no_other k (omega arith))))
                    (λ m. rw (ne_eqb T.n k m) (omega (arith, O.order.each k (omega arith))));
                no_other = λ k h. let m : T.n ≡ k → ⊥ = λ g. omega arith in last_times k ∙ rw (ne_eqb T.n k m) (omega (arith, O.order.no_other k (omega arith)));
              };
        }

  copy_length : length (copy_of T).age ≡ most
  unfolding turned_round
  copy_length = simp (length-append, length-reverse, length-drop) (omega (arith, first, O.few, A))

  ordered_copy : Ordered (copy_of T)
  unfolding turned_round
  ordered_copy =
      let r = reverse (take T.n T.age) in
      let len : length r ≡ T.n = length-reverse (take T.n T.age) ∙ first in
      let front : take T.n (r ++ drop T.n T.age) ≡ r = ap (λ (j : ℕ). take j (r ++ drop T.n T.age)) (sym len) ∙ take-append_seam r (drop T.n T.age) in
      record { few = O.few; order = once_same T.n (take T.n T.age) _ (λ k. rw front (times_reverse k (take T.n T.age))) O.order }

-- a table as each operation leaves it: its arrays whole, as the type says, and sound
pub record Proper (T : Table) (width height : ℕ) : Type 0 where
  pub entries : length T.entries ≡ most
  pub age : length T.age ≡ most
  pub sound : Sound T width height

pub proper_empty : (width height : ℕ) → Proper empty_table width height
unfolding empty_table times
proper_empty width height =
    record {
      entries = refl;
      age = refl;
      sound =
          record {
            ordered = record { few = omega arith; order = record { each = λ k h. absurd (omega arith); no_other = λ k h. refl } };
            seeds = λ k h. absurd (omega arith);
          };
    }

module _ {T : Table} {width height : ℕ} (P : Proper T width height) where
  pub proper_newest : (k : ℕ) → k < T.n → Proper (newest T k) width height
  proper_newest k h =
      record {
        entries = P.entries;
        age = newest_length T P.age P.sound.ordered k h;
        sound = record { ordered = ordered_newest T P.age P.sound.ordered k h; seeds = P.sound.seeds };
      }

  pub proper_copy : Proper (copy_of T) width height
  proper_copy =
      record {
        entries = P.entries;
        age = copy_length T P.age P.sound.ordered;
        sound = record { ordered = ordered_copy T P.age P.sound.ordered; seeds = P.sound.seeds };
      }

  -- the seeds after one entry is set
  seeds_set : (k n : ℕ) (e : Entry) → k < most → ((j : ℕ) → j < n → (k ≡ j → ⊥) → j < T.n) → Inside e width height → (j : ℕ) → j < n → Inside (get_or (set T.entries k e) j blank) width height
  seeds_set k n e fits old ok j h =
      by_cases (ℕ_discrete k j)
      (λ g. rw (← g, get_or-set_same T.entries k e blank (omega (arith, P.entries))) ok)
      (λ m. rw (get_or-set_other T.entries k j e blank (λ g. m (sym g))) (P.sound.seeds j (old j h m)))

  proper_appended : (e : Entry) → T.n < most → Inside e width height → Proper (appended T e) width height
  proper_appended e room ok =
      record {
        entries = length-set T.entries T.n e ∙ P.entries;
        age = length-set T.age T.n T.n ∙ P.age;
        sound = record { ordered = ordered_appended T P.age P.sound.ordered e room; seeds = seeds_set T.n (T.n + 1) e room (λ j h m. omega arith) ok };
      }

  proper_rewritten : (k : ℕ) (e : Entry) → k < T.n → Inside e width height → Proper (rewritten T k e) width height
  proper_rewritten k e h ok =
      record {
        entries = length-set T.entries k e ∙ P.entries;
        age = P.age;
        sound =
            record {
              ordered = record { few = P.sound.ordered.few; order = P.sound.ordered.order };
              seeds = seeds_set k T.n e (omega (arith, P.sound.ordered.few)) (λ j l m. l) ok;
            };
      }

pub proper_added : {T : Table} {width height : ℕ} → Proper T width height → (e : Entry) → T.n < most → Inside e width height → Proper (added T e) width height
proper_added {T} P e room ok = proper_newest (proper_appended P e room ok) T.n (omega arith)

pub proper_replaced : {T : Table} {width height : ℕ} → Proper T width height → (k : ℕ) (e : Entry) → k < T.n → Inside e width height → Proper (replaced T k e) width height
proper_replaced P k e h ok = proper_newest (proper_rewritten P k e h ok) k h
