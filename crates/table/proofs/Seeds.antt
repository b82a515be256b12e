-- What `all_inside` tests, and that its test is exact. Assumes nothing.
use Prim.Native.Nat.{ℕ, zero, suc, ◌≤◌, ◌<◌}
use native.Mathlib.Decide.{ℕ_discrete}
use native.Mathlib.Numerals.{add-one}
use native.Mathlib.Omega.{arith}
use mathlib.Core.Path.{◌≡◌, refl, sym, ap, subst, ◌∙◌}
use mathlib.Core.List.{List}
use mathlib.Core.Bool.{true, ◌&&◌, and-eq-true_iff}
use mathlib.Core.Logic.{◌↔◌, by_cases}
use lib.ListN.{length, get_or, take}
use lib.Dec.{ltb}
use borrow.Author.Tests.{ltb-true, lt-ltb}
use Rattle.std.specs.List.{list_all}
use Rattle.std.proofs.lemmas.List.Folds.{list_all_more}
use Rattle.std.proofs.Math.Bool.{and_comm}
use Rattle.table.specs.Table.{blank}
use Rattle.table.specs.Sound.{Inside, inside, all_inside}
use Rattle.table.specs.declared.Entry.{Entry}

-- the test of each of the first n is the test that goes down them
pub seeds_tested : (E : List Entry) (n width height : ℕ) → n ≤ length E → list_all (λ e. inside e width height) (take n E) ≡ all_inside E n width height
unfolding all_inside
seeds_tested E zero width height h = refl
seeds_tested E (suc n) width height h =
    ap (λ (m : ℕ). list_all (λ e. inside e width height) (take m E)) (sym (add-one n)) ∙ list_all_more (λ e. inside e width height) E n blank h
    ∙ ap (λ b. b && inside (get_or E n blank) width height) (seeds_tested E n width height (omega arith))
    ∙ and_comm (all_inside E n width height) (inside (get_or E n blank) width height)

pub inside_exact : (e : Entry) (width height : ℕ) → (inside e width height ≡ true) ↔ Inside e width height
inside_exact e width height = (
  (λ t. let b = (and-eq-true_iff (ltb e.x width) (ltb e.y height)).0 t in record { in_x = ltb-true e.x width b.0; in_y = ltb-true e.y height b.1 }),
  (λ i. rw (lt-ltb e.x width i.in_x, lt-ltb e.y height i.in_y)),
)

pub seeds_inside : (E : List Entry) (n width height : ℕ) → all_inside E n width height ≡ true → (k : ℕ) → k < n → Inside (get_or E k blank) width height
unfolding all_inside
seeds_inside E zero width height t k l = absurd (omega arith)
seeds_inside E (suc n) width height t k l =
    let b = (and-eq-true_iff (inside (get_or E n blank) width height) (all_inside E n width height)).0 t in
    by_cases (ℕ_discrete k n)
    (λ e. subst (λ (j : ℕ). Inside (get_or E j blank) width height) (sym e) ((inside_exact (get_or E n blank) width height).0 b.0))
    (λ other. seeds_inside E n width height b.1 k (omega arith))

pub inside_seeds : (E : List Entry) (n width height : ℕ) → ((k : ℕ) → k < n → Inside (get_or E k blank) width height) → all_inside E n width height ≡ true
unfolding all_inside
inside_seeds E zero width height g = refl
inside_seeds E (suc n) width height g = rw ((inside_exact (get_or E n blank) width height).1 (g n (omega arith)), inside_seeds E n width height (λ k l. g k (omega arith)))
