-- An ideal timing line tells its own size, however many pixels each module is shown by: from column 6 to column size - 7 there are 4v + 5 modules, and between them 4v + 4 changes. Assumes nothing.
use Prim.Native.Nat.{ℕ, zero, suc, ◌+◌, ◌*◌, ◌%◌}
use native.Mathlib.Nat.{zero-add}
use native.Mathlib.Omega.{arith}
use borrow.Author.Tests.{eq-eqb, ne_eqb, eqb-true, eqb-false}
use mathlib.Core.Path.{◌≡◌, refl, sym, ◌∙◌}
use mathlib.Core.Bool.{Bool, true, false, cond}
use mathlib.Core.List.{List, [], ◌∷◌, ◌++◌}
use lib.Dec.{eqb}
use lib.ListN.{length, replicate}
use Rattle.version_db.specs.AnnexE.{size_of}
use Rattle.timing.specs.Changes.{change, changes_after, changes}
use Rattle.timing.specs.Counted.{grid_size}
use Rattle.timing.specs.Ideal.{shade, timing_line}
use Rattle.timing.proofs.Versions.{one_rule}

-- a run of one byte is no change
run_still : (b n : ℕ) (bs : List ℕ) → changes_after b (replicate n b ++ bs) ≡ changes_after b bs
unfolding changes_after
run_still b zero bs = refl
run_still b (suc n) bs = rw (eq-eqb b b refl) (zero-add _ ∙ run_still b n bs)

module _ (dark light : ℕ) (differ : dark ≡ light → ⊥) where
  -- the modules of two columns side by side differ
  side_by_side : (column : ℕ) → change (shade dark light column) (shade dark light (suc column)) ≡ 1
  side_by_side column = go (eqb (column % 2) 0) (eqb (suc column % 2) 0) (eqb-true (column % 2) 0) (eqb-false (column % 2) 0) (eqb-true (suc column % 2) 0) (eqb-false (suc column % 2) 0)
    where
      go : (s t : Bool) → (s ≡ true → column % 2 ≡ 0) → (s ≡ false → column % 2 ≡ 0 → ⊥) → (t ≡ true → suc column % 2 ≡ 0) → (t ≡ false → suc column % 2 ≡ 0 → ⊥) → change (cond s dark light) (cond t dark light) ≡ 1
      go true true e f g h = let a = e refl in let b = g refl in absurd (omega arith)
      go true false e f g h = rw (ne_eqb dark light differ)
      go false true e f g h = rw (ne_eqb light dark (λ q. differ (sym q)))
      go false false e f g h = let a = f refl in let b = h refl in absurd (omega arith)

  -- each module after the first is one change
  one_each : (column : ℕ) (rest : List ℕ) → changes_after (shade dark light column) (timing_line dark light (suc column) rest) ≡ length rest
  unfolding changes_after
  one_each column [] = refl
  one_each column (more ∷ rest) =
      let first = side_by_side column in
      let still = run_still (shade dark light (suc column)) more (timing_line dark light (suc (suc column)) rest) in
      let later = one_each (suc column) rest in
      omega arith

  pub line_changes : (column more : ℕ) (rest : List ℕ) → changes (timing_line dark light column (more ∷ rest)) ≡ length rest
  unfolding changes
  line_changes column more rest = run_still (shade dark light column) more (timing_line dark light (suc column) rest) ∙ one_each column rest

  pub ideal_size : (v : ℕ) (pixels : List ℕ) → length pixels ≡ 4 * v + 5
      → (changes (timing_line dark light 6 pixels) ≡ 4 * v + 4) × (grid_size (changes (timing_line dark light 6 pixels)) ≡ size_of v)
  ideal_size v [] e = absurd (omega arith)
  ideal_size v (more ∷ rest) e =
      let told = line_changes 6 more rest in
      let count : changes (timing_line dark light 6 (more ∷ rest)) ≡ 4 * v + 4 = omega arith in
      let rule = one_rule (4 * v + 4) in
      (count, rw count (omega arith))
