-- A cut through the middle of an ideal mark passes: ISO/IEC 18004 draws a mark 7 modules wide, dark 1, light 1, dark 3, light 1, dark 1, whatever a module's width. Assumes nothing.
use Prim.Native.Nat.{ℕ, ◌+◌, ◌-◌, ◌*◌, ◌/◌}
use native.Mathlib.Omega.{arith}
use mathlib.Core.Path.{◌≡◌, refl}
use mathlib.Core.Bool.{true}
use mathlib.Core.List.{List, [], ◌∷◌}
use borrow.Author.Tests.{le-leb}
use Rattle.runs.specs.Mark.{average, error, near, all_near, mark_like}

-- the runs of the cut, for modules of m pixels
abbrev pub ideal_runs : ℕ → List ℕ
ideal_runs m = m ∷ m ∷ 3 * m ∷ m ∷ m ∷ []

near_share : (run should err : ℕ) → run ≡ should → near run should err ≡ true
near_share run should err e = rw (le-leb (should - err) run (omega arith), le-leb run (should + err) (omega arith))

pub ideal_passes : (m : ℕ) → mark_like (ideal_runs m) ≡ true
unfolding mark_like all_near average
ideal_passes m =
    let avg : (m + m + m + m) / 4 ≡ m = omega arith in
    let single : near m (1 * m) (error m) ≡ true = near_share m (1 * m) (error m) (omega arith) in
    let triple : near (3 * m) (3 * m) (error m) ≡ true = near_share (3 * m) (3 * m) (error m) refl in
    rw (avg, single, triple)
