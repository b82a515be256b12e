-- One outcome stands in findings in one way. Assumes nothing.
use Rattle.std.specs.Prelude.{Result, Ok, Err}
use Prim.Native.Nat.{ℕ}
use native.Mathlib.Omega.{arith}
use mathlib.Core.Path.{◌≡◌, ap}
use mathlib.Core.List.{List, []}
use Rattle.refusals.specs.Finding.{Finding, found, refused}
use Rattle.refusals.specs.declared.Refusal.{Refusal}
use Rattle.refusals.proofs.Distinct.{refusal_only}
use Rattle.laid.specs.Laid.{told}
use Rattle.laid.proofs.Same.{laid_same}
use Rattle.bounds.specs.declared.Grid.{Grid}
use Rattle.groupings.specs.Held.{most_groups}
use Rattle.bounded.specs.Held.{no_grid}
use Rattle.detect.specs.Telling.{Telling, outcome, LaidOut}
use Rattle.detect.specs.declared.Findings.{Findings}

abbrev stones_told : Finding Telling → ℕ
stones_told (found t) = t.stones
stones_told (refused n) = 0

abbrev grids_told : Finding Telling → List Grid
grids_told (found t) = t.grids
grids_told (refused n) = []

pub same_findings : (s t : Result Findings Refusal) → outcome s ≡ outcome t → LaidOut s → LaidOut t → s ≡ t
unfolding told
same_findings (Ok s) (Ok t) e X Y =
    let stones = ap stones_told e in
    let same = laid_same most_groups no_grid (ap (λ (f : Finding Telling). found (grids_told f)) e) X Y in
    λ i. Ok (record { stones = stones i; grids = same.2 i; n = same.1 i })
same_findings (Ok s) (Err b) e X Y = let z : ◌≡◌ {A = ℕ} 0 1 = cc in absurd (omega arith)
same_findings (Err a) (Ok t) e X Y = let z : ◌≡◌ {A = ℕ} 0 1 = cc in absurd (omega arith)
same_findings (Err a) (Err b) e X Y = ap Err (refusal_only {a = a} {b = b} e)
