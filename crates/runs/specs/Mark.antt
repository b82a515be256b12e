-- The run test of a finder mark: document 01, "Marks". Assumes nothing.
use Rattle.std.specs.Prelude.{ℕ, zero, suc, ◌+◌, ◌-◌, ◌*◌, ◌/◌, ◌≤◌, ◌<◌, Bool, true, ◌&&◌, List, [], ◌∷◌, leb, get_or}
use Rattle.refusals.specs.Limits.{longest_side}

-- the runs of a line: none is longer than a picture is wide
abbrev pub Short : List ℕ → Type 0
Short runs = (k : ℕ) → k < 5 → get_or runs k 0 ≤ longest_side

-- avg = sum of runs 0, 1, 3, 4, over 4
unfoldable pub average : List ℕ → ℕ
average runs = (get_or runs 0 0 + get_or runs 1 0 + get_or runs 3 0 + get_or runs 4 0) / 4

-- err = avg x 3 / 4
abbrev pub error : ℕ → ℕ
error avg = avg * 3 / 4

-- a mark's runs are these times the average
abbrev pub shares : List ℕ
shares = 1 ∷ 1 ∷ 3 ∷ 1 ∷ 1 ∷ []

-- a run within err of what it should be
abbrev pub near : ℕ → ℕ → ℕ → Bool
near run should err = leb (should - err) run && leb run (should + err)

-- each of the first n runs is within err of its share of the average
unfoldable pub all_near : ℕ → List ℕ → ℕ → Bool
all_near zero runs avg = true
all_near (suc k) runs avg = near (get_or runs k 0) (get_or shares k 0 * avg) (error avg) && all_near k runs avg

-- the five runs look like a cut through a mark
unfoldable pub mark_like : List ℕ → Bool
mark_like runs = all_near 5 runs (average runs)
