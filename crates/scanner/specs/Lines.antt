-- The lines of a picture that have a cut. Assumes nothing.
use Rattle.std.specs.Prelude.{ℕ, zero, suc, ◌*◌, Bool, true, false, cond, List, [], ◌∷◌}
use Rattle.scanner.specs.Cuts.{line_cuts}
use Rattle.scanner.specs.declared.LinePosition.{LinePosition}

-- there is a cut
unfoldable pub some : List LinePosition → Bool
some [] = false
some (cut ∷ more) = true

-- the first of n lines from line y on that has a cut, or the line after them
unfoldable pub next_line : List ℕ → ℕ → ℕ → ℕ → ℕ
next_line p w zero y = y
next_line p w (suc n) y = cond (some (line_cuts p (y * w) w)) y (next_line p w n (suc y))
