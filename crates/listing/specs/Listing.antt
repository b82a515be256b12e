-- All that `locate` prints: document 01, "Program `locate`". Definitions alone.
use Rattle.std.specs.Prelude.{ℕ, ◌≤◌, Result, Ok, Err, List, [], ◌∷◌, ◌++◌, length}
use Rattle.refusals.specs.Finding.{Finding, found, refused}
use Rattle.refusals.specs.declared.Refusal.{Refusal}
use Rattle.bounds.specs.declared.Grid.{Grid}
use Rattle.detect.specs.Telling.{Telling}
use Rattle.detect.specs.declared.Findings.{Findings}
use Rattle.report.specs.Lines.{refused_line, count_lines, grid_line}
use Rattle.report.specs.declared.Line.{Line}

-- what is told of a grid
abbrev pub line_of : Grid → Line
line_of g = record { size = g.size; c = g.c; bound0 = g.bound0; bound1 = g.bound1; bound2 = g.bound2; bound3 = g.bound3 }

-- one line per grid, in their order
unfoldable pub grid_lines : List Grid → List ℕ
grid_lines [] = []
grid_lines (g ∷ more) = grid_line (line_of g) ++ grid_lines more

-- the whole text of what detect tells: the counts of capstones and of grids and a line per grid, or the number of a refusal
unfoldable pub listing : Finding Telling → List ℕ
listing (found t) = count_lines t.stones (length t.grids) ++ grid_lines t.grids
listing (refused n) = refused_line n

-- where any are told, there are 31 grids at most
abbrev pub Few : Result Findings Refusal → Type 0
Few (Ok f) = f.n ≤ 31
Few (Err why) = Unit {0}
