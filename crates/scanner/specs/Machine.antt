-- The line scanner as the Rust has it (detect.rs, `LineScanner`): a machine that reads a line byte by byte. The program here goes from edge to edge instead; `machine_same` shows that both find the same. Assumes nothing.
use Rattle.std.specs.Prelude.{ℕ, suc, ◌+◌, ◌-◌, ◌<◌, ◌≡◌, Bool, true, false, cond, ◌&&◌, List, [], ◌∷◌, ◌++◌, ◌↔◌, eqb, leb, length, get_or, drop, replicate}
use Rattle.runs.specs.Mark.{mark_like}
use Rattle.scanner.specs.Edges.{dark}
use Rattle.scanner.specs.Cuts.{position}
use Rattle.scanner.specs.declared.LinePosition.{LinePosition}

-- its fields, taken from the Rust: the five runs before the present one, the byte read last, how long its run is so far, how many changes there were, and the column read last
pub record Machine : Type 0 where
  pub lookbehind : List ℕ
  pub last_color : ℕ
  pub run_length : ℕ
  pub color_changes : ℕ
  pub current_position : ℕ

-- `new`: the first byte of a line is read
abbrev pub new : ℕ → Machine
new color = record { lookbehind = replicate 5 0; last_color = color; run_length = 1; color_changes = 0; current_position = 0 }

-- `advance`, where the byte is the last one again: the run grows
abbrev pub grown : Machine → Machine
grown m =
    record {
      lookbehind = m.lookbehind;
      last_color = m.last_color;
      run_length = suc m.run_length;
      color_changes = m.color_changes;
      current_position = suc m.current_position;
    }

-- `advance`, where it is another: the runs behind move up by one (`rotate_left(1)`), the run that ended comes last, and the next one begins
abbrev pub turned : Machine → ℕ → Machine
turned m color =
    record {
      lookbehind = drop 1 m.lookbehind ++ (m.run_length ∷ []);
      last_color = color;
      run_length = 1;
      color_changes = suc m.color_changes;
      current_position = suc m.current_position;
    }

-- `test_for_capstone`: a change to white, the fifth at least, and five runs that pass the run test
abbrev pub test_for_capstone : Machine → Bool
test_for_capstone m = eqb m.last_color 0 && leb 5 m.color_changes && mark_like m.lookbehind

-- the sum of runs
abbrev pub total : List ℕ → ℕ
total [] = 0
total (run ∷ more) = run + total more

-- the position that `advance` answers: the present column, less all five runs, the last three, the last one
abbrev pub line_position : Machine → LinePosition
line_position m =
    position
    (m.current_position - total m.lookbehind)
    (m.current_position - total (drop 2 m.lookbehind))
    (m.current_position - get_or m.lookbehind 4 0)

-- `advance`: the machine after one more byte
unfoldable pub advanced : Machine → ℕ → Machine
advanced m color = cond (eqb m.last_color color) (grown m) (turned m color)

-- and what it answers to it: a position, or nothing
unfoldable pub answered : Machine → ℕ → List LinePosition
answered m color = cond (eqb m.last_color color) [] (cond (test_for_capstone (turned m color)) (line_position (turned m color) ∷ []) [])

-- all that it answers to bytes in a row
unfoldable pub found_by : Machine → List ℕ → List LinePosition
found_by m [] = []
found_by m (color ∷ more) = answered m color ++ found_by (advanced m color) more

-- what it finds on a line, from a byte for each column: `new` at the first, `advance` at each later one, and at a virtual white pixel after the last. No line is empty
unfoldable pub found : List ℕ → List LinePosition
found [] = []
found (first ∷ more) = found_by (new first) (more ++ (0 ∷ []))

-- what is read on the line of the bitmap p that starts at base and has w pixels, whatever paint stands: 0 exactly where the bitmap is white, and one byte on two dark neighbours. For those are of one piece, a piece has one colour, and nothing is painted between their reads: the finder paints only when it has just read white (`line_same` shows this of the whole loop)
pub record Read (p : List ℕ) (base w : ℕ) (bytes : List ℕ) : Type 0 where
  pub len : length bytes ≡ w
  pub white : (x : ℕ) → x < w → (get_or bytes x 0 ≡ 0) ↔ (dark p base x ≡ false)
  pub one : (x : ℕ) → suc x < w → dark p base x ≡ true → dark p base (suc x) ≡ true → get_or bytes x 0 ≡ get_or bytes (suc x) 0
