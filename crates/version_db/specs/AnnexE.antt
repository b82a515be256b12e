-- Alignment positions: the rule behind the table of ISO/IEC 18004, Annex E, and that table. Assumes nothing.
use Rattle.std.specs.Prelude.{ℕ, ◌+◌, ◌-◌, ◌*◌, ◌/◌, cond, List, [], ◌∷◌, eqb, ltb}

-- the modules along a symbol's side
abbrev pub size_of : ℕ → ℕ
size_of v = 17 + 4 * v

-- the version of a grid with so many modules along a side; taken from the Rust, `version_from_grid_size`
abbrev pub version_of : ℕ → ℕ
version_of size = (size - 17) / 4

-- how many positions a version has: version 1 has none, and neither has entry 0, which is no version (document 01)
abbrev pub count_of : ℕ → ℕ
count_of v = cond (ltb v 2) 0 (v / 7 + 2)

-- how far apart they are, from the second on
abbrev pub gap_of : ℕ → ℕ
gap_of v = cond (eqb v 32) 26 (2 * ((4 * v + 2 * count_of v + 1) / (2 * count_of v - 2)))

-- the first is 6, the last is 4v + 10, and from the last downwards each is a gap below the one after it
abbrev pub placed : ℕ → ℕ → ℕ
placed v k = cond (eqb k 0) 6 (4 * v + 10 - (count_of v - 1 - k) * gap_of v)

-- position k of a version; 0 where there is none
unfoldable pub position_of : ℕ → ℕ → ℕ
position_of v k = cond (ltb k (count_of v)) (placed v k) 0

-- the table as Annex E prints it: a line for each version, from 0 on, and 0 where there is no position
unfoldable pub printed : List (List ℕ)
printed =
    (0 ∷ 0 ∷ 0 ∷ 0 ∷ 0 ∷ 0 ∷ 0 ∷ [])
    ∷ (0 ∷ 0 ∷ 0 ∷ 0 ∷ 0 ∷ 0 ∷ 0 ∷ [])
    ∷ (6 ∷ 18 ∷ 0 ∷ 0 ∷ 0 ∷ 0 ∷ 0 ∷ [])
    ∷ (6 ∷ 22 ∷ 0 ∷ 0 ∷ 0 ∷ 0 ∷ 0 ∷ [])
    ∷ (6 ∷ 26 ∷ 0 ∷ 0 ∷ 0 ∷ 0 ∷ 0 ∷ [])
    ∷ (6 ∷ 30 ∷ 0 ∷ 0 ∷ 0 ∷ 0 ∷ 0 ∷ [])
    ∷ (6 ∷ 34 ∷ 0 ∷ 0 ∷ 0 ∷ 0 ∷ 0 ∷ [])
    ∷ (6 ∷ 22 ∷ 38 ∷ 0 ∷ 0 ∷ 0 ∷ 0 ∷ [])
    ∷ (6 ∷ 24 ∷ 42 ∷ 0 ∷ 0 ∷ 0 ∷ 0 ∷ [])
    ∷ (6 ∷ 26 ∷ 46 ∷ 0 ∷ 0 ∷ 0 ∷ 0 ∷ [])
    ∷ (6 ∷ 28 ∷ 50 ∷ 0 ∷ 0 ∷ 0 ∷ 0 ∷ [])
    ∷ (6 ∷ 30 ∷ 54 ∷ 0 ∷ 0 ∷ 0 ∷ 0 ∷ [])
    ∷ (6 ∷ 32 ∷ 58 ∷ 0 ∷ 0 ∷ 0 ∷ 0 ∷ [])
    ∷ (6 ∷ 34 ∷ 62 ∷ 0 ∷ 0 ∷ 0 ∷ 0 ∷ [])
    ∷ (6 ∷ 26 ∷ 46 ∷ 66 ∷ 0 ∷ 0 ∷ 0 ∷ [])
    ∷ (6 ∷ 26 ∷ 48 ∷ 70 ∷ 0 ∷ 0 ∷ 0 ∷ [])
    ∷ (6 ∷ 26 ∷ 50 ∷ 74 ∷ 0 ∷ 0 ∷ 0 ∷ [])
    ∷ (6 ∷ 30 ∷ 54 ∷ 78 ∷ 0 ∷ 0 ∷ 0 ∷ [])
    ∷ (6 ∷ 30 ∷ 56 ∷ 82 ∷ 0 ∷ 0 ∷ 0 ∷ [])
    ∷ (6 ∷ 30 ∷ 58 ∷ 86 ∷ 0 ∷ 0 ∷ 0 ∷ [])
    ∷ (6 ∷ 34 ∷ 62 ∷ 90 ∷ 0 ∷ 0 ∷ 0 ∷ [])
    ∷ (6 ∷ 28 ∷ 50 ∷ 72 ∷ 94 ∷ 0 ∷ 0 ∷ [])
    ∷ (6 ∷ 26 ∷ 50 ∷ 74 ∷ 98 ∷ 0 ∷ 0 ∷ [])
    ∷ (6 ∷ 30 ∷ 54 ∷ 78 ∷ 102 ∷ 0 ∷ 0 ∷ [])
    ∷ (6 ∷ 28 ∷ 54 ∷ 80 ∷ 106 ∷ 0 ∷ 0 ∷ [])
    ∷ (6 ∷ 32 ∷ 58 ∷ 84 ∷ 110 ∷ 0 ∷ 0 ∷ [])
    ∷ (6 ∷ 30 ∷ 58 ∷ 86 ∷ 114 ∷ 0 ∷ 0 ∷ [])
    ∷ (6 ∷ 34 ∷ 62 ∷ 90 ∷ 118 ∷ 0 ∷ 0 ∷ [])
    ∷ (6 ∷ 26 ∷ 50 ∷ 74 ∷ 98 ∷ 122 ∷ 0 ∷ [])
    ∷ (6 ∷ 30 ∷ 54 ∷ 78 ∷ 102 ∷ 126 ∷ 0 ∷ [])
    ∷ (6 ∷ 26 ∷ 52 ∷ 78 ∷ 104 ∷ 130 ∷ 0 ∷ [])
    ∷ (6 ∷ 30 ∷ 56 ∷ 82 ∷ 108 ∷ 134 ∷ 0 ∷ [])
    ∷ (6 ∷ 34 ∷ 60 ∷ 86 ∷ 112 ∷ 138 ∷ 0 ∷ [])
    ∷ (6 ∷ 30 ∷ 58 ∷ 86 ∷ 114 ∷ 142 ∷ 0 ∷ [])
    ∷ (6 ∷ 34 ∷ 62 ∷ 90 ∷ 118 ∷ 146 ∷ 0 ∷ [])
    ∷ (6 ∷ 30 ∷ 54 ∷ 78 ∷ 102 ∷ 126 ∷ 150 ∷ [])
    ∷ (6 ∷ 24 ∷ 50 ∷ 76 ∷ 102 ∷ 128 ∷ 154 ∷ [])
    ∷ (6 ∷ 28 ∷ 54 ∷ 80 ∷ 106 ∷ 132 ∷ 158 ∷ [])
    ∷ (6 ∷ 32 ∷ 58 ∷ 84 ∷ 110 ∷ 136 ∷ 162 ∷ [])
    ∷ (6 ∷ 26 ∷ 54 ∷ 82 ∷ 110 ∷ 138 ∷ 166 ∷ [])
    ∷ (6 ∷ 30 ∷ 58 ∷ 86 ∷ 114 ∷ 142 ∷ 170 ∷ [])
    ∷ []
