-- The lines that `locate` prints: document 01, "Program `locate`". Definitions alone.
use Rattle.std.specs.Prelude.{ℕ, List, [], ◌∷◌, ◌++◌, Float}
use Rattle.points.specs.declared.Point.{Point}
use Rattle.geometry.specs.declared.Perspective.{Perspective}
use Rattle.report.specs.Numbers.{decimal, signed, float}
use Rattle.report.specs.declared.Line.{Line}

-- a later word of a line, after a single space
abbrev pub later : List ℕ → List ℕ
later word = 32 ∷ word

-- a line feed
abbrev pub feed : List ℕ
feed = 10 ∷ []

-- the word `refused`
abbrev pub refused_word : List ℕ
refused_word = 114 ∷ 101 ∷ 102 ∷ 117 ∷ 115 ∷ 101 ∷ 100 ∷ []

-- the word `capstones`
abbrev pub capstones_word : List ℕ
capstones_word = 99 ∷ 97 ∷ 112 ∷ 115 ∷ 116 ∷ 111 ∷ 110 ∷ 101 ∷ 115 ∷ []

-- the word `grids`
abbrev pub grids_word : List ℕ
grids_word = 103 ∷ 114 ∷ 105 ∷ 100 ∷ 115 ∷ []

-- a word and a number
unfoldable pub count_line : List ℕ → ℕ → List ℕ
count_line word n = word ++ (later (decimal n) ++ feed)

-- a refusal, by its number
unfoldable pub refused_line : ℕ → List ℕ
refused_line n = count_line refused_word n

-- how many capstones and how many grids were found
unfoldable pub count_lines : ℕ → ℕ → List ℕ
count_lines capstones grids = count_line capstones_word capstones ++ count_line grids_word grids

-- four coefficients
unfoldable pub four_text : Float → Float → Float → Float → List ℕ
four_text a b c d = later (float a) ++ (later (float b) ++ (later (float c) ++ later (float d)))

-- the coefficients of a perspective, in their order
unfoldable pub coefficient_text : Perspective → List ℕ
coefficient_text c = four_text c.c0 c.c1 c.c2 c.c3 ++ four_text c.c4 c.c5 c.c6 c.c7

-- a point: x and y
unfoldable pub point_text : Point → List ℕ
point_text p = later (signed p.x) ++ later (signed p.y)

-- the bounds of a grid, in their order
unfoldable pub bound_text : Line → List ℕ
bound_text l = point_text l.bound0 ++ (point_text l.bound1 ++ (point_text l.bound2 ++ point_text l.bound3))

-- a grid: size, eight coefficients, four bounds
unfoldable pub grid_line : Line → List ℕ
grid_line l = decimal l.size ++ (coefficient_text l.c ++ (bound_text l ++ feed))
