-- The formulas of a perspective before its divisions, each in the order of the source's steps. Taken from the Rust. Assumes nothing.
use Rattle.exact.specs.Formula.{Formula, unknown, ◌:+◌, ◌:-◌, ◌:*◌, negated}

-- what the formulas speak of: the coordinates of corners 0 to 3, and the two sides
pub data Unknown : Type 0 where
  X0 Y0 X1 Y1 X2 Y2 X3 Y3 Width Height : Unknown

abbrev x0 : Formula Unknown
x0 = unknown X0

abbrev y0 : Formula Unknown
y0 = unknown Y0

abbrev x1 : Formula Unknown
x1 = unknown X1

abbrev y1 : Formula Unknown
y1 = unknown Y1

abbrev x2 : Formula Unknown
x2 = unknown X2

abbrev y2 : Formula Unknown
y2 = unknown Y2

abbrev x3 : Formula Unknown
x3 = unknown X3

abbrev y3 : Formula Unknown
y3 = unknown Y3

-- twice the area of the triangle of corners 1, 2 and 3: above 0 where they turn one way, below 0 where they turn the other
unfoldable pub determinant : Formula Unknown
determinant = x2 :* y3 :- x3 :* y2 :+ (x3 :- x2) :* y1 :+ x1 :* (y2 :- y3)

-- the parts: the numerators of c0, c1, c3, c4, c6 and c7, and what they are divided by
pub data Part : Type 0 where
  N0 N1 N3 N4 N6 N7 WidthDen HeightDen : Part

-- Both denominators have the determinant, in two orders. c0, c3 and c6 are over the width's, c1, c4 and c7 over the height's.
unfoldable pub formula : Part → Formula Unknown
formula N0 = x1 :* (x2 :* y3 :- x3 :* y2) :+ x0 :* (negated x2 :* y3 :+ x3 :* y2 :+ (x2 :- x3) :* y1) :+ x1 :* (x3 :- x2) :* y0
formula N1 = negated (x0 :* (x2 :* y3 :+ x1 :* (y2 :- y3) :- x2 :* y1) :- x1 :* x3 :* y2 :+ x2 :* x3 :* y1 :+ (x1 :* x3 :- x2 :* x3) :* y0)
formula N3 = y0 :* (x1 :* (y3 :- y2) :- x2 :* y3 :+ x3 :* y2) :+ y1 :* (x2 :* y3 :- x3 :* y2) :+ x0 :* y1 :* (y2 :- y3)
formula N4 = x0 :* (y1 :* y3 :- y2 :* y3) :+ x1 :* y2 :* y3 :- x2 :* y1 :* y3 :+ y0 :* (x3 :* y2 :- x1 :* y2 :+ (x2 :- x3) :* y1)
formula N6 = x1 :* (y3 :- y2) :+ x0 :* (y2 :- y3) :+ (x2 :- x3) :* y1 :+ (x3 :- x2) :* y0
formula N7 = negated x2 :* y3 :+ x1 :* y3 :+ x3 :* y2 :+ x0 :* (y1 :- y2) :- x3 :* y1 :+ (x2 :- x1) :* y0
formula WidthDen = unknown Width :* (x2 :* y3 :- x3 :* y2 :+ (x3 :- x2) :* y1 :+ x1 :* (y2 :- y3))
formula HeightDen = unknown Height :* (x2 :* y3 :+ x1 :* (y2 :- y3) :- x3 :* y2 :+ (x3 :- x2) :* y1)
