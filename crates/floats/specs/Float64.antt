-- The operations of f64, each rounded once, by symbols that read as the source does. The meaning is the kit's: IEEE 754 binary64. Assumes nothing.
use Rattle.std.specs.Prelude.{ℤ, pos, negsuc, false, Float}
use Rattle.std.specs.Float.Ieee as Ieee
use Rattle.std.specs.Float.{fin, binary64}

infixl 6 ◌⊕◌
abbrev pub ◌⊕◌ : Float → Float → Float
x ⊕ y = Ieee.add binary64 x y

infixl 6 ◌⊖◌
abbrev pub ◌⊖◌ : Float → Float → Float
x ⊖ y = Ieee.sub binary64 x y

infixl 7 ◌⊗◌
abbrev pub ◌⊗◌ : Float → Float → Float
x ⊗ y = Ieee.mul binary64 x y

infixl 7 ◌⊘◌
abbrev pub ◌⊘◌ : Float → Float → Float
x ⊘ y = Ieee.div binary64 x y

abbrev pub minus : Float → Float
minus x = Ieee.neg x

-- a whole number as a float: `z as f64`
abbrev pub float : ℤ → Float
float z = Ieee.of_int binary64 z

abbrev pub one : Float
one = fin false 1 (pos 0)

-- `f64::EPSILON`, 2 ^ -52
abbrev pub epsilon : Float
epsilon = fin false 1 (negsuc 51)
