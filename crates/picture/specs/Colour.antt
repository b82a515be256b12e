-- Colours and the bytes that stand for them: document 01, "Colours"; prepare.rs, `From<u8> for PixelColor` and `From<PixelColor> for u8`. Assumes nothing.
use Rattle.std.specs.Prelude.{ℕ, zero, suc, ◌+◌, ◌≤◌}
use Rattle.picture.specs.declared.PixelColor.{PixelColor}
use Rattle.picture.specs.declared.PixelColor.TheVariants.{White, Black, CapStone, Alignment, Tmp1, Discarded}

-- the byte of a colour: 0 white, 1 black, 2 capstone, 3 alignment, 4 temporary, from 5 on Discarded
abbrev pub byte_of : PixelColor → ℕ
byte_of White = 0
byte_of Black = 1
byte_of CapStone = 2
byte_of Alignment = 3
byte_of Tmp1 = 4
byte_of (Discarded n) = 5 + n

-- the colour of a byte
abbrev pub colour_of : ℕ → PixelColor
colour_of zero = White
colour_of (suc zero) = Black
colour_of (suc (suc zero)) = CapStone
colour_of (suc (suc (suc zero))) = Alignment
colour_of (suc (suc (suc (suc zero)))) = Tmp1
colour_of (suc (suc (suc (suc (suc n))))) = Discarded n

-- a colour that a byte stands for: no Discarded has a number above 250
abbrev pub Shown : PixelColor → Type 0
Shown White = Unit {0}
Shown Black = Unit {0}
Shown CapStone = Unit {0}
Shown Alignment = Unit {0}
Shown Tmp1 = Unit {0}
Shown (Discarded n) = n ≤ 250
