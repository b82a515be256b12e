-- Bytes and colours stand for each other: each way undoes the other, and bytes stand for the colours that are shown. Assumes nothing.
use Prim.Native.Nat.{ℕ, zero, suc, ◌+◌, ◌-◌, ◌≤◌, ◌<◌}
use mathlib.Core.Path.{◌≡◌, refl, ap}
use native.Mathlib.Omega.{arith}
use Rattle.picture.specs.Colour.{byte_of, colour_of, Shown}
use Rattle.picture.specs.declared.PixelColor.{PixelColor}
use Rattle.picture.specs.declared.PixelColor.TheVariants.{White, Black, CapStone, Alignment, Tmp1, Discarded}

pub discarded : (byte : ℕ) → 5 ≤ byte → colour_of byte ≡ Discarded (byte - 5)
discarded zero h = absurd (omega arith)
discarded (suc zero) h = absurd (omega arith)
discarded (suc (suc zero)) h = absurd (omega arith)
discarded (suc (suc (suc zero))) h = absurd (omega arith)
discarded (suc (suc (suc (suc zero)))) h = absurd (omega arith)
discarded (suc (suc (suc (suc (suc n))))) h = ap Discarded (omega arith)

pub byte_of_colour : (byte : ℕ) → byte_of (colour_of byte) ≡ byte
byte_of_colour zero = refl
byte_of_colour (suc zero) = refl
byte_of_colour (suc (suc zero)) = refl
byte_of_colour (suc (suc (suc zero))) = refl
byte_of_colour (suc (suc (suc (suc zero)))) = refl
byte_of_colour (suc (suc (suc (suc (suc n))))) = omega arith

pub colour_of_byte : (colour : PixelColor) → colour_of (byte_of colour) ≡ colour
colour_of_byte White = refl
colour_of_byte Black = refl
colour_of_byte CapStone = refl
colour_of_byte Alignment = refl
colour_of_byte Tmp1 = refl
colour_of_byte (Discarded n) = let h : 5 + n - 5 ≡ n = omega arith in rw (discarded (5 + n) (omega arith), h)

pub byte_shown : (byte : ℕ) → byte < 256 → Shown (colour_of byte)
byte_shown zero h = tt
byte_shown (suc zero) h = tt
byte_shown (suc (suc zero)) h = tt
byte_shown (suc (suc (suc zero))) h = tt
byte_shown (suc (suc (suc (suc zero)))) h = tt
byte_shown (suc (suc (suc (suc (suc n))))) h = omega arith

pub shown_byte : (colour : PixelColor) → Shown colour → byte_of colour < 256
shown_byte White h = omega arith
shown_byte Black h = omega arith
shown_byte CapStone h = omega arith
shown_byte Alignment h = omega arith
shown_byte Tmp1 h = omega arith
shown_byte (Discarded n) h = omega arith
