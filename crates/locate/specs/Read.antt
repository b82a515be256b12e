-- What is read: no contract can say which bytes a call of C's reads, so each says that there are such bytes. Definitions alone.
use Rattle.std.specs.Prelude.{ℕ, ◌≡◌, Bool, List, ltb, length, Option}
use Rattle.netpbm.specs.Reads.{GoesOn}
use Rattle.netpbm.specs.Told.{meaning, Told}
use Rattle.netpbm.specs.declared.Reader.{Reader}
use Rattle.netpbm.specs.declared.Sides.{Sides}

-- a read asks for so many bytes
abbrev pub asked : ℕ
asked = 65536

-- some bytes more were read, the last if they are fewer than were asked for
pub record ReadOn (before : List ℕ) (reader : Reader) (after : List ℕ) (next : Reader) (last : Bool) : Type 0 where
  pub chunk : List ℕ
  pub on : GoesOn before reader chunk after next
  pub short : last ≡ ltb (length chunk) asked

-- the bytes of a file were read, and this is what is told of it: its sides and its pixels, or 17
pub record Read (pixels : List ℕ) (answer : Option Sides) : Type 0 where
  pub file : List ℕ
  pub told : Told file (meaning pixels answer)
