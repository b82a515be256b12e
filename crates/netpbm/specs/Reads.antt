-- A reading: what its state and the lent pixels are after the bytes of a file so far. Definitions alone.
use Rattle.std.specs.Prelude.{ℕ, ◌≡◌, List, ◌++◌, length}
use Rattle.netpbm.specs.Form.{most_pixels}
use Rattle.netpbm.specs.Machine.{reading, fed}
use Rattle.netpbm.specs.declared.Reader.{Reader}
use Rattle.netpbm.specs.declared.Reader.TheVariants.{Nothing}

-- these bytes were read, from the start, whatever the lent pixels held before
pub record Reads (file pixels : List ℕ) (reader : Reader) : Type 0 where
  pub lent : List ℕ
  pub room : length lent ≡ most_pixels
  pub comes : reading reader pixels ≡ fed (reading Nothing lent) file

-- some bytes were read
pub record InReading (pixels : List ℕ) (reader : Reader) : Type 0 where
  pub file : List ℕ
  pub reads : Reads file pixels reader

-- a chunk was read as well: whatever the bytes before it were, they and the chunk are now what was read
abbrev pub GoesOn : List ℕ → Reader → List ℕ → List ℕ → Reader → Type 0
GoesOn before reader chunk after next = (file : List ℕ) → Reads file before reader → Reads (file ++ chunk) after next
