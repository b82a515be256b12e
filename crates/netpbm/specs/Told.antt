-- What the reader answers, in document 01's terms: a file of the form has sides and pixels, any other is refused by 17. Definitions alone.
use Rattle.std.specs.Prelude.{ℕ, ◌*◌, List, take, Option, Some, None}
use Rattle.refusals.specs.Finding.{Finding, found, refused_by}
use Rattle.refusals.specs.declared.Refusal.TheVariants as refusal
use Rattle.netpbm.specs.Form.{Picture, Form}
use Rattle.netpbm.specs.Reads.{Reads}
use Rattle.netpbm.specs.declared.Reader.{Reader}
use Rattle.netpbm.specs.declared.Sides.{Sides}

-- an answer's meaning: the sides, and as many of the lent pixels as they make; or 17
abbrev pub meaning : List ℕ → Option Sides → Finding Picture
meaning pixels (Some s) = found (record { width = s.width; height = s.height; pixels = take (s.width * s.height) pixels })
meaning pixels None = refused_by refusal.File

-- what is told of a file
pub data Told (file : List ℕ) : Finding Picture → Type 0 where
  of_form : (p : Picture) → Form file p → Told file (found p)
  of_none : ((p : Picture) → Form file p → ⊥) → Told file (refused_by refusal.File)

-- an answer to a state: whatever file was read, it is told of that file
abbrev pub Answers : Reader → Option Sides → Type 0
Answers reader answer = (file pixels : List ℕ) → Reads file pixels reader → Told file (meaning pixels answer)
