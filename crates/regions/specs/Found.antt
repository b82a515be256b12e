-- What a lookup answers, in document 01's terms. Definitions alone.
use Rattle.std.specs.Prelude.{ℕ, Result, Ok, Err}
use Rattle.refusals.specs.declared.Refusal.{Refusal}
use Rattle.refusals.specs.Finding.{Finding, found, refused_by}
use Rattle.picture.specs.declared.PixelColor.{PixelColor}
use Rattle.table.specs.declared.Entry.{Entry}
use Rattle.regions.specs.declared.Region.{Region}
use Rattle.regions.specs.declared.ColoredRegion.{ColoredRegion}
use Rattle.regions.specs.declared.ColoredRegion.TheVariants.{Claimed, Unclaimed}

-- the colour of a claimed piece, or the number of an unclaimed one with its entry
pub data Answer : Type 0 where
  claimed : PixelColor → Answer
  unclaimed : Region → Answer

abbrev pub region : ℕ → Entry → Region
region number entry = record { number = number; entry = entry }

-- what each case of an answer means
abbrev pub meaning : Result ColoredRegion Refusal → Finding Answer
meaning (Ok (Claimed colour)) = found (claimed colour)
meaning (Ok (Unclaimed r)) = found (unclaimed r)
meaning (Err why) = refused_by why
