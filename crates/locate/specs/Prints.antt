-- What `locate` prints of a file: document 01, "Program `locate`". Definitions alone.
use Rattle.std.specs.Prelude.{ℕ, ◌≡◌, List, Option}
use Rattle.refusals.specs.Finding.{Finding, refused_by}
use Rattle.refusals.specs.declared.Refusal.TheVariants as refusal
use Rattle.table.specs.Table.{empty_table}
use Rattle.table.specs.declared.Table.{Table}
use Rattle.netpbm.specs.Form.{most_pixels, Picture, Form}
use Rattle.netpbm.specs.Told.{meaning, Told}
use Rattle.netpbm.specs.declared.Sides.{Sides}
use Rattle.detect.specs.Telling.{Telling}
use Rattle.detect.specs.Detect.{DetectPost}
use Rattle.listing.specs.Listing.{listing}

-- what detect tells of a picture, with room for the most pixels
pub record Tells (p : Picture) (f : Finding Telling) : Type 0 where
  pub painted : List ℕ
  pub table : Table
  pub detects : DetectPost p.pixels p.width p.height most_pixels most_pixels empty_table f painted table

-- of a file of the form, what detect tells of its picture is printed; any other file is refused by 17
pub data Prints (file text : List ℕ) : Type 0 where
  of_form : (p : Picture) (f : Finding Telling) → Form file p → Tells p f → text ≡ listing f → Prints file text
  of_none : ((p : Picture) → Form file p → ⊥) → text ≡ listing (refused_by refusal.File) → Prints file text

-- a text answers what was read: whatever file that is told of, the text is what is printed of it
abbrev pub Answers : List ℕ → Option Sides → List ℕ → Type 0
Answers pixels input text = (file : List ℕ) → Told file (meaning pixels input) → Prints file text

-- some file was read, and the text is what is printed of it
pub record Responds (text : List ℕ) : Type 0 where
  pub file : List ℕ
  pub prints : Prints file text
