-- A chunk half read: what is left of it leads where the whole of it leads. Assumes nothing.
use Prim.Native.Nat.{ℕ, ◌+◌, ◌≤◌, ◌<◌}
use native.Mathlib.Omega.{arith}
use native.Mathlib.Numerals.{add-one}
use mathlib.Core.Path.{◌≡◌, refl, sym, ap, subst, ◌∙◌}
use mathlib.Core.List.{List, []}
use lib.ListN.{length, get_or, drop, drop_of_length-le}
use lib.Seq.{drop-cons}
use Rattle.netpbm.specs.Form.{most_pixels}
use Rattle.netpbm.specs.Machine.{Reading, reading, next, fed, Bounded}
use Rattle.netpbm.specs.Reads.{Reads, InReading, GoesOn}
use Rattle.netpbm.specs.declared.Reader.{Reader}
use Rattle.netpbm.specs.declared.Reader.TheVariants.{Nothing}
use Rattle.netpbm.proofs.Steps.{stepped_bounded, kept_length, fed_bounded, fed_length, fed_parts}

-- before byte i of a chunk that was begun in the reading s
pub record Feeding (chunk : List ℕ) (s now : Reading) (i : ℕ) : Type 0 where
  pub on : i ≤ length chunk
  pub bounded : Bounded now.reader
  pub room : length now.pixels ≡ most_pixels
  pub leads : fed now (drop i chunk) ≡ fed s chunk

-- whatever was read, the numbers of the state are in bounds
pub reads_bounded : {file pixels : List ℕ} {reader : Reader} → Reads file pixels reader → Bounded reader
reads_bounded {file} {pixels} {reader} R =
    subst (λ (s : Reading). Bounded s.reader) (sym R.comes) (fed_bounded (reading Nothing R.lent) file tt)

pub reading_bounded : {pixels : List ℕ} {reader : Reader} → InReading pixels reader → Bounded reader
reading_bounded R = reads_bounded R.reads

reads_room : {file pixels : List ℕ} {reader : Reader} → Reads file pixels reader → length pixels ≡ most_pixels
reads_room {file} {pixels} {reader} R =
    ap (λ (s : Reading). length s.pixels) R.comes ∙ fed_length (reading Nothing R.lent) file ∙ R.room

pub reading_room : {pixels : List ℕ} {reader : Reader} → InReading pixels reader → length pixels ≡ most_pixels
reading_room R = reads_room R.reads

pub feeds : {chunk pixels : List ℕ} {reader : Reader} → InReading pixels reader → Feeding chunk (reading reader pixels) (reading reader pixels) 0
feeds R = record { on = omega arith; bounded = reading_bounded R; room = reads_room R.reads; leads = refl }

pub feeds_on : (chunk : List ℕ) (s now : Reading) (i : ℕ) → i < length chunk → Feeding chunk s now i → Feeding chunk s (next now (get_or chunk i 0)) (i + 1)
unfolding fed
feeds_on chunk s now i on F =
    record {
      on = omega arith;
      bounded = stepped_bounded now.reader (get_or chunk i 0) F.bounded;
      room = kept_length now.reader (get_or chunk i 0) now.pixels ∙ F.room;
      leads = rw (add-one i) (rw (drop-cons chunk i 0 on) at F.leads);
    }

came : (chunk : List ℕ) (s now : Reading) (i : ℕ) → length chunk ≤ i → Feeding chunk s now i → now ≡ fed s chunk
unfolding fed
came chunk s now i end F = rw (drop_of_length-le chunk {i = i} end) at F.leads

-- at its end the whole of it is read
pub fed_whole : (chunk : List ℕ) (s now : Reading) (i : ℕ) → length chunk ≤ i → Feeding chunk s now i
    → GoesOn s.pixels s.reader chunk now.pixels now.reader
fed_whole chunk s now i end F file R =
    record {
      lent = R.lent;
      room = R.room;
      comes = came chunk s now i end F ∙ ap (λ (t : Reading). fed t chunk) R.comes ∙ sym (fed_parts (reading Nothing R.lent) file chunk);
    }

-- a reading begins with no byte read, whatever the lent pixels hold
pub begins : (pixels : List ℕ) → length pixels ≡ most_pixels → Reads [] pixels Nothing
unfolding fed
begins pixels room = record { lent = pixels; room = room; comes = refl }

-- and a chunk keeps it one
pub still_reading : {before chunk after : List ℕ} {reader now : Reader} → InReading before reader → GoesOn before reader chunk after now → InReading after now
still_reading R on = record { file = _; reads = on R.file R.reads }
