-- The numbers that refusals carry: document 01, "Numbers a refusal carries". Assumes nothing.
use Rattle.std.specs.Prelude.{ℕ}
use Rattle.refusals.specs.declared.Refusal.{Refusal}
use Rattle.refusals.specs.declared.Refusal.TheVariants.{Size, Length, Room, Byte, Outside, White, Same, Target, Table, Number, Stones, Far, Unplaced, Timing, Turned, Index, File}

abbrev pub number_of : Refusal → ℕ
number_of Size = 1
number_of Length = 2
number_of Room = 3
number_of Byte = 4
number_of Outside = 5
number_of White = 6
number_of Same = 7
number_of Target = 8
number_of Table = 9
number_of Number = 10
number_of Stones = 11
number_of Far = 12
number_of Unplaced = 13
number_of Timing = 14
number_of Turned = 15
number_of Index = 16
number_of File = 17
