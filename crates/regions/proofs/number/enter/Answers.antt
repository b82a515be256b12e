-- `enter` keeps a numbered piece's entry, and paints a black piece, in a full table after a fill back. Assumes nothing.
use Prim.Native.Nat.{◌≤◌}
use native.Mathlib.Omega.{arith}
use mathlib.Core.Path.{refl}
use lib.ListN.{length}
use Rattle.regions.proofs.Asks.{fits_stack, can_number, can_number_again}
use Rattle.regions.proofs.number.enter.Goals as goal

pub returns-then-byte-ge5 : goal.returns-then-byte-ge5
returns-then-byte-ge5 c = record { kept = λ high. (refl, refl); fresh = λ low. absurd (omega arith); again = λ low. absurd (omega arith) }

pub paint_number-requires : goal.paint_number-requires
paint_number-requires c =
    (can_number _ c.requires.seeded (c.requires.black (omega arith)), c.requires.low)

pub returns-then-n-lt251 : goal.returns-then-n-lt251
returns-then-n-lt251 c =
    record { kept = λ high. absurd (omega arith); fresh = λ low few. c.paint_number.ensures; again = λ low full. absurd (omega arith) }

pub fill_back-requires : goal.fill_back-requires
fill_back-requires c =
    (fits_stack c.args.pic.now c.requires.seeded, c.requires.old_inside (omega arith) (omega arith), c.requires.seeded.room, c.requires.low)

pub paint_number-requires-2 : goal.paint_number-requires-2
paint_number-requires-2 c =
    let room : length c.args.stack.now ≤ length c.fill_back.new.stack = omega (arith, c.fill_back.auto.stack) in
    (can_number_again c.requires.seeded room (c.requires.black (omega arith)) c.fill_back.ensures, c.requires.low)

pub returns : goal.returns
returns c =
    record { kept = λ high. absurd (omega arith); fresh = λ low few. absurd (omega arith); again = λ low full. (_, c.fill_back.ensures, c.paint_number-2.ensures.0, c.paint_number-2.ensures.1) }
