-- `find` hands detect the first pixels of the room, and room for the most. Assumes nothing.
use Rattle.locate.proofs.Printing.{few_of, pictured, tells_of}
use Rattle.locate.proofs.finding.find.Goals as goal

pub returns : goal.returns
returns c =
    let done = c.detect-done.ensures in
    let picture = pictured c.args.width c.args.height c.args.pixels.now in
    (tells_of picture c.stack_room-stack.ensures c.room-scratch.ensures c.empty.ensures done.0, few_of _ done.1)
