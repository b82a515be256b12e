-- `word` copies the text over as many bytes of the buffer. Assumes nothing.
use Rattle.std.proofs.Common.{◌≡◌, ◌+◌, ◌-◌, length, refl, arith}
use lib.Seq.{drop-drop}
use Rattle.report.proofs.Putting.{stores_text}
use Rattle.report.proofs.put.word.Goals as goal

pub returns : goal.returns
returns c =
    let long : c.args.at + length c.args.text.now - c.args.at ≡ length c.args.text.now = omega arith in
    record {
      stored = rw (c.copy_from_slice.ensures.after, long, drop-drop) (stores_text c.args.text.now c.args.out.now c.args.at c.requires);
      place = refl;
      short = omega arith;
    }
