-- `is_bitmap` answers whether no byte is above 1: the bytes are judged by the largest of them. Assumes nothing.
use Rattle.std.proofs.Common.{rules, ◌≡◌, fold, max}
use Rattle.picture.proofs.Bitmaps.{largest_low}
use Rattle.picture.proofs.bitmap.is_bitmap.Goals as goal

pub returns : goal.returns
returns c =
    let e : c.fold-largest.result ≡ fold max 0 c.args.pic.now = search rules in
    rw e (largest_low c.args.pic.now 0)
