-- `put_places` writes a grid's size and its four bounds, one behind the other. Assumes nothing.
use Rattle.told_places.proofs.Places.{put_nine}
use Rattle.exports_detect.proofs.places.put_places.Goals as goal

pub returns : goal.returns
returns c =
    rw (c.put_point-4.ensures, c.put_point-3.ensures, c.put_point-2.ensures, c.put_point.ensures, c.put_size.ensures) (put_nine _ _ _ _ _ _ _ _ _ _ _)
