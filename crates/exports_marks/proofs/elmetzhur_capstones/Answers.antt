-- `elmetzhur_capstones` searches once there are places for what it tells, and tells it. Assumes nothing.
use mathlib.Core.Path.{refl}
use mathlib.Core.Logic.{inl, inr}
use Rattle.exports_marks.specs.Tells.{short, told}
use Rattle.exports_marks.proofs.elmetzhur_capstones.Goals as goal

pub returns-then-places-lt640 : goal.returns-then-places-lt640
returns-then-places-lt640 c = short (inl c.if-places-lt640.true) refl refl refl refl refl

pub returns-then-floats-lt512 : goal.returns-then-floats-lt512
returns-then-floats-lt512 c = short (inr (inl c.if-floats-lt512.true)) refl refl refl refl refl

pub returns-then-counts-lt1006 : goal.returns-then-counts-lt1006
returns-then-counts-lt1006 c = short (inr (inr c.if-counts-lt1006.true)) refl refl refl refl refl

pub returns : goal.returns
returns c =
    told
    c.if-places-lt640.false
    c.if-floats-lt512.false
    c.if-counts-lt1006.false
    c.search_bitmap-marks.result
    c.search_bitmap-marks.ensures
    c.put_stones.ensures.0
    c.put_stones.ensures.1
    c.put_counted.ensures
    c.status_of.ensures
