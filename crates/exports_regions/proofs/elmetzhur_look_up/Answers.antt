-- `elmetzhur_look_up` looks up once there are places for what it tells, and tells it. Assumes nothing.
use mathlib.Core.Path.{refl}
use Rattle.regions.specs.Found.{meaning}
use Rattle.exports_regions.specs.Tells.{short, told}
use Rattle.exports_regions.proofs.Colours.{look_shown}
use Rattle.exports_regions.proofs.elmetzhur_look_up.Goals as goal

pub returns-then-counts-lt1007 : goal.returns-then-counts-lt1007
returns-then-counts-lt1007 c = short c.if-counts-lt1007.true refl refl refl

pub tell-requires : goal.tell-requires
tell-requires c =
    (c.if-counts-lt1007.false, look_shown c.look_up-looked.ensures)

pub returns : goal.returns
returns c =
    told
    c.if-counts-lt1007.false
    (meaning c.look_up-looked.result.found)
    c.look_up-looked.result.table
    (rw c.table_of-table.ensures at c.look_up-looked.ensures)
    c.tell.ensures.1
    c.tell.ensures.0
