-- `feed` takes byte after byte: the bytes that are left lead where the whole chunk leads. Assumes nothing.
use mathlib.Core.Path.{sym, ◌∙◌}
use borrow.Author.Rules.{rules}
use Rattle.netpbm.specs.Machine.{reading}
use Rattle.netpbm.proofs.Feeding.{reading_room, feeds, feeds_on, fed_whole}
use Rattle.netpbm.proofs.feed.Goals as goal

pub loop-byte-init : goal.loop-byte-init
loop-byte-init c = feeds c.requires

pub keep-requires : goal.keep-requires
keep-requires c = (c.loop-byte.invariant.bounded, c.loop-byte.invariant.room)

pub step-state-requires : goal.step-state-requires
step-state-requires c = c.loop-byte.invariant.bounded

pub loop-byte-preserved : goal.loop-byte-preserved
loop-byte-preserved c =
    rw (c.step-state.ensures, c.keep.ensures) (feeds_on _ _ (reading c.loop-byte.state c.loop-byte.pixels) c.loop-byte.byte-index (search rules) c.loop-byte.invariant)

pub shape_of-pixels : goal.shape_of-pixels
shape_of-pixels c = c.loop-byte.invariant.room ∙ sym (reading_room c.requires)

pub returns : goal.returns
returns c = fed_whole _ _ (reading c.loop-byte.state c.loop-byte.pixels) c.loop-byte.byte-index (search rules) c.loop-byte.invariant
