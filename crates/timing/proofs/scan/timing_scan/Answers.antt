-- `timing_scan` counts point by point, until the scan is done. Assumes nothing.
use mathlib.Core.Path.{◌∙◌}
use Rattle.scans.proofs.Steps.{new_good}
use Rattle.timing.proofs.Counting.{none_counted, one_counted, all_counted}
use Rattle.timing.proofs.scan.timing_scan.Goals as goal

pub loop-p-init : goal.loop-p-init
loop-p-init c =
    none_counted _ _ _ _ _ (rw (c.into_iter-p-iterator.ensures.into_iter_gives, c.new-p-items.ensures) (new_good _ _ c.requires.fact_2 c.requires.fact_3))

pub loop-p-init-derived : goal.loop-p-init-derived
loop-p-init-derived c =
    (rw (c.into_iter-p-iterator.ensures.into_iter_gives, c.new-p-items.ensures) (new_good _ _ c.requires.fact_2 c.requires.fact_3), tt)

pub loop-p-preserved : goal.loop-p-preserved
loop-p-preserved c =
    one_counted _ _ _ c.loop-p.invariant c.in-Some.ensures.steps c.get_pixel_at_point-pixel.ensures c.differ-count.ensures

pub returns : goal.returns
returns c =
    let made = c.into_iter-p-iterator.ensures.into_iter_gives ∙ c.new-p-items.ensures in
    all_counted _ _ _ c.loop-p.invariant _ _ c.get_pixel_at_point-previous.ensures made c.in-None.ensures.steps
