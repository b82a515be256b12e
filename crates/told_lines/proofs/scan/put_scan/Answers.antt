-- `put_scan` tells the points of a scan, once both ends are near and there are places for all. Assumes nothing.
use mathlib.Core.Path.{◌≡◌}
use mathlib.Core.Bool.{false}
use lib.IntN.{pos, negsuc}
use Rattle.refusals.specs.declared.Refusal.TheVariants.{Far}
use Rattle.scans.proofs.Steps.{new_good}
use Rattle.told.specs.Points.{leaves}
use Rattle.told_lines.specs.Answers.{scan_answer}
use Rattle.told.proofs.Tell.{tell_first, tell_next, tell_short, tell_enough}
use Rattle.told.proofs.Reach.{reached}
use Rattle.told_lines.proofs.Scanned.{scan_length}
use Rattle.told_lines.proofs.scan.put_scan.Goals as goal

pub returns-then-leaves : goal.returns-then-leaves
unfolding scan_answer
returns-then-leaves c = tell_first Far _ _ (rw c.leaves.ensures at c.if-leaves.true)

pub returns-then-leaves-2 : goal.returns-then-leaves-2
unfolding scan_answer
returns-then-leaves-2 c =
    let near_from : leaves c.args.from (negsuc 9999) (pos 10000) ≡ false = rw c.leaves.ensures at c.if-leaves.false in
    tell_next Far (near_from) (tell_first Far _ _ (rw c.leaves-2.ensures at c.if-leaves-2.true))

pub new-scan-requires : goal.new-scan-requires
new-scan-requires c =
    let near_from : leaves c.args.from (negsuc 9999) (pos 10000) ≡ false = rw c.leaves.ensures at c.if-leaves.false in
    let near_to : leaves c.args.to (negsuc 9999) (pos 10000) ≡ false = rw c.leaves-2.ensures at c.if-leaves-2.false in
    record { fact_1 = reached _ (near_from); fact_2 = reached _ (near_to) }

pub returns-then-out-steps : goal.returns-then-out-steps
unfolding scan_answer
returns-then-out-steps c =
    let near_from : leaves c.args.from (negsuc 9999) (pos 10000) ≡ false = rw c.leaves.ensures at c.if-leaves.false in
    let near_to : leaves c.args.to (negsuc 9999) (pos 10000) ≡ false = rw c.leaves-2.ensures at c.if-leaves-2.false in
    let few = rw (c.new-scan.ensures, ← scan_length c.args.from c.args.to) at c.if-out-steps.true in
    tell_next Far (near_from) (tell_next Far (near_to) (tell_short _ _ few))

pub put_points-requires : goal.put_points-requires
put_points-requires c =
    let near_from : leaves c.args.from (negsuc 9999) (pos 10000) ≡ false = rw c.leaves.ensures at c.if-leaves.false in
    let near_to : leaves c.args.to (negsuc 9999) (pos 10000) ≡ false = rw c.leaves-2.ensures at c.if-leaves-2.false in
    let enough = rw (c.new-scan.ensures, ← scan_length c.args.from c.args.to) at c.if-out-steps.false in
    record { fact_1 = rw c.new-scan.ensures (new_good _ _ (reached _ (near_from)) (reached _ (near_to))); fact_2 = rw c.new-scan.ensures (enough) }

pub returns : goal.returns
unfolding scan_answer
returns c =
    let near_from : leaves c.args.from (negsuc 9999) (pos 10000) ≡ false = rw c.leaves.ensures at c.if-leaves.false in
    let near_to : leaves c.args.to (negsuc 9999) (pos 10000) ≡ false = rw c.leaves-2.ensures at c.if-leaves-2.false in
    let enough = rw (c.new-scan.ensures, ← scan_length c.args.from c.args.to) at c.if-out-steps.false in
    let told = rw c.new-scan.ensures at c.put_points.ensures in
    tell_next Far (near_from) (tell_next Far (near_to) (tell_enough enough told))
