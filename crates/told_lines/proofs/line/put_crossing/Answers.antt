-- `put_crossing` tells where two lines cross, once the four points are pixels. Assumes nothing.
use mathlib.Core.Path.{◌≡◌}
use mathlib.Core.Bool.{false}
use lib.IntN.{pos}
use Rattle.refusals.specs.declared.Refusal.TheVariants.{Far}
use Rattle.told.specs.Points.{leaves}
use Rattle.told_lines.specs.Answers.{cross_values}
use Rattle.told.proofs.Tell.{tell_first, tell_next}
use Rattle.told.proofs.Reach.{pixel}
use Rattle.told_lines.proofs.line.put_crossing.Goals as goal

pub returns-then-leaves : goal.returns-then-leaves
unfolding cross_values
returns-then-leaves c = tell_first Far _ _ (rw c.leaves.ensures at c.if-leaves.true)

pub returns-then-leaves-2 : goal.returns-then-leaves-2
unfolding cross_values
returns-then-leaves-2 c =
    let in_p0 : leaves c.args.p0 (pos 0) (pos 799) ≡ false = rw c.leaves.ensures at c.if-leaves.false in
    tell_next Far (in_p0) (tell_first Far _ _ (rw c.leaves-2.ensures at c.if-leaves-2.true))

pub returns-then-leaves-3 : goal.returns-then-leaves-3
unfolding cross_values
returns-then-leaves-3 c =
    let in_p0 : leaves c.args.p0 (pos 0) (pos 799) ≡ false = rw c.leaves.ensures at c.if-leaves.false in
    let in_p1 : leaves c.args.p1 (pos 0) (pos 799) ≡ false = rw c.leaves-2.ensures at c.if-leaves-2.false in
    tell_next Far (in_p0) (tell_next Far (in_p1) (tell_first Far _ _ (rw c.leaves-3.ensures at c.if-leaves-3.true)))

pub returns-then-leaves-4 : goal.returns-then-leaves-4
unfolding cross_values
returns-then-leaves-4 c =
    let in_p0 : leaves c.args.p0 (pos 0) (pos 799) ≡ false = rw c.leaves.ensures at c.if-leaves.false in
    let in_p1 : leaves c.args.p1 (pos 0) (pos 799) ≡ false = rw c.leaves-2.ensures at c.if-leaves-2.false in
    let in_q0 : leaves c.args.q0 (pos 0) (pos 799) ≡ false = rw c.leaves-3.ensures at c.if-leaves-3.false in
    let far = rw c.leaves-4.ensures at c.if-leaves-4.true in
    tell_next Far (in_p0) (tell_next Far (in_p1) (tell_next Far (in_q0) (tell_first Far _ _ far)))

pub line_intersect-requires : goal.line_intersect-requires
line_intersect-requires c =
    let in_p0 : leaves c.args.p0 (pos 0) (pos 799) ≡ false = rw c.leaves.ensures at c.if-leaves.false in
    let in_p1 : leaves c.args.p1 (pos 0) (pos 799) ≡ false = rw c.leaves-2.ensures at c.if-leaves-2.false in
    let in_q0 : leaves c.args.q0 (pos 0) (pos 799) ≡ false = rw c.leaves-3.ensures at c.if-leaves-3.false in
    let in_q1 : leaves c.args.q1 (pos 0) (pos 799) ≡ false = rw c.leaves-4.ensures at c.if-leaves-4.false in
    record { fact_1 = pixel _ (in_p0); fact_2 = pixel _ (in_p1); fact_3 = pixel _ (in_q0); fact_4 = pixel _ (in_q1) }

pub returns : goal.returns
unfolding cross_values
returns c =
    let in_p0 : leaves c.args.p0 (pos 0) (pos 799) ≡ false = rw c.leaves.ensures at c.if-leaves.false in
    let in_p1 : leaves c.args.p1 (pos 0) (pos 799) ≡ false = rw c.leaves-2.ensures at c.if-leaves-2.false in
    let in_q0 : leaves c.args.q0 (pos 0) (pos 799) ≡ false = rw c.leaves-3.ensures at c.if-leaves-3.false in
    let in_q1 : leaves c.args.q1 (pos 0) (pos 799) ≡ false = rw c.leaves-4.ensures at c.if-leaves-4.false in
    let told = rw c.line_intersect.ensures at c.put_meet.ensures in
    tell_next Far (in_p0) (tell_next Far (in_p1) (tell_next Far (in_q0) (tell_next Far (in_q1) told)))
