-- `new` meets its contract: two points within the range of refusal 12 are at most twice that far apart. Assumes nothing.
use borrow.Author.Rules.{rules}
use borrow.Author.Tests.{lt-ltb, le-ltb}
use native.Mathlib.Omega.{arith}
use mathlib.Core.Path.{◌≡◌, ◌∙◌}
use Prim.Native.Nat.{◌+◌, ◌≤◌}
use lib.IntN.{nat_abs, ◌-ℤ◌}
use mir.Syntax.{w32}
use mir.Val.{to_z, of_z}
use Rattle.refusals.specs.Limits.{farthest}
use Rattle.sizes.proofs.Size.{size_sub, read_back}
use Rattle.scans.specs.Scan.{scan_of}
use Rattle.scans.proofs.BresenhamScan.new.Goals as goal

pub diff-across-requires : goal.diff-across-requires
diff-across-requires c =
    let qx : to_z w32 (of_z w32 c.args.to.x) ≡ c.args.to.x = search rules in
    let px : to_z w32 (of_z w32 c.args.from.x) ≡ c.args.from.x = search rules in
    rw (qx, px) (omega arith)

pub diff-down-requires : goal.diff-down-requires
diff-down-requires c =
    let qy : to_z w32 (of_z w32 c.args.to.y) ≡ c.args.to.y = search rules in
    let py : to_z w32 (of_z w32 c.args.from.y) ≡ c.args.from.y = search rules in
    rw (qy, py) (omega arith)

pub unsigned_abs-w-requires : goal.unsigned_abs-w-requires
unsigned_abs-w-requires c =
    let qx : to_z w32 (of_z w32 c.args.to.x) ≡ c.args.to.x = search rules in
    let px : to_z w32 (of_z w32 c.args.from.x) ≡ c.args.from.x = search rules in
    let across_is : to_z w32 (of_z w32 c.diff-across.result) ≡ c.args.to.x -ℤ c.args.from.x = read_back c.diff-across.result c.diff-across.type_inv ∙ rw (qx, px) at c.diff-across.ensures in
    let across : to_z w32 (of_z w32 c.diff-across.result) ≡ c.args.to.x -ℤ c.args.from.x = across_is in
    let across_low : nat_abs (c.args.to.x -ℤ c.args.from.x) ≤ farthest + farthest = let h = size_sub c.args.to.x c.args.from.x in omega arith in
    rw (across) (let h = across_low in omega arith)

pub unsigned_abs-h-requires : goal.unsigned_abs-h-requires
unsigned_abs-h-requires c =
    let qy : to_z w32 (of_z w32 c.args.to.y) ≡ c.args.to.y = search rules in
    let py : to_z w32 (of_z w32 c.args.from.y) ≡ c.args.from.y = search rules in
    let down : to_z w32 (of_z w32 c.diff-down.result) ≡ c.args.to.y -ℤ c.args.from.y = read_back c.diff-down.result c.diff-down.type_inv ∙ rw (qy, py) at c.diff-down.ensures in
    let down_low : nat_abs (c.args.to.y -ℤ c.args.from.y) ≤ farthest + farthest = let h = size_sub c.args.to.y c.args.from.y in omega arith in
    rw (down) (let h = down_low in omega arith)

pub start-requires : goal.start-requires
start-requires c =
    let qx : to_z w32 (of_z w32 c.args.to.x) ≡ c.args.to.x = search rules in
    let px : to_z w32 (of_z w32 c.args.from.x) ≡ c.args.from.x = search rules in
    let across_is : to_z w32 (of_z w32 c.diff-across.result) ≡ c.args.to.x -ℤ c.args.from.x = read_back c.diff-across.result c.diff-across.type_inv ∙ rw (qx, px) at c.diff-across.ensures in
    let across : to_z w32 (of_z w32 c.diff-across.result) ≡ c.args.to.x -ℤ c.args.from.x = across_is in
    let qy : to_z w32 (of_z w32 c.args.to.y) ≡ c.args.to.y = search rules in
    let py : to_z w32 (of_z w32 c.args.from.y) ≡ c.args.from.y = search rules in
    let down : to_z w32 (of_z w32 c.diff-down.result) ≡ c.args.to.y -ℤ c.args.from.y = read_back c.diff-down.result c.diff-down.type_inv ∙ rw (qy, py) at c.diff-down.ensures in
    let across_low : nat_abs (c.args.to.x -ℤ c.args.from.x) ≤ farthest + farthest = let h = size_sub c.args.to.x c.args.from.x in omega arith in
    let down_low : nat_abs (c.args.to.y -ℤ c.args.from.y) ≤ farthest + farthest = let h = size_sub c.args.to.y c.args.from.y in omega arith in
    record { fact_1 = rw across across_low; fact_2 = rw down down_low }

pub returns-then-w-h : goal.returns-then-w-h
unfolding scan_of
returns-then-w-h c =
    let qx : to_z w32 (of_z w32 c.args.to.x) ≡ c.args.to.x = search rules in
    let px : to_z w32 (of_z w32 c.args.from.x) ≡ c.args.from.x = search rules in
    let across_is : to_z w32 (of_z w32 c.diff-across.result) ≡ c.args.to.x -ℤ c.args.from.x = read_back c.diff-across.result c.diff-across.type_inv ∙ rw (qx, px) at c.diff-across.ensures in
    let across : to_z w32 (of_z w32 c.diff-across.result) ≡ c.args.to.x -ℤ c.args.from.x = across_is in
    let qy : to_z w32 (of_z w32 c.args.to.y) ≡ c.args.to.y = search rules in
    let py : to_z w32 (of_z w32 c.args.from.y) ≡ c.args.from.y = search rules in
    let down : to_z w32 (of_z w32 c.diff-down.result) ≡ c.args.to.y -ℤ c.args.from.y = read_back c.diff-down.result c.diff-down.type_inv ∙ rw (qy, py) at c.diff-down.ensures in
    let w = rw (c.unsigned_abs-w.ensures, c.unsigned_abs-h.ensures, across, down) at c.if-w-h.true in
    rw (c.start.ensures, across, down, lt-ltb _ _ w)

pub start-requires-2 : goal.start-requires-2
start-requires-2 c =
    let qx : to_z w32 (of_z w32 c.args.to.x) ≡ c.args.to.x = search rules in
    let px : to_z w32 (of_z w32 c.args.from.x) ≡ c.args.from.x = search rules in
    let across_is : to_z w32 (of_z w32 c.diff-across.result) ≡ c.args.to.x -ℤ c.args.from.x = read_back c.diff-across.result c.diff-across.type_inv ∙ rw (qx, px) at c.diff-across.ensures in
    let across : to_z w32 (of_z w32 c.diff-across.result) ≡ c.args.to.x -ℤ c.args.from.x = across_is in
    let qy : to_z w32 (of_z w32 c.args.to.y) ≡ c.args.to.y = search rules in
    let py : to_z w32 (of_z w32 c.args.from.y) ≡ c.args.from.y = search rules in
    let down : to_z w32 (of_z w32 c.diff-down.result) ≡ c.args.to.y -ℤ c.args.from.y = read_back c.diff-down.result c.diff-down.type_inv ∙ rw (qy, py) at c.diff-down.ensures in
    let down_low : nat_abs (c.args.to.y -ℤ c.args.from.y) ≤ farthest + farthest = let h = size_sub c.args.to.y c.args.from.y in omega arith in
    let across_low : nat_abs (c.args.to.x -ℤ c.args.from.x) ≤ farthest + farthest = let h = size_sub c.args.to.x c.args.from.x in omega arith in
    record { fact_1 = rw down down_low; fact_2 = rw across across_low }

pub returns : goal.returns
unfolding scan_of
returns c =
    let qx : to_z w32 (of_z w32 c.args.to.x) ≡ c.args.to.x = search rules in
    let px : to_z w32 (of_z w32 c.args.from.x) ≡ c.args.from.x = search rules in
    let across_is : to_z w32 (of_z w32 c.diff-across.result) ≡ c.args.to.x -ℤ c.args.from.x = read_back c.diff-across.result c.diff-across.type_inv ∙ rw (qx, px) at c.diff-across.ensures in
    let across : to_z w32 (of_z w32 c.diff-across.result) ≡ c.args.to.x -ℤ c.args.from.x = across_is in
    let qy : to_z w32 (of_z w32 c.args.to.y) ≡ c.args.to.y = search rules in
    let py : to_z w32 (of_z w32 c.args.from.y) ≡ c.args.from.y = search rules in
    let down : to_z w32 (of_z w32 c.diff-down.result) ≡ c.args.to.y -ℤ c.args.from.y = read_back c.diff-down.result c.diff-down.type_inv ∙ rw (qy, py) at c.diff-down.ensures in
    let w = rw (c.unsigned_abs-w.ensures, c.unsigned_abs-h.ensures, across, down) at c.if-w-h.false in
    rw (c.start-2.ensures, across, down, le-ltb _ _ w)
