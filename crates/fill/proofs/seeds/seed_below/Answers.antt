-- `seed_below` scans the line after y, where there is one. Assumes nothing.
use Prim.Native.Nat.{◌+◌}
use native.Mathlib.Omega.{arith}
use mathlib.Core.Path.{refl, sym, ap}
use lib.ListN.{length}
use Rattle.fill.specs.Stack.{held}
use Rattle.fill.proofs.Inside.{line_inside}
use Rattle.fill.proofs.Lines.{below_none, below_line}
use Rattle.fill.proofs.seeds.seed_below.Goals as goal

pub returns-then-b-h : goal.returns-then-b-h
returns-then-b-h c =
    sym (below_none _ c.args.h _ _ _ _ c.args.y _ (omega arith))

pub overflow_mul-base : goal.overflow_mul-base
overflow_mul-base c =
    omega (arith, line_inside c.requires.sized.0 (c.args.y + 1) (omega arith), c.well_formed)

pub seed_line-requires : goal.seed_line-requires
seed_line-requires c =
    let fits = line_inside c.requires.sized.0 (c.args.y + 1) (omega arith) in
    record { base_value = (refl, omega (arith, c.requires.sized.2), omega (arith, c.requires.sized.2, c.requires.sized.0.wide), omega (arith, c.requires.sized.1, c.requires.sized.0.tall)); sp_in_bounds = omega (arith, c.requires.sp_in_bounds, ap length (below_line c.args.w c.args.h c.args.from c.args.pic.now c.args.left c.args.n c.args.y (held c.args.stack.now c.args.sp) (c.args.y + 1) (omega arith) (omega arith))) }

pub returns : goal.returns
returns c =
    rw (below_line c.args.w c.args.h c.args.from c.args.pic.now c.args.left c.args.n c.args.y (held c.args.stack.now c.args.sp) (c.args.y + 1) (omega arith) (omega arith)) c.seed_line.ensures
