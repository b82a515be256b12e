-- `sorted` inserts each set where it ranks: the list ranks as it did after each exchange, and is in order at the end. Assumes nothing.
use Prim.Native.Nat.{suc, ◌-◌}
use native.Mathlib.Omega.{arith}
use mathlib.Core.Path.{◌≡◌, sym, ◌∙◌}
use mathlib.Core.Bool.{true}
use lib.ListN.{take, set}
use Rattle.match_capstones.specs.Order.{ranked}
use Rattle.match_capstones.proofs.Arrays.{holds_first}
use Rattle.match_capstones.proofs.Swap.{sooner, at, swap_is}
use Rattle.match_capstones.proofs.Rising.{moves, moves_ranked, rising_done}
use Rattle.match_capstones.proofs.sort.sorted.Goals as goal

pub loop-j-preserved : goal.loop-j-preserved
loop-j-preserved c =
    let k = c.loop-j.j - 1 in
    let up : c.loop-j.j ≡ suc k = omega arith in
    let h : sooner (at c.loop-j.all c.loop-j.j) (at c.loop-j.all k) ≡ true = sym c.ranks_before.ensures ∙ c.if-ranks_before.true in
    let new : c.swap.new.self ≡ set (set c.loop-j.all k (at c.loop-j.all c.loop-j.j)) c.loop-j.j (at c.loop-j.all k) =
    c.swap.ensures.after ∙ swap_is c.loop-j.all k c.loop-j.j (omega arith) (omega arith)
    in (
      omega arith,
      c.swap.ensures.len ∙ c.loop-j.invariant.1,
      rw new (moves_ranked c.loop-j.all c.args.sets.n c.loop-i.i c.loop-j.j k up (omega arith) (omega arith) h ∙ c.loop-j.invariant.2),
      rw new (moves c.loop-j.all c.args.sets.n c.loop-i.i c.loop-j.j k up (omega arith) (omega arith) h c.loop-j.invariant.3),
    )

pub returns : goal.returns
returns c =
    let end : c.loop-i.i ≡ c.args.sets.n = omega arith in
    let done : ranked (take c.args.sets.n c.loop-i.all) ≡ take c.args.sets.n c.loop-i.all = rising_done c.loop-i.all c.args.sets.n (omega arith) (rw end at c.loop-i.invariant.2) in
    rw (← c.loop-i.invariant.1, done) (holds_first 992 c.loop-i.all c.args.sets.n c.loop-i.invariant.0 (omega arith))
