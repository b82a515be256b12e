-- `find_and_rank_possible_neighbors` refuses 11 and 16, or lays out the pairs of the ranked sets. Assumes nothing.
use native.Mathlib.Omega.{arith}
use mathlib.Core.Path.{◌≡◌, sym, ap, ◌∙◌}
use mathlib.Core.List.{map}
use borrow.Author.Rules.{rules}
use borrow.Author.Tests.{lt-ltb, le-ltb, lt-leb, le-leb}
use lib.ListN.{length, take, length-map}
use lib.Seq.{length-take-le}
use Rattle.refusals.specs.Finding.{found}
use Rattle.match_capstones.specs.Arrays.{Holds}
use Rattle.match_capstones.specs.Neighbors.{others_of, hlist, vlist}
use Rattle.match_capstones.specs.Scores.{made}
use Rattle.match_capstones.specs.Order.{ranked}
use Rattle.match_capstones.specs.Answer.{pair_of, pairs_of, ranking, laid_out}
use Rattle.match_capstones.proofs.Arrays.{holds_low}
use Rattle.match_capstones.proofs.Apart.{lists_few}
use Rattle.match_capstones.proofs.rank.find_and_rank_possible_neighbors.Goals as goal

pub returns-then-n-gt64 : goal.returns-then-n-gt64
unfolding ranking
returns-then-n-gt64 c = rw (lt-ltb 64 _ c.if-n-gt64.true) c.refused.ensures

pub returns-then-n-idx : goal.returns-then-n-idx
unfolding ranking
returns-then-n-idx c = rw (le-ltb 64 _ c.if-n-gt64.false, le-leb _ _ c.if-n-idx.true) c.refused-then-n-idx.ensures

pub possible_sets-requires : goal.possible_sets-requires
possible_sets-requires c =
    let room : length c.args.stones ≡ 64 = search rules in
    let long : length (take c.args.n c.args.stones) ≡ c.args.n = length-take-le c.args.n c.args.stones (omega arith) in
    (c.find_possible_neighbors-lists.ensures.holds.room_is, c.find_possible_neighbors-lists.ensures.holds_2.room_is, omega (arith, c.find_possible_neighbors-lists.ensures.holds.count, c.find_possible_neighbors-lists.ensures.holds_2.count, lists_few (take c.args.n c.args.stones) c.args.idx (omega arith) (omega arith)))

pub sorted-sets-requires : goal.sorted-sets-requires
sorted-sets-requires c = (c.possible_sets.ensures.room_is, holds_low c.possible_sets.ensures)

pub pairs_of-pairs-requires : goal.pairs_of-pairs-requires
pairs_of-pairs-requires c = (c.sorted-sets.ensures.room_is, holds_low c.sorted-sets.ensures)

pub returns : goal.returns
unfolding ranking laid_out pairs_of
returns c =
    let others = others_of (take c.args.n c.args.stones) c.args.idx in
    let sets = ranked (made (hlist others) (vlist others)) in
    let held : Holds 992 c.sorted-sets.result.all c.sorted-sets.result.n sets = rw (c.possible_sets.ensures.first, c.find_possible_neighbors-lists.ensures.holds.first, c.find_possible_neighbors-lists.ensures.holds_2.first) at c.sorted-sets.ensures in
    let long : length (map pair_of sets) ≡ c.sorted-sets.result.n = length-map sets pair_of ∙ sym held.count in
    rw (le-ltb 64 c.args.n c.if-n-gt64.false, lt-leb c.args.n c.args.idx c.if-n-idx.false)
    (record { answer = ap found (sym long); pairs = c.pairs_of-pairs.ensures ∙ rw (held.first, long) })
