-- `possible_sets` holds the sets that the neighbours passed make. There is room for all: the lists have no more than 63 in all. Assumes nothing.
use native.Mathlib.Numerals.{add-one}
use native.Mathlib.Omega.{arith}
use mathlib.Core.Path.{◌≡◌, refl, sym, ap, ◌∙◌}
use mathlib.Core.Bool.{true, false}
use mathlib.Core.List.{List, flat_map}
use lib.ListN.{length, get_or, take}
use lib.Seq.{length-take-le}
use Rattle.std.proofs.lemmas.List.{take_all}
use Rattle.match_capstones.specs.declared.Neighbor.{Neighbor}
use Rattle.match_capstones.specs.Scores.{viable, set_of, one_set, sets_of, made}
use Rattle.match_capstones.proofs.Arrays.{holds_same}
use Rattle.match_capstones.proofs.Next.{no_neighbor, flat_map_next, holds_nothing, holds_one}
use Rattle.match_capstones.proofs.Count.{room_for_one}
use Rattle.match_capstones.proofs.sets.possible_sets.Goals as goal

pub loop-hn-init : goal.loop-hn-init
unfolding flat_map
loop-hn-init c = record { room_is = refl; count = refl; first = refl }

pub loop-vn-init : goal.loop-vn-init
unfolding flat_map
loop-vn-init c = holds_same c.loop-hn.invariant

pub loop-vn-preserved-then-not-is_viable : goal.loop-vn-preserved-then-not-is_viable
loop-vn-preserved-then-not-is_viable c =
    let hs : List Neighbor = take c.args.hns.n c.args.hns.all in
    let vs : List Neighbor = take c.args.vns.n c.args.vns.all in
    let hn = get_or hs c.loop-hn.hn-index no_neighbor in
    let vn = get_or vs c.loop-vn.vn-index no_neighbor in
    let drops : viable (set_of hn vn).score ≡ false = ap viable (sym c.score_of-score.ensures) ∙ sym c.is_viable.ensures ∙ c.if-not-is_viable.true in
    holds_nothing (one_set hn) (made (take c.loop-hn.hn-index hs) vs) vs c.loop-vn.vn-index no_neighbor c.loop-vn.invariant c.loop-vn-test.true (rw drops)

pub bounds-all-n : goal.bounds-all-n
bounds-all-n c =
    let hs : List Neighbor = take c.args.hns.n c.args.hns.all in
    let vs : List Neighbor = take c.args.vns.n c.args.vns.all in
    let first = take c.loop-hn.hn-index hs in
    let part = take c.loop-vn.vn-index vs in
    let h-long : length hs ≡ c.args.hns.n = length-take-le c.args.hns.n c.args.hns.all (omega arith) in
    let v-long : length vs ≡ c.args.vns.n = length-take-le c.args.vns.n c.args.vns.all (omega arith) in
    let i-long : length first ≡ c.loop-hn.hn-index = length-take-le c.loop-hn.hn-index hs (omega (arith, c.loop-hn-test.true)) in
    let j-long : length part ≡ c.loop-vn.vn-index = length-take-le c.loop-vn.vn-index vs (omega (arith, c.loop-vn-test.true)) in
    omega (arith, c.loop-vn.invariant.count, room_for_one first vs part (get_or hs c.loop-hn.hn-index no_neighbor) (omega (arith, c.loop-hn-test.true)) (omega (arith, c.loop-vn-test.true)))

pub loop-vn-preserved : goal.loop-vn-preserved
loop-vn-preserved c =
    let hs : List Neighbor = take c.args.hns.n c.args.hns.all in
    let vs : List Neighbor = take c.args.vns.n c.args.vns.all in
    let hn = get_or hs c.loop-hn.hn-index no_neighbor in
    let vn = get_or vs c.loop-vn.vn-index no_neighbor in
    let keeps : viable (set_of hn vn).score ≡ true = ap viable (sym c.score_of-score.ensures) ∙ sym c.is_viable.ensures ∙ c.if-not-is_viable.false in
    rw c.score_of-score.ensures
    (holds_one (one_set hn) (made (take c.loop-hn.hn-index hs) vs) vs c.loop-vn.vn-index no_neighbor c.loop-vn.invariant c.loop-vn-test.true (set_of hn vn) (bounds-all-n c) (rw keeps))

pub loop-hn-preserved : goal.loop-hn-preserved
loop-hn-preserved c =
    let hs : List Neighbor = take c.args.hns.n c.args.hns.all in
    let vs : List Neighbor = take c.args.vns.n c.args.vns.all in
    let whole : take c.loop-vn.vn-index vs ≡ vs = take_all c.loop-vn.vn-index vs (omega (arith, c.loop-vn-test.false)) in
    rw (add-one c.loop-hn.hn-index, flat_map_next (sets_of vs) hs c.loop-hn.hn-index no_neighbor c.loop-hn-test.true) (rw whole at c.loop-vn.invariant)
