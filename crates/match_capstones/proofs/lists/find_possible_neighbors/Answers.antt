-- `find_possible_neighbors` lists those of the stones passed that lie in line. A stone of the first list is not of the second. Assumes nothing.
use Prim.Native.Nat.{◌<◌}
use mathlib.Core.Path.{◌≡◌, refl, sym, ◌∙◌}
use mathlib.Core.List.{flat_map}
use native.Mathlib.Omega.{arith}
use borrow.Author.Rules.{rules}
use lib.ListN.{length, get_or}
use lib.Seq.{get_or-take}
use Rattle.geometry.specs.declared.Perspective.{Perspective}
use Rattle.capstones.specs.Blank.{no_stone}
use Rattle.match_capstones.specs.Neighbors.{others}
use Rattle.match_capstones.proofs.Apart.{seen_once}
use Rattle.match_capstones.proofs.Passed.{passed_few, passed_itself, passed_out, passed_in}
use Rattle.match_capstones.proofs.lists.find_possible_neighbors.Goals as goal

pub loop-i-init : goal.loop-i-init
unfolding others flat_map
loop-i-init c = (omega arith, record { room_is = refl; count = refl; first = refl }, record { room_is = refl; count = refl; first = refl })

pub loop-i-preserved-then-i-idx : goal.loop-i-preserved-then-i-idx
loop-i-preserved-then-i-idx c =
    let sight : Perspective = (get_or c.args.stones c.args.idx no_stone).c in
    let room : length c.args.stones ≡ 64 = search rules in
    let low : c.loop-i.i < length c.args.stones = omega arith in (
      omega arith,
      passed_itself (λ p. p.u) (λ p. p.v) sight c.args.idx c.args.stones c.loop-i.i low c.loop-i.invariant.1 c.if-i-idx.true,
      passed_itself (λ p. p.v) (λ p. p.u) sight c.args.idx c.args.stones c.loop-i.i low c.loop-i.invariant.2 c.if-i-idx.true,
    )

pub offset_bounds-hs-h : goal.offset_bounds-hs-h
offset_bounds-hs-h c =
    let sight : Perspective = (get_or c.args.stones c.args.idx no_stone).c in
    omega (arith, passed_few (λ p. p.u) (λ p. p.v) sight c.args.idx c.args.stones c.loop-i.i c.loop-i.invariant.1)

pub bounds-hs-h : goal.bounds-hs-h
bounds-hs-h c =
    let sight : Perspective = (get_or c.args.stones c.args.idx no_stone).c in
    omega (arith, passed_few (λ p. p.u) (λ p. p.v) sight c.args.idx c.args.stones c.loop-i.i c.loop-i.invariant.1)

pub overflow_add-h : goal.overflow_add-h
overflow_add-h c =
    let sight : Perspective = (get_or c.args.stones c.args.idx no_stone).c in
    omega (arith, passed_few (λ p. p.u) (λ p. p.v) sight c.args.idx c.args.stones c.loop-i.i c.loop-i.invariant.1)

pub loop-i-preserved-then-is_in_line : goal.loop-i-preserved-then-is_in_line
loop-i-preserved-then-is_in_line c =
    let sight : Perspective = (get_or c.args.stones c.args.idx no_stone).c in
    let i = c.loop-i.i in
    let stones = c.args.stones in
    let passed = c.loop-i.invariant in
    let room : length c.args.stones ≡ 64 = search rules in
    let low : c.loop-i.i < length c.args.stones = omega arith in
    let along-v = sym c.is_in_line.ensures ∙ c.if-is_in_line.true in
    let not-along-u = seen_once sight (get_or c.args.stones c.loop-i.i no_stone).center c.offset_of-at.ensures along-v in (
      omega arith,
      passed_in (λ p. p.u) (λ p. p.v) sight c.args.idx stones i low passed.1 c.if-i-idx.false c.offset_of-at.ensures along-v (omega arith),
      passed_out (λ p. p.v) (λ p. p.u) sight c.args.idx stones i low passed.2 c.if-i-idx.false c.offset_of-at.ensures not-along-u,
    )

pub loop-i-preserved-then-not-is_in_line : goal.loop-i-preserved-then-not-is_in_line
loop-i-preserved-then-not-is_in_line c =
    let sight : Perspective = (get_or c.args.stones c.args.idx no_stone).c in
    let room : length c.args.stones ≡ 64 = search rules in
    let low : c.loop-i.i < length c.args.stones = omega arith in
    let not-along-v = sym c.is_in_line.ensures ∙ c.if-is_in_line.false in
    let not-along-u = sym c.is_in_line-in-loop-i.ensures ∙ c.if-not-is_in_line.true in (
      omega arith,
      passed_out (λ p. p.u) (λ p. p.v) sight c.args.idx c.args.stones c.loop-i.i low c.loop-i.invariant.1 c.if-i-idx.false c.offset_of-at.ensures not-along-v,
      passed_out (λ p. p.v) (λ p. p.u) sight c.args.idx c.args.stones c.loop-i.i low c.loop-i.invariant.2 c.if-i-idx.false c.offset_of-at.ensures not-along-u,
    )

pub offset_bounds-vs-v : goal.offset_bounds-vs-v
offset_bounds-vs-v c =
    let sight : Perspective = (get_or c.args.stones c.args.idx no_stone).c in
    omega (arith, passed_few (λ p. p.v) (λ p. p.u) sight c.args.idx c.args.stones c.loop-i.i c.loop-i.invariant.2)

pub bounds-vs-v : goal.bounds-vs-v
bounds-vs-v c =
    let sight : Perspective = (get_or c.args.stones c.args.idx no_stone).c in
    omega (arith, passed_few (λ p. p.v) (λ p. p.u) sight c.args.idx c.args.stones c.loop-i.i c.loop-i.invariant.2)

pub overflow_add-v : goal.overflow_add-v
overflow_add-v c =
    let sight : Perspective = (get_or c.args.stones c.args.idx no_stone).c in
    omega (arith, passed_few (λ p. p.v) (λ p. p.u) sight c.args.idx c.args.stones c.loop-i.i c.loop-i.invariant.2)

pub loop-i-preserved : goal.loop-i-preserved
loop-i-preserved c =
    let sight : Perspective = (get_or c.args.stones c.args.idx no_stone).c in
    let i = c.loop-i.i in
    let stones = c.args.stones in
    let passed = c.loop-i.invariant in
    let room : length c.args.stones ≡ 64 = search rules in
    let low : c.loop-i.i < length c.args.stones = omega arith in
    let not-along-v = sym c.is_in_line.ensures ∙ c.if-is_in_line.false in
    let along-u = sym c.is_in_line-in-loop-i.ensures ∙ c.if-not-is_in_line.false in (
      omega arith,
      passed_out (λ p. p.u) (λ p. p.v) sight c.args.idx stones i low passed.1 c.if-i-idx.false c.offset_of-at.ensures not-along-v,
      passed_in (λ p. p.v) (λ p. p.u) sight c.args.idx stones i low passed.2 c.if-i-idx.false c.offset_of-at.ensures along-u (omega arith),
    )

pub returns : goal.returns
returns c =
    let all : c.loop-i.i ≡ c.args.n = omega arith in
    let own = get_or-take c.args.n c.args.stones c.args.idx no_stone c.requires.1 in
    record { holds = rw (own, ← all) c.loop-i.invariant.1; holds_2 = rw (own, ← all) c.loop-i.invariant.2 }
