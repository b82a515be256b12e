-- `advance` goes from edge to edge, and keeps what is ahead until a cut is met or the line ends. Assumes nothing.
use Prim.Native.Nat.{◌+◌, ◌-◌, ◌≤◌, ◌<◌}
use native.Mathlib.Omega.{arith}
use mathlib.Core.Path.{◌≡◌, refl, sym, ◌∙◌}
use mathlib.Core.Bool.{cond, ◌&&◌}
use mathlib.Core.List.{◌∷◌}
use lib.Dec.{leb}
use Rattle.scanner.specs.Edges.{dark, edges_after}
use Rattle.scanner.specs.Cuts.{is_cut, position}
use Rattle.scanner.specs.Scan.{passed, ahead, to_cut, to_end}
use Rattle.scanner.proofs.Ahead.{run_bounds, next_edge, by_edge, at_end, stays_on}
use Rattle.scanner.proofs.LineScanner.advance.Goals as goal

pub loop-s-init : goal.loop-s-init
loop-s-init c = (refl, c.requires.0)

pub run_end-edge-requires : goal.run_end-edge-requires
run_end-edge-requires c =
    (omega arith, c.requires.1, c.requires.2)

pub pass-next-requires : goal.pass-next-requires
pass-next-requires c =
    omega arith

pub is_cut-requires : goal.is_cut-requires
is_cut-requires c =
    let further : (c.loop-s.s.e4 < c.run_end-edge.result) × (c.run_end-edge.result ≤ c.args.width) =
    let on : c.loop-s.s.e4 < c.args.width = c.loop-s-test.true in
    let b = run_bounds c.args.pic.now c.args.base (dark c.args.pic.now c.args.base c.loop-s.s.e4) (c.args.width - (c.loop-s.s.e4 + 1)) (c.loop-s.s.e4 + 1) in
    rw c.run_end-edge.ensures (omega (arith, b.0), omega (arith, b.1))
    in
    let f = further in
    (record { some = c.loop-s.invariant.1.some; few = c.loop-s.invariant.1.few; in0 = c.loop-s.invariant.1.in0; in1 = c.loop-s.invariant.1.in1; in2 = c.loop-s.invariant.1.in2; in3 = c.loop-s.invariant.1.in3; in4 = omega (arith, f.0) }, c.loop-s-test.true, c.requires.1, f.1, c.requires.2)

pub returns-then-is_cut : goal.returns-then-is_cut
returns-then-is_cut c =
    let further : (c.loop-s.s.e4 < c.run_end-edge.result) × (c.run_end-edge.result ≤ c.args.width) =
    let on : c.loop-s.s.e4 < c.args.width = c.loop-s-test.true in
    let b = run_bounds c.args.pic.now c.args.base (dark c.args.pic.now c.args.base c.loop-s.s.e4) (c.args.width - (c.loop-s.s.e4 + 1)) (c.loop-s.s.e4 + 1) in
    rw c.run_end-edge.ensures (omega (arith, b.0), omega (arith, b.1))
    in
    let by : ahead c.args.pic.now c.args.base c.args.width c.loop-s.s
    ≡ cond (leb 5 c.loop-s.s.met && is_cut c.args.pic.now c.args.base c.loop-s.s.e0 c.loop-s.s.e1 c.loop-s.s.e2 c.loop-s.s.e3 c.loop-s.s.e4 c.run_end-edge.result) (position c.loop-s.s.e0 c.loop-s.s.e2 c.loop-s.s.e4 ∷ ahead c.args.pic.now c.args.base c.args.width (passed c.loop-s.s c.run_end-edge.result)) (ahead c.args.pic.now c.args.base c.args.width (passed c.loop-s.s c.run_end-edge.result)) =
    let next : edges_after c.args.pic.now c.args.base c.args.width c.loop-s.s.e4 ≡ c.run_end-edge.result ∷ edges_after c.args.pic.now c.args.base c.args.width c.run_end-edge.result = rw c.run_end-edge.ensures (next_edge c.args.pic.now c.args.base c.args.width c.loop-s.s.e4 c.loop-s-test.true) in
    by_edge c.args.pic.now c.args.base c.args.width c.loop-s.s c.run_end-edge.result c.loop-s.invariant.1.some next
    in
    let test = sym c.is_cut.ensures ∙ c.if-is_cut.true in
    let f = further in
    let cut = c.loop-s.invariant.0 ∙ by in
    to_cut (position c.loop-s.s.e0 c.loop-s.s.e2 c.loop-s.s.e4) c.pass-next.result (rw c.pass-next.ensures (rw test at cut)) (rw c.pass-next.ensures (stays_on _ c.loop-s.s c.run_end-edge.result c.loop-s.invariant.1 f.0 f.1))

pub loop-s-smaller : goal.loop-s-smaller
loop-s-smaller c =
    let further : (c.loop-s.s.e4 < c.run_end-edge.result) × (c.run_end-edge.result ≤ c.args.width) =
    let on : c.loop-s.s.e4 < c.args.width = c.loop-s-test.true in
    let b = run_bounds c.args.pic.now c.args.base (dark c.args.pic.now c.args.base c.loop-s.s.e4) (c.args.width - (c.loop-s.s.e4 + 1)) (c.loop-s.s.e4 + 1) in
    rw c.run_end-edge.ensures (omega (arith, b.0), omega (arith, b.1))
    in
    let f = further in
    rw c.pass-next.ensures (omega (arith, f.0, f.1))

pub loop-s-preserved : goal.loop-s-preserved
loop-s-preserved c =
    let further : (c.loop-s.s.e4 < c.run_end-edge.result) × (c.run_end-edge.result ≤ c.args.width) =
    let on : c.loop-s.s.e4 < c.args.width = c.loop-s-test.true in
    let b = run_bounds c.args.pic.now c.args.base (dark c.args.pic.now c.args.base c.loop-s.s.e4) (c.args.width - (c.loop-s.s.e4 + 1)) (c.loop-s.s.e4 + 1) in
    rw c.run_end-edge.ensures (omega (arith, b.0), omega (arith, b.1))
    in
    let by : ahead c.args.pic.now c.args.base c.args.width c.loop-s.s
    ≡ cond (leb 5 c.loop-s.s.met && is_cut c.args.pic.now c.args.base c.loop-s.s.e0 c.loop-s.s.e1 c.loop-s.s.e2 c.loop-s.s.e3 c.loop-s.s.e4 c.run_end-edge.result) (position c.loop-s.s.e0 c.loop-s.s.e2 c.loop-s.s.e4 ∷ ahead c.args.pic.now c.args.base c.args.width (passed c.loop-s.s c.run_end-edge.result)) (ahead c.args.pic.now c.args.base c.args.width (passed c.loop-s.s c.run_end-edge.result)) =
    let next : edges_after c.args.pic.now c.args.base c.args.width c.loop-s.s.e4 ≡ c.run_end-edge.result ∷ edges_after c.args.pic.now c.args.base c.args.width c.run_end-edge.result = rw c.run_end-edge.ensures (next_edge c.args.pic.now c.args.base c.args.width c.loop-s.s.e4 c.loop-s-test.true) in
    by_edge c.args.pic.now c.args.base c.args.width c.loop-s.s c.run_end-edge.result c.loop-s.invariant.1.some next
    in
    let test = sym c.is_cut.ensures ∙ c.if-is_cut.false in
    let f = further in
    let on = c.loop-s.invariant.0 ∙ by in
    rw c.pass-next.ensures (rw test at on, stays_on _ c.loop-s.s c.run_end-edge.result c.loop-s.invariant.1 f.0 f.1)

pub returns : goal.returns
returns c =
    to_end (c.loop-s.invariant.0 ∙ at_end _ _ _ c.loop-s.s c.loop-s-test.false)
