-- `bound_all` goes from grid to grid, until they end or one is refused. Assumes nothing.
use native.Mathlib.Omega.{arith}
use lib.ListN.{length}
use borrow.Author.Rules.{rules}
use Rattle.std.specs.Prelude.{Option, Some, None, Ok, Err, ok_or}
use Rattle.std.proofs.lemmas.Result.{err_from_is_err_and}
use mathlib.Core.Path.{◌≡◌, sym, ◌∙◌}
use Rattle.refusals.specs.Finding.{Finding, found, refused_by}
use Rattle.refusals.specs.declared.Refusal.{Refusal}
use Rattle.refusals.specs.declared.Refusal.TheVariants as refusal
use Rattle.bounds.specs.Bounds.{meaning}
use Rattle.bounds.specs.declared.Grid.{Grid}
use Rattle.bounded.proofs.Bounding.{grids_begin, array_end, array_stop, array_next}
use Rattle.bounded.proofs.all.bound_all.Goals as goal

-- a grid that has a bound nowhere is refused by 13
unplaced : (o : Option Grid) (why : Refusal) {f : Finding Grid} → ok_or o refusal.Unplaced ≡ Err why → meaning o ≡ f → f ≡ refused_by why
unplaced (Some g) why e q = cc
unplaced None why e q = let h : why ≡ refusal.Unplaced = cc in rw (h, sym q)

-- and one that is placed is found
placed : (o : Option Grid) (g : Grid) {f : Finding Grid} → ok_or o refusal.Unplaced ≡ Ok g → meaning o ≡ f → f ≡ found g
placed (Some r) g e q = let h : r ≡ g = cc in rw (sym q, h)
placed None g e q = cc

pub loop-k-init : goal.loop-k-init
loop-k-init c = (grids_begin c.none-sofar.result c.none-sofar.ensures.0 c.none-sofar.ensures.1 c.none-sofar.ensures.2, omega arith)

pub returns-in_err-grid : goal.returns-in_err-grid
returns-in_err-grid c =
    let long : length c.args.locations ≡ 31 = search rules in
    let p = err_from_is_err_and c.from_residual.result c.from_residual.ensures.1 in
    let is = unplaced c.bounds_of.result c.in_err-grid.field-0.0 (sym c.ok_or.ensures.value ∙ c.in_err-grid.was) c.bounds_of.ensures in
    rw (p.1, p.2) (array_stop c.args.locations c.args.n (omega (arith, long, c.requires)) c.loop-k.invariant.0 c.loop-k-test.true is, tt)

pub loop-k-preserved : goal.loop-k-preserved
loop-k-preserved c =
    let long : length c.args.locations ≡ 31 = search rules in
    let is = placed c.bounds_of.result c.in_ok-grid.grid (sym c.ok_or.ensures.value ∙ c.in_ok-grid.was) c.bounds_of.ensures in
    let more = c.with_grid-sofar.ensures in
    (array_next c.args.locations c.args.n (omega (arith, long, c.requires)) c.loop-k.invariant.0 c.loop-k-test.true is more.0 more.1 more.2, omega arith)

pub returns : goal.returns
returns c =
    let long : length c.args.locations ≡ 31 = search rules in
    (array_end c.args.locations c.args.n (omega (arith, long, c.requires)) c.loop-k.invariant.0 (omega arith), c.loop-k.invariant.0.held)
