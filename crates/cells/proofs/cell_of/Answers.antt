-- `cell_of` hands a placed middle on, and refuses an unplaced one. Assumes nothing.
use Rattle.std.specs.Prelude.{Option, Some, None, Ok, Err, ok_or, ℕ, List}
use Rattle.std.proofs.lemmas.Result.{err_from_is_err_and}
use mathlib.Core.Path.{◌≡◌, sym, ◌∙◌}
use Rattle.refusals.specs.Finding.{refused_by}
use Rattle.refusals.specs.declared.Refusal.{Refusal}
use Rattle.refusals.specs.declared.Refusal.TheVariants as refusal
use Rattle.points.specs.declared.Point.{Point}
use Rattle.geometry.specs.Map as map
use Rattle.cells.specs.Cell.{cell_at, shown}
use Rattle.cells.proofs.cell_of.Goals as goal

-- a middle that lies at no place is refused by 13
unplaced : (pic : List ℕ) (width height : ℕ) (o : Option Point) (why : Refusal) → ok_or o refusal.Unplaced ≡ Err why → refused_by why ≡ shown pic width height (map.meaning o)
unfolding shown
unplaced pic width height (Some p) why e = cc
unplaced pic width height None why e = let h : why ≡ refusal.Unplaced = cc in rw h

-- and one that lies at a place is looked at there
placed : (pic : List ℕ) (width height : ℕ) (o : Option Point) (p : Point) → ok_or o refusal.Unplaced ≡ Ok p → cell_at pic width height p ≡ shown pic width height (map.meaning o)
unfolding shown
placed pic width height (Some r) p e = let h : r ≡ p = cc in rw h
placed pic width height None p e = cc

pub returns-in_err-ok_or : goal.returns-in_err-ok_or
returns-in_err-ok_or c =
    let p = err_from_is_err_and c.from_residual.result c.from_residual.ensures.1 in
    rw (p.1, p.2) (unplaced c.args.pic.now c.args.width c.args.height c.args.spot c.in_err-ok_or.field-0.0 (sym c.ok_or.ensures.value ∙ c.in_err-ok_or.was))

pub returns : goal.returns
returns c =
    c.cell_at.ensures ∙ placed c.args.pic.now c.args.width c.args.height c.args.spot c.in_ok-ok_or.field-0 (sym c.ok_or.ensures.value ∙ c.in_ok-ok_or.was)
