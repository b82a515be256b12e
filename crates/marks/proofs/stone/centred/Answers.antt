-- `centred` maps the middle, and hands its place on. Assumes nothing.
use Rattle.std.specs.Prelude.{Option, Some, None, Ok, Err, ok_or}
use Rattle.std.proofs.lemmas.Result.{err_from_is_err_and}
use mathlib.Core.Path.{◌≡◌, sym, ◌∙◌}
use lib.Ieee.{of_bits}
use Rattle.refusals.specs.Finding.{found, refused_by}
use Rattle.refusals.specs.declared.Refusal.{Refusal}
use Rattle.refusals.specs.declared.Refusal.TheVariants as refusal
use Rattle.points.specs.declared.Point.{Point}
use Rattle.geometry.specs.Map as map
use Rattle.marks.specs.Stone.{placed_stone, centred_stone}
use Rattle.marks.proofs.stone.centred.Goals as goal

-- a point that lies at no place is refused by 13
unplaced : (o : Option Point) (why : Refusal) → ok_or o refusal.Unplaced ≡ Err why → map.meaning o ≡ refused_by why
unplaced (Some p) why e = cc
unplaced None why e = let h : why ≡ refusal.Unplaced = cc in rw h

-- and one that lies at a place is found there
placed : (o : Option Point) (p : Point) → ok_or o refusal.Unplaced ≡ Ok p → map.meaning o ≡ found p
placed (Some r) p e = let h : r ≡ p = cc in rw h
placed None p e = cc

pub returns-in_err-center : goal.returns-in_err-center
unfolding centred_stone placed_stone of_bits
returns-in_err-center c =
    let at = sym c.map.ensures ∙ unplaced _ c.in_err-center.field-0.0 (sym c.ok_or.ensures.value ∙ c.in_err-center.was) in
    let p = err_from_is_err_and c.from_residual.result c.from_residual.ensures.1 in
    rw (p.1, p.2, at)

pub returns : goal.returns
unfolding centred_stone placed_stone of_bits
returns c =
    let at = sym c.map.ensures ∙ placed _ c.in_ok-center.center (sym c.ok_or.ensures.value ∙ c.in_ok-center.was) in
    rw at c.admitted.ensures
