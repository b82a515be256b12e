-- `state` maps the point, and judges the place. Assumes nothing.
use Rattle.std.specs.Prelude.{Option, Some, None, Ok, Err, ok_or}
use Rattle.std.proofs.lemmas.Result.{err_from_is_err_and}
use mathlib.Core.Path.{◌≡◌, refl, sym, ap, ◌∙◌}
use Rattle.refusals.specs.Finding.{Finding, refused_by}
use Rattle.refusals.specs.declared.Refusal.{Refusal}
use Rattle.refusals.specs.declared.Refusal.TheVariants as refusal
use Rattle.points.specs.declared.Point.{Point}
use Rattle.geometry.specs.Map as map
use Rattle.stated.specs.Stated.{judged, stated}
use Rattle.stated.proofs.state.Goals as goal

-- a point that lies at no place is refused by 13
unplaced : (o : Option Point) (why : Refusal) {f : Finding Point} → ok_or o refusal.Unplaced ≡ Err why → map.meaning o ≡ f → refused_by why ≡ stated f
unfolding stated
unplaced (Some p) why e q = cc
unplaced None why e q = let h : why ≡ refusal.Unplaced = cc in rw (h, sym q)

-- and one that lies at a place is judged
placed : (o : Option Point) (p : Point) {f : Finding Point} → ok_or o refusal.Unplaced ≡ Ok p → map.meaning o ≡ f → judged p ≡ stated f
unfolding stated
placed (Some r) p e q = let h : r ≡ p = cc in rw (sym q, h)
placed None p e q = cc

pub returns-in_err-ok_or : goal.returns-in_err-ok_or
returns-in_err-ok_or c =
    let p = err_from_is_err_and c.from_residual.result c.from_residual.ensures.1 in
    rw (p.1, p.2) (unplaced c.map.result c.in_err-ok_or.field-0.0 (sym c.ok_or.ensures.value ∙ c.in_err-ok_or.was) c.map.ensures)

pub returns : goal.returns
returns c = c.judge.ensures ∙ placed c.map.result c.in_ok-ok_or.field-0 (sym c.ok_or.ensures.value ∙ c.in_ok-ok_or.was) c.map.ensures
