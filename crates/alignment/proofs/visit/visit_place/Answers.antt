-- `visit_place` visits the pixel at a place, where there is one. Assumes nothing.
use mathlib.Core.Path.{◌≡◌, refl, sym, ◌∙◌}
use mir.Syntax.{w32}
use mir.Val.{to_z, of_z}
use borrow.Author.Rules.{rules}
use Rattle.alignment.specs.Visit.{place_at, beside, at_pixel}
use Rattle.alignment.proofs.Places.{pixel_in}
use Rattle.alignment.proofs.visit.visit_place.Goals as goal

pub visit_pixel-requires : goal.visit_pixel-requires
visit_pixel-requires c =
    let placed : c.place_at.result ≡ place_at c.args.width c.args.height c.args.at.x c.args.at.y =
    let ex : to_z w32 (of_z w32 c.args.at.x) ≡ c.args.at.x = search rules in
    let ey : to_z w32 (of_z w32 c.args.at.y) ≡ c.args.at.y = search rules in
    rw (ex, ey) at c.place_at.ensures
    in
    let in_picture = pixel_in _ _ _ _ _ _ (sym (placed) ∙ c.in-Some.is) in
    (c.requires.0, c.requires.1, in_picture.2, in_picture.3, c.requires.2)

pub returns-in-Some : goal.returns-in-Some
returns-in-Some c =
    let placed : c.place_at.result ≡ place_at c.args.width c.args.height c.args.at.x c.args.at.y =
    let ex : to_z w32 (of_z w32 c.args.at.x) ≡ c.args.at.x = search rules in
    let ey : to_z w32 (of_z w32 c.args.at.y) ≡ c.args.at.y = search rules in
    rw (ex, ey) at c.place_at.ensures
    in
    at_pixel _ _ (sym (placed) ∙ c.in-Some.is) c.visit_pixel.ensures

pub returns-in-None : goal.returns-in-None
returns-in-None c =
    let placed : c.place_at.result ≡ place_at c.args.width c.args.height c.args.at.x c.args.at.y =
    let ex : to_z w32 (of_z w32 c.args.at.x) ≡ c.args.at.x = search rules in
    let ey : to_z w32 (of_z w32 c.args.at.y) ≡ c.args.at.y = search rules in
    rw (ex, ey) at c.place_at.ensures
    in
    beside (sym (placed) ∙ c.in-None.is) refl refl refl
