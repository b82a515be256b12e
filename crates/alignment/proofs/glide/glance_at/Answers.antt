-- `glance_at` looks at the pixel at a place, where there is one. Assumes nothing.
use mathlib.Core.Path.{◌≡◌, sym, ◌∙◌}
use mir.Syntax.{w32}
use mir.Val.{to_z, of_z}
use borrow.Author.Rules.{rules}
use Rattle.pieces.proofs.Index.{in_picture}
use Rattle.alignment.specs.Visit.{place_at}
use Rattle.alignment.specs.Glide.{glance_at}
use Rattle.alignment.proofs.Places.{pixel_in}
use Rattle.alignment.proofs.glide.glance_at.Goals as goal

pub glance_pixel-requires : goal.glance_pixel-requires
glance_pixel-requires c =
    let placed : c.place_at.result ≡ place_at c.args.width c.args.height c.args.at.x c.args.at.y =
    let ex : to_z w32 (of_z w32 c.args.at.x) ≡ c.args.at.x = search rules in
    let ey : to_z w32 (of_z w32 c.args.at.y) ≡ c.args.at.y = search rules in
    rw (ex, ey) at c.place_at.ensures
    in
    let i = pixel_in _ _ _ _ _ _ (sym (placed) ∙ c.in-Some.is) in
    in_picture c.args.width c.args.height c.args.pic.now c.requires.whole _ _ i.2 i.3

pub returns-in-Some : goal.returns-in-Some
unfolding glance_at
returns-in-Some c =
    let placed : c.place_at.result ≡ place_at c.args.width c.args.height c.args.at.x c.args.at.y =
    let ex : to_z w32 (of_z w32 c.args.at.x) ≡ c.args.at.x = search rules in
    let ey : to_z w32 (of_z w32 c.args.at.y) ≡ c.args.at.y = search rules in
    rw (ex, ey) at c.place_at.ensures
    in
    rw (← (placed), c.in-Some.is) c.glance_pixel.ensures

pub returns-in-None : goal.returns-in-None
unfolding glance_at
returns-in-None c =
    let placed : c.place_at.result ≡ place_at c.args.width c.args.height c.args.at.x c.args.at.y =
    let ex : to_z w32 (of_z w32 c.args.at.x) ≡ c.args.at.x = search rules in
    let ey : to_z w32 (of_z w32 c.args.at.y) ≡ c.args.at.y = search rules in
    rw (ex, ey) at c.place_at.ensures
    in
    rw (← (placed), c.in-None.is)
