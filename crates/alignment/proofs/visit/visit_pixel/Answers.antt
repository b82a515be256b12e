-- `visit_pixel` goes by the byte that the pixel shows, and looks it up. Assumes nothing.
use Prim.Native.Nat.{◌+◌, ◌*◌, ◌<◌}
use native.Mathlib.Omega.{arith}
use mathlib.Core.Path.{refl, sym, ◌∙◌}
use lib.ListN.{length}
use Rattle.pieces.proofs.Index.{in_picture}
use Rattle.regions.proofs.Accepted.{below}
use Rattle.alignment.specs.Visit.{white, not_listed, looked}
use Rattle.alignment.proofs.visit.visit_pixel.Goals as goal

pub overflow_mul-base : goal.overflow_mul-base
overflow_mul-base c =
    let stands : c.args.y * c.args.width + c.args.x < length c.args.pic.now = in_picture c.args.width c.args.height c.args.pic.now c.requires.0.sized.whole _ _ c.requires.2 c.requires.3 in
    omega (arith, stands)

pub overflow_add-byte : goal.overflow_add-byte
overflow_add-byte c =
    let stands : c.args.y * c.args.width + c.args.x < length c.args.pic.now = in_picture c.args.width c.args.height c.args.pic.now c.requires.0.sized.whole _ _ c.requires.2 c.requires.3 in
    omega (arith, stands)

pub bounds-pic-base : goal.bounds-pic-base
bounds-pic-base c =
    let stands : c.args.y * c.args.width + c.args.x < length c.args.pic.now = in_picture c.args.width c.args.height c.args.pic.now c.requires.0.sized.whole _ _ c.requires.2 c.requires.3 in
    stands

pub returns-then-byte-eq0 : goal.returns-then-byte-eq0
returns-then-byte-eq0 c = white c.if-byte-eq0.true refl refl refl

pub returns-then-is_unlisted : goal.returns-then-is_unlisted
returns-then-is_unlisted c = not_listed c.if-byte-eq0.false (sym c.is_unlisted.ensures ∙ c.if-is_unlisted.true) refl refl refl

pub get_region-looked-requires : goal.get_region-looked-requires
get_region-looked-requires c =
    record {
      seeded = record { sized = c.requires.0.sized; room = c.requires.0.room; in_x = c.requires.2; in_y = c.requires.3 };
      table = c.requires.1;
      dark = c.if-byte-eq0.false;
      listed = λ k e. below _ _ k (sym c.is_unlisted.ensures ∙ c.if-is_unlisted.false) e;
    }

pub returns : goal.returns
returns c =
    looked c.if-byte-eq0.false (sym c.is_unlisted.ensures ∙ c.if-is_unlisted.false) c.get_region-looked.ensures.0 c.get_region-looked.ensures.2 (c.visit_of.ensures c.get_region-looked.ensures.0 c.get_region-looked.ensures.1)
