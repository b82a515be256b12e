-- What a byte keeps: the bounds of a state, and how many pixels are lent. Assumes nothing.
use Prim.Native.Nat.{ℕ, ◌-◌, ◌*◌, ◌<◌}
use native.Mathlib.Omega.{arith}
use mathlib.Core.Path.{◌≡◌, refl, ◌∙◌}
use mathlib.Core.Bool.{Bool, true, false, cond}
use mathlib.Core.List.{List, [], ◌∷◌, ◌++◌}
use lib.Dec.{leb, eqb}
use lib.ListN.{length, set, length-set}
use borrow.Author.Tests.{leb-true}
use Rattle.netpbm.specs.Form.{most_pixels, space}
use Rattle.netpbm.specs.Machine.{none, takes, in_width, in_height, sized, takes_pixel, in_pixels, stepped, kept_in, kept, Reading, next, fed, ended_in, Below, Within, Bounded}
use Rattle.netpbm.specs.declared.Number.{Number}
use Rattle.netpbm.specs.declared.Body.{Body}
use Rattle.std.proofs.Common.{None}
use Rattle.netpbm.specs.declared.Reader.{Reader}
use Rattle.netpbm.specs.declared.Reader.TheVariants.{Nothing, Letter, Magic, BeforeWidth, Width, BeforeHeight, Height, Pixels, Broken}
use Rattle.netpbm.proofs.Numbers.{none_below, longer_below, below_most, takes_pixel_told}

-- both ways out of a test
either : (P : Reader → Type 0) (t : Bool) (x y : Reader) → (t ≡ true → P x) → (t ≡ false → P y) → P (cond t x y)
either P true x y on off = on refl
either P false x y on off = off refl

width_bounded : (n : Number) (b : ℕ) → Below n → Bounded (in_width n b)
unfolding in_width
width_bounded n b w = either Bounded (takes n b) _ _ (longer_below n b w) (λ e. tt)

height_bounded : (w : ℕ) (n : Number) (b : ℕ) → w < 100000 → Below n → Bounded (in_height w n b)
unfolding in_height
height_bounded w n b low below = either Bounded (takes n b) _ _ (λ e. (low, longer_below n b below e)) (λ e. tt)

sized_bounded : (w h : ℕ) → Bounded (sized w h)
unfolding sized
sized_bounded w h = either Bounded (leb (w * h) most_pixels) _ _ (λ e. record { sides = leb-true (w * h) most_pixels e; part = omega arith }) (λ e. tt)

pixels_bounded : (p : Body) (b : ℕ) → Within p → Bounded (in_pixels p b)
unfolding in_pixels
pixels_bounded p b w =
    either Bounded (takes_pixel p b) _ _ (λ e. record { sides = w.sides; part = let t = takes_pixel_told p b e in omega (arith, t.0) }) (λ e. tt)

pub stepped_bounded : (r : Reader) (b : ℕ) → Bounded r → Bounded (stepped r b)
unfolding stepped
stepped_bounded Nothing b h = either Bounded (eqb b 80) _ _ (λ e. tt) (λ e. tt)
stepped_bounded Letter b h = either Bounded (eqb b 49) _ _ (λ e. tt) (λ e. tt)
stepped_bounded Magic b h = either Bounded (space b) _ _ (λ e. tt) (λ e. tt)
stepped_bounded BeforeWidth b h = either Bounded (space b) _ _ (λ e. tt) (λ e. width_bounded none b none_below)
stepped_bounded (Width n) b h = either Bounded (space b) _ _ (λ e. below_most n h) (λ e. width_bounded n b h)
stepped_bounded (BeforeHeight w) b h = either Bounded (space b) _ _ (λ e. h) (λ e. height_bounded w none b h none_below)
stepped_bounded (Height w n) b h = either Bounded (space b) _ _ (λ e. sized_bounded w n.value) (λ e. height_bounded w n b h.0 h.1)
stepped_bounded (Pixels p) b h = either Bounded (space b) _ _ (λ e. h) (λ e. pixels_bounded p b h)
stepped_bounded Broken b h = tt

kept_in_length : (p : Body) (b : ℕ) (pixels : List ℕ) → length (kept_in p b pixels) ≡ length pixels
unfolding kept_in
kept_in_length p b pixels = go (takes_pixel p b)
  where
    go : (t : Bool) → length (cond t (set pixels p.count (b - 48)) pixels) ≡ length pixels
    go true = length-set pixels p.count (b - 48)
    go false = refl

pub kept_length : (r : Reader) (b : ℕ) (pixels : List ℕ) → length (kept r b pixels) ≡ length pixels
unfolding kept
kept_length Nothing b pixels = refl
kept_length Letter b pixels = refl
kept_length Magic b pixels = refl
kept_length BeforeWidth b pixels = refl
kept_length (Width n) b pixels = refl
kept_length (BeforeHeight w) b pixels = refl
kept_length (Height w n) b pixels = refl
kept_length (Pixels p) b pixels = kept_in_length p b pixels
kept_length Broken b pixels = refl

-- a state that is not `Pixels`
abbrev pub Other : Reader → Type 0
Other r = (p : Body) → r ≡ Pixels p → ⊥

pub other_keeps : (r : Reader) (b : ℕ) (pixels : List ℕ) → Other r → kept r b pixels ≡ pixels
unfolding kept
other_keeps Nothing b pixels o = refl
other_keeps Letter b pixels o = refl
other_keeps Magic b pixels o = refl
other_keeps BeforeWidth b pixels o = refl
other_keeps (Width n) b pixels o = refl
other_keeps (BeforeHeight w) b pixels o = refl
other_keeps (Height w n) b pixels o = refl
other_keeps (Pixels p) b pixels o = absurd (o p refl)
other_keeps Broken b pixels o = refl

pub other_ends : (r : Reader) → Other r → ended_in r ≡ None
unfolding ended_in
other_ends Nothing o = refl
other_ends Letter o = refl
other_ends Magic o = refl
other_ends BeforeWidth o = refl
other_ends (Width n) o = refl
other_ends (BeforeHeight w) o = refl
other_ends (Height w n) o = refl
other_ends (Pixels p) o = absurd (o p refl)
other_ends Broken o = refl

-- bytes in a row keep what a byte keeps
pub fed_bounded : (s : Reading) (file : List ℕ) → Bounded s.reader → Bounded (fed s file).reader
unfolding fed
fed_bounded s [] h = h
fed_bounded s (b ∷ file) h = fed_bounded (next s b) file (stepped_bounded s.reader b h)

pub fed_length : (s : Reading) (file : List ℕ) → length (fed s file).pixels ≡ length s.pixels
unfolding fed
fed_length s [] = refl
fed_length s (b ∷ file) = fed_length (next s b) file ∙ kept_length s.reader b s.pixels

-- a file may be fed in parts
pub fed_parts : (s : Reading) (a b : List ℕ) → fed s (a ++ b) ≡ fed (fed s a) b
unfolding fed
fed_parts s [] b = refl
fed_parts s (x ∷ a) b = fed_parts (next s x) a b
