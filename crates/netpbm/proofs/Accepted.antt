-- A file that the reader accepts is of the form: from each state on, what is left of the file is the rest of the form. Assumes nothing.
use Prim.Native.Nat.{ℕ, ◌+◌, ◌*◌, ◌≤◌, ◌<◌}
use native.Mathlib.Omega.{arith}
use mathlib.Core.Path.{◌≡◌, refl, sym, ap, subst, ◌∙◌}
use mathlib.Core.Bool.{Bool, true, false, cond}
use mathlib.Core.List.{List, [], ◌∷◌, ◌++◌}
use lib.Dec.{leb, eqb}
use lib.ListN.{length}
use borrow.Author.Tests.{leb-true, eqb-true}
use Rattle.netpbm.specs.Form.{most_pixels, space, digit, bit, all, said_after, Gap, Numeral, white_or_bit, pixels_in, BeginsWhite, Picture, Form}
use Rattle.netpbm.specs.Machine.{none, takes, longer, in_width, in_height, sized, takes_pixel, in_pixels, stepped, kept, Reading, reading, fed, bitmap, ended_at, ended_in}
use Rattle.netpbm.specs.declared.Number.{Number}
use Rattle.netpbm.specs.declared.Body.{Body}
use Rattle.netpbm.specs.declared.Sides.{Sides}
use Rattle.std.proofs.Common.{Option, Some, None}
use Rattle.netpbm.specs.declared.Reader.{Reader}
use Rattle.netpbm.specs.declared.Reader.TheVariants.{Nothing, Letter, Magic, BeforeWidth, Width, BeforeHeight, Height, Pixels, Broken}
use Rattle.netpbm.proofs.Numbers.{takes_told, takes_pixel_told}
use Rattle.netpbm.proofs.Whole.{bit_not_white, end_in_height}

-- what the reader answers to a file that goes on from a reading by these bytes
abbrev answer : Reading → List ℕ → Option Sides
answer s rest = ended_in (stepped (fed s rest).reader 32)

-- a bitmap's sides, and a refusal is none
abbrev SidesAre : Option Sides → ℕ → ℕ → Type 0
SidesAre (Some s) w h = (s.width ≡ w) × (s.height ≡ h)
SidesAre None w h = ⊥

sides : (a : Option Sides) (w h : ℕ) → a ≡ bitmap w h → SidesAre a w h
sides a w h e = subst (λ (i : Option Sides). SidesAre i w h) (sym e) (refl, refl)

mul_same : {a b c d : ℕ} → a ≡ c → b ≡ d → a * b ≡ c * d
mul_same {a} {b} {c} {d} e f = ap (λ (n : ℕ). n * b) e ∙ ap (λ (n : ℕ). c * n) f

-- no way leads out of a broken form
broken : (p rest : List ℕ) (w h : ℕ) → answer (reading Broken p) rest ≡ bitmap w h → ⊥
unfolding fed stepped kept ended_in
broken p [] w h e = sides None w h e
broken p (b ∷ rest) w h e = broken p rest w h e

-- by a test of the next byte
by_test : {A : Type 0} (t : Bool) (x y : Reader) (p rest : List ℕ) (w h : ℕ) → answer (reading (cond t x y) p) rest ≡ bitmap w h
    → (t ≡ true → answer (reading x p) rest ≡ bitmap w h → A) → (t ≡ false → answer (reading y p) rest ≡ bitmap w h → A) → A
by_test true x y p rest w h e on off = on refl e
by_test false x y p rest w h e on off = off refl e

module _ (w h : ℕ) where
  -- the rest of a body, after c pixels
  record Rest (v g c : ℕ) (s : List ℕ) : Type 0 where
    pub width : v ≡ w
    pub height : g ≡ h
    pub plain : all white_or_bit s ≡ true
    pub exact : c + length (pixels_in s) ≡ w * h

  abbrev at : ℕ → ℕ → ℕ → Reader
  at v g c = Pixels (record { width = v; height = g; count = c })

  white_rest : (v g c b : ℕ) (s : List ℕ) → space b ≡ true → Rest v g c s → Rest v g c (b ∷ s)
  unfolding all pixels_in
  white_rest v g c b s e R = record { width = R.width; height = R.height; plain = rw e R.plain; exact = rw e R.exact }

  bit_rest : (v g c b : ℕ) (s : List ℕ) → bit b ≡ true → Rest v g (c + 1) s → Rest v g c (b ∷ s)
  unfolding all pixels_in
  bit_rest v g c b s e R =
      record {
        width = R.width;
        height = R.height;
        plain = rw (bit_not_white b e, e) R.plain;
        exact = rw (bit_not_white b e) (omega (arith, R.exact));
      }

  ended : (v g c : ℕ) → ended_at (record { width = v; height = g; count = c }) ≡ bitmap w h → (v ≡ w) × (g ≡ h) × (c ≡ v * g)
  unfolding ended_at
  ended v g c e = go (eqb c (v * g)) refl e
    where
      go : (t : Bool) → eqb c (v * g) ≡ t → cond t (bitmap v g) None ≡ bitmap w h → (v ≡ w) × (g ≡ h) × (c ≡ v * g)
      go true is e = let s = sides (bitmap v g) w h e in (s.0, s.1, eqb-true c (v * g) is)
      go false is e = absurd (sides None w h e)

  from_pixels : (v g c : ℕ) (p s : List ℕ) → answer (reading (at v g c) p) s ≡ bitmap w h → Rest v g c s
  unfolding fed stepped kept in_pixels ended_in all pixels_in space
  from_pixels v g c p [] e = let s = ended v g c e in record { width = s.0; height = s.1; plain = refl; exact = omega (arith, s.2, mul_same s.0 s.1) }
  from_pixels v g c p (b ∷ s) e =
      let body : Body = record { width = v; height = g; count = c } in
      let after = kept (Pixels body) b p in
      by_test (space b) (at v g c) (in_pixels body b) after s w h e (λ is f. white_rest v g c b s is (from_pixels v g c after s f))
      (λ is f.
      by_test (takes_pixel body b) (at v g (c + 1)) Broken after s w h f
      (λ takes g'. bit_rest v g c b s (takes_pixel_told body b takes).1 (from_pixels v g (c + 1) after s g'))
      (λ off g'. absurd (broken after s w h g')))

  -- a body that follows the height
  record Ends (v g : ℕ) (body : List ℕ) : Type 0 where
    pub width : v ≡ w
    pub height : g ≡ h
    pub few : w * h ≤ most_pixels
    pub parted : 0 < w * h → BeginsWhite body
    pub plain : all white_or_bit body ≡ true
    pub exact : length (pixels_in body) ≡ w * h

  from_sized_empty : (v g : ℕ) → ended_in (sized v g) ≡ bitmap w h → Ends v g []
  unfolding sized ended_in all pixels_in
  from_sized_empty v g e = go (leb (v * g) most_pixels) refl e
    where
      go : (t : Bool) → leb (v * g) most_pixels ≡ t → ended_in (cond t (at v g 0) Broken) ≡ bitmap w h → Ends v g []
      go true is e =
          let s = ended v g 0 e in
          let product : v * g ≡ w * h = mul_same s.0 s.1 in
          record { width = s.0; height = s.1; few = omega (arith, leb-true (v * g) most_pixels is, product); parted = λ some. omega (arith, s.2, product, some); plain = refl; exact = omega (arith, s.2, product) }
      go false is e = absurd (sides None w h e)

  from_sized : (v g b : ℕ) (p s : List ℕ) → space b ≡ true → answer (reading (sized v g) p) s ≡ bitmap w h → Ends v g (b ∷ s)
  unfolding sized all pixels_in
  from_sized v g b p s white e =
      by_test (leb (v * g) most_pixels) (at v g 0) Broken p s w h e
      (λ is f.
      let R = from_pixels v g 0 p s f in
      record {
        width = R.width;
        height = R.height;
        few = omega (arith, leb-true (v * g) most_pixels is, mul_same R.width R.height);
        parted = λ some. white;
        plain = rw white R.plain;
        exact = rw white (omega (arith, R.exact));
      })
      (λ is f. absurd (broken p s w h f))

  -- the rest of the height, and the body
  record InHeight (v : ℕ) (n : Number) (rest : List ℕ) : Type 0 where
    pub word : List ℕ
    pub body : List ℕ
    pub whole : rest ≡ word ++ body
    pub digits : all digit word ≡ true
    pub fits : n.digits + length word ≤ 5
    pub ends : Ends v (said_after n.value word) body

  from_height : (v : ℕ) (n : Number) (p rest : List ℕ) → n.digits ≤ 5 → answer (reading (Height v n) p) rest ≡ bitmap w h → InHeight v n rest
  unfolding fed stepped kept in_height all said_after
  from_height v n p [] few e =
      record { word = []; body = []; whole = refl; digits = refl; fits = omega arith; ends = from_sized_empty v n.value (ap ended_in (sym (end_in_height v n)) ∙ e) }
  from_height v n p (b ∷ rest) few e =
      by_test (space b) (sized v n.value) (in_height v n b) p rest w h e
      (λ is f. record { word = []; body = b ∷ rest; whole = refl; digits = refl; fits = omega arith; ends = from_sized v n.value b p rest is f })
      (λ is f.
      by_test (takes n b) (Height v (longer n b)) Broken p rest w h f
      (λ on g.
      let t = takes_told n b on in
      let R = from_height v (longer n b) p rest (omega (arith, t.0)) g in
      record { word = b ∷ R.word; body = R.body; whole = ap (λ (l : List ℕ). b ∷ l) R.whole; digits = rw t.1 R.digits; fits = omega (arith, R.fits); ends = R.ends })
      (λ off g. absurd (broken p rest w h g)))

  -- white space, the height, and the body
  record BeforeTheHeight (v : ℕ) (rest : List ℕ) : Type 0 where
    pub gap : List ℕ
    pub word : List ℕ
    pub body : List ℕ
    pub whole : rest ≡ gap ++ (word ++ body)
    pub white : all space gap ≡ true
    pub numeral : Numeral word (said_after 0 word)
    pub ends : Ends v (said_after 0 word) body

  from_before_height : (v : ℕ) (p rest : List ℕ) → answer (reading (BeforeHeight v) p) rest ≡ bitmap w h → BeforeTheHeight v rest
  unfolding fed stepped kept in_height all said_after ended_in space
  from_before_height v p [] e = absurd (sides None w h e)
  from_before_height v p (b ∷ rest) e =
      by_test (space b) (BeforeHeight v) (in_height v none b) p rest w h e
      (λ is f.
      let R = from_before_height v p rest f in
      record { gap = b ∷ R.gap; word = R.word; body = R.body; whole = ap (λ (l : List ℕ). b ∷ l) R.whole; white = rw is R.white; numeral = R.numeral; ends = R.ends })
      (λ is f.
      by_test (takes none b) (Height v (longer none b)) Broken p rest w h f
      (λ on g.
      let t = takes_told none b on in
      let R = from_height v (longer none b) p rest (omega arith) g in
      record {
        gap = [];
        word = b ∷ R.word;
        body = R.body;
        whole = ap (λ (l : List ℕ). b ∷ l) R.whole;
        white = refl;
        numeral = record { digits = rw t.1 R.digits; some = omega arith; few = omega (arith, R.fits); says = refl };
        ends = R.ends;
      })
      (λ off g. absurd (broken p rest w h g)))

  -- the rest of the width, white space, the height, and the body
  record InWidth (n : Number) (rest : List ℕ) : Type 0 where
    pub first : List ℕ
    pub between : List ℕ
    pub second : List ℕ
    pub body : List ℕ
    pub whole : rest ≡ first ++ (between ++ (second ++ body))
    pub digits : all digit first ≡ true
    pub fits : n.digits + length first ≤ 5
    pub after_width : Gap between
    pub numeral : Numeral second (said_after 0 second)
    pub ends : Ends (said_after n.value first) (said_after 0 second) body

  from_width : (n : Number) (p rest : List ℕ) → n.digits ≤ 5 → answer (reading (Width n) p) rest ≡ bitmap w h → InWidth n rest
  unfolding fed stepped kept in_width all said_after ended_in space
  from_width n p [] few e = absurd (sides None w h e)
  from_width n p (b ∷ rest) few e =
      by_test (space b) (BeforeHeight n.value) (in_width n b) p rest w h e
      (λ is f.
      let R = from_before_height n.value p rest f in
      record {
        first = [];
        between = b ∷ R.gap;
        second = R.word;
        body = R.body;
        whole = ap (λ (l : List ℕ). b ∷ l) R.whole;
        digits = refl;
        fits = omega arith;
        after_width = record { white = rw is R.white; some = omega arith };
        numeral = R.numeral;
        ends = R.ends;
      })
      (λ is f.
      by_test (takes n b) (Width (longer n b)) Broken p rest w h f
      (λ on g.
      let t = takes_told n b on in
      let R = from_width (longer n b) p rest (omega (arith, t.0)) g in
      record {
        first = b ∷ R.first;
        between = R.between;
        second = R.second;
        body = R.body;
        whole = ap (λ (l : List ℕ). b ∷ l) R.whole;
        digits = rw t.1 R.digits;
        fits = omega (arith, R.fits);
        after_width = R.after_width;
        numeral = R.numeral;
        ends = R.ends;
      })
      (λ off g. absurd (broken p rest w h g)))

  -- what follows `P1` and white space
  record Header (rest : List ℕ) : Type 0 where
    pub gap : List ℕ
    pub first : List ℕ
    pub between : List ℕ
    pub second : List ℕ
    pub body : List ℕ
    pub whole : rest ≡ gap ++ (first ++ (between ++ (second ++ body)))
    pub white : all space gap ≡ true
    pub says_width : Numeral first (said_after 0 first)
    pub after_width : Gap between
    pub says_height : Numeral second (said_after 0 second)
    pub ends : Ends (said_after 0 first) (said_after 0 second) body

  from_before_width : (p rest : List ℕ) → answer (reading BeforeWidth p) rest ≡ bitmap w h → Header rest
  unfolding fed stepped kept in_width all said_after ended_in space
  from_before_width p [] e = absurd (sides None w h e)
  from_before_width p (b ∷ rest) e =
      by_test (space b) BeforeWidth (in_width none b) p rest w h e
      (λ is f.
      let R = from_before_width p rest f in
      record {
        gap = b ∷ R.gap;
        first = R.first;
        between = R.between;
        second = R.second;
        body = R.body;
        whole = ap (λ (l : List ℕ). b ∷ l) R.whole;
        white = rw is R.white;
        says_width = R.says_width;
        after_width = R.after_width;
        says_height = R.says_height;
        ends = R.ends;
      })
      (λ is f.
      by_test (takes none b) (Width (longer none b)) Broken p rest w h f
      (λ on g.
      let t = takes_told none b on in
      let R = from_width (longer none b) p rest (omega arith) g in
      record {
        gap = [];
        first = b ∷ R.first;
        between = R.between;
        second = R.second;
        body = R.body;
        whole = ap (λ (l : List ℕ). b ∷ l) R.whole;
        white = refl;
        says_width = record { digits = rw t.1 R.digits; some = omega arith; few = omega (arith, R.fits); says = refl };
        after_width = R.after_width;
        says_height = R.numeral;
        ends = R.ends;
      })
      (λ off g. absurd (broken p rest w h g)))

  -- the picture that a header and a body make
  formed : (b : ℕ) (rest : List ℕ) → space b ≡ true → (H : Header rest) → Form (80 ∷ 49 ∷ b ∷ rest) (record { width = w; height = h; pixels = pixels_in H.body })
  unfolding all
  formed b rest is H =
      record {
        gap = b ∷ H.gap;
        first = H.first;
        between = H.between;
        second = H.second;
        body = H.body;
        whole = ap (λ (l : List ℕ). 80 ∷ 49 ∷ b ∷ l) H.whole;
        after_magic = record { white = rw is H.white; some = omega arith };
        says_width = subst (Numeral H.first) H.ends.width H.says_width;
        after_width = H.after_width;
        says_height = subst (Numeral H.second) H.ends.height H.says_height;
        few = H.ends.few;
        parted = H.ends.parted;
        plain = H.ends.plain;
        shows = refl;
        exact = H.ends.exact;
      }

  -- a file of the form, with some pixels
  pub record Formed (file : List ℕ) : Type 0 where
    pub picture : Picture
    pub form : Form file picture

  from_magic : (p rest : List ℕ) → answer (reading Magic p) rest ≡ bitmap w h → Formed (80 ∷ 49 ∷ rest)
  unfolding fed stepped kept ended_in space
  from_magic p [] e = absurd (sides None w h e)
  from_magic p (b ∷ rest) e =
      by_test (space b) BeforeWidth Broken p rest w h e (λ is f. record { picture = _; form = formed b rest is (from_before_width p rest f) }) (λ is f. absurd (broken p rest w h f))

  from_letter : (p rest : List ℕ) → answer (reading Letter p) rest ≡ bitmap w h → Formed (80 ∷ rest)
  unfolding fed stepped kept ended_in space
  from_letter p [] e = absurd (sides None w h e)
  from_letter p (b ∷ rest) e =
      by_test (eqb b 49) Magic Broken p rest w h e (λ is f. subst (λ (c : ℕ). Formed (80 ∷ c ∷ rest)) (sym (eqb-true b 49 is)) (from_magic p rest f)) (λ is f. absurd (broken p rest w h f))

  pub accepted : (p file : List ℕ) → answer (reading Nothing p) file ≡ bitmap w h → Formed file
  unfolding fed stepped kept ended_in space
  accepted p [] e = absurd (sides None w h e)
  accepted p (b ∷ rest) e =
      by_test (eqb b 80) Letter Broken p rest w h e (λ is f. subst (λ (c : ℕ). Formed (c ∷ rest)) (sym (eqb-true b 80 is)) (from_letter p rest f)) (λ is f. absurd (broken p rest w h f))
