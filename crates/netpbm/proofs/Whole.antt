-- A file of the form is read to its end: piece by piece of the form, where the reader stands then and what it has stored. Assumes nothing.
use Prim.Native.Nat.{ℕ, suc, ◌+◌, ◌-◌, ◌*◌, ◌≤◌, ◌<◌}
use native.Mathlib.Omega.{arith}
use native.Mathlib.Nat.{add-zero}
use native.Mathlib.Numerals.{add-one}
use mathlib.Core.Path.{◌≡◌, refl, sym, ap, subst, ◌∙◌}
use mathlib.Core.Bool.{Bool, true, false, ◌||◌, and-false, true≢false}
use mathlib.Core.List.{List, [], ◌∷◌, ◌++◌, append_assoc, append-nil}
use lib.Dec.{ltb}
use lib.ListN.{length, take, set, length-set}
use lib.Seq.{take-suc-set}
use borrow.Author.Tests.{lt-ltb, le-leb, ne_eqb}
use Rattle.netpbm.specs.Form.{most_pixels, space, digit, bit, all, said_after, Gap, Numeral, white_or_bit, pixels_in, BeginsWhite, Picture, Form}
use Rattle.netpbm.specs.Machine.{none, takes, longer, in_width, in_height, sized, takes_pixel, in_pixels, stepped, kept_in, kept, Reading, reading, fed}
use Rattle.netpbm.specs.declared.Number.{Number}
use Rattle.netpbm.specs.declared.Body.{Body}
use Rattle.netpbm.specs.declared.Reader.{Reader}
use Rattle.netpbm.specs.declared.Reader.TheVariants.{Nothing, Magic, BeforeWidth, Width, BeforeHeight, Height, Pixels}
use Rattle.netpbm.proofs.Numbers.{both, digit_range, bit_range}
use Rattle.netpbm.proofs.Steps.{fed_parts}

-- no byte from 0 to 9 is white space
not_white : (b : ℕ) → 48 ≤ b → space b ≡ false
unfolding space
not_white b h = rw (ne_eqb b 32 (λ e. omega (arith, e)), ne_eqb b 9 (λ e. omega (arith, e)), ne_eqb b 13 (λ e. omega (arith, e)), ne_eqb b 10 (λ e. omega (arith, e)))

pub digit_not_white : (b : ℕ) → digit b ≡ true → space b ≡ false
digit_not_white b e = not_white b (digit_range b e).0

pub bit_not_white : (b : ℕ) → bit b ≡ true → space b ≡ false
bit_not_white b e = not_white b (bit_range b e).0

-- white space before a number changes nothing
white_before_width : (p s : List ℕ) → all space s ≡ true → fed (reading BeforeWidth p) s ≡ reading BeforeWidth p
unfolding all fed stepped kept
white_before_width p [] e = refl
white_before_width p (b ∷ s) e = let t = both (space b) (all space s) e in rw t.0 (white_before_width p s t.1)

white_before_height : (w : ℕ) (p s : List ℕ) → all space s ≡ true → fed (reading (BeforeHeight w) p) s ≡ reading (BeforeHeight w) p
unfolding all fed stepped kept
white_before_height w p [] e = refl
white_before_height w p (b ∷ s) e = let t = both (space b) (all space s) e in rw t.0 (white_before_height w p s t.1)

gap_magic : (p s : List ℕ) → Gap s → fed (reading Magic p) s ≡ reading BeforeWidth p
unfolding all fed stepped kept
gap_magic p [] g = absurd (omega (arith, g.some))
gap_magic p (b ∷ s) g = let t = both (space b) (all space s) g.white in rw t.0 (white_before_width p s t.1)

gap_width : (n : Number) (p s : List ℕ) → Gap s → fed (reading (Width n) p) s ≡ reading (BeforeHeight n.value) p
unfolding all fed stepped kept
gap_width n p [] g = absurd (omega (arith, g.some))
gap_width n p (b ∷ s) g = let t = both (space b) (all space s) g.white in rw t.0 (white_before_height n.value p s t.1)

-- a number with digits more, and what they say
abbrev grown : Number → List ℕ → Number
grown n s = record { digits = n.digits + length s; value = said_after n.value s }

grown_none : (n : Number) → grown n [] ≡ n
unfolding said_after
grown_none n = λ i. record { digits = add-zero n.digits i; value = n.value }

grown_more : (n : Number) (b : ℕ) (s : List ℕ) → grown (longer n b) s ≡ grown n (b ∷ s)
unfolding said_after
grown_more n b s = λ i. record { digits = same i; value = said_after (n.value * 10 + (b - 48)) s }
  where
    same : n.digits + 1 + length s ≡ n.digits + suc (length s)
    same = omega arith

takes_digit : (n : Number) (b : ℕ) → n.digits < 5 → digit b ≡ true → takes n b ≡ true
unfolding takes
takes_digit n b h e = rw (lt-ltb n.digits 5 h, e)

digits_width : (n : Number) (p s : List ℕ) → all digit s ≡ true → n.digits + length s ≤ 5 → fed (reading (Width n) p) s ≡ reading (Width (grown n s)) p
unfolding all fed stepped kept in_width
digits_width n p [] e few = ap (λ (m : Number). reading (Width m) p) (sym (grown_none n))
digits_width n p (b ∷ s) e few =
    let t = both (digit b) (all digit s) e in
    rw (digit_not_white b t.0, takes_digit n b (omega arith) t.0)
    (digits_width (longer n b) p s t.1 (omega arith) ∙ ap (λ (m : Number). reading (Width m) p) (grown_more n b s))

digits_height : (w : ℕ) (n : Number) (p s : List ℕ) → all digit s ≡ true → n.digits + length s ≤ 5 → fed (reading (Height w n) p) s ≡ reading (Height w (grown n s)) p
unfolding all fed stepped kept in_height
digits_height w n p [] e few = ap (λ (m : Number). reading (Height w m) p) (sym (grown_none n))
digits_height w n p (b ∷ s) e few =
    let t = both (digit b) (all digit s) e in
    rw (digit_not_white b t.0, takes_digit n b (omega arith) t.0)
    (digits_height w (longer n b) p s t.1 (omega arith) ∙ ap (λ (m : Number). reading (Height w m) p) (grown_more n b s))

numeral_width : (p s : List ℕ) (v : ℕ) → Numeral s v → fed (reading BeforeWidth p) s ≡ reading (Width (grown none s)) p
unfolding all fed stepped kept in_width
numeral_width p [] v e = absurd (omega (arith, e.some))
numeral_width p (b ∷ s) v e =
    let t = both (digit b) (all digit s) e.digits in
    rw (digit_not_white b t.0, takes_digit none b (omega arith) t.0)
    (digits_width (longer none b) p s t.1 (omega (arith, e.few)) ∙ ap (λ (m : Number). reading (Width m) p) (grown_more none b s))

numeral_height : (w : ℕ) (p s : List ℕ) (v : ℕ) → Numeral s v → fed (reading (BeforeHeight w) p) s ≡ reading (Height w (grown none s)) p
unfolding all fed stepped kept in_height
numeral_height w p [] v e = absurd (omega (arith, e.some))
numeral_height w p (b ∷ s) v e =
    let t = both (digit b) (all digit s) e.digits in
    rw (digit_not_white b t.0, takes_digit none b (omega arith) t.0)
    (digits_height w (longer none b) p s t.1 (omega (arith, e.few)) ∙ ap (λ (m : Number). reading (Height w m) p) (grown_more none b s))

-- how many pixels are read
abbrev at : ℕ → ℕ → ℕ → Reader
at w h c = Pixels (record { width = w; height = h; count = c })

-- a body read from some pixel on: its pixels follow those that were stored before
record Stored (w h c : ℕ) (p s : List ℕ) : Type 0 where
  pub after : List ℕ
  pub comes : fed (reading (at w h c) p) s ≡ reading (at w h (c + length (pixels_in s))) after
  pub taken : take (c + length (pixels_in s)) after ≡ take c p ++ pixels_in s

white_not_bit : (b : ℕ) → space b ≡ true → bit b ≡ false
white_not_bit b e = go (bit b) refl
  where
    go : (t : Bool) → bit b ≡ t → bit b ≡ false
    go true is = absurd (true≢false (sym e ∙ bit_not_white b is))
    go false is = is

takes_no_white : (p : Body) (b : ℕ) → space b ≡ true → takes_pixel p b ≡ false
unfolding takes_pixel
takes_no_white p b e = rw (white_not_bit b e, and-false (ltb p.count (p.width * p.height)))

takes_bit : (p : Body) (b : ℕ) → p.count < p.width * p.height → bit b ≡ true → takes_pixel p b ≡ true
unfolding takes_pixel
takes_bit p b h e = rw (lt-ltb p.count (p.width * p.height) h, e)

stores_white : (w h c : ℕ) (p : List ℕ) (b : ℕ) (s : List ℕ) → space b ≡ true → Stored w h c p s → Stored w h c p (b ∷ s)
unfolding fed stepped kept kept_in pixels_in
stores_white w h c p b s e S =
    record {
      after = S.after;
      comes = rw (e, takes_no_white (record { width = w; height = h; count = c }) b e) S.comes;
      taken = rw e S.taken;
    }

stores_bit : (w h c : ℕ) (p : List ℕ) (b : ℕ) (s : List ℕ) → bit b ≡ true → c < w * h → w * h ≤ length p → Stored w h (c + 1) (set p c (b - 48)) s → Stored w h c p (b ∷ s)
unfolding fed stepped kept kept_in pixels_in in_pixels
stores_bit w h c p b s e on room S =
    let more : c + suc (length (pixels_in s)) ≡ c + 1 + length (pixels_in s) = omega arith in
    let first : take (c + 1) (set p c (b - 48)) ≡ take c p ++ ((b - 48) ∷ []) = rw (add-one c) (take-suc-set p c (b - 48) (omega arith)) in
    record {
      after = S.after;
      comes = rw (bit_not_white b e, takes_bit (record { width = w; height = h; count = c }) b on e, more) S.comes;
      taken = rw (bit_not_white b e, more) (S.taken ∙ ap (λ (l : List ℕ). l ++ pixels_in s) first ∙ append_assoc (take c p) ((b - 48) ∷ []) (pixels_in s));
    }

stores : (w h c : ℕ) (p s : List ℕ) → all white_or_bit s ≡ true → c + length (pixels_in s) ≤ w * h → w * h ≤ length p → Stored w h c p s
unfolding all fed pixels_in
stores w h c p [] e few room =
    record {
      after = p;
      comes = rw (add-zero c) refl;
      taken = rw (add-zero c) (sym (append-nil (take c p)));
    }
stores w h c p (b ∷ s) e few room =
    let t = both (white_or_bit b) (all white_or_bit s) e in
    go t.0 (space b) refl few (λ fits. stores w h c p s t.1 fits room) (λ fits. stores w h (c + 1) (set p c (b - 48)) s t.1 fits (rw (length-set p c (b - 48)) room))
  where
    go : (space b || bit b) ≡ true → (t : Bool) → space b ≡ t → c + length (pixels_in (b ∷ s)) ≤ w * h
        → (c + length (pixels_in s) ≤ w * h → Stored w h c p s)
        → (c + 1 + length (pixels_in s) ≤ w * h → Stored w h (c + 1) (set p c (b - 48)) s)
        → Stored w h c p (b ∷ s)
    go e true is few white pixel = stores_white w h c p b s is (white (rw is at few))
    go e false is few white pixel =
        let left : c + suc (length (pixels_in s)) ≤ w * h = rw is at few in
        let one : bit b ≡ true = rw is at e in
        stores_bit w h c p b s one (omega arith) room (pixel (omega arith))

-- a reading that has read a picture to its end, once the end has served as white space
pub record Read (s : Reading) (p : Picture) : Type 0 where
  pub ends : stepped s.reader 32 ≡ at p.width p.height (p.width * p.height)
  pub shows : take (p.width * p.height) s.pixels ≡ p.pixels

-- the white space after the height
sized_fits : (w h : ℕ) → w * h ≤ most_pixels → sized w h ≡ at w h 0
unfolding sized
sized_fits w h few = rw (le-leb (w * h) most_pixels few)

into_body : (w : ℕ) (n : Number) (h : ℕ) (p : List ℕ) (b : ℕ) (s : List ℕ) → space b ≡ true → n.value ≡ h → w * h ≤ most_pixels
    → fed (reading (Height w n) p) (b ∷ s) ≡ fed (reading (at w h 0) p) s
unfolding fed stepped kept
into_body w n h p b s white says few = rw (white, says, sized_fits w h few) refl

-- the end of the file serves as white space
pub end_in_height : (w : ℕ) (n : Number) → stepped (Height w n) 32 ≡ sized w n.value
unfolding stepped space
end_in_height w n = refl

pub end_in_pixels : (p : Body) → stepped (Pixels p) 32 ≡ Pixels p
unfolding stepped space
end_in_pixels p = refl

body_white : (b : ℕ) (s pixels : List ℕ) (n : ℕ) → (0 < n → space b ≡ true) → pixels_in (b ∷ s) ≡ pixels → length pixels ≡ n → space b ≡ true
unfolding pixels_in
body_white b s pixels n parted shows exact = go (space b) refl
  where
    go : (t : Bool) → space b ≡ t → space b ≡ true
    go true is = is
    go false is =
        let one : (b - 48) ∷ pixels_in s ≡ pixels = rw is at shows in
        parted (omega (arith, ap length one, exact))

module _ (p : Picture) (n : Number) (lent : List ℕ) (room : length lent ≡ most_pixels) (says : n.value ≡ p.height) (few : p.width * p.height ≤ most_pixels) (exact : length p.pixels ≡ p.width * p.height) where
  body_read : (body : List ℕ) → (0 < p.width * p.height → BeginsWhite body) → all white_or_bit body ≡ true → pixels_in body ≡ p.pixels
      → Read (fed (reading (Height p.width n) lent) body) p
  unfolding all fed stepped kept pixels_in
  body_read [] parted plain shows =
      let none : p.width * p.height ≡ 0 = sym exact ∙ ap length (sym shows) in
      record {
        ends = end_in_height p.width n ∙ ap (sized p.width) says ∙ sized_fits p.width p.height few ∙ ap (at p.width p.height) (sym none);
        shows = rw none shows;
      }
  body_read (b ∷ s) parted plain shows =
      let white = body_white b s p.pixels (p.width * p.height) parted shows exact in
      let rest : pixels_in s ≡ p.pixels = rw white at shows in
      let all_read : length (pixels_in s) ≡ p.width * p.height = ap length rest ∙ exact in
      let S = stores p.width p.height 0 lent s (both (white_or_bit b) (all white_or_bit s) plain).1 (omega (arith, all_read)) (omega (arith, room)) in
      let count : 0 + length (pixels_in s) ≡ p.width * p.height = omega (arith, all_read) in
      let came : fed (reading (Height p.width n) lent) (b ∷ s) ≡ reading (at p.width p.height (p.width * p.height)) S.after =
      into_body p.width n p.height lent b s white says few ∙ (S.comes ∙ ap (λ (c : ℕ). reading (at p.width p.height c) S.after) count)
      in
      subst (λ (s : Reading). Read s p) (sym came) (record { ends = end_in_pixels _; shows = rw count at (S.taken ∙ rest) })

-- the header leads to its end
header_read : (file lent : List ℕ) (p : Picture) (F : Form file p) → fed (reading Nothing lent) file ≡ fed (reading (Height p.width (grown none F.second)) lent) F.body
unfolding fed stepped kept
header_read file lent p F =
    let after-gap = F.first ++ (F.between ++ (F.second ++ F.body)) in
    let after_first = F.between ++ (F.second ++ F.body) in
    let after-between = F.second ++ F.body in
    ap (fed (reading Nothing lent)) F.whole
    ∙ fed_parts (reading Magic lent) F.gap after-gap
    ∙ ap (λ (s : Reading). fed s after-gap) (gap_magic lent F.gap F.after_magic)
    ∙ fed_parts (reading BeforeWidth lent) F.first after_first
    ∙ ap (λ (s : Reading). fed s after_first) (numeral_width lent F.first p.width F.says_width)
    ∙ fed_parts (reading (Width (grown none F.first)) lent) F.between after-between
    ∙ ap (λ (s : Reading). fed s after-between) (gap_width (grown none F.first) lent F.between F.after_width)
    ∙ ap (λ (w : ℕ). fed (reading (BeforeHeight w) lent) after-between) F.says_width.says
    ∙ fed_parts (reading (BeforeHeight p.width) lent) F.second F.body
    ∙ ap (λ (s : Reading). fed s F.body) (numeral_height p.width lent F.second p.height F.says_height)

pub form_read : (file lent : List ℕ) (p : Picture) → length lent ≡ most_pixels → Form file p → Read (fed (reading Nothing lent) file) p
form_read file lent p room F =
    subst (λ (s : Reading). Read s p) (sym (header_read file lent p F))
    (body_read p (grown none F.second) lent room F.says_height.says F.few F.exact F.body F.parted F.plain F.shows)
