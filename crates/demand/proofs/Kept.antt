-- What every call keeps, stated of the bitmap's pieces. Assumes nothing.
use Prim.Native.Nat.{ℕ, ◌+◌, ◌<◌, ◌≤◌}
use native.Mathlib.Omega.{arith}
use mathlib.Core.Path.{◌≡◌, sym, ap, ◌∙◌, subst}
use mathlib.Core.List.{List, [], ◌∷◌}
use mathlib.Core.Logic.{⊎_elim}
use Rattle.refusals.specs.Finding.{found, refused}
use Rattle.picture.specs.Bitmap.{Accepted}
use Rattle.picture.proofs.Bitmaps.{bitmap_at}
use Rattle.pieces.specs.Picture.{px}
use Rattle.pieces.specs.Piece.{Dark, BitmapPiece}
use Rattle.pieces.specs.Paint.{Paints}
use Rattle.pieces.proofs.Numbers.{same}
use Rattle.pieces.proofs.Chains.{last_of}
use Rattle.pieces.proofs.Bitmap.{Coloured, bare, bitmap_pixels, on_piece, painted, unpainted, paint_keeps}
use Rattle.table.specs.Table.{empty_table, entry_of, newest}
use Rattle.table.proofs.Kept.{Proper, proper_empty, proper_newest}
use Rattle.table.specs.declared.Entry.{Entry}
use Rattle.table.specs.declared.Table.{Table}
use Rattle.regions.specs.Lookup.{Measures, FilledBack, in_paint, out_of_paint}
use Rattle.demand.specs.Run.{Event, look, claim, Claims, Spares, Latest, Unclaimed}
use Rattle.demand.specs.Reached.{Holds}
use Rattle.demand.proofs.Accepted.{Repaints}

-- the number k has an entry, whose seed is on the bitmap's piece of (a, b), and which holds that piece's count
pub record Home (B : List ℕ) (w h : ℕ) (T : Table) (k a b : ℕ) : Type 0 where
  pub below : k < T.n
  pub seed : BitmapPiece B w h (entry_of T k).x (entry_of T k).y a b
  pub holds : Holds B w h (entry_of T k).x (entry_of T k).y (entry_of T k)

-- the paint is on whole pieces, the table is proper, wherever a number stands it is at home, and claims show
pub record Kept (B : List ℕ) (w h : ℕ) (E : List Event) (p : List ℕ) (T : Table) : Type 0 where
  pub paint : Coloured B w h p
  pub table : Proper T w h
  pub home : (a b k : ℕ) → a < w → b < h → px p w a b ≡ 5 + k → Home B w h T k a b
  pub claimed : (a b c : ℕ) → Latest B w h E a b c → (px p w a b ≡ c) × (2 ≤ c) × (c ≤ 4)
  pub free : (a b : ℕ) → Dark B w h a b → Unclaimed B w h E a b → 2 ≤ px p w a b → px p w a b ≤ 4 → ⊥

-- at the beginning no number stands
pub kept_begin : {B : List ℕ} {w h : ℕ} → Accepted B w h → Kept B w h [] B empty_table
kept_begin {B} {w} {h} A =
    let bits : (a b : ℕ) → a < w → b < h → px B w a b ≤ 1 = λ a b ha hb. bitmap_at B A.bits _ in
    record {
      paint = bare B w h bits;
      table = proper_empty w h;
      home = λ a b k ha hb e. absurd (omega (arith, bits a b ha hb));
      claimed = λ a b c z. absurd z;
      free = λ a b d z l u. omega (arith, bits a b d.0 d.1);
    }

module _ (B : List ℕ) (w h : ℕ) where
  -- what is claimed is not white
  claims_dark : (e : Event) (a b c : ℕ) → Claims B w h e a b c → Dark B w h a b
  claims_dark (look v g lent x y f) a b c z = absurd z
  claims_dark (claim v g lent x y target (found n)) a b c z = last_of z.0
  claims_dark (claim v g lent x y target (refused n)) a b c z = absurd z

  latest_dark : (E : List Event) (a b c : ℕ) → Latest B w h E a b c → Dark B w h a b
  latest_dark [] a b c z = absurd z
  latest_dark (e ∷ E) a b c z = ⊎_elim (λ q. claims_dark e a b c q) (λ q. latest_dark E a b c q.1) z

-- a call that claims nothing
pub kept_spares : {B : List ℕ} {w h : ℕ} {E : List Event} {p : List ℕ} {T : Table} (e : Event) → ((a b : ℕ) → Spares B w h e a b) → Kept B w h E p T → Kept B w h (e ∷ E) p T
kept_spares e spares K =
    record {
      paint = K.paint;
      table = K.table;
      home = K.home;
      claimed = λ a b c z. ⊎_elim (λ q. absurd (spares a b c q)) (λ q. K.claimed a b c q.1) z;
      free = λ a b d z. K.free a b d z.1;
    }

-- the entry of a number is made the newest
pub kept_newest : {B : List ℕ} {w h : ℕ} {E : List Event} {p : List ℕ} {T : Table} (k : ℕ) → k < T.n → Kept B w h E p T → Kept B w h E p (newest T k)
kept_newest k low K =
    record {
      paint = K.paint;
      table = proper_newest K.table k low;
      home = λ a b j ha hb e. let H = K.home a b j ha hb e in record { below = H.below; seed = H.seed; holds = H.holds };
      claimed = K.claimed;
      free = K.free;
    }

-- an accepted claim
module _ {B : List ℕ} {w h : ℕ} {E : List Event} {p : List ℕ} {T : Table} (K : Kept B w h E p T) where
  pub kept_claim : {x y target n : ℕ} {q : List ℕ} (e : Event) → ((a b c : ℕ) → Claims B w h e a b c → BitmapPiece B w h x y a b × (target ≡ c)) → ((a b : ℕ) → BitmapPiece B w h x y a b → Claims B w h e a b target)
      → Repaints p w h x y target q n → Kept B w h (e ∷ E) q T
  kept_claim {x} {y} {target} {n} {q} e is si R =
      let on : (a b : ℕ) → BitmapPiece B w h x y a b → px q w a b ≡ target = painted K.paint x y R.dark R.paint in
      let off : (a b : ℕ) → a < w → b < h → (BitmapPiece B w h x y a b → ⊥) → px q w a b ≡ px p w a b = unpainted K.paint x y R.dark R.paint in
      record {
        paint = paint_keeps K.paint x y R.dark R.paint (λ z. omega (arith, R.low));
        table = K.table;
        home = λ a b k ha hb g. K.home a b k ha hb (sym (off a b ha hb (λ c. omega (arith, on a b c, R.high))) ∙ g);
        claimed = λ a b c z.
            ⊎_elim
            (λ z. let s = is a b c z in (on a b s.0 ∙ s.1, omega (arith, R.low, s.1), omega (arith, R.high, s.1)))
            (λ z.
            let r = K.claimed a b c z.1 in
            let d = latest_dark B w h E a b c z.1 in
            (off a b d.0 d.1 (λ s. z.0 target (si a b s)) ∙ r.0, r.1, r.2))
            z;
        free = λ a b d z l u.
            let g = off a b d.0 d.1 (λ s. z.0 target (si a b s)) in
            K.free a b d z.1 (omega (arith, g)) (omega (arith, g));
      }

-- paint over a piece that is black or numbered, with black or a number
record Recolours (p : List ℕ) (w h x y t : ℕ) (q : List ℕ) : Type 0 where
  pub in_x : x < w
  pub in_y : y < h
  pub dark : px p w x y ≡ 0 → ⊥
  pub unclaimed : 2 ≤ px p w x y → px p w x y ≤ 4 → ⊥
  pub some : t ≡ 0 → ⊥
  pub no_claim : 2 ≤ t → t ≤ 4 → ⊥
  pub paint : Paints p w h x y t q

module _ {B : List ℕ} {w h : ℕ} {E : List Event} {p : List ℕ} {T : Table} (K : Kept B w h E p T) {x y t : ℕ} {q : List ℕ} (R : Recolours p w h x y t q) where
  on : (a b : ℕ) → BitmapPiece B w h x y a b → px q w a b ≡ t
  on = painted K.paint x y R.dark R.paint

  off : (a b : ℕ) → a < w → b < h → (BitmapPiece B w h x y a b → ⊥) → px q w a b ≡ px p w a b
  off = unpainted K.paint x y R.dark R.paint

  -- a byte other than t stood there before
  stood : (a b : ℕ) → a < w → b < h → (px q w a b ≡ t → ⊥) → px q w a b ≡ px p w a b
  stood a b ha hb other = off a b ha hb (λ c. other (on a b c))

  kept_recoloured : {U : Table} → Proper U w h → ((a b k : ℕ) → a < w → b < h → px q w a b ≡ 5 + k → Home B w h U k a b) → Kept B w h E q U
  kept_recoloured proper home =
      record {
        paint = paint_keeps K.paint x y R.dark R.paint R.some;
        table = proper;
        home = home;
        claimed = λ a b c z.
            let r = K.claimed a b c z in
            let d = latest_dark B w h E a b c z in
            let elsewhere : BitmapPiece B w h x y a b → ⊥ = λ s. let g = K.paint.one x y a b s in R.unclaimed (omega (arith, r.0, r.1)) (omega (arith, r.0, r.2)) in
            (off a b d.0 d.1 elsewhere ∙ r.0, r.1, r.2);
        free = λ a b d z l u.
            let g = stood a b d.0 d.1 (λ s. R.no_claim (omega arith) (omega arith)) in
            K.free a b d z (omega (arith, g)) (omega (arith, g));
      }

-- the number k is on no pixel
abbrev pub Gone : List ℕ → ℕ → ℕ → ℕ → Type 0
Gone m w h k = (a b : ℕ) → a < w → b < h → px m w a b ≡ 5 + k → ⊥

module _ {B : List ℕ} {w h : ℕ} {E : List Event} {p : List ℕ} {T : Table} (K : Kept B w h E p T) where
  -- an entry's piece is filled back: its number is gone, whether its piece was still in its paint or not
  pub kept_back : (k : ℕ) → k < T.n → {m : List ℕ} → FilledBack p w h (entry_of T k) k m → Kept B w h E m T × Gone m w h k
  kept_back k low {m} (in_paint shows P) =
      let e = entry_of T k in
      let i = K.table.sound.seeds k low in
      let R : Recolours p w h e.x e.y 1 m =
      record { in_x = i.in_x; in_y = i.in_y; dark = λ z. omega arith; unclaimed = λ u v. omega arith; some = λ z. omega arith; no_claim = λ u v. omega arith; paint = P } in
      let before : (a b j : ℕ) → a < w → b < h → px m w a b ≡ 5 + j → px p w a b ≡ 5 + j = λ a b j ha hb g. sym (stood K R a b ha hb (λ z. omega arith)) ∙ g in (
        kept_recoloured K R K.table (λ a b j ha hb g. K.home a b j ha hb (before a b j ha hb g)),
        (λ a b ha hb g. let c = on K R a b (K.home a b k ha hb (before a b k ha hb g)).seed in omega arith),
      )
  kept_back k low (out_of_paint gone e) = (
    subst (λ (v : List ℕ). Kept B w h E v T) (sym e) K,
    (λ a b ha hb g.
        let g' : px p w a b ≡ 5 + k = subst (λ (v : List ℕ). px v w a b ≡ 5 + k) e g in
        gone (sym (K.paint.one _ _ a b (K.home a b k ha hb g').seed) ∙ g')),
  )

  -- a black piece gets a number that is on no pixel, and the table U an entry for it
  pub kept_number : (k : ℕ) → Gone p w h k → {x y : ℕ} → x < w → y < h → px p w x y ≡ 1 → {e : Entry} → Measures p w h x y e → {q : List ℕ} → Paints p w h x y (5 + k) q
      → {U : Table} → Proper U w h → k < U.n → entry_of U k ≡ e → ((j : ℕ) → (j ≡ k → ⊥) → j < T.n → (j < U.n) × (entry_of U j ≡ entry_of T j))
      → Kept B w h E q U × Holds B w h x y e
  kept_number k gone {x} {y} hx hy black {e} M {q} P {U} proper low here others =
      let R : Recolours p w h x y (5 + k) q =
      record { in_x = hx; in_y = hy; dark = λ z. omega arith; unclaimed = λ u v. omega arith; some = λ z. omega arith; no_claim = λ u v. omega arith; paint = P } in
      let dark : px p w x y ≡ 0 → ⊥ = λ z. omega arith in
      let H : Holds B w h x y e = record { pixels = bitmap_pixels K.paint x y dark M.pixels } in
      let at-seed : Holds B w h e.x e.y e = record { pixels = rw (M.seed_x, M.seed_y) H.pixels } in
      let new : (a b : ℕ) → BitmapPiece B w h x y a b → Home B w h U k a b = λ a b c.
      record { below = low; seed = rw (here, M.seed_x, M.seed_y) c; holds = rw here at-seed } in
      let home : (a b j : ℕ) → a < w → b < h → px q w a b ≡ 5 + j → Home B w h U j a b = λ a b j ha hb g.
      ⊎_elim
      (λ z.
      ⊎_elim
      (λ c. subst (λ (i : ℕ). Home B w h U i a b) (sym z) (new a b c))
      (λ c. absurd (gone a b ha hb (sym (off K R a b ha hb c) ∙ g ∙ ap (λ (i : ℕ). 5 + i) z)))
      (on_piece K.paint x y dark M.pixels a b))
      (λ z.
      let O = K.home a b j ha hb (sym (stood K R a b ha hb (λ i. z (omega arith))) ∙ g) in
      let o = others j z O.below in
      record { below = o.0; seed = rw o.1 O.seed; holds = rw o.1 O.holds })
      (same j k) in
      (kept_recoloured K R proper home, H)
