-- A bitmap's pieces under paint: the paint stays on whole pieces, whatever is filled. Assumes nothing.
use Prim.Native.Nat.{ℕ, ◌<◌, ◌≤◌}
use native.Mathlib.Omega.{arith}
use mathlib.Core.Path.{◌≡◌, refl, sym, ◌∙◌}
use mathlib.Core.List.{List}
use mathlib.Core.Logic.{◌⊎◌, ◌↔◌}
use lib.ListN.{length}
use Rattle.pieces.specs.Picture.{px, pixel}
use Rattle.pieces.specs.Piece.{Piece, BitmapPiece, Pixels}
use Rattle.pieces.specs.Paint.{Paints}
use Rattle.pieces.proofs.Numbers.{stable}
use Rattle.pieces.proofs.Counting.{number_over, decided}
use Rattle.pieces.proofs.Chains.{last_of, first_of, go_on, go_back, in_larger, in_other}

-- p is the bitmap B under paint: white where B is white, and one colour on each of B's pieces
pub record Coloured (B : List ℕ) (w h : ℕ) (p : List ℕ) : Type 0 where
  pub len : length p ≡ length B
  pub white : (a b : ℕ) → a < w → b < h → (px p w a b ≡ 0) ↔ (px B w a b ≡ 0)
  pub one : (a b c d : ℕ) → BitmapPiece B w h a b c d → px p w c d ≡ px p w a b

-- the bitmap itself is
pub bare : (B : List ℕ) (w h : ℕ) → ((a b : ℕ) → a < w → b < h → px B w a b ≤ 1) → Coloured B w h B
bare B w h bits =
    record {
      len = refl;
      white = λ a b ha hb. ((λ e. e), (λ e. e));
      one = λ a b c d j.
          let s = last_of j in
          let t = first_of j in
          both_black (px B w c d) (px B w a b) (bits c d s.0 s.1) (bits a b t.0 t.1) s.2 t.2;
    }
  where
    both_black : (m n : ℕ) → m ≤ 1 → n ≤ 1 → (m ≡ 0 → ⊥) → (n ≡ 0 → ⊥) → m ≡ n
    both_black m n a b c d = omega arith

module _ {B : List ℕ} {w h : ℕ} {p : List ℕ} (K : Coloured B w h p) (x y : ℕ) (dark : px p w x y ≡ 0 → ⊥) where
  -- a fill's piece is the bitmap's
  pub to_bitmap : {a b : ℕ} → Piece p w h x y a b → BitmapPiece B w h x y a b
  to_bitmap c = in_larger (λ a b s. (s.0, s.1, (λ e. dark (sym s.2 ∙ (K.white a b s.0 s.1).1 e)))) c

  pub to_piece : {a b : ℕ} → BitmapPiece B w h x y a b → Piece p w h x y a b
  to_piece c = in_other (λ a b j. let s = last_of j in (s.0, s.1, K.one x y a b j)) c

  -- with as many pixels
  pub bitmap_pixels : {n : ℕ} → Pixels (Piece p w h x y) n → Pixels (BitmapPiece B w h x y) n
  bitmap_pixels N = number_over (λ a c. to_bitmap c) (λ a c. to_piece c) N

  -- of which each pixel of the picture is one or not
  pub on_piece : {n : ℕ} → Pixels (Piece p w h x y) n → (a b : ℕ) → BitmapPiece B w h x y a b ⊎ (BitmapPiece B w h x y a b → ⊥)
  on_piece N a b = decided (bitmap_pixels N) (pixel a b)

  module _ {t : ℕ} {q : List ℕ} (P : Paints p w h x y t q) where
    -- paint is on the bitmap's piece and nowhere else
    pub painted : (a b : ℕ) → BitmapPiece B w h x y a b → px q w a b ≡ t
    painted a b c = P.piece a b (to_piece c)

    pub unpainted : (a b : ℕ) → a < w → b < h → (BitmapPiece B w h x y a b → ⊥) → px q w a b ≡ px p w a b
    unpainted a b ha hb g = P.rest a b ha hb (λ c. g (to_bitmap c))

    -- and leaves a bitmap under paint
    pub paint_keeps : (t ≡ 0 → ⊥) → Coloured B w h q
    paint_keeps some =
        record {
          len = P.len ∙ K.len;
          white = λ a b ha hb. (
            (λ e.
                stable (px B w a b) 0 (λ n.
                n ((K.white a b ha hb).0 (sym (unpainted a b ha hb (λ c. some (sym (painted a b c) ∙ e))) ∙ e)))),
            (λ e. unpainted a b ha hb (λ c. (last_of c).2 e) ∙ (K.white a b ha hb).1 e),
          );
          one = λ a b c d j.
              stable (px q w c d) (px q w a b) (λ n.
              let s = last_of j in
              let r = first_of j in
              let off : BitmapPiece B w h x y a b → ⊥ = λ k. n (painted c d (go_on k j) ∙ sym (painted a b k)) in
              n (unpainted c d s.0 s.1 (λ k. off (go_on k (go_back j))) ∙ K.one a b c d j ∙ sym (unpainted a b r.0 r.1 off)));
        }
