-- What is painted is determined, and a piece has no more pixels than the picture. Assumes nothing.
use Prim.Native.Nat.{ℕ, ◌*◌, ◌<◌, ◌≤◌}
use native.Mathlib.Nat.{mul_comm}
use native.Mathlib.Omega.{arith}
use mathlib.Core.Path.{◌≡◌, sym, ◌∙◌}
use mathlib.Core.List.{List}
use lib.ListN.{length}
use Rattle.pieces.specs.Picture.{px, Pixel}
use Rattle.pieces.specs.Count.{Mem}
use Rattle.pieces.specs.Piece.{Piece, Pixels}
use Rattle.pieces.specs.Paint.{Paints}
use Rattle.pieces.proofs.Numbers.{stable}
use Rattle.pieces.proofs.Chains.{last_of}
use Rattle.pieces.proofs.Index.{same_picture, pixels_below}

-- two pictures that show the same piece painted alike are the same. No excluded middle: bytes that are not unequal are equal
pub paints_unique : {p : List ℕ} {w h x y t : ℕ} {q q' : List ℕ} → length p ≡ w * h → x < w → Paints p w h x y t q → Paints p w h x y t q' → q ≡ q'
paints_unique {p} {w} {h} {x} {y} {t} {q} {q'} size hx P P' =
    same_picture w h q (P.len ∙ size) q' (P'.len ∙ sym P.len) (omega arith) (λ a b ha hb.
    stable (px q w a b) (px q' w a b) (λ n.
    let off : Piece p w h x y a b → ⊥ = λ c. n (P.piece a b c ∙ sym (P'.piece a b c)) in
    n (P.rest a b ha hb off ∙ sym (P'.rest a b ha hb off))))

pub pixels_few : (p : List ℕ) (w h x y : ℕ) {n : ℕ} → Pixels (Piece p w h x y) n → n ≤ w * h
pixels_few p w h x y N =
    let within : (a : Pixel) → Mem a N.list → (a.col < w) × (a.line < h) = λ a m. let s = last_of (N.lists.1 a m) in (s.0, s.1) in
    omega (arith, pixels_below w h N.list N.lists.0 within, N.count, mul_comm w h)
