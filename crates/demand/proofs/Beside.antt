-- Beside demand 3: its sentences leave no piece out, lookups in a run are accepted, at most 251 numbers stand, and pieces stay what they were. Assumes nothing.
use Prim.Native.Nat.{ℕ, ◌+◌, ◌*◌, ◌<◌, ◌≤◌}
use native.Mathlib.Omega.{arith}
use mathlib.Core.Path.{◌≡◌, refl}
use mathlib.Core.List.{List, ◌∷◌}
use mathlib.Core.Logic.{◌⊎◌, ◌↔◌, inl, inr, ⊎_elim}
use lib.ListN.{length}
use Rattle.refusals.specs.Finding.{found, refused}
use Rattle.refusals.specs.First.{first, sound}
use Rattle.picture.specs.Bitmap.{Accepted}
use Rattle.pieces.specs.Picture.{px}
use Rattle.pieces.specs.Count.{Mem, Distinct}
use Rattle.pieces.specs.Piece.{Dark, Piece, BitmapPiece}
use Rattle.pieces.proofs.Counting.{below_length}
use Rattle.pieces.proofs.Bitmap.{to_bitmap, to_piece, on_piece}
use Rattle.table.proofs.Exact.{sound_exact}
use Rattle.table.specs.Table.{most}
use Rattle.table.specs.declared.Table.{Table}
use Rattle.regions.specs.Tests.{look_tests, Lookable}
use Rattle.regions.proofs.Accepted.{lookable_passes}
use Rattle.demand.specs.Run.{Event, look, claim, Allowed, OwnSides, Run, begin, next, Spares, Latest, Unclaimed}
use Rattle.demand.proofs.Accepted.{Repaints, repaints}
use Rattle.demand.proofs.Kept.{Kept}
use Rattle.demand.proofs.Demand.{kept_run}

module _ {B : List ℕ} {w h : ℕ} (A : Accepted B w h) {E : List Event} {p : List ℕ} {T : Table} (R : Run B w h E p T) where
  -- a pixel that is not white in the bitmap is not white now
  still_dark : {x y : ℕ} → Dark B w h x y → px p w x y ≡ 0 → ⊥
  still_dark {x} {y} d e = d.2 (((kept_run A R).paint.white x y d.0 d.1).0 e)

  -- the piece of equal bytes of a pixel that is not white is the bitmap's piece
  pub pieces_stay : {x y : ℕ} → Dark B w h x y → (a b : ℕ) → Piece p w h x y a b ↔ BitmapPiece B w h x y a b
  pieces_stay {x} {y} d a b = let K = kept_run A R in (to_bitmap K.paint x y (still_dark d), to_piece K.paint x y (still_dark d))

  -- a lookup of it, with the bitmap's sides and room enough, is accepted
  pub look_accepted : (lent x y : ℕ) → w * h ≤ lent → Dark B w h x y → first (look_tests p w h lent T x y) sound ≡ sound
  look_accepted lent x y enough d =
      let K = kept_run A R in
      let L : Lookable p w h lent T x y =
      record {
        seeded = record { sized = rw K.paint.len A.sized; room = enough; in_x = d.0; in_y = d.1 };
        table = (sound_exact T w h (omega (arith, K.table.age))).1 K.table.sound;
        dark = still_dark d;
        listed = λ k e. (K.home x y k d.0 d.1 e).below;
      } in
      lookable_passes p w h lent T x y L

  -- at most 251 numbers stand
  pub numbers_few : (l : List ℕ) → Distinct l → ((k : ℕ) → Mem k l → (a : ℕ) × (b : ℕ) × (a < w) × (b < h) × (px p w a b ≡ 5 + k)) → length l ≤ most
  numbers_few l once stand =
      let K = kept_run A R in
      below_length most l once (λ k m.
      let s = stand k m in
      let H = K.home s.0 s.1 k s.2 s.3 s.4 in
      omega (arith, H.below, K.table.sound.ordered.few))

-- each piece is claimed, or it is not
module _ {B : List ℕ} {w h : ℕ} (A : Accepted B w h) (a b : ℕ) where
  abbrev Either : List Event → Type 0
  Either E = ((c : ℕ) × Latest B w h E a b c) ⊎ Unclaimed B w h E a b

  either_spared : (E : List Event) (e : Event) → Spares B w h e a b → Either E → Either (e ∷ E)
  either_spared E e spared z = ⊎_elim (λ L. inl (L.0, inr (spared, L.1))) (λ F. inr (spared, F)) z

  either_next : {E : List Event} {p : List ℕ} {T : Table} → Kept B w h E p T → Either E → (e : Event) (q : List ℕ) (U : Table) → OwnSides w h e → Allowed p T e q U → Either (e ∷ E)
  either_next {E} K z (look v g lent x y f) q U own L = either_spared E (look v g lent x y f) (λ c i. i) z
  either_next {E} K z (claim v g lent x y target (refused n)) q U own L = either_spared E (claim v g lent x y target (refused n)) (λ c i. i) z
  either_next {E} {p} K z (claim v g lent x y target (found c)) q U own L =
      let R : Repaints p w h x y target q c.pixels = rw (own.0, own.1) at (repaints p v g lent x y target L.0.0 L.0.1) in
      ⊎_elim
      (λ s. inl (target, inl (s, refl)))
      (λ n. either_spared E (claim v g lent x y target (found c)) (λ i s. n s.0) z)
      (on_piece K.paint x y R.dark R.pixels a b)

  pub claimed_or_not : {E : List Event} {p : List ℕ} {T : Table} → Run B w h E p T → ((c : ℕ) × Latest B w h E a b c) ⊎ Unclaimed B w h E a b
  claimed_or_not begin = inr tt
  claimed_or_not (next {E} {p} {T} R e q U own L) = either_next (kept_run A R) (claimed_or_not R) e q U own L
