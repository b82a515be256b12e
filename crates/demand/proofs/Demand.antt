-- DEMAND 3: it holds of every run. Assumes nothing.
use Prim.Native.Nat.{ℕ, ◌+◌, ◌-◌, ◌≤◌}
use native.Mathlib.Omega.{arith}
use mathlib.Core.Path.{◌≡◌, sym, ◌∙◌}
use mathlib.Core.List.{List}
use mathlib.Core.Logic.{◌⊎◌, inl, inr, ⊎_elim}
use Rattle.refusals.specs.Finding.{found}
use Rattle.picture.specs.Bitmap.{Accepted}
use Rattle.pieces.specs.Picture.{px}
use Rattle.pieces.specs.Piece.{Dark}
use Rattle.pieces.proofs.Numbers.{split}
use Rattle.pieces.proofs.Chains.{go_on, go_back, pixels_from}
use Rattle.table.specs.declared.Table.{Table}
use Rattle.regions.specs.Found.{Answer}
use Rattle.regions.specs.Lookup.{LookPost, refuses, answers}
use Rattle.regions.proofs.Accepted.{lookable}
use Rattle.demand.specs.Run.{Event, Run, begin, next, Unclaimed}
use Rattle.demand.specs.Reached.{Reached}
use Rattle.demand.proofs.Kept.{Kept, kept_begin}
use Rattle.demand.proofs.Next.{Counts, look_keeps, kept_next}

pub kept_run : {B : List ℕ} {w h : ℕ} {E : List Event} {p : List ℕ} {T : Table} → Accepted B w h → Run B w h E p T → Kept B w h E p T
kept_run A begin = kept_begin A
kept_run A (next R e q U own allowed) = kept_next (kept_run A R) e own allowed

-- a byte that is neither white nor a claim is black or a number
black_or_number : (n : ℕ) → (n ≡ 0 → ⊥) → (2 ≤ n → n ≤ 4 → ⊥) → (n ≡ 1) ⊎ ((k : ℕ) × (n ≡ 5 + k))
black_or_number n some plain = ⊎_elim (λ l. inl (⊎_elim (λ i. absurd (plain i l)) (λ i. omega arith) (split 2 n))) (λ l. inr (n - 5, omega arith)) (split n 4)

module _ {B : List ℕ} {w h : ℕ} {E : List Event} {p : List ℕ} {T : Table} (K : Kept B w h E p T) where
  counted : {lent x y : ℕ} {a : Answer} {q : List ℕ} {U : Table} → LookPost p w h lent T x y (found a) q U → Unclaimed B w h E x y → Counts B w h x y a
  counted (refuses n e s q-is u-is) F = let z : ◌≡◌ {A = ℕ} 0 1 = cc in absurd (omega arith)
  counted {lent} {x} {y} {a} (answers b e s L) F =
      let M = lookable p w h lent T x y s in
      let is : a ≡ b = cc in
      let dark : Dark B w h x y = (M.seeded.in_x, M.seeded.in_y, (λ z. M.dark ((K.paint.white x y M.seeded.in_x M.seeded.in_y).1 z))) in
      ⊎_elim (λ c. absurd (K.free x y dark F c.0 c.1)) (λ r. (r.0, is ∙ r.1, r.2)) (look_keeps K M L).1

  -- what is kept is what is demanded
  demanded : Reached B w h E p T
  demanded =
      record {
        white = K.paint.white;
        one_colour = λ a b c d j. sym (K.paint.one a b c d j);
        claimed = λ a b c z. (K.claimed a b c z).0;
        other = λ a b d F.
            ⊎_elim
            (λ z. inl z)
            (λ z. let H = K.home a b z.0 d.0 d.1 z.1 in inr (z.0, H.below, z.1, record { pixels = pixels_from H.seed H.holds.pixels }))
            (black_or_number (px p w a b) (λ e. d.2 ((K.paint.white a b d.0 d.1).0 e)) (K.free a b d F));
        one_piece = λ a b c d i j l e.
            let k = px p w a b - 5 in
            let g : px p w a b ≡ 5 + k = omega arith in
            let H = K.home a b k i.0 i.1 g in
            let G = K.home c d k j.0 j.1 (sym e ∙ g) in
            go_on (go_back H.seed) G.seed;
        count = λ lent x y a q U L F. counted L F;
      }

-- DEMAND 3
pub demand_3 : (B : List ℕ) (w h : ℕ) → Accepted B w h → (E : List Event) (p : List ℕ) (T : Table) → Run B w h E p T → Reached B w h E p T
demand_3 B w h A E p T R = demanded (kept_run A R)
