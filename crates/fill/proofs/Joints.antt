-- Joints: the first column in which a row of a line and a row of the next overlap. A met row pushes one entry for each joint that it is the first to touch. Assumes nothing.
use Prim.Native.Nat.{ℕ, suc, ◌+◌, ◌*◌, ◌-◌, ◌<◌, ◌≤◌}
use native.Mathlib.Omega.{arith}
use native.Mathlib.Nat.{mul_comm, suc-mul}
use mathlib.Core.Path.{◌≡◌, refl, sym, ap, ◌∙◌, subst}
use mathlib.Core.List.{List, ◌∷◌}
use mathlib.Core.Logic.{◌⊎◌, inl, inr, ⊎_elim}
use lib.ListN.{length}
use Rattle.pieces.specs.Picture.{px, Pixel, pixel}
use Rattle.pieces.specs.Count.{Mem, Distinct}
use Rattle.pieces.specs.Piece.{Same}
use Rattle.pieces.specs.Row.{RowOf, InRow}
use Rattle.pieces.specs.declared.Row.{Row}
use Rattle.pieces.proofs.Numbers.{split, same}
use Rattle.pieces.proofs.Index.{pixels_below}
use Rattle.fill.specs.Order.{width_of, above, below, seeded}
use Rattle.fill.proofs.Scan.{Seed}
use Rattle.fill.proofs.Lines.{above_keep, below_keep, above_have, below_have, above_from, below_from, above_distinct, below_distinct, above_length, below_length}
use Rattle.fill.proofs.Underway.{Task, Valid, f, at, Covered, Underway, covered?, covered_along, uncovered}
use Rattle.fill.proofs.Turns.{painted, pushed, deep, wide, own, rows_of', kept', uncovered', origin'}

-- lines b and b + 1 have the seed's byte at column c, and not both have it at the column before
pub record Joint (T : Task) (c b : ℕ) : Type 0 where
  pub wide : c < T.w
  pub deep : suc b < T.h
  pub top : at T c b ≡ f T
  pub bottom : at T c (suc b) ≡ f T
  pub first : (k : ℕ) → suc k ≡ c → at T k b ≡ f T → at T k (suc b) ≡ f T → ⊥

-- one of the rows holds an end of it
abbrev pub Touched : List Row → ℕ → ℕ → Type 0
Touched R c b = Covered R c b ⊎ Covered R c (suc b)

-- E lists the joints that the rows R touch
pub record Joints (T : Task) (R : List Row) (E : List Pixel) : Type 0 where
  pub once : Distinct E
  pub sound : (j : Pixel) → Mem j E → Joint T j.col j.line × Touched R j.col j.line
  pub whole : (c b : ℕ) → Joint T c b → Touched R c b → Mem (pixel c b) E

-- joints are fewer than pixels, as none is on the last line
pub joints_few : {T : Task} {R : List Row} {E : List Pixel} → Valid T → Joints T R E → length E + 1 ≤ T.w * T.h
joints_few {T} {R} {E} ok J =
    let k = T.h - 1 in
    let z : T.h ≡ suc k = omega (arith, ok.in_y) in
    let few = pixels_below T.w k E J.once (λ a m. let s = (J.sound a m).0 in (s.wide, omega (arith, s.deep))) in
    omega (arith, mul_comm T.w T.h, ap (λ (m : ℕ). m * T.w) z, suc-mul k T.w, ok.in_x)

-- the row r is met
module _ {T : Task} {p : List ℕ} {e : Pixel} {st : List Pixel} {R : List Row} (G : Underway T p (e ∷ st) R) {r : Row} (Q : RowOf (Same p T.w T.h (f T)) r) (hit : InRow r e.col e.line) {E : List Pixel} (J : Joints T R E) where
  abbrev n : ℕ
  n = width_of r

  abbrev p₁ : List ℕ
  p₁ = painted T p r

  -- the joints with the line above, and those with the line below
  E₁ : List Pixel
  E₁ = above T.w (f T) pixel p₁ r.left n r.y E

  E₂ : List Pixel
  E₂ = below T.w T.h (f T) (λ c v. pixel c r.y) p₁ r.left n r.y E₁

  -- on a line beside the row, where an entry begins at c: the column before is not of the seed's byte
  lone : (b c k : ℕ) → b < T.h → c < T.w → suc k ≡ c → px p₁ T.w c b ≡ f T → at T k b ≡ f T → (px p₁ T.w k b ≡ f T → ⊥) → ⊥
  lone b c k hb hc q z g n' =
      ⊎_elim
      (λ u.
      uncovered' G Q hit c b hc hb z
      (covered_along T (r ∷ R) (rows_of' G Q hit) k c b u hc
      (λ j s t. ⊎_elim (λ i. ap (λ (m : ℕ). at T m b) i ∙ g) (λ i. ap (λ (m : ℕ). at T m b) (omega arith) ∙ origin' G Q hit c b hc hb z) (same j k))
      (λ j s t. absurd (omega arith))))
      (λ u. n' (kept' G Q hit k b (omega arith) hb u ∙ g))
      (covered? (r ∷ R) k b)

  -- a column of the row shows the seed's byte, and the one before the row does not
  on_row : (k : ℕ) → r.left ≤ k → k ≤ r.right → at T k r.y ≡ f T
  on_row k u v = ((own G Q hit).all k u v).2

  before_row : (k : ℕ) → suc k ≡ r.left → at T k r.y ≡ f T → ⊥
  before_row k q g = (own G Q hit).before k q (omega (arith, wide G Q hit, Q.order), deep G Q hit, g)

  up_joint : (b c : ℕ) → suc b ≡ r.y → Seed p₁ T.w (f T) b r.left r.left n c → Joint T c b
  up_joint b c q s =
      let o = wide G Q hit in
      let v = Q.order in
      let d = deep G Q hit in
      let hc : c < T.w = omega (arith, s.high) in
      let hb : b < T.h = omega arith in
      let line : (k : ℕ) → at T k (suc b) ≡ at T k r.y = λ k. ap (λ (m : ℕ). at T k m) q in
      record {
        wide = hc;
        deep = omega arith;
        top = origin' G Q hit c b hc hb s.here;
        bottom = line c ∙ on_row c s.low (omega (arith, s.high));
        first = λ k z g₁ g₂.
            ⊎_elim
            (λ l. lone b c k hb hc z s.here g₁ (s.first k z l))
            (λ l. before_row k (omega (arith, s.low)) (sym (line k) ∙ g₂))
            (split r.left k);
      }

  down_joint : (c : ℕ) → suc r.y < T.h → Seed p₁ T.w (f T) (suc r.y) r.left r.left n c → Joint T c r.y
  down_joint c lt s =
      let o = wide G Q hit in
      let v = Q.order in
      let hc : c < T.w = omega (arith, s.high) in
      record {
        wide = hc;
        deep = lt;
        top = on_row c s.low (omega (arith, s.high));
        bottom = origin' G Q hit c (suc r.y) hc lt s.here;
        first = λ k z g₁ g₂.
            ⊎_elim
            (λ l. lone (suc r.y) c k lt hc z s.here g₂ (s.first k z l))
            (λ l. before_row k (omega (arith, s.low)) g₁)
            (split r.left k);
      }

  sound' : (j : Pixel) → Mem j E₂ → Joint T j.col j.line × Touched (r ∷ R) j.col j.line
  unfolding E₁ E₂
  sound' j m =
      let v = Q.order in
      let Ok : Pixel → Type 0 = λ d. Joint T d.col d.line × Touched (r ∷ R) d.col d.line in
      ⊎_elim
      (λ i.
      ⊎_elim
      (λ z. let u = J.sound j z in (u.0, ⊎_elim (λ a. inl (inr a)) (λ a. inr (inr a)) u.1))
      (λ z. let s = z.3 in subst Ok (sym z.4) (up_joint z.0 z.1 z.2 s, inr (inl (sym z.2, s.low, omega (arith, s.high)))))
      (above_from T.w (f T) p₁ r.left n pixel r.y E j i))
      (λ z. let s = z.2 in subst Ok (sym z.3) (down_joint z.0 z.1 s, inl (inl (refl, s.low, omega (arith, s.high)))))
      (below_from T.w T.h (f T) p₁ r.left n (λ c v. pixel c r.y) r.y E₁ j m)

  keep_E : (j : Pixel) → Mem j E₁ → Mem j E₂
  unfolding E₂
  keep_E j m = below_keep T.w T.h (f T) p₁ r.left n (λ c v. pixel c r.y) r.y E₁ j m

  -- a joint at the row r that no earlier row touches is listed now
  whole_down : (c b : ℕ) → Joint T c b → InRow r c b → (Covered R c (suc b) → ⊥) → Mem (pixel c b) E₂
  unfolding E₂
  whole_down c b K q u =
      let lt : suc r.y < T.h = omega (arith, K.deep, q.0) in
      let e' : suc b ≡ suc r.y = ap suc (sym q.0) in
      let z : px p₁ T.w c (suc r.y) ≡ f T =
      ap (λ (m : ℕ). px p₁ T.w c m) (sym e') ∙ (kept' G Q hit c (suc b) K.wide K.deep (λ a. ⊎_elim (λ i. omega (arith, i.0, q.0)) u a) ∙ K.bottom) in
      let s : Seed p₁ T.w (f T) (suc r.y) r.left r.left n c =
      record {
        low = q.1;
        high = omega (arith, q.2);
        here = z;
        first = λ k i l g.
            K.first k i (ap (λ (m : ℕ). at T k m) (sym q.0) ∙ on_row k l (omega (arith, q.2)))
            (ap (λ (m : ℕ). at T k m) e' ∙ origin' G Q hit k (suc r.y) (omega (arith, K.wide)) lt g);
      } in
      subst (λ (m : ℕ). Mem (pixel c m) E₂) q.0 (below_have T.w T.h (f T) p₁ r.left n (λ c v. pixel c r.y) r.y c E₁ lt s)

  whole_up : (c b : ℕ) → Joint T c b → InRow r c (suc b) → (Covered R c b → ⊥) → Mem (pixel c b) E₂
  unfolding E₁
  whole_up c b K q u =
      let hb : b < T.h = omega (arith, K.deep) in
      let z : px p₁ T.w c b ≡ f T = kept' G Q hit c b K.wide hb (λ a. ⊎_elim (λ i. omega (arith, i.0, q.0)) u a) ∙ K.top in
      let s : Seed p₁ T.w (f T) b r.left r.left n c =
      record {
        low = q.1;
        high = omega (arith, q.2);
        here = z;
        first = λ k i l g.
            K.first k i (origin' G Q hit k b (omega (arith, K.wide)) hb g)
            (ap (λ (m : ℕ). at T k m) (sym q.0) ∙ on_row k l (omega (arith, q.2)));
      } in
      keep_E (pixel c b) (above_have T.w (f T) p₁ r.left n pixel r.y b c E (sym q.0) s)

  whole' : (c b : ℕ) → Joint T c b → Touched (r ∷ R) c b → Mem (pixel c b) E₂
  unfolding E₁
  whole' c b K t =
      let old : Touched R c b → Mem (pixel c b) E₂ = λ u. keep_E (pixel c b) (above_keep T.w (f T) p₁ r.left n pixel r.y E (pixel c b) (J.whole c b K u)) in
      ⊎_elim
      (λ u. old (inl u))
      (λ nu.
      ⊎_elim
      (λ u. old (inr u))
      (λ nd.
      ⊎_elim
      (λ i. ⊎_elim (λ a. whole_down c b K a nd) (λ a. absurd (nu a)) i)
      (λ i. ⊎_elim (λ a. whole_up c b K a nu) (λ a. absurd (nd a)) i)
      t)
      (covered? R c (suc b)))
      (covered? R c b)

  -- no earlier row touches the joints that are listed now
  fresh : (c : ℕ) → r.left ≤ c → c ≤ r.right → Covered R c r.y → ⊥
  fresh c u v q = let s = Q.all c u v in uncovered G c r.y s.0 s.1 s.2 q

  once' : Distinct E₂
  unfolding E₁ E₂
  once' =
      let d = deep G Q hit in
      let o = wide G Q hit in
      let v = Q.order in
      let same-col : (v a b : ℕ) → pixel a v ≡ pixel b v → a ≡ b = λ v a b q. ap (λ (d : Pixel). d.col) q in
      below_distinct T.w T.h (f T) p₁ r.left n (λ c v. pixel c r.y) (λ v a b q. same-col r.y a b q) r.y E₁
      (above_distinct T.w (f T) p₁ r.left n pixel same-col r.y E J.once
      (λ b c q l g z m.
      ⊎_elim
      (λ i. uncovered' G Q hit c b (omega arith) (omega arith) z (inr i))
      (λ i. fresh c l (omega arith) (subst (λ (k : ℕ). Covered R c k) q i))
      (J.sound (pixel c b) m).1))
      (λ c lt l g z m.
      ⊎_elim
      (λ i.
      ⊎_elim
      (λ k. fresh c l (omega arith) k)
      (λ k. uncovered' G Q hit c (suc r.y) (omega arith) lt z (inr k))
      (J.sound (pixel c r.y) i).1)
      (λ i. let k : r.y ≡ i.0 = ap (λ (d : Pixel). d.line) i.4 in omega (arith, i.2))
      (above_from T.w (f T) p₁ r.left n pixel r.y E (pixel c r.y) m))

  -- as many as entries are pushed
  pub joints_met : (E' : List Pixel) × Joints T (r ∷ R) E' × (length E' + length st ≡ length (pushed T p r st) + length E)
  unfolding E₁ E₂ seeded
  joints_met = (
    E₂,
    record { once = once'; sound = sound'; whole = whole' },
    (let a = above_length T.w T.h (f T) p₁ r.left n pixel pixel r.y E st in
        let b = below_length T.w T.h (f T) p₁ r.left n (λ c v. pixel c r.y) pixel r.y E₁ (above T.w (f T) pixel p₁ r.left n r.y st) in
        omega arith),
  )
