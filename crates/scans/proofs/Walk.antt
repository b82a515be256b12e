-- The points of a scan are a walk: as many as the longer distance and one, from one end to the other, step by step. Assumes nothing.
use Prim.Native.Nat.{ℕ, zero, suc, ◌+◌, ◌-◌, ◌≤◌, ◌<◌, max}
use native.Mathlib.Omega.{arith}
use borrow.Author.Tests.{ltb-true, ltb-false}
use mathlib.Core.Path.{◌≡◌, refl, ap, sym, subst, ◌∙◌}
use mathlib.Core.Bool.{Bool, true, false, cond}
use mathlib.Core.List.{List, [], ◌∷◌, ◌++◌}
use lib.Dec.{ltb}
use lib.ListN.{length, length-append}
use lib.IntN.{ℤ, nat_abs, ◌+ℤ◌, ◌-ℤ◌, +ℤ_invr}
use Rattle.points.specs.declared.Point.{Point}
use Rattle.sizes.proofs.Algebra.{same_terms, var, ◌⊕◌, ◌⊖◌}
use Rattle.scans.specs.declared.BresenhamScan.{BresenhamScan}
use Rattle.scans.specs.Scan.{start_of, scan_of, here, next_of}
use Rattle.scans.specs.Points.{after, points_of, points}
use Rattle.scans.specs.Walk.{One, AtMostOne, Walk}
use Rattle.scans.proofs.Steps.{lead_of, side_of, step_is, next_d, next_i}
use Rattle.scans.proofs.Balance.{Balance, start_balance, next_balance, next_step, at_end}

-- one step by the distances that are to go
abbrev Onward : ℤ → ℤ → Bool → Point → Point → Type 0
Onward lead side xleads u v = One lead (lead_of xleads u) (lead_of xleads v) × AtMostOne side (side_of xleads u) (side_of xleads v)

same_point : (xleads : Bool) {u v : Point} → lead_of xleads u ≡ lead_of xleads v → side_of xleads u ≡ side_of xleads v → u ≡ v
same_point true e f = λ i. record { x = e i; y = f i }
same_point false e f = λ i. record { x = f i; y = e i }

-- the points of a scan that stands at u and has r steps to go, to e
record Part (e : Point) (Step : Point → Point → Type 0) (u : Point) (r : ℕ) (us : List Point) : Type 0 where
  pub count : length us ≡ suc r
  pub first : (rest : List Point) × (us ≡ u ∷ rest)
  pub last : (front : List Point) × (us ≡ front ++ (e ∷ []))
  pub steps : (front back : List Point) (v w : Point) → us ≡ front ++ (v ∷ w ∷ back) → Step v w

module _ (e : Point) (Step : Point → Point → Type 0) where
  -- nothing to go
  alone : (u : Point) → u ≡ e → Part e Step u 0 (u ∷ [])
  alone u h =
      record {
        count = refl;
        first = ([], refl);
        last = ([], ap (λ (x : Point). x ∷ []) h);
        steps = λ front back v w q. let l = ap length q ∙ length-append front (v ∷ w ∷ back) in let z : ⊥ = omega arith in absurd z;
      }

  -- one more step to go
  before : (u v : Point) (r : ℕ) (us : List Point) → Step u v → Part e Step v r us → Part e Step u (suc r) (u ∷ us)
  before u v r us h t =
      record {
        count = ap suc t.count;
        first = (us, refl);
        last = (u ∷ t.last.0, ap (λ (l : List Point). u ∷ l) t.last.1);
        steps = onward;
      }
    where
      first_two : (x y : Point) (back : List Point) → u ∷ us ≡ x ∷ y ∷ back → Step x y
      first_two x y back q =
          let eu : u ≡ x = cc in
          let ev : v ≡ y = cc t.first.1 in
          subst (λ (z : Point). Step z y) eu (subst (λ (z : Point). Step u z) ev h)

      onward : (front back : List Point) (x y : Point) → u ∷ us ≡ front ++ (x ∷ y ∷ back) → Step x y
      onward [] back x y q = first_two x y back q
      onward (f ∷ front) back x y q = t.steps front back x y (cc)

module _ (p e : Point) (lead side : ℤ) (xleads : Bool) (el : lead_of xleads e ≡ lead_of xleads p +ℤ lead) (es : side_of xleads e ≡ side_of xleads p +ℤ side) where
  part : (r : ℕ) (s : BresenhamScan) (k : ℕ) → Balance p lead side xleads s k → s.i + r ≡ s.d → Part e (Onward lead side xleads) (here s) r (points_of (suc r) s)
  unfolding points_of after
  part zero s k b h =
      let i : s.i ≡ s.d = omega arith in
      let q = at_end p lead side xleads s k b i in
      rw (step_is s (omega arith)) (alone e (Onward lead side xleads) (here s) (same_point xleads (q.0 ∙ sym el) (q.1 ∙ sym es)))
  part (suc r) s k b h =
      let n = next_balance p lead side xleads s k b in
      rw (step_is s (omega arith))
      (before e (Onward lead side xleads) (here s) (here (next_of s)) r (points_of (suc r) (next_of s)) (next_step p lead side xleads s k b (omega arith)) (part r (next_of s) n.0 n.1 (let d = next_d s in let i = next_i s in omega arith)))

  whole : nat_abs side ≤ nat_abs lead → Part e (Onward lead side xleads) p (nat_abs lead) (points (start_of p lead side xleads))
  unfolding points start_of
  whole h =
      let e : nat_abs lead + 1 - 0 ≡ suc (nat_abs lead) = omega arith in
      rw e (part (nat_abs lead) (start_of p lead side xleads) 0 (start_balance p lead side xleads h) (omega arith))

-- ---- the law
clash : {m n : ℕ} → m < n → n ≤ m → ⊥
clash h k = omega arith

there : (a b : ℤ) → b ≡ a +ℤ (b -ℤ a)
there a b = same_terms (a ∷ b ∷ []) (var 1) (var 0 ⊕ (var 1 ⊖ var 0)) refl

pub scan_walks : (p q : Point) → Walk p q (points (scan_of p q))
unfolding scan_of
scan_walks p q = go (ltb (nat_abs down) (nat_abs across)) (ltb-true (nat_abs down) (nat_abs across)) (ltb-false (nat_abs down) (nat_abs across))
  where
    across : ℤ
    across = q.x -ℤ p.x

    down : ℤ
    down = q.y -ℤ p.y

    go : (t : Bool) → (t ≡ true → nat_abs down < nat_abs across) → (t ≡ false → nat_abs across ≤ nat_abs down) → Walk p q (points (cond t (start_of p across down true) (start_of p down across false)))
    go true f g =
        let l = f refl in
        let w = whole p q across down true (there p.x q.x) (there p.y q.y) (omega arith) in
        record {
          count = let c = w.count in omega arith;
          first = w.first;
          last = w.last;
          steps = λ front back u v h. record { x_leads = λ k. w.steps front back u v h; y_leads = λ k. absurd (clash l k) };
        }
    go false f g =
        let l = g refl in
        let w = whole p q down across false (there p.y q.y) (there p.x q.x) l in
        record {
          count = let c = w.count in omega arith;
          first = w.first;
          last = w.last;
          steps = λ front back u v h. record { x_leads = λ k. absurd (clash k l); y_leads = λ k. w.steps front back u v h };
        }

-- between equal ends there is one point
pub scan_still : (p : Point) → points (scan_of p p) ≡ p ∷ []
scan_still p =
    let w = scan_walks p p in
    w.first.1 ∙ ap (λ (l : List Point). p ∷ l) (empty w.first.0 (none w.count w.first.1))
  where
    empty : (l : List Point) → length l ≡ 0 → l ≡ []
    empty [] h = refl
    empty (u ∷ l) h = let z : ⊥ = omega arith in absurd z

    none : {us rest : List Point} → length us ≡ max (nat_abs (p.x -ℤ p.x)) (nat_abs (p.y -ℤ p.y)) + 1 → us ≡ p ∷ rest → length rest ≡ 0
    none c e = let l = ap length e in let x = ap nat_abs (+ℤ_invr p.x) in let y = ap nat_abs (+ℤ_invr p.y) in omega arith
