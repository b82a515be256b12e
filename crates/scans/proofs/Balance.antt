-- Where a scan stands after i steps, k of them in the other direction too: n (i + 1) has gathered, and k d was paid for them. Assumes nothing.
use Prim.Native.Nat.{ℕ, suc, ◌+◌, ◌-◌, ◌*◌, ◌≤◌, ◌<◌}
use native.Mathlib.Nat.{mul-le-mul_right}
use native.Mathlib.Omega.{arith}
use borrow.Author.Tests.{ltb-true, ltb-false}
use mathlib.Core.Path.{◌≡◌, refl, ap, sym, subst, ◌∙◌}
use mathlib.Core.Bool.{Bool, true, false}
use mathlib.Core.Logic.{◌⊎◌, ⊎_elim, inl, inr}
use mathlib.Core.List.{[], ◌∷◌}
use lib.Dec.{ltb}
use lib.IntN.{ℤ, pos, nat_abs, ◌+ℤ◌, ◌*ℤ◌, +ℤ_idr}
use Rattle.points.specs.declared.Point.{Point}
use Rattle.sizes.proofs.Algebra.{same_terms, var, lit, ◌⊕◌, ◌⊗◌}
use Rattle.scans.specs.declared.BresenhamScan.{BresenhamScan}
use Rattle.scans.specs.Scan.{way_of, start_of, here, next_of}
use Rattle.scans.specs.Walk.{One, AtMostOne}
use Rattle.scans.proofs.Direction.{way_whole, way_sign}
use Rattle.scans.proofs.Steps.{lead_of, side_of, Moved, next_is}

-- the other distance is the shorter one
pub record Slanted (s : BresenhamScan) (k : ℕ) : Type 0 where
  pub a_low : s.a < s.d
  pub n_low : s.n < s.d
  pub paid : s.a + k * s.d ≡ s.n * (s.i + 1)

-- both are equal: every step goes in both directions
pub record Diagonal (s : BresenhamScan) (k : ℕ) : Type 0 where
  pub a_is : s.a ≡ s.d
  pub n_is : s.n ≡ s.d
  pub k_is : k ≡ s.i

pub record Balance (p : Point) (lead side : ℤ) (xleads : Bool) (s : BresenhamScan) (k : ℕ) : Type 0 where
  pub d_is : s.d ≡ nat_abs lead
  pub n_is : s.n ≡ nat_abs side
  pub dom_is : s.domstep ≡ way_of lead
  pub non_is : s.nonstep ≡ way_of side
  pub xdom_is : s.xdom ≡ xleads
  pub lead_at : lead_of xleads (here s) ≡ lead_of xleads p +ℤ pos s.i *ℤ way_of lead
  pub side_at : side_of xleads (here s) ≡ side_of xleads p +ℤ pos k *ℤ way_of side
  pub account : Slanted s k ⊎ Diagonal s k

none_yet : (z w : ℤ) → z ≡ z +ℤ pos 0 *ℤ w
none_yet z w = same_terms (z ∷ w ∷ []) (var 0) (var 0 ⊕ lit (pos 0) ⊗ var 1) refl

one_more : (z w : ℤ) (i : ℕ) → z +ℤ pos i *ℤ w +ℤ w ≡ z +ℤ pos (i + 1) *ℤ w
one_more z w i = same_terms (z ∷ w ∷ pos i ∷ []) (var 0 ⊕ var 2 ⊗ var 1 ⊕ var 1) (var 0 ⊕ (var 2 ⊕ lit (pos 1)) ⊗ var 1) refl

-- a + k d = n d + n with a and n below d: k can be neither less nor more than n
only : (a n d k : ℕ) → a < d → n < d → a + k * d ≡ n * (d + 1) → k ≡ n
only a n d k al nl h = go (ltb k n) (ltb n k) (ltb-true k n) (ltb-false k n) (ltb-true n k) (ltb-false n k)
  where
    go : (s t : Bool) → (s ≡ true → k < n) → (s ≡ false → n ≤ k) → (t ≡ true → n < k) → (t ≡ false → k ≤ n) → k ≡ n
    go true t f g u v = let l = mul-le-mul_right {m = suc k} {n = n} d (f refl) in omega arith
    go false true f g u v = let l = mul-le-mul_right {m = suc n} {n = k} d (u refl) in omega arith
    go false false f g u v = let l = g refl in let m = v refl in omega arith

module _ (p : Point) (lead side : ℤ) (xleads : Bool) where
  pub start_balance : nat_abs side ≤ nat_abs lead → Balance p lead side xleads (start_of p lead side xleads) 0
  unfolding start_of
  start_balance h =
      record {
        d_is = refl;
        n_is = refl;
        dom_is = refl;
        non_is = refl;
        xdom_is = refl;
        lead_at = none_yet (lead_of xleads p) (way_of lead);
        side_at = none_yet (side_of xleads p) (way_of side);
        account = go (ltb (nat_abs side) (nat_abs lead)) (ltb-true (nat_abs side) (nat_abs lead)) (ltb-false (nat_abs side) (nat_abs lead));
      }
    where
      go : (t : Bool) → (t ≡ true → nat_abs side < nat_abs lead) → (t ≡ false → nat_abs lead ≤ nat_abs side) → Slanted (start_of p lead side xleads) 0 ⊎ Diagonal (start_of p lead side xleads) 0
      go true f g = let l = f refl in inl (record { a_low = l; n_low = l; paid = omega arith })
      go false f g = let l = g refl in inr (record { a_is = omega arith; n_is = omega arith; k_is = refl })

  module _ (s : BresenhamScan) (k : ℕ) (b : Balance p lead side xleads s k) where
    module _ (off : ℤ) (left : ℕ) (t : BresenhamScan) (m : Moved s off left t) where
      lead_on : lead_of xleads (here t) ≡ lead_of xleads (here s) +ℤ way_of lead
      lead_on = subst (λ (x : Bool). lead_of x (here t) ≡ lead_of x (here s) +ℤ way_of lead) b.xdom_is (m.lead_on ∙ ap (λ z. lead_of s.xdom (here s) +ℤ z) b.dom_is)

      side_on : side_of xleads (here t) ≡ side_of xleads (here s) +ℤ off
      side_on = subst (λ (x : Bool). side_of x (here t) ≡ side_of x (here s) +ℤ off) b.xdom_is m.side_on

      moved_balance : (j : ℕ) → side_of xleads p +ℤ pos k *ℤ way_of side +ℤ off ≡ side_of xleads p +ℤ pos j *ℤ way_of side → Slanted t j ⊎ Diagonal t j → Balance p lead side xleads t j
      moved_balance j e c =
          record {
            d_is = m.d_same ∙ b.d_is;
            n_is = m.n_same ∙ b.n_is;
            dom_is = m.dom_same ∙ b.dom_is;
            non_is = m.non_same ∙ b.non_is;
            xdom_is = m.xdom_same ∙ b.xdom_is;
            lead_at = lead_on ∙ rw (b.lead_at, m.i_next) (one_more (lead_of xleads p) (way_of lead) s.i);
            side_at = side_on ∙ rw b.side_at e;
            account = c;
          }

    -- enough has gathered: one more step in the other direction is paid for
    carried : (t : BresenhamScan) → s.d ≤ s.a + s.n → Moved s s.nonstep (s.a + s.n - s.d) t → Balance p lead side xleads t (k + 1)
    carried t h m = moved_balance s.nonstep (s.a + s.n - s.d) t m (k + 1) (rw b.non_is (one_more (side_of xleads p) (way_of side) k)) (⊎_elim slanted diagonal b.account)
      where
        slanted : Slanted s k → Slanted t (k + 1) ⊎ Diagonal t (k + 1)
        slanted c =
            let low = c.a_low in
            let less = c.n_low in
            let paid = c.paid in
            inl (record { a_low = rw (m.a_left, m.d_same) (omega arith); n_low = rw (m.n_same, m.d_same) less; paid = rw (m.a_left, m.d_same, m.n_same, m.i_next) (omega arith) })

        diagonal : Diagonal s k → Slanted t (k + 1) ⊎ Diagonal t (k + 1)
        diagonal c =
            let ea = c.a_is in
            let en = c.n_is in
            inr (record { a_is = rw (m.a_left, m.d_same) (omega arith); n_is = m.n_same ∙ en ∙ sym m.d_same; k_is = rw (m.i_next, c.k_is) })

    -- too little has gathered
    kept : (t : BresenhamScan) → s.a + s.n < s.d → Moved s (pos 0) (s.a + s.n) t → Balance p lead side xleads t k
    kept t h m = moved_balance (pos 0) (s.a + s.n) t m k (+ℤ_idr (side_of xleads p +ℤ pos k *ℤ way_of side)) (⊎_elim slanted diagonal b.account)
      where
        slanted : Slanted s k → Slanted t k ⊎ Diagonal t k
        slanted c =
            let paid = c.paid in
            inl (record { a_low = rw (m.a_left, m.d_same) h; n_low = rw (m.n_same, m.d_same) c.n_low; paid = rw (m.a_left, m.d_same, m.n_same, m.i_next) (omega arith) })

        diagonal : Diagonal s k → Slanted t k ⊎ Diagonal t k
        diagonal c = let ea = c.a_is in let z : ⊥ = omega arith in absurd z

    pub next_balance : (j : ℕ) × Balance p lead side xleads (next_of s) j
    next_balance = ⊎_elim (λ m. (k + 1, carried (next_of s) m.0 m.1)) (λ m. (k, kept (next_of s) m.0 m.1)) (next_is s)

    -- from one point to the next: one step in the leading direction, and at most one in the other
    pub next_step : s.i < s.d → One lead (lead_of xleads (here s)) (lead_of xleads (here (next_of s))) × AtMostOne side (side_of xleads (here s)) (side_of xleads (here (next_of s)))
    next_step more = ⊎_elim (λ m. (on m.1, inr (off m.0 m.1))) (λ m. (on m.1, inl (side_on (pos 0) (s.a + s.n) (next_of s) m.1 ∙ +ℤ_idr (side_of xleads (here s))))) (next_is s)
      where
        on : {off : ℤ} {left : ℕ} → Moved s off left (next_of s) → One lead (lead_of xleads (here s)) (lead_of xleads (here (next_of s)))
        on {off} {left} m =
            let d = b.d_is in
            lead_on off left (next_of s) m ∙ ap (λ z. lead_of xleads (here s) +ℤ z) (way_sign lead (omega arith))

        some : s.d ≤ s.a + s.n → 0 < nat_abs side
        some h = let n = b.n_is in ⊎_elim (λ c. let l = c.a_low in omega arith) (λ c. let e = c.n_is in omega arith) b.account

        off : (h : s.d ≤ s.a + s.n) → Moved s s.nonstep (s.a + s.n - s.d) (next_of s) → One side (side_of xleads (here s)) (side_of xleads (here (next_of s)))
        off h m = side_on s.nonstep (s.a + s.n - s.d) (next_of s) m ∙ ap (λ z. side_of xleads (here s) +ℤ z) (b.non_is ∙ way_sign side (some h))

    -- at the end as many steps are paid for as the other distance is long
    all_paid : s.i ≡ s.d → k ≡ s.n
    all_paid e = ⊎_elim slanted diagonal b.account
      where
        diagonal : Diagonal s k → k ≡ s.n
        diagonal c = c.k_is ∙ e ∙ sym c.n_is

        slanted : Slanted s k → k ≡ s.n
        slanted c = only s.a s.n s.d k c.a_low c.n_low (rw e at c.paid)

    pub at_end : s.i ≡ s.d → (lead_of xleads (here s) ≡ lead_of xleads p +ℤ lead) × (side_of xleads (here s) ≡ side_of xleads p +ℤ side)
    at_end e =
        (b.lead_at ∙ rw (e, b.d_is, way_whole lead), b.side_at ∙ rw (all_paid e, b.n_is, way_whole side))
