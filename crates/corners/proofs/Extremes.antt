-- What is kept of points that are seen one after the other is the first of those with the highest score. Assumes nothing.
use mathlib.Core.Path.{◌≡◌, refl, sym, ap, ◌∙◌, subst}
use mathlib.Core.List.{List, [], ◌∷◌, ◌++◌, append_assoc, append-nil}
use mathlib.Core.Logic.{inl, inr, ⊎_elim}
use mathlib.Core.Bool.{Bool, true, false, not, cond}
use lib.Dec.{T}
use lib.IntN.{ℤ}
use lib.Signed.{lt_z, ◌<ℤ◌, ◌≤ℤ◌, lt_z_yes, lt_z_no, ≤ℤ_refl, clash_ℤ}
use Rattle.points.specs.declared.Point.{Point}
use Rattle.pieces.specs.Count.{Mem}
use Rattle.pieces.proofs.Counting.{mem_either, mem_after}
use Rattle.corners.specs.Best.{raised, scored}
use Rattle.corners.specs.Rows.{seen_in}
use Rattle.corners.specs.First.{First}
use Rattle.corners.specs.declared.places.Best.{Best}
use Rattle.corners.proofs.Order.{<ℤ-≤ℤ, ≤ℤ-<ℤ-trans}

module _ {score : Point → ℤ} where
  -- no point has a higher score than the first of the highest
  pub first_highest : {ps : List Point} {p : Point} → First ps score p → (q : Point) → Mem q ps → score q ≤ℤ score p
  first_highest {ps} {p} F q m =
      ⊎_elim
      (λ k. <ℤ-≤ℤ (F.lower q k))
      (λ k. ⊎_elim (λ e. subst (λ (v : Point). score v ≤ℤ score p) (sym e) (≤ℤ_refl (score p))) (λ n. F.no_higher q n) k)
      (mem_either F.before (p ∷ F.after) q (subst (Mem q) F.are m))

  -- there is only one
  pub first_only : {ps : List Point} {p q : Point} → First ps score p → First ps score q → p ≡ q
  first_only {p} {q} F G = go F.before G.before F.after G.after (sym F.are ∙ G.are) F.lower G.lower F.no_higher G.no_higher
    where
      go :
          (b c a d : List Point) → b ++ (p ∷ a) ≡ c ++ (q ∷ d) → ((r : Point) → Mem r b → score r <ℤ score p) → ((r : Point) → Mem r c → score r <ℤ score q)
          → ((r : Point) → Mem r a → score r ≤ℤ score p) → ((r : Point) → Mem r d → score r ≤ℤ score q) → p ≡ q
      go [] [] a d e f g h k = cc
      go [] (r ∷ c) a d e f g h k = clash_ℤ (g p (inl (cc))) (h q (let t : c ++ (q ∷ d) ≡ a = cc in subst (Mem q) t (mem_after c (q ∷ d) q (inl refl))))
      go (r ∷ b) [] a d e f g h k = clash_ℤ (f q (inl (cc))) (k p (let t : b ++ (p ∷ a) ≡ d = cc in subst (Mem p) t (mem_after b (p ∷ a) p (inl refl))))
      go (r ∷ b) (s ∷ c) a d e f g h k = go b c a d (cc) (λ i m. f i (inr m)) (λ i m. g i (inr m)) h k

  alone : (p : Point) → First (p ∷ []) score p
  alone p = record { before = []; after = []; are = refl; lower = λ q m. absurd m; no_higher = λ q m. absurd m }

  -- one point more: it takes the place where its score is higher, else the first one stays
  module _ {ps : List Point} {p q : Point} (F : First ps score p) where
    taken : score p <ℤ score q → First (ps ++ (q ∷ [])) score q
    taken h = record { before = ps; after = []; are = refl; lower = λ r m. ≤ℤ-<ℤ-trans (first_highest F r m) h; no_higher = λ r m. absurd m }

    kept : score q ≤ℤ score p → First (ps ++ (q ∷ [])) score p
    kept h =
        record {
          before = F.before;
          after = F.after ++ (q ∷ []);
          are = ap (λ (l : List Point). l ++ (q ∷ [])) F.are ∙ append_assoc F.before (p ∷ F.after) (q ∷ []);
          lower = F.lower;
          no_higher =
              λ r m.
              ⊎_elim
              (λ k. F.no_higher r k)
              (λ k. ⊎_elim (λ e. subst (λ (v : Point). score v ≤ℤ score p) (sym e) h) (λ z. absurd z) k)
              (mem_either F.after (q ∷ []) r m);
        }

-- a point that is tried against the best so far
raised_cases : (P : Best → Type 0) (b : Best) (p : Point) (worth : ℤ) → (b.score <ℤ worth → P (record { place = p; score = worth })) → (worth ≤ℤ b.score → P b) → P (raised b p worth)
unfolding raised
raised_cases P b p worth more less = go (lt_z b.score worth) (λ t. more (lt_z_yes t)) (λ t. less (lt_z_no t))
  where
    go : (t : Bool) → (T t → P (record { place = p; score = worth })) → (T (not t) → P b) → P (cond t (record { place = p; score = worth }) b)
    go true f g = f tt
    go false f g = g tt

-- b is the first of the highest of the points, with its score
pub record Kept (score : Point → ℤ) (points : List Point) (b : Best) : Type 0 where
  pub first : First points score b.place
  pub right : b.score ≡ score b.place

module _ (score : Point → ℤ) where
  abbrev pub tried : Best → Point → Best
  tried b p = raised b p (score p)

  one_more : (ps : List Point) (q : Point) (b : Best) → Kept score ps b → Kept score (ps ++ (q ∷ [])) (tried b q)
  one_more ps q b K =
      raised_cases (Kept score (ps ++ (q ∷ []))) b q (score q)
      (λ h. record { first = taken K.first (subst (λ (z : ℤ). z <ℤ score q) K.right h); right = refl })
      (λ h. record { first = kept K.first (subst (λ (z : ℤ). score q ≤ℤ z) K.right h); right = K.right })

  all_more : (ps qs : List Point) (b : Best) → Kept score ps b → Kept score (ps ++ qs) (seen_in tried b qs)
  unfolding seen_in
  all_more ps [] b K = subst (λ (l : List Point). Kept score l b) (sym (append-nil ps)) K
  all_more ps (q ∷ qs) b K =
      subst (λ (l : List Point). Kept score l (seen_in tried (tried b q) qs)) (append_assoc ps (q ∷ []) qs)
      (all_more (ps ++ (q ∷ [])) qs (tried b q) (one_more ps q b K))

  -- from a point with its score on
  pub seen_first : (p : Point) (qs : List Point) → Kept score (p ∷ qs) (seen_in tried (scored score p) qs)
  seen_first p qs = all_more (p ∷ []) qs (scored score p) (record { first = alone p; right = refl })
