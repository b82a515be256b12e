-- The turns of a stone: the one that is taken starts at the first of the leftmost corners, and its corners are the stone's. Assumes nothing.
use mathlib.Core.Path.{◌≡◌, refl, sym, ap, ◌∙◌, subst}
use mathlib.Core.Bool.{Bool, true, false, not, cond}
use mathlib.Core.List.{List, [], ◌∷◌, ◌++◌}
use mathlib.Core.Logic.{inl, inr, ⊎_elim}
use lib.Dec.{T}
use lib.IntN.{ℤ}
use lib.Signed.{lt_z, ◌<ℤ◌, ◌≤ℤ◌, lt_z_yes, lt_z_no, <ℤ-≤ℤ_trans, clash_ℤ}
use Rattle.points.specs.declared.Point.{Point}
use Rattle.pieces.specs.Count.{Mem}
use Rattle.pieces.proofs.Counting.{mem_after}
use Rattle.capstones.specs.declared.CapStone.{CapStone}
use Rattle.corners.proofs.Order.{<ℤ-≤ℤ}
use Rattle.groups.specs.Group.{Framed}
use Rattle.groups.specs.Turn.{turn, lefter, turned_by, corners_of, TurnedFrom}

pub turn_framed : {s : CapStone} → Framed s → Framed (turn s)
unfolding turn
turn_framed F = record { corner0 = F.corner1; corner1 = F.corner2; corner2 = F.corner3; corner3 = F.corner0 }

<ℤ-trans : {a b c : ℤ} → a <ℤ b → b <ℤ c → a <ℤ c
<ℤ-trans h k = <ℤ-≤ℤ_trans h (<ℤ-≤ℤ k)

-- P holds of each point of a list, one by one
abbrev Each : (Point → Type 0) → List Point → Type 0
Each P [] = Unit {0}
Each P (p ∷ l) = P p × Each P l

each : (P : Point → Type 0) (l : List Point) → Each P l → (q : Point) → Mem q l → P q
each P [] all q m = absurd m
each P (p ∷ l) all q m = ⊎_elim (λ e. subst P (sym e) all.0) (λ n. each P l all.1 q n) m

module _ (side : Point → ℤ) where
  -- one or the other, as their corners 0 lie
  lefter-cases :
      (P : CapStone → Type 0) (s t : CapStone) → (side t.corner0 <ℤ side s.corner0 → P t) → (side s.corner0 ≤ℤ side t.corner0 → P s)
      → P (lefter side s t)
  unfolding lefter
  lefter-cases P s t left stays = go (lt_z (side t.corner0) (side s.corner0)) (λ b. left (lt_z_yes b)) (λ b. stays (lt_z_no b))
    where
      go : (b : Bool) → (T b → P t) → (T (not b) → P s) → P (cond b t s)
      go true f g = f tt
      go false f g = g tt

  pub lefter_framed : {s t : CapStone} → Framed s → Framed t → Framed (lefter side s t)
  lefter_framed {s} {t} S T = lefter-cases Framed s t (λ h. T) (λ h. S)

  pub turned_framed : {s : CapStone} → Framed s → Framed (turned_by side s)
  unfolding turned_by
  turned_framed S =
      let once = turn_framed S in
      let twice = turn_framed once in
      lefter_framed (lefter_framed (lefter_framed S once) twice) (turn_framed twice)

  module _ (s : CapStone) where
    abbrev Right : Point → Point → Type 0
    Right p q = side p <ℤ side q

    abbrev Even : Point → Point → Type 0
    Even p q = side p ≤ℤ side q

    -- the stone from each of its corners on
    from_0 : Even s.corner0 s.corner1 → Even s.corner0 s.corner2 → Even s.corner0 s.corner3 → TurnedFrom side s s
    from_0 h i j =
        record {
          before = [];
          after = s.corner1 ∷ s.corner2 ∷ s.corner3 ∷ [];
          are = refl;
          turned = refl;
          first = λ q m. absurd m;
          leftmost = each (Even s.corner0) (s.corner1 ∷ s.corner2 ∷ s.corner3 ∷ []) (h, (i, (j, tt)));
          center = refl;
        }

    from_1 : Right s.corner1 s.corner0 → Even s.corner1 s.corner2 → Even s.corner1 s.corner3 → TurnedFrom side s (turn s)
    unfolding turn
    from_1 h i j =
        record {
          before = s.corner0 ∷ [];
          after = s.corner2 ∷ s.corner3 ∷ [];
          are = refl;
          turned = refl;
          first = each (Right s.corner1) (s.corner0 ∷ []) (h, tt);
          leftmost = each (Even s.corner1) (s.corner2 ∷ s.corner3 ∷ []) (i, (j, tt));
          center = refl;
        }

    from_2 : Right s.corner2 s.corner0 → Right s.corner2 s.corner1 → Even s.corner2 s.corner3 → TurnedFrom side s (turn (turn s))
    unfolding turn
    from_2 h i j =
        record {
          before = s.corner0 ∷ s.corner1 ∷ [];
          after = s.corner3 ∷ [];
          are = refl;
          turned = refl;
          first = each (Right s.corner2) (s.corner0 ∷ s.corner1 ∷ []) (h, (i, tt));
          leftmost = each (Even s.corner2) (s.corner3 ∷ []) (j, tt);
          center = refl;
        }

    from_3 : Right s.corner3 s.corner0 → Right s.corner3 s.corner1 → Right s.corner3 s.corner2 → TurnedFrom side s (turn (turn (turn s)))
    unfolding turn
    from_3 h i j =
        record {
          before = s.corner0 ∷ s.corner1 ∷ s.corner2 ∷ [];
          after = [];
          are = refl;
          turned = refl;
          first = each (Right s.corner3) (s.corner0 ∷ s.corner1 ∷ s.corner2 ∷ []) (h, (i, (j, tt)));
          leftmost = λ q m. absurd m;
          center = refl;
        }

    -- the stone as it is turned
    pub turned_from : TurnedFrom side s (turned_by side s)
    unfolding turned_by turn
    turned_from =
        let once = turn s in
        let twice = turn once in
        let thrice = turn twice in
        let P : CapStone → Type 0 = TurnedFrom side s in
        lefter-cases (λ b. P (lefter side (lefter side b twice) thrice)) s once
        (λ h.
        lefter-cases (λ b. P (lefter side b thrice)) once twice
        (λ i. lefter-cases P twice thrice (λ j. from_3 (<ℤ-trans (<ℤ-trans j i) h) (<ℤ-trans j i) j) (λ j. from_2 (<ℤ-trans i h) i j))
        (λ i. lefter-cases P once thrice (λ j. from_3 (<ℤ-trans j h) j (<ℤ-≤ℤ_trans j i)) (λ j. from_1 h i j)))
        (λ h.
        lefter-cases (λ b. P (lefter side b thrice)) s twice
        (λ i. lefter-cases P twice thrice (λ j. from_3 (<ℤ-trans j i) (<ℤ-≤ℤ_trans (<ℤ-trans j i) h) j) (λ j. from_2 i (<ℤ-≤ℤ_trans i h) j))
        (λ i. lefter-cases P s thrice (λ j. from_3 j (<ℤ-≤ℤ_trans j h) (<ℤ-≤ℤ_trans j i)) (λ j. from_0 h i j)))

  -- there is no other way to turn it
  pub turned_only : {s t u : CapStone} → TurnedFrom side s t → TurnedFrom side s u → corners_of t ≡ corners_of u
  turned_only {s} {t} {u} F G =
      let e = go F.before G.before F.after G.after (sym F.are ∙ G.are) F.first G.first F.leftmost G.leftmost in
      F.turned ∙ ap (λ (l : List Point). l ++ F.before) e.0 ∙ ap (λ (l : List Point). (u.corner0 ∷ G.after) ++ l) e.1 ∙ sym G.turned
    where
      go :
          (b c a d : List Point) → b ++ (t.corner0 ∷ a) ≡ c ++ (u.corner0 ∷ d) → ((q : Point) → Mem q b → side t.corner0 <ℤ side q)
          → ((q : Point) → Mem q c → side u.corner0 <ℤ side q) → ((q : Point) → Mem q a → side t.corner0 ≤ℤ side q)
          → ((q : Point) → Mem q d → side u.corner0 ≤ℤ side q) → (◌≡◌ {A = List Point} (t.corner0 ∷ a) (u.corner0 ∷ d)) × (b ≡ c)
      go [] [] a d e f g h k = (e, refl)
      go [] (r ∷ c) a d e f g h k =
          clash_ℤ (g t.corner0 (inl (cc))) (h u.corner0 (let l : c ++ (u.corner0 ∷ d) ≡ a = cc in subst (Mem u.corner0) l (mem_after c (u.corner0 ∷ d) u.corner0 (inl refl))))
      go (r ∷ b) [] a d e f g h k =
          clash_ℤ (f u.corner0 (inl (cc))) (k t.corner0 (let l : b ++ (t.corner0 ∷ a) ≡ d = cc in subst (Mem t.corner0) l (mem_after b (t.corner0 ∷ a) t.corner0 (inl refl))))
      go (r ∷ b) (o ∷ c) a d e f g h k =
          let m = go b c a d (cc) (λ q n. f q (inr n)) (λ q n. g q (inr n)) h k in
          (m.0, cc)
