-- What a rotation answers: a stone turned, with the perspective of its corners, or 15 where they are flat; its centre and its range stay. Assumes nothing.
use Prim.Native.Nat.{ℕ}
use native.Mathlib.Omega.{arith}
use mathlib.Core.Path.{◌≡◌, refl, sym, ap, subst, ◌∙◌}
use Rattle.refusals.specs.Finding.{Finding, found, refused}
use Rattle.points.specs.declared.Point.{Point}
use Rattle.points.specs.Range.{Near}
use Rattle.geometry.specs.declared.Perspective.{Perspective}
use Rattle.geometry.specs.declared.Sight.{Sight}
use Rattle.geometry.specs.declared.Sight.TheVariants.{Made, Flat}
use Rattle.capstones.specs.declared.CapStone.{CapStone}
use Rattle.groups.specs.Side.{side_of}
use Rattle.groups.specs.Group.{Centred, Framed, Cornered}
use Rattle.groups.specs.Turn.{turned_by, with_sight, sight, seen, sighted, rotated_of, TurnedFrom, RotatedFrom}
use Rattle.groups.specs.Rotate.{gathered, rotated_group}
use Rattle.groups.specs.declared.CapStoneGroup.{CapStoneGroup}
use Rattle.groups.specs.declared.Oriented.{Oriented}
use Rattle.groups.proofs.Turns.{turned_framed, turned_from}

-- a sight that is made, and one that is flat
seen_cases : (P : Finding CapStone → Type 0) (s : CapStone) → ((c : Perspective) → sight s ≡ Made c → P (found (with_sight s c))) → (sight s ≡ Flat → P (refused 15)) → P (sighted s)
unfolding sighted seen
seen_cases P s made flat = go (sight s) made flat
  where
    go : (v : Sight) → ((c : Perspective) → v ≡ Made c → P (found (with_sight s c))) → (v ≡ Flat → P (refused 15)) → P (seen s v)
    go (Made c) f g = f c refl
    go Flat f g = g refl

module _ (s : CapStone) (h0 hd : Point) where
  abbrev turned : CapStone
  turned = turned_by (side_of h0 hd) s

  rotated-cases :
      (P : Finding CapStone → Type 0) → ((c : Perspective) → sight turned ≡ Made c → P (found (with_sight turned c))) → (sight turned ≡ Flat → P (refused 15))
      → P (rotated_of s h0 hd)
  unfolding rotated_of
  rotated-cases P made flat = seen_cases P turned made flat

  -- a stone that is found is the turned one
  pub rotated_found : (t : CapStone) → rotated_of s h0 hd ≡ found t → RotatedFrom s h0 hd t
  rotated_found t =
      rotated-cases (λ f. f ≡ found t → RotatedFrom s h0 hd t)
      (λ c e h. subst (RotatedFrom s h0 hd) (cc) (record { turned = again c (turned_from (side_of h0 hd) s); made = e }))
      (λ e h. let z : ◌≡◌ {A = ℕ} 0 1 = cc in absurd (omega arith))
    where
      again : (c : Perspective) → TurnedFrom (side_of h0 hd) s turned → TurnedFrom (side_of h0 hd) s (with_sight turned c)
      again c F = record { before = F.before; after = F.after; are = F.are; turned = F.turned; first = F.first; leftmost = F.leftmost; center = F.center }

  -- the refusal is 15, and the turned corners are flat
  pub rotated_refused : (n : ℕ) → rotated_of s h0 hd ≡ refused n → (n ≡ 15) × (sight turned ≡ Flat)
  rotated_refused n =
      rotated-cases (λ f. f ≡ refused n → (n ≡ 15) × (sight turned ≡ Flat))
      (λ c e h. let z : ◌≡◌ {A = ℕ} 0 1 = cc in absurd (omega arith))
      (λ e h. (cc, e))

  -- the corners are the stone's, so they stay in the picture
  pub rotated_framed : Framed s → (t : CapStone) → rotated_of s h0 hd ≡ found t → Framed t
  rotated_framed F t =
      rotated-cases (λ f. f ≡ found t → Framed t)
      (λ c e h.
      let T = turned_framed (side_of h0 hd) F in
      let is : with_sight turned c ≡ t = cc in
      subst Framed is (record { corner0 = T.corner0; corner1 = T.corner1; corner2 = T.corner2; corner3 = T.corner3 }))
      (λ e h. let z : ◌≡◌ {A = ℕ} 0 1 = cc in absurd (omega arith))

  -- the centre stays
  pub rotated_center : (t : CapStone) → rotated_of s h0 hd ≡ found t → t.center ≡ s.center
  rotated_center t h = (rotated_found t h).turned.center

-- each stone of a group that is found
pub record EachRotated (o : Oriented) (g : CapStoneGroup) : Type 0 where
  pub first : rotated_of o.group.first o.h0 o.hd ≡ found g.first
  pub second : rotated_of o.group.second o.h0 o.hd ≡ found g.second
  pub third : rotated_of o.group.third o.h0 o.hd ≡ found g.third

gathered-found :
    (a b c : Finding CapStone) (g : CapStoneGroup) → gathered a b c ≡ found g → (a ≡ found g.first) × (b ≡ found g.second) × (c ≡ found g.third)
unfolding gathered
gathered-found (found a) (found b) (found c) g h = let e : ◌≡◌ {A = CapStoneGroup} (record { first = a; second = b; third = c }) g = cc in (ap (λ (k : CapStoneGroup). found k.first) e, ap (λ (k : CapStoneGroup). found k.second) e, ap (λ (k : CapStoneGroup). found k.third) e)
gathered-found (found a) (found b) (refused n) g h = let z : ◌≡◌ {A = ℕ} 0 1 = cc in absurd (omega arith)
gathered-found (found a) (refused n) c g h = let z : ◌≡◌ {A = ℕ} 0 1 = cc in absurd (omega arith)
gathered-found (refused n) b c g h = let z : ◌≡◌ {A = ℕ} 0 1 = cc in absurd (omega arith)

module _ (o : Oriented) (g : CapStoneGroup) (h : rotated_group o ≡ found g) where
  pub each_rotated : EachRotated o g
  unfolding rotated_group
  each_rotated =
      let e = gathered-found (rotated_of o.group.first o.h0 o.hd) (rotated_of o.group.second o.h0 o.hd) (rotated_of o.group.third o.h0 o.hd) g h in
      record { first = e.0; second = e.1; third = e.2 }

  pub rotated_cornered : Cornered o.group → Cornered g
  rotated_cornered C =
      let e = each_rotated in
      record {
        first = rotated_framed o.group.first o.h0 o.hd C.first g.first e.first;
        second = rotated_framed o.group.second o.h0 o.hd C.second g.second e.second;
        third = rotated_framed o.group.third o.h0 o.hd C.third g.third e.third;
      }

  pub rotated_centred : Centred o.group → Centred g
  rotated_centred C =
      let e = each_rotated in
      record {
        first = subst Near (sym (rotated_center o.group.first o.h0 o.hd g.first e.first)) C.first;
        second = subst Near (sym (rotated_center o.group.second o.h0 o.hd g.second e.second)) C.second;
        third = subst Near (sym (rotated_center o.group.third o.h0 o.hd g.third e.third)) C.third;
      }

-- a group is refused for 15 alone
pub group_refused : (o : Oriented) (n : ℕ) → rotated_group o ≡ refused n → n ≡ 15
unfolding rotated_group gathered
group_refused o n h =
    go (rotated_of o.group.first o.h0 o.hd) (rotated_of o.group.second o.h0 o.hd) (rotated_of o.group.third o.h0 o.hd) h
    (λ k e. (rotated_refused o.group.first o.h0 o.hd k e).0)
    (λ k e. (rotated_refused o.group.second o.h0 o.hd k e).0)
    (λ k e. (rotated_refused o.group.third o.h0 o.hd k e).0)
  where
    go :
        (a b c : Finding CapStone) → gathered a b c ≡ refused n → ((k : ℕ) → a ≡ refused k → k ≡ 15) → ((k : ℕ) → b ≡ refused k → k ≡ 15)
        → ((k : ℕ) → c ≡ refused k → k ≡ 15) → n ≡ 15
    go (found a) (found b) (found c) e f i j = let z : ◌≡◌ {A = ℕ} 0 1 = cc in absurd (omega arith)
    go (found a) (found b) (refused k) e f i j = let same : n ≡ k = cc in same ∙ j k refl
    go (found a) (refused k) c e f i j = let same : n ≡ k = cc in same ∙ i k refl
    go (refused k) b c e f i j = let same : n ≡ k = cc in same ∙ f k refl
