-- A group put in order: its second centre does not lie to the right of its line, and its stones stay in range. Assumes nothing.
use mathlib.Core.Path.{◌≡◌, refl, sym, ap, subst}
use mathlib.Core.Bool.{Bool, true, false, not, cond}
use lib.Dec.{T}
use lib.IntN.{ℤ, pos, negsuc, neg_ℤ}
use lib.Signed.{lt_z, ◌<ℤ◌, ◌≤ℤ◌, lt_z_yes, lt_z_no, le_z_yes}
use Prim.Native.Nat.{zero, suc}
use Rattle.points.specs.Range.{Near}
use Rattle.points.specs.declared.Point.{Point}
use Rattle.capstones.specs.declared.CapStone.{CapStone}
use Rattle.corners.specs.Scores.{Direction, line_from}
use Rattle.corners.proofs.Small.{way_direction}
use Rattle.groups.specs.Side.{side_of, reversed}
use Rattle.groups.specs.Group.{Centred, Cornered}
use Rattle.groups.specs.Orient.{swapped, oriented}
use Rattle.groups.specs.Turn.{turned_by, sighted, rotated_of}
use Rattle.groups.specs.Rotate.{Turnable}
use Rattle.groups.specs.declared.CapStoneGroup.{CapStoneGroup}
use Rattle.groups.specs.declared.Oriented.{Oriented}
use Rattle.groups.proofs.Beside.{side_reversed, line_reversed, either_end, reversed_direction}

-- the opposite of what lies above 0 does not
not_above : (z : ℤ) → pos 0 <ℤ z → neg_ℤ z ≤ℤ pos 0
not_above (pos zero) h = absurd h.lt
not_above (pos (suc n)) h = le_z_yes tt
not_above (negsuc n) h = absurd h.lt

module _ (g : CapStoneGroup) where
  abbrev line : Oriented
  line = record { group = g; h0 = g.first.center; hd = line_from g.first.center g.third.center }

  abbrev back : Oriented
  back = record { group = swapped g; h0 = line.h0; hd = reversed line.hd }

  abbrev side : ℤ
  side = side_of line.h0 line.hd g.second.center

  -- swapped, or as it was
  oriented_cases : (P : Oriented → Type 0) → (pos 0 <ℤ side → P back) → (side ≤ℤ pos 0 → P line) → P (oriented g)
  unfolding oriented
  oriented_cases P right left = go (lt_z (pos 0) side) (λ b. right (lt_z_yes b)) (λ b. left (lt_z_no b))
    where
      go : (b : Bool) → (T b → P back) → (T (not b) → P line) → P (cond b back line)
      go true f h = f tt
      go false f h = h tt

  -- "B should be to the left of this line"
  pub oriented_side : side_of (oriented g).h0 (oriented g).hd (oriented g).group.second.center ≤ℤ pos 0
  oriented_side =
      oriented_cases (λ o. side_of o.h0 o.hd o.group.second.center ≤ℤ pos 0)
      (λ h. subst (λ (z : ℤ). z ≤ℤ pos 0) (sym (side_reversed line.h0 line.hd g.second.center)) (not_above side h))
      (λ h. h)

  -- document 01: h0 is the first centre of the group as it was handed over
  pub oriented_h0 : (oriented g).h0 ≡ g.first.center
  oriented_h0 = oriented_cases (λ o. o.h0 ≡ g.first.center) (λ h. refl) (λ h. refl)

  -- the line leads from the first centre of the ordered group to its third
  pub oriented_line : (oriented g).hd ≡ line_from (oriented g).group.first.center (oriented g).group.third.center
  oriented_line =
      oriented_cases (λ o. o.hd ≡ line_from o.group.first.center o.group.third.center)
      (λ h. line_reversed g.first.center g.third.center)
      (λ h. refl)

  -- so the ordered group's first centre would do for h0: a rotation would be the same
  pub other_h0 : (s : CapStone) → rotated_of s (oriented g).h0 (oriented g).hd ≡ rotated_of s (oriented g).group.first.center (oriented g).hd
  unfolding rotated_of
  other_h0 s =
      ap (λ (side : Point → ℤ). sighted (turned_by side s))
      (oriented_cases (λ o. side_of o.h0 o.hd ≡ side_of o.group.first.center o.hd)
      (λ h. rw (line_reversed g.first.center g.third.center) (λ i p. either_end g.first.center g.third.center p i))
      (λ h. refl))

  pub oriented_centred : Centred g → Centred (oriented g).group
  oriented_centred C = oriented_cases (λ o. Centred o.group) (λ h. record { first = C.third; second = C.second; third = C.first }) (λ h. C)

  pub oriented_cornered : Cornered g → Cornered (oriented g).group
  oriented_cornered C = oriented_cases (λ o. Cornered o.group) (λ h. record { first = C.third; second = C.second; third = C.first }) (λ h. C)

  pub oriented_direction : Centred g → Direction (oriented g).hd
  oriented_direction C =
      let D = way_direction C.first C.third in
      oriented_cases (λ o. Direction o.hd) (λ h. reversed_direction D) (λ h. D)

  -- so its stones can be turned
  pub oriented_turnable : Centred g → Cornered g → Turnable (oriented g)
  oriented_turnable C F =
      record {
        cornered = oriented_cornered F;
        start = subst Near (sym oriented_h0) C.first;
        direction = oriented_direction C;
      }
