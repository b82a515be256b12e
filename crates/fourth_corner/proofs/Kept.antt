-- Looking for the fourth corner keeps the table sound, the picture's length, and white what is white. Assumes nothing.
use Prim.Native.Nat.{ℕ}
use native.Mathlib.Nat.{le_refl}
use native.Mathlib.Omega.{arith}
use mathlib.Core.Path.{◌≡◌}
use mathlib.Core.List.{List, [], ◌∷◌}
use lib.ListN.{length}
use Rattle.refusals.specs.Finding.{Finding, found}
use Rattle.points.specs.declared.Point.{Point}
use Rattle.picture.specs.Sides.{Roomy}
use Rattle.corners.specs.Scores.{Direction}
use Rattle.table.specs.declared.Table.{Table}
use Rattle.table.proofs.Kept.{Proper}
use Rattle.alignment.proofs.Kept.{Kept, kept_on, kept_still}
use Rattle.alignment.proofs.Spiralling.{still_roomy}
use Rattle.alignment.proofs.Sighted.{Sighted, search_keeps, search_sights}
use Rattle.alignment.proofs.Aligned.{sighted_claimable, claim_paints, claim_white}
use Rattle.outline.specs.declared.Outline.{Outline}
use Rattle.fourth_corner.specs.Corner.{Takes, nowhere, stopped, claimed, Seeks, Corners, plain, unguessed, sought}

takes_keeps : {m : List ℕ} {w h lent : ℕ} {hd : Point} {sight f : Finding (List Point)} {q : List ℕ} {U : Table}
    → Roomy w h (length m) lent → Proper U w h → Direction hd → ((at : Point) → sight ≡ found (at ∷ []) → Sighted m w h at) → Takes m w h hd sight f q → Kept m w h q U
unfolding sighted_claimable
takes_keeps {U = U} R P D seen (nowhere s e same) = kept_still {T = U} P same (λ i. U)
takes_keeps {U = U} R P D seen (stopped n s e same) = kept_still {T = U} P same (λ i. U)
takes_keeps R P D seen (claimed at corner s A e) =
    let S = seen at s in
    let C = sighted_claimable R S D in
    record { len = (claim_paints C A).len; proper = P; white = claim_white C A (λ z. omega (arith, S.shows)) }

module _ {p : List ℕ} {w h lent : ℕ} {T : Table} (R : Roomy w h (length p) lent) (P : Proper T w h) where
  pub seeks_keeps : {corner hd : Point} {estimate : ℕ} {f : Finding (List Point)} {q : List ℕ} {U : Table} → Direction hd → Seeks p w h T corner hd estimate f q U → Kept p w h q U
  seeks_keeps D S =
      let K = search_keeps R P S.spirals in
      kept_on K (takes_keeps (still_roomy R K.len (le_refl lent)) K.proper D (λ at e. search_sights e S.spirals) S.takes)

  pub corner_keeps : {o : Outline} {f : Finding (List Point)} {q : List ℕ} {U : Table} → Direction o.hd → Corners p w h T o f q U → Kept p w h q U
  corner_keeps D (plain low e same table) = kept_still P same table
  corner_keeps D (unguessed high n g e same table) = kept_still P same table
  corner_keeps D (sought high estimate g S) = seeks_keeps D S
