-- An element of an array that lies in memory, as a part of what holds the array: it is taken out, and put back with any value. Assumes what a walk is given.
use mathlib.Core.Path.{◌≡◌, ◌∙◌, ap, subst}
use Prim.Native.Nat.{ℕ, zero, suc, ◌+◌, ◌<◌}
use native.Mathlib.Nat.{not-suc-le-zero, le_of_suc-le-suc}
use mathlib.Core.List.{List, [], ◌∷◌}
use lib.ListN.{length, get_or, set, length-set}
use lib.Seq.{set-get_or}
use seplogic.Ra.Ura.{Ura}
use mir.Syntax.{Ty, ty_array}
use mir.Val.{Val, vstruct, of_list}
use base.Logic.{SProp, ent, sep, wand, all, apply∗, all_e}
use base.Fml.{Share, fat}
use prog.Memory.{size}
use prog.Model.{elems}
use prog.Wp.{Heap}
use types.Logic.{Logic}
use types.Kit.{Item, ‵, raw, ◌⊛◌, mean, ◌$◌, ◌∵◌, !, qed, move, use1, use2, split, assume, frame, each, done}
use types.Part.{Part}
use denote.Index.{place}

module _ {M : Type 1} (𝓤 : Ura M) (H : Heap 𝓤) where
  -- the row us with element k at u gives what it gave with the element that it had
  abbrev Back : Share → Ty → ℕ → List Val → ℕ → ℕ → Val → SProp 𝓤
  Back q τ b us k o u = wand 𝓤 (H.at q τ b (place (size τ) o k) u) (elems 𝓤 H q τ b o (set us k u))

module _ {M : Type 1} {𝓤 : Ura M} (𝓛 : Logic 𝓤) where
  -- element k of a row, and the way back
  open 𝓛 use {H}

  taken : (q : Share) (τ : Ty) (b : ℕ) (us : List Val) (k : ℕ) (d : Val) (o : ℕ) → k < length us
      → ent 𝓤 (elems 𝓤 H q τ b o us) (sep 𝓤 (H.at q τ b (place (size τ) o k) (get_or us k d)) (all 𝓤 (Back 𝓤 H q τ b us k o)))
  taken q τ b [] k d o h = absurd (not-suc-le-zero h)
  taken q τ b (u ∷ us) zero d o h =
      qed 𝓛 (‵ (fat q τ b o u) ∷ raw (elems 𝓤 H q τ b (o + size τ) us) ∷ []) ∵ frame ! $ each ! (Back 𝓤 H q τ b (u ∷ us) zero o) (λ v. assume ! (‵ (fat q τ b o v)) $ done !)
  taken q τ b (u ∷ us) (suc k) d o h =
      qed 𝓛 (‵ (fat q τ b o u) ∷ raw (elems 𝓤 H q τ b (o + size τ) us) ∷ []) ∵ move ! (1 ∷ []) $
      use1 𝓛 (‵ (fat q τ b (place (size τ) (o + size τ) k) (get_or us k d)) ⊛ raw (all 𝓤 (Back 𝓤 H q τ b us k (o + size τ)))) (taken q τ b us k d (o + size τ) (le_of_suc-le-suc h)) $ split ! $ frame ! $
      each ! (Back 𝓤 H q τ b (u ∷ us) (suc k) o) (λ v. assume ! (‵ (fat q τ b (place (size τ) (o + size τ) k) v)) $
      -- [the element at v; the way back; the first element]
      move ! (1 ∷ []) $ use1 𝓛 (raw (Back 𝓤 H q τ b us k (o + size τ) v)) (all_e 𝓤 (Back 𝓤 H q τ b us k (o + size τ)) v) $ move ! (1 ∷ 0 ∷ []) $
      use2 𝓛 (raw (elems 𝓤 H q τ b (o + size τ) (set us k v))) (apply∗ 𝓤 (H.at q τ b (place (size τ) (o + size τ) k) v) (elems 𝓤 H q τ b (o + size τ) (set us k v))) $ move ! (1 ∷ 0 ∷ []) $ done !)

module _ {M : Type 1} {𝓤 : Ura M} {𝓛 : Logic 𝓤} {K : Type 0} where
  -- element k of an array's cell that p finds
  open 𝓛 use {H}

  pub element : K → {i : Item 𝓤} {q : Share} {τ : Ty} {n b o : ℕ} {back : Val → Item 𝓤} (us : List Val) (k : ℕ) (d : Val) → k < length us → length us ≡ n
      → Part K 𝓛 i q (ty_array τ n) b o (vstruct (of_list us)) back → Part K 𝓛 i q τ b (place (size τ) o k) (get_or us k d) (λ u. back (vstruct (of_list (set us k u))))
  element t {i} {q} {τ} {n} {b} {o} {back} us k d h l p = record {
    out = qed 𝓛 (i ∷ []) ∵ use1 𝓛 (‵ (fat q (ty_array τ n) b o (vstruct (of_list us))) ⊛ raw (all 𝓤 Whole)) p.out $ split ! $
        use1 𝓛 (raw (elems 𝓤 H q τ b o us)) (𝓛.laws.at_elems q τ n b o us) $
        use1 𝓛 (‵ (fat q τ b (place (size τ) o k) (get_or us k d)) ⊛ raw (all 𝓤 (Back 𝓤 H q τ b us k o))) (taken 𝓛 q τ b us k d o h) $ split ! $ frame ! $
        each ! (λ (u : Val). wand 𝓤 (H.at q τ b (place (size τ) o k) u) (mean 𝓛 (back (vstruct (of_list (set us k u)))))) (λ u. assume {P = mean 𝓛 (back (vstruct (of_list (set us k u))))} ! (‵ (fat q τ b (place (size τ) o k) u)) $
        -- [the element at u; the way back to the row; the way back to what holds the array]
        move ! (1 ∷ []) $ use1 𝓛 (raw (Back 𝓤 H q τ b us k o u)) (all_e 𝓤 (Back 𝓤 H q τ b us k o) u) $ move ! (1 ∷ 0 ∷ []) $
        use2 𝓛 (raw (elems 𝓤 H q τ b o (set us k u))) (apply∗ 𝓤 (H.at q τ b (place (size τ) o k) u) (elems 𝓤 H q τ b o (set us k u))) $
        use1 𝓛 (‵ (fat q (ty_array τ n) b o (vstruct (of_list (set us k u))))) (row u) $ move ! (1 ∷ []) $
        use1 𝓛 (raw (Whole (vstruct (of_list (set us k u))))) (all_e 𝓤 Whole (vstruct (of_list (set us k u)))) $ move ! (1 ∷ 0 ∷ []) $
        use2 𝓛 (back (vstruct (of_list (set us k u)))) (apply∗ 𝓤 (H.at q (ty_array τ n) b o (vstruct (of_list (set us k u)))) (mean 𝓛 (back (vstruct (of_list (set us k u)))))) $ done !);
    same = ap (λ (vs : List Val). back (vstruct (of_list vs))) (set-get_or us k d) ∙ p.same;
  }
    where
      Whole : Val → SProp 𝓤
      Whole w = wand 𝓤 (H.at q (ty_array τ n) b o w) (mean 𝓛 (back w))

      row : (u : Val) → ent 𝓤 (elems 𝓤 H q τ b o (set us k u)) (H.at q (ty_array τ n) b o (vstruct (of_list (set us k u))))
      row u = subst (λ (m : ℕ). ent 𝓤 (elems 𝓤 H q τ b o (set us k u)) (H.at q (ty_array τ m) b o (vstruct (of_list (set us k u))))) (length-set us k u ∙ l) (𝓛.laws.elems_at q τ b o (set us k u))
