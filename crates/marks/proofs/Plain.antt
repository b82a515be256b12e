-- Lookups claim nothing: a byte from 2 to 4 that stands after one stood before it. So a ring that was answered unclaimed is not claimed after both lookups. Assumes nothing.
use Prim.Native.Nat.{ℕ, ◌<◌, ◌≤◌}
use native.Mathlib.Omega.{arith}
use mathlib.Core.Path.{◌≡◌, refl, subst}
use mathlib.Core.Bool.{Bool, true, false, ◌&&◌}
use mathlib.Core.List.{List}
use Rattle.refusals.specs.Finding.{found}
use Rattle.pieces.specs.Picture.{px}
use Rattle.pieces.specs.Paint.{Paints}
use Rattle.table.specs.declared.Entry.{Entry}
use Rattle.table.specs.declared.Table.{Table}
use Rattle.regions.specs.Found.{Answer, claimed, unclaimed}
use Rattle.regions.specs.Lookup.{FilledBack, in_paint, out_of_paint, Looks, at_claimed, at_known, at_fresh, at_again}
use Rattle.regions.specs.declared.Region.{Region}
use Rattle.marks.specs.Ring.{paired}

-- the pixel (a, b) shows a claim
abbrev pub Shows : List ℕ → ℕ → ℕ → ℕ → Type 0
Shows p w a b = (2 ≤ px p w a b) × (px p w a b ≤ 4)

module _ {w h a b : ℕ} (ha : a < w) (hb : b < h) where
  -- what is not the paint stood there before
  paint_plain : {p : List ℕ} {x y t : ℕ} {q : List ℕ} → Paints p w h x y t q → (px q w a b ≡ t → ⊥) → Shows q w a b → Shows p w a b
  paint_plain {p} {q = q} P other s = let e : px q w a b ≡ px p w a b = P.rest a b ha hb (λ c. other (P.piece a b c)) in (omega (arith, e, s.0), omega (arith, e, s.1))

  back_plain : {p : List ℕ} {e : Entry} {k : ℕ} {m : List ℕ} → FilledBack p w h e k m → Shows m w a b → Shows p w a b
  back_plain (in_paint shows P) s = paint_plain P (λ z. omega (arith, s.0)) s
  back_plain (out_of_paint shows e) s = subst (λ (v : List ℕ). Shows v w a b) e s

  pub look_plain : {p : List ℕ} {x y : ℕ} {T : Table} {answer : Answer} {q : List ℕ} {U : Table} → Looks p w h x y T answer q U → Shows q w a b → Shows p w a b
  look_plain (at_claimed C) s = subst (λ (v : List ℕ). Shows v w a b) C.picture s
  look_plain (at_known N) s = subst (λ (v : List ℕ). Shows v w a b) N.picture s
  look_plain (at_fresh F) s = paint_plain F.paint (λ z. omega (arith, s.1)) s
  look_plain (at_again G) s = back_plain G.back (paint_plain G.paint (λ z. omega (arith, s.1)) s)

-- a piece that shows a claim answers no region
pub claim_answers : {p : List ℕ} {w h x y : ℕ} {T : Table} {a : Answer} {q : List ℕ} {U : Table} → Looks p w h x y T a q U → Shows p w x y → (r : Region) → a ≡ unclaimed r → ⊥
claim_answers (at_claimed C) s r e = let z : ◌≡◌ {A = ℕ} 0 1 = cc in omega arith
claim_answers (at_known N) s r e = omega (arith, N.shows, s.1)
claim_answers (at_fresh F) s r e = omega (arith, F.black, s.0)
claim_answers (at_again G) s r e = omega (arith, G.black, s.0)

-- regions that make a pair are unclaimed
pub ring_unclaimed : (ring stone : Answer) (same : Bool) → true ≡ (same && paired (found ring) (found stone)) → (r : Region) × (ring ≡ unclaimed r)
unfolding paired
ring_unclaimed (claimed c) stone true e = let z : ◌≡◌ {A = ℕ} 0 1 = cc in absurd (omega arith)
ring_unclaimed (claimed c) stone false e = let z : ◌≡◌ {A = ℕ} 0 1 = cc in absurd (omega arith)
ring_unclaimed (unclaimed r) stone same e = (r, refl)
