-- Determined: two outcomes that a lookup's contract allows coincide. Assumes nothing.
use Rattle.std.specs.Prelude.{Result, Ok, Err}
use Rattle.refusals.specs.declared.Refusal.{Refusal}
use Prim.Native.Nat.{ℕ, ◌*◌, ◌<◌}
use native.Mathlib.Omega.{arith}
use mathlib.Core.Path.{◌≡◌, sym, ap, ◌∙◌}
use mathlib.Core.List.{List}
use lib.ListN.{length}
use Rattle.refusals.specs.Finding.{Finding, found}
use Rattle.refusals.proofs.Distinct.{refusal_only}
use Rattle.pieces.proofs.Counting.{number_unique}
use Rattle.pieces.proofs.Paints.{paints_unique}
use Rattle.table.specs.Table.{entry_of, newest, added, replaced}
use Rattle.table.proofs.Exact.{test_seeds, test_oldest}
use Rattle.table.specs.declared.Entry.{Entry}
use Rattle.table.specs.declared.Table.{Table}
use Rattle.regions.specs.Found.{Answer, unclaimed, region, meaning}
use Rattle.regions.specs.Tests.{Lookable}
use Rattle.regions.specs.Lookup.{Measures, Fresh, given_up, FilledBack, in_paint, out_of_paint, Again, Looks, at_claimed, at_known, at_fresh, at_again, LookPost, refuses, answers}
use Rattle.regions.specs.declared.ColoredRegion.{ColoredRegion}
use Rattle.regions.specs.declared.ColoredRegion.TheVariants as variant
use Rattle.regions.proofs.Accepted.{lookable}

-- the answer, the picture and the table are the same
abbrev pub Alike : {A : Type 0} → A → List ℕ → Table → A → List ℕ → Table → Type 0
Alike a q U b r W = (a ≡ b) × (q ≡ r) × (U ≡ W)

measures_unique : {p : List ℕ} {w h x y : ℕ} {e g : Entry} → Measures p w h x y e → Measures p w h x y g → e ≡ g
measures_unique M N =
    let ex = M.seed_x ∙ sym N.seed_x in
    let ey = M.seed_y ∙ sym N.seed_y in
    let ep = number_unique M.pixels N.pixels in
    λ i. record { x = ex i; y = ey i; px = ep i }

back_unique : {p : List ℕ} {w h : ℕ} {e : Entry} {k : ℕ} {m n : List ℕ} → length p ≡ w * h → e.x < w → FilledBack p w h e k m → FilledBack p w h e k n → m ≡ n
back_unique size in_x (in_paint s P) (in_paint t Q) = paints_unique size in_x P Q
back_unique size in_x (in_paint s P) (out_of_paint t e) = absurd (t s)
back_unique size in_x (out_of_paint s e) (in_paint t Q) = absurd (s t)
back_unique size in_x (out_of_paint s e) (out_of_paint t g) = e ∙ sym g

pub back_length : {p : List ℕ} {w h : ℕ} {e : Entry} {k : ℕ} {m : List ℕ} → FilledBack p w h e k m → length m ≡ length p
back_length (in_paint s P) = P.len
back_length (out_of_paint s e) = ap length e

module _ {p : List ℕ} {w h lent : ℕ} {T : Table} {x y : ℕ} (L : Lookable p w h lent T x y) {a b : Answer} {q r : List ℕ} {U W : Table} where
  fresh_unique : Fresh p w h x y T a q U → Fresh p w h x y T b r W → Alike a q U b r W
  fresh_unique F G =
      let e = measures_unique F.measures G.measures in (
        F.answer ∙ ap (λ (v : Entry). unclaimed (region T.n v)) e ∙ sym G.answer,
        paints_unique L.seeded.sized.whole L.seeded.in_x F.paint G.paint,
        F.table ∙ ap (added T) e ∙ sym G.table,
      )

  again_unique : Again p w h x y T a q U → Again p w h x y T b r W → Alike a q U b r W
  again_unique F G =
      let k = given_up T in
      let seed = test_seeds T w h L.table k (test_oldest T w h L.table (omega (arith, F.full))) in
      let m = back_unique L.seeded.sized.whole seed.in_x F.back G.back in
      let e = measures_unique F.measures (rw (← m) at G.measures) in (
        F.answer ∙ ap (λ (v : Entry). unclaimed (region k v)) e ∙ sym G.answer,
        paints_unique (back_length F.back ∙ L.seeded.sized.whole) L.seeded.in_x F.paint (rw (← m) at G.paint),
        F.table ∙ ap (replaced T k) e ∙ sym G.table,
      )

  pub looks_unique : Looks p w h x y T a q U → Looks p w h x y T b r W → Alike a q U b r W
  looks_unique (at_claimed C) (at_claimed D) = (C.answer ∙ sym D.answer, C.picture ∙ sym D.picture, C.table ∙ sym D.table)
  looks_unique (at_claimed C) (at_known D) = absurd (omega arith)
  looks_unique (at_claimed C) (at_fresh D) = absurd (omega arith)
  looks_unique (at_claimed C) (at_again D) = absurd (omega arith)
  looks_unique (at_known C) (at_claimed D) = absurd (omega arith)
  looks_unique (at_known C) (at_known D) =
      let k : C.number ≡ D.number = omega arith in
      (C.answer ∙ ap (λ (j : ℕ). unclaimed (region j (entry_of T j))) k ∙ sym D.answer, C.picture ∙ sym D.picture, C.table ∙ ap (newest T) k ∙ sym D.table)
  looks_unique (at_known C) (at_fresh D) = absurd (omega arith)
  looks_unique (at_known C) (at_again D) = absurd (omega arith)
  looks_unique (at_fresh C) (at_claimed D) = absurd (omega arith)
  looks_unique (at_fresh C) (at_known D) = absurd (omega arith)
  looks_unique (at_fresh C) (at_fresh D) = fresh_unique C D
  looks_unique (at_fresh C) (at_again D) = absurd (omega arith)
  looks_unique (at_again C) (at_claimed D) = absurd (omega arith)
  looks_unique (at_again C) (at_known D) = absurd (omega arith)
  looks_unique (at_again C) (at_fresh D) = absurd (omega arith)
  looks_unique (at_again C) (at_again D) = again_unique C D

pub post_unique : {p : List ℕ} {w h lent : ℕ} {T : Table} {x y : ℕ} {f g : Finding Answer} {q r : List ℕ} {U W : Table}
    → LookPost p w h lent T x y f q U → LookPost p w h lent T x y g r W → Alike f q U g r W
post_unique (refuses m e s t u) (refuses n g v d z) = ((cc), t ∙ sym d, u ∙ sym z)
post_unique (refuses m e s t u) (answers b g v d) = let z : ◌≡◌ {A = ℕ} 0 1 = cc in absurd (omega arith)
post_unique (answers a e s d) (refuses n g v t u) = let z : ◌≡◌ {A = ℕ} 0 1 = cc in absurd (omega arith)
post_unique {p} {w} {h} {lent} {T} {x} {y} (answers a e s d) (answers b g v t) =
    let o = looks_unique (lookable p w h lent T x y s) d t in
    (e ∙ ap found o.0 ∙ sym g, o.1, o.2)

-- an answer that means the same is the same
meaning_only : (a b : Result ColoredRegion Refusal) → meaning a ≡ meaning b → a ≡ b
meaning_only (Ok (variant.Claimed c)) (Ok (variant.Claimed d)) e = cc
meaning_only (Ok (variant.Claimed c)) (Ok (variant.Unclaimed s)) e = cc
meaning_only (Ok (variant.Claimed c)) (Err u) e = cc
meaning_only (Ok (variant.Unclaimed r)) (Ok (variant.Claimed d)) e = cc
meaning_only (Ok (variant.Unclaimed r)) (Ok (variant.Unclaimed s)) e = cc
meaning_only (Ok (variant.Unclaimed r)) (Err u) e = cc
meaning_only (Err t) (Ok (variant.Claimed d)) e = cc
meaning_only (Err t) (Ok (variant.Unclaimed s)) e = cc
meaning_only (Err t) (Err u) e = ap Err (refusal_only {a = t} {b = u} e)

pub look_unique : {p : List ℕ} {w h lent : ℕ} {T : Table} {x y : ℕ} (a b : Result ColoredRegion Refusal) {q r : List ℕ} {U W : Table}
    → LookPost p w h lent T x y (meaning a) q U → LookPost p w h lent T x y (meaning b) r W → Alike a q U b r W
look_unique a b M N = let s = post_unique M N in (meaning_only a b s.0, s.1, s.2)
