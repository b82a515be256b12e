-- What prepare promises, for each answer; and that a promise leaves one answer and one picture. Assumes nothing.
use Rattle.std.specs.Prelude.{Result, Ok, Err}
use Prim.Native.Nat.{ℕ}
use mathlib.Core.Path.{◌≡◌, sym, ap, ◌∙◌}
use mathlib.Core.List.{List}
use Rattle.refusals.specs.declared.Refusal.{Refusal}
use Rattle.picture.specs.Verdict.{judged}
use Rattle.picture.proofs.Judged.{judged_only}
use Rattle.prepare.specs.Threshold.{thresholded}
use Rattle.prepare.specs.Prepared.{prepare_of, Prepared}

module _ (width height : ℕ) (pic : List ℕ) (v : Result (Unit {0}) Refusal) (e : judged v ≡ prepare_of width height pic) where
  -- a refusal leaves the picture
  pub refused_kept : (why : Refusal) → v ≡ Err why → Prepared width height pic (Err why) pic
  refused_kept why q =
      let answer : judged (Err why) ≡ prepare_of width height pic = ap judged (sym q) ∙ e in
      record { answers = answer; paints = rw (sym answer) }

  -- else the picture is black and white
  pub sound_painted : (left : List ℕ) → v ≡ (Ok tt) → left ≡ thresholded width height pic → Prepared width height pic (Ok tt) left
  sound_painted left q p =
      let answer : judged (Ok tt) ≡ prepare_of width height pic = ap judged (sym q) ∙ e in
      record { answers = answer; paints = rw (sym answer) p }

-- determined: two outcomes that the promise allows coincide
pub prepared_only : {width height : ℕ} {pic : List ℕ} {a b : (Result (Unit {0}) Refusal)} {p q : List ℕ} → Prepared width height pic a p → Prepared width height pic b q → (a ≡ b) × (p ≡ q)
prepared_only {a} {b} x y = (judged_only a b _ x.answers y.answers, x.paints ∙ sym y.paints)
