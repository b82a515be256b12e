-- `is_made_of` compares the sizes, and corner by corner. Assumes nothing.
use mathlib.Core.Path.{◌≡◌, sym, ◌∙◌}
use mathlib.Core.Bool.{true, ◌&&◌, true≢false}
use borrow.Author.Rules.{rules}
use Rattle.std.specs.Ordering.{int_eq}
use Rattle.std.proofs.lemmas.Bool.Decides.{Decides-eqb, Decides-int_eq, Decides-and}
use Rattle.points.specs.declared.Point.{Point}
use Rattle.setups.proofs.is_made_of.Goals.{then-s-size, else-s-size, then-eq, else-eq, then-eq-2, else-eq-2}
use Rattle.setups.proofs.is_made_of.Goals as goal

-- points of equal coordinates are the same
one_point : {a b : Point} → (int_eq a.x b.x && int_eq a.y b.y) ≡ true → a ≡ b
one_point {a} {b} e =
    let both = (Decides-and _ _ (Decides-int_eq a.x b.x) (Decides-int_eq a.y b.y)).0 e in
    λ i. record { x = both.0 i; y = both.1 i }

pub returns-then-eq-3 : goal.returns-then-eq-3
returns-then-eq-3 c e =
    elim c.if-eq-2.branch [
      | then-eq-2 w ↦
          elim c.if-eq.branch [
            | then-eq v ↦
                elim c.if-s-size.branch [
                  | then-s-size u ↦
                      record {
                        size = u.if-s-size.true;
                        p0 = one_point (sym u.eq.ensures ∙ sym u.value-is ∙ v.if-eq.true) ∙ search rules;
                        p1 = one_point (sym v.eq-then-eq.ensures ∙ sym v.value-is ∙ w.if-eq-2.true) ∙ search rules;
                        p2 = one_point (sym w.eq-then-eq-2.ensures ∙ sym w.value-is ∙ c.if-eq-3.true) ∙ search rules;
                        p3 = one_point (sym c.eq-then-eq-3.ensures ∙ e) ∙ search rules;
                      }
                  | else-s-size u ↦ absurd (u.if-s-size.false ((Decides-eqb _ _).0 (sym u.value-is ∙ v.if-eq.true)))
                ]
            | else-eq v ↦ absurd (true≢false (sym w.if-eq-2.true ∙ v.value-is ∙ v.if-eq.false))
          ]
      | else-eq-2 w ↦ absurd (true≢false (sym c.if-eq-3.true ∙ w.value-is ∙ w.if-eq-2.false))
    ]
