-- The equations of two lines: Cramer's numerators over the determinant solve both, and every solution is that fraction. Assumes nothing.
use mathlib.Core.Path.{◌≡◌, refl, sym, ◌∙◌}
use mathlib.Core.List.{List, [], ◌∷◌}
use lib.IntN.{ℤ, ◌+ℤ◌, ◌-ℤ◌, ◌*ℤ◌}
use Rattle.points.specs.declared.Point.{Point}
use Rattle.sizes.proofs.Algebra.{Term, same_terms, var, ⊝, ◌⊕◌, ◌⊖◌, ◌⊗◌, equal, no_diff}
use Rattle.lines.specs.declared.Line.{Line}
use Rattle.lines.specs.Meet.{line_of, det, num_x, num_y}
use Rattle.lines.specs.Meaning.{On}

-- (x / w, y / w) solves the equation a x + b y = e
abbrev pub Solves : Line → ℤ → ℤ → ℤ → Type 0
Solves l x y w = l.a *ℤ x +ℤ l.b *ℤ y ≡ l.e *ℤ w

-- the points of a line are those that solve its equation: what is missing is the same for both
module _ (p q : Point) (x y w : ℤ) where
  same-diff :
      (line_of p q).a *ℤ x +ℤ (line_of p q).b *ℤ y -ℤ (line_of p q).e *ℤ w
      ≡ (y -ℤ w *ℤ p.y) *ℤ (q.x -ℤ p.x) -ℤ (x -ℤ w *ℤ p.x) *ℤ (q.y -ℤ p.y)
  unfolding line_of
  same-diff =
      let px = var 0 in
      let py = var 1 in
      let qx = var 2 in
      let qy = var 3 in
      let rx = var 4 in
      let ry = var 5 in
      let over = var 6 in
      let a = ⊝ (qy ⊖ py) in
      let b = qx ⊖ px in
      same_terms (p.x ∷ p.y ∷ q.x ∷ q.y ∷ x ∷ y ∷ w ∷ [])
      (a ⊗ rx ⊕ b ⊗ ry ⊖ (a ⊗ qx ⊕ b ⊗ qy) ⊗ over)
      ((ry ⊖ over ⊗ py) ⊗ (qx ⊖ px) ⊖ (rx ⊖ over ⊗ px) ⊗ (qy ⊖ py))
      refl

  pub on_solves : On p q x y w → Solves (line_of p q) x y w
  on_solves h = equal (same-diff ∙ no_diff (sym h))

  pub solves_on : Solves (line_of p q) x y w → On p q x y w
  solves_on h = sym (equal (sym same-diff ∙ no_diff h))

-- the numbers of two lines and of a point, as geometry.rs names them
abbrev a : Term
a = var 0

abbrev b : Term
b = var 1

abbrev c : Term
c = var 2

abbrev d : Term
d = var 3

abbrev e : Term
e = var 4

abbrev f : Term
f = var 5

abbrev rx : Term
rx = var 6

abbrev ry : Term
ry = var 7

abbrev over : Term
over = var 8

module _ (l m : Line) where
  pub cramer_first : Solves l (num_x l m) (num_y l m) (det l m)
  cramer_first =
      same_terms (l.a ∷ l.b ∷ m.a ∷ m.b ∷ l.e ∷ m.e ∷ []) (a ⊗ (d ⊗ e ⊖ b ⊗ f) ⊕ b ⊗ (⊝ c ⊗ e ⊕ a ⊗ f)) (e ⊗ (a ⊗ d ⊖ b ⊗ c)) refl

  pub cramer_second : Solves m (num_x l m) (num_y l m) (det l m)
  cramer_second =
      same_terms (l.a ∷ l.b ∷ m.a ∷ m.b ∷ l.e ∷ m.e ∷ []) (c ⊗ (d ⊗ e ⊖ b ⊗ f) ⊕ d ⊗ (⊝ c ⊗ e ⊕ a ⊗ f)) (f ⊗ (a ⊗ d ⊖ b ⊗ c)) refl

  module _ (x y w : ℤ) (first : Solves l x y w) (second : Solves m x y w) where
    abbrev all : List ℤ
    all = l.a ∷ l.b ∷ m.a ∷ m.b ∷ l.e ∷ m.e ∷ x ∷ y ∷ w ∷ []

    -- det x = d (a x + b y) - b (c x + d y) = d e w - b f w
    pub same_x : x *ℤ det l m ≡ num_x l m *ℤ w
    same_x =
        same_terms all (rx ⊗ (a ⊗ d ⊖ b ⊗ c)) (d ⊗ (a ⊗ rx ⊕ b ⊗ ry) ⊖ b ⊗ (c ⊗ rx ⊕ d ⊗ ry)) refl
        ∙ rw (first, second) (same_terms all (d ⊗ (e ⊗ over) ⊖ b ⊗ (f ⊗ over)) ((d ⊗ e ⊖ b ⊗ f) ⊗ over) refl)

    -- det y = -c (a x + b y) + a (c x + d y) = -c e w + a f w
    pub same_y : y *ℤ det l m ≡ num_y l m *ℤ w
    same_y =
        same_terms all (ry ⊗ (a ⊗ d ⊖ b ⊗ c)) (⊝ c ⊗ (a ⊗ rx ⊕ b ⊗ ry) ⊕ a ⊗ (c ⊗ rx ⊕ d ⊗ ry)) refl
        ∙ rw (first, second) (same_terms all (⊝ c ⊗ (e ⊗ over) ⊕ a ⊗ (f ⊗ over)) ((⊝ c ⊗ e ⊕ a ⊗ f) ⊗ over) refl)
