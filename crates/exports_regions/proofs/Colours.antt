-- A byte stands for the colour that a lookup answers. Assumes nothing.
use Prim.Native.Nat.{ℕ}
use native.Mathlib.Omega.{arith}
use mathlib.Core.Path.{sym, subst}
use mathlib.Core.List.{List}
use Rattle.refusals.specs.Finding.{Finding, found}
use Rattle.picture.proofs.Colours.{byte_shown}
use Rattle.pieces.specs.Picture.{px}
use Rattle.table.specs.declared.Table.{Table}
use Rattle.regions.specs.Found.{Answer}
use Rattle.regions.specs.Lookup.{Looks, at_claimed, at_known, at_fresh, at_again, LookPost, refuses, answers}
use Rattle.exports_regions.specs.Tells.{ShownBy}

answer_shown : {p : List ℕ} {w h x y : ℕ} {T : Table} {a : Answer} {q : List ℕ} {U : Table} → Looks p w h x y T a q U → ShownBy (found a)
answer_shown {p} {w} {x = x} {y = y} (at_claimed C) = subst (λ (a : Answer). ShownBy (found a)) (sym C.answer) (byte_shown (px p w x y) (omega (arith, C.high)))
answer_shown (at_known K) = subst (λ (a : Answer). ShownBy (found a)) (sym K.answer) tt
answer_shown (at_fresh F) = subst (λ (a : Answer). ShownBy (found a)) (sym F.answer) tt
answer_shown (at_again A) = subst (λ (a : Answer). ShownBy (found a)) (sym A.answer) tt

pub look_shown : {p : List ℕ} {w h lent : ℕ} {T : Table} {x y : ℕ} {f : Finding Answer} {q : List ℕ} {U : Table} → LookPost p w h lent T x y f q U → ShownBy f
look_shown (refuses n e first same table) = subst ShownBy (sym e) tt
look_shown (answers a e sound L) = subst ShownBy (sym e) (answer_shown L)
