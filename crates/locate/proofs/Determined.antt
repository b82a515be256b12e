-- What is printed of a file is determined: no file has two texts. Assumes nothing.
use mathlib.Core.Path.{◌≡◌, sym, ap, subst, ◌∙◌}
use mathlib.Core.List.{List}
use Prim.Native.Nat.{ℕ}
use Rattle.netpbm.specs.Form.{Picture}
use Rattle.netpbm.proofs.Told.{form_only}
use Rattle.detect.proofs.Determined.{detect_same}
use Rattle.listing.specs.Listing.{listing}
use Rattle.locate.specs.Prints.{Tells, Prints, of_form, of_none}

pub prints_only : {file a b : List ℕ} → Prints file a → Prints file b → a ≡ b
prints_only {file} (of_form p f F D e) (of_form q g G E d) =
    let one : q ≡ p = form_only file q p G F in
    let same = detect_same D.detects (subst (λ (v : Picture). Tells v g) one E).detects in
    e ∙ ap listing same.0 ∙ sym d
prints_only (of_form p f F D e) (of_none N d) = absurd (N p F)
prints_only (of_none N e) (of_form q g G E d) = absurd (N q G)
prints_only (of_none N e) (of_none M d) = e ∙ sym d
