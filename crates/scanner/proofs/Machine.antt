-- What the Rust's machine finds are the cuts of the line, whatever paint it reads. Assumes nothing.
use Prim.Native.Nat.{ℕ, zero, suc, ◌-◌, ◌<◌}
use native.Mathlib.Omega.{arith}
use mathlib.Core.Path.{◌≡◌, refl, ap, ◌∙◌}
use mathlib.Core.List.{List, [], ◌∷◌, ◌++◌}
use lib.ListN.{get_or, drop, drop_of_length-le}
use lib.Seq.{drop-cons}
use Rattle.scanner.specs.Cuts.{line_cuts}
use Rattle.scanner.specs.Scan.{begun, ahead}
use Rattle.scanner.specs.Machine.{Machine, new, advanced, answered, found_by, found, Read}
use Rattle.scanner.specs.declared.LinePosition.{LinePosition}
use Rattle.scanner.specs.declared.LineScanner.{LineScanner}
use Rattle.scanner.proofs.Ahead.{begins}
use Rattle.scanner.proofs.Follows.{Follows, reads, last_answer, next, starts}

module _ (p : List ℕ) (base w : ℕ) (bytes : List ℕ) (read : Read p base w bytes) where
  -- from any column on: what is ahead
  finds : (n x : ℕ) (m : Machine) (s : LineScanner) → Follows p base w x n m s → m.last_color ≡ get_or bytes x 0 → found_by m (drop (suc x) bytes ++ (0 ∷ [])) ≡ ahead p base w s
  unfolding found_by
  finds zero x m s F last = rw (drop_of_length-le bytes {i = suc x} (omega (arith, read.len, F.left))) (last_answer p base w x m s F)
  finds (suc n) x m s F last =
      let on : suc x < w = omega (arith, F.left) in
      let byte = get_or bytes (suc x) 0 in
      let step = next p base w x n m s F byte (read.white (suc x) on) (λ d e. last ∙ read.one x on d e) in
      rw (drop-cons bytes (suc x) 0 (omega (arith, read.len)))
      (ap (λ (l : List LinePosition). answered m byte ++ l) (finds n (suc x) (advanced m byte) step.scan step.follows (reads m byte)) ∙ step.answers)

pub machine_same : (p : List ℕ) (base w : ℕ) (bytes : List ℕ) → 0 < w → Read p base w bytes → found bytes ≡ line_cuts p base w
unfolding found
machine_same p base w [] some read = absurd (omega (arith, read.len))
machine_same p base w (first ∷ more) some read =
    finds p base w (first ∷ more) read (w - 1) 0 (new first) begun (starts p base w first some (read.white 0 some)) refl ∙ begins p base w
