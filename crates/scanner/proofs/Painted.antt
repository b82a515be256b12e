-- Under paint: the bytes of a line are such as the machine's law speaks of, and the Rust's loop, which paints as it goes, does what it does at the cuts of the bitmap's line, in their order. Assumes nothing.
use Prim.Native.Nat.{ℕ, zero, suc, ◌+◌, ◌*◌, ◌-◌, ◌/◌, ◌%◌, ◌≤◌, ◌<◌}
use native.Mathlib.Nat.{mul_comm, div-add-mod', div-lt_iff_lt-mul, mod-lt}
use native.Mathlib.Omega.{arith}
use mathlib.Core.Path.{◌≡◌, refl, sym, ap, ◌∙◌}
use mathlib.Core.Bool.{true, true≢false}
use mathlib.Core.List.{List, [], ◌∷◌, ◌++◌, append-nil}
use mathlib.Core.Logic.{◌↔◌, inl, inr, ⊎_elim}
use lib.ListN.{length, get_or, take, drop, length-take, length-drop, get_or-eq_default}
use lib.Seq.{get_or-take, get_or-drop}
use borrow.Author.Tests.{eqb-true, not-false}
use Rattle.pieces.specs.Picture.{px}
use Rattle.pieces.specs.Count.{Mem}
use Rattle.pieces.specs.Chain.{start, east}
use Rattle.pieces.proofs.Numbers.{split}
use Rattle.pieces.proofs.Bitmap.{Coloured}
use Rattle.scanner.specs.Edges.{dark}
use Rattle.scanner.specs.Cuts.{line_cuts}
use Rattle.scanner.specs.Scan.{begun, ahead}
use Rattle.scanner.specs.Machine.{Machine, new, advanced, answered, found, Read}
use Rattle.scanner.specs.Line.{done_at, line_from, rust_line}
use Rattle.scanner.specs.declared.LinePosition.{LinePosition}
use Rattle.scanner.specs.declared.LineScanner.{LineScanner}
use Rattle.scanner.proofs.RunEnds.{is_light}
use Rattle.scanner.proofs.Ahead.{begins}
use Rattle.scanner.proofs.Machine.{machine_same}
use Rattle.scanner.proofs.Follows.{Shows, shade_of, Follows, reads, unanswered_dark, last_answer, next, starts}

-- a byte that is 0 where a pixel of a bitmap is
shows_like : (p : List ℕ) (base x byte : ℕ) → (byte ≡ 0) ↔ (get_or p (base + x) 0 ≡ 0) → Shows (dark p base x) byte
shows_like p base x byte h = ((λ e. is_light p base x (h.0 e)), (λ d. h.1 (eqb-true (get_or p (base + x) 0) 0 (not-false _ d))))

-- a picture under paint is dark exactly where the bitmap is: what `Alike` asks
pub dark_alike : (B : List ℕ) (w h : ℕ) (q : List ℕ) → length B ≡ w * h → 0 < w → Coloured B w h q → (base x : ℕ) → dark B base x ≡ dark q base x
dark_alike B w h q size some K base x = shade_of (dark B base x) (get_or q i 0) (shows_like B base x (get_or q i 0) (⊎_elim off on (split (length B) i)))
  where
    i : ℕ
    i = base + x

    off : length B ≤ i → (get_or q i 0 ≡ 0) ↔ (get_or B i 0 ≡ 0)
    off past = ((λ e. get_or-eq_default B 0 past), (λ e. get_or-eq_default q 0 (omega (arith, K.len))))

    on : i < length B → (get_or q i 0 ≡ 0) ↔ (get_or B i 0 ≡ 0)
    on inside =
        let line : i / w < h = (div-lt_iff_lt-mul some).1 (omega (arith, size, mul_comm w h)) in
        rw (div-add-mod' i w) at (K.white (i % w) (i / w) (mod-lt i some) line)

module _ (B : List ℕ) (w h y : ℕ) (on_line : y < h) where
  not_white : (x : ℕ) → dark B (y * w) x ≡ true → px B w x y ≡ 0 → ⊥
  not_white x d e = true≢false (sym d ∙ is_light B (y * w) x e)

  module _ (q : List ℕ) (K : Coloured B w h q) where
    -- a picture under paint shows on line y where the bitmap is white
    shows : (x : ℕ) → x < w → Shows (dark B (y * w) x) (px q w x y)
    shows x on = shows_like B (y * w) x (px q w x y) (K.white x y on on_line)

    -- and one byte on two dark neighbours
    one : (x : ℕ) → suc x < w → dark B (y * w) x ≡ true → dark B (y * w) (suc x) ≡ true → px q w x y ≡ px q w (suc x) y
    one x on d e = sym (K.one x y (suc x) y (east (start (omega arith, on_line, not_white x d)) (on, on_line, not_white (suc x) e)))

    -- so its line y is one of those that the machine's law speaks of
    pub line_read : y * w + w ≤ length q → Read B (y * w) w (take w (drop (y * w) q))
    line_read fits =
        let shown : (x : ℕ) → x < w → get_or (take w (drop (y * w) q)) x 0 ≡ px q w x y = λ x on. rw (get_or-take w (drop (y * w) q) x 0 on) (get_or-drop (y * w) q x 0) in
        record {
          len = simp (length-take, length-drop) (omega arith);
          white = λ x on. rw (shown x on) (shows x on);
          one = λ x on d e. rw (shown x (omega arith), shown (suc x) on) (one x on d e);
        }

    -- and the machine finds the bitmap's cuts there
    pub painted_same : 0 < w → y * w + w ≤ length q → found (take w (drop (y * w) q)) ≡ line_cuts B (y * w) w
    painted_same some fits = machine_same B (y * w) w (take w (drop (y * w) q)) some (line_read fits)

module _ {State : Type 0} (act : LinePosition → State → State) where
  done_parts : (l m : List LinePosition) (s : State) → done_at act (l ++ m) s ≡ done_at act m (done_at act l s)
  unfolding done_at
  done_parts [] m s = refl
  done_parts (at ∷ l) m s = done_parts l m (act at s)

  module _ (picture : State → List ℕ) (B : List ℕ) (w h : ℕ) where
    -- what is done at positions leaves the bitmap under paint
    Keep : List LinePosition → Type 0
    Keep [] = Unit
    Keep (at ∷ more) = ((s : State) → Coloured B w h (picture s) → Coloured B w h (picture (act at s))) × Keep more

    keep_parts : (l m : List LinePosition) → Keep (l ++ m) → Keep l × Keep m
    unfolding Keep
    keep_parts [] m k = (tt, k)
    keep_parts (at ∷ l) m k = let r = keep_parts l m k.1 in ((k.0, r.0), r.1)

    keep_all : (l : List LinePosition) → ((at : LinePosition) → Mem at l → (s : State) → Coloured B w h (picture s) → Coloured B w h (picture (act at s))) → Keep l
    unfolding Keep
    keep_all [] k = tt
    keep_all (at ∷ l) k = (k at (inl refl), keep_all l (λ c m. k c (inr m)))

    kept : (l : List LinePosition) (s : State) → Keep l → Coloured B w h (picture s) → Coloured B w h (picture (done_at act l s))
    unfolding done_at Keep
    kept [] s k K = K
    kept (at ∷ l) s k K = kept l (act at s) k.1 (k.0 s K)

    module _ (y : ℕ) (on_line : y < h) where
      -- the byte in column x of line y
      abbrev pub byte : State → ℕ → ℕ
      byte s x = px (picture s) w x y

      -- from any column on, under the paint that stands by then: what is ahead is done
      scans : (n x : ℕ) (m : Machine) (t : LineScanner) (s : State) → Follows B (y * w) w x n m t → Keep (ahead B (y * w) w t) → Coloured B w h (picture s)
          → (dark B (y * w) x ≡ true → m.last_color ≡ byte s x) → line_from act byte n (suc x) m s ≡ done_at act (ahead B (y * w) w t) s
      unfolding line_from done_at
      scans zero x m t s F keep K last = ap (λ (l : List LinePosition). done_at act l s) (sym (append-nil (answered m 0)) ∙ last_answer B (y * w) w x m t F)
      scans (suc n) x m t s F keep K last =
          let on : suc x < w = omega (arith, F.left) in
          let new = byte s (suc x) in
          let sees = shows B w h y on_line (picture s) K (suc x) on in
          let step = next B (y * w) w x n m t F new sees (λ d e. last d ∙ one B w h y on_line (picture s) K x on d e) in
          let parts = keep_parts (answered m new) (ahead B (y * w) w step.scan) (rw step.answers keep) in
          let still : dark B (y * w) (suc x) ≡ true → (advanced m new).last_color ≡ byte (done_at act (answered m new) s) (suc x) = λ d. rw (unanswered_dark m new (λ e. true≢false (sym d ∙ sees.0 e))) (reads m new) in
          scans n (suc x) (advanced m new) step.scan (done_at act (answered m new) s) step.follows parts.1 (kept (answered m new) s parts.0 K) still
          ∙ sym (done_parts (answered m new) (ahead B (y * w) w step.scan) s)
          ∙ ap (λ (l : List LinePosition). done_at act l s) step.answers

      -- the Rust's loop over line y, which reads what it painted itself, does what is to be done at the bitmap's cuts, from left to right, where that leaves the bitmap under paint
      pub line_same : ((at : LinePosition) → Mem at (line_cuts B (y * w) w) → (s : State) → Coloured B w h (picture s) → Coloured B w h (picture (act at s)))
          → 0 < w → (s : State) → Coloured B w h (picture s) → rust_line act byte w s ≡ done_at act (line_cuts B (y * w) w) s
      line_same keeps some s K =
          scans (w - 1) 0 (new (byte s 0)) begun s (starts B (y * w) w (byte s 0) some (shows B w h y on_line (picture s) K 0 some)) (rw (begins B (y * w) w) (keep_all (line_cuts B (y * w) w) keeps)) K (λ d. refl)
          ∙ ap (λ (l : List LinePosition). done_at act l s) (begins B (y * w) w)
