-- What a lookup leaves of a table: of its entries none is changed but the newest. Assumes nothing.
use mathlib.Core.Path.{◌≡◌, sym, ◌∙◌, ap, subst}
use Prim.Native.Nat.{ℕ, ◌<◌}
use native.Mathlib.Omega.{arith}
use mathlib.Core.List.{List}
use lib.ListN.{length, get_or, set}
use lib.Seq.{set-get_or, get_or-set_same}
use borrow.Author.Tests.{lt-ltb}
use Rattle.refusals.specs.Finding.{Finding}
use Rattle.table.specs.Table.{most, blank, entry_of, newest, appended, rewritten}
use Rattle.table.specs.declared.Entry.{Entry}
use Rattle.table.specs.declared.Table.{Table}
use Rattle.table.proofs.Exact.{test_oldest}
use Rattle.regions.specs.Found.{Answer}
use Rattle.regions.specs.Lookup.{LookPost, refuses, answers, Looks, at_claimed, at_known, at_fresh, at_again, given_up}
use Rattle.regions.specs.Tests.{Lookable}
use Rattle.regions.proofs.Accepted.{lookable}
use Rattle.lookup.specs.Newest.{newest_of}

-- U's entries are T's, but for the newest
abbrev pub NewestAlone : Table → Table → Type 0
NewestAlone T U = U.entries ≡ set T.entries (newest_of U) (entry_of U (newest_of U))

same_entries : (T U : Table) → U.entries ≡ T.entries → NewestAlone T U
same_entries T U e = sym (set-get_or U.entries (newest_of U) blank) ∙ ap (λ (l : List Entry). set l (newest_of U) (entry_of U (newest_of U))) e

front : (T : Table) (k : ℕ) → k < most → newest_of (newest T k) ≡ k
unfolding newest_of
front T k h = rw (lt-ltb k most h)

-- one entry written, and made the newest
written : (T U : Table) (k : ℕ) (e : Entry) → length T.entries ≡ most → k < most → U.entries ≡ set T.entries k e → newest_of U ≡ k → NewestAlone T U
written T U k e whole h is newest-is =
    let there : entry_of U k ≡ e = ap (λ (l : List Entry). get_or l k blank) is ∙ get_or-set_same T.entries k e blank (omega (arith, whole)) in
    let at-k : U.entries ≡ set T.entries k (entry_of U k) = is ∙ ap (λ (a : Entry). set T.entries k a) (sym there) in
    subst (λ (j : ℕ). U.entries ≡ set T.entries j (entry_of U j)) (sym newest-is) at-k

looks_left : {p : List ℕ} {w h lent x y : ℕ} {T : Table} {a : Answer} {q : List ℕ} {U : Table} → length T.entries ≡ most → Lookable p w h lent T x y → Looks p w h x y T a q U → NewestAlone T U
looks_left {T = T} {U = U} whole L (at_claimed C) = same_entries T U (ap (λ (t : Table). t.entries) C.table)
looks_left {T = T} {U = U} whole L (at_known C) = same_entries T U (ap (λ (t : Table). t.entries) C.table)
looks_left {T = T} {U = U} whole L (at_fresh C) =
    written T U T.n C.entry whole C.few (ap (λ (t : Table). t.entries) C.table) (ap newest_of C.table ∙ front (appended T C.entry) T.n C.few)
looks_left {w = w} {h = h} {T = T} {U = U} whole L (at_again C) =
    let full = C.full in
    let below : given_up T < T.n = test_oldest T w h L.table (omega arith) in
    let few : given_up T < most = omega arith in
    written T U (given_up T) C.entry whole few (ap (λ (t : Table). t.entries) C.table) (ap newest_of C.table ∙ front (rewritten T (given_up T) C.entry) (given_up T) few)

pub newest_alone : {p : List ℕ} {w h lent : ℕ} {T : Table} {x y : ℕ} {f : Finding Answer} {q : List ℕ} {U : Table} → length T.entries ≡ most → LookPost p w h lent T x y f q U → NewestAlone T U
newest_alone {T = T} {U = U} whole (refuses n e t s u) = same_entries T U (ap (λ (t : Table). t.entries) u)
newest_alone {p} {w} {h} {lent} {T} {x} {y} whole (answers a e t s) = looks_left whole (lookable p w h lent T x y t) s
