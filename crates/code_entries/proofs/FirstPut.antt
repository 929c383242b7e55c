-- The first code of a count of points is put into the lent output.
use mathlib.Core.Path.{◌≡◌, refl, sym}
use mathlib.Core.List.{List, [], ◌∷◌}
use mathlib.Core.Option.{some}
use Prim.Native.Nat.{ℕ, ◌≤◌, ◌<◌}
use native.Mathlib.Omega.{arith}
use lib.ListN.{replicate}
use borrow.Author.Tests.{le-ltb, lt-ltb}
use Rattle.lists.specs.Select.{first}
use Rattle.lists.proofs.Members.{in_head, in_list}
use Rattle.lists.proofs.Follow.{first_some}
use Rattle.patterns.specs.Tree.{point}
use Rattle.patterns.specs.System.{System, codes}
use Rattle.patterns.specs.Written.{written}
use Rattle.patterns.specs.Replies.{Answer, refused}
use Rattle.patterns.specs.Entry.{gives, Replied, first_of}
use Rattle.memory.specs.Memory.{Holds}
use Rattle.memory.specs.Memory.{HeldSystem}
use Rattle.system_theory.proofs.Codes.{codes-sound}
use Rattle.system_theory.proofs.Firsts.{codes-first}
use Rattle.writing.proofs.CanonicalHeld.{canonical-held}

-- The first code.
module _ (n : ℕ) where
  pub first_refused : (before : List ℕ) → 200 < n → Replied (first_of n) before (refused 1) before
  unfolding first_of
  first_refused before h = rw (lt-ltb 200 n h) (record { reply = refl; output = refl })

  module _ (small : n ≤ 200) {sizes trees : List ℕ} (f : (S : System) → first (codes n) ≡ some S → Holds S sizes trees) where
    first_holds : Holds (replicate n (point ∷ [])) sizes trees
    first_holds = f (replicate n (point ∷ [])) (codes-first n)

    pub first-held : HeldSystem sizes trees
    first-held =
        let q = first_some (codes n) (codes-first n) in
        let s = codes-sound n (replicate n (point ∷ [])) (in_list (sym q.1) in_head) in
        canonical-held first_holds s.0 (omega (arith, s.1))

    pub first-put : {before after : List ℕ} {a : Answer}
        → ((S : System) → Holds S sizes trees → Replied (gives (written S)) before a after) → Replied (first_of n) before a after
    unfolding first_of
    first-put {before} {after} {a} p = rw (le-ltb 200 n small, codes-first n) (p (replicate n (point ∷ [])) first_holds)
