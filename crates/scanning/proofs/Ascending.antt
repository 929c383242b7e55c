-- The first child from a place on: the left merges upward, and then the right merges.
use mathlib.Core.Path.{◌≡◌, refl, ap, sym, ◌∙◌, subst}
use mathlib.Core.Bool.{false}
use mathlib.Core.List.{List}
use Prim.Native.Nat.{ℕ, suc, ◌+◌, ◌≤◌, ◌<◌}
use native.Mathlib.Numerals.{add-one}
use native.Mathlib.Omega.{arith}
use Rattle.lists.specs.Select.{first}
use Rattle.lists.proofs.Follow.{otherwise}
use Rattle.patterns.specs.Component.{Component, flat}
use Rattle.component_theory.specs.ChildPlaces.{child_at, child_from}
use Rattle.component_theory.proofs.ChildPlaces.{child_from-step, child_from-end, child_from-lefts, child_from-past, length-candidates}
use Rattle.children.specs.Candidates.{Gave}
use Rattle.scanning.specs.HeldNodes.{HeldScan, Passed}
use Rattle.scanning.proofs.Scanning.{Scanned, passed-all, node-valid, candidates-count, scan-merge}

module _ {s : List ℕ} {n h : ℕ} {out : List ℕ} (p : HeldScan s n h out) where
  -- one place on
  up_step : (c : Component) → s ≡ flat c → (k i : ℕ) → k < n + n → i ≡ suc k → child_from c k ≡ otherwise (first (child_at c k)) (child_from c i)
  up_step c e k i l q =
      child_from-step c k (omega (arith, length-candidates c n (candidates-count p c e)))
      ∙ ap (λ j. otherwise (first (child_at c k)) (child_from c j)) (sym q)

  pub left_up : (j : ℕ) → j < n → (c : Component) → s ≡ flat c → child_from c j ≡ otherwise (first (child_at c j)) (child_from c (j + 1))
  left_up j l c e = up_step c e j (j + 1) (omega arith) (add-one j)

  pub right-up : (j : ℕ) → j < n → (c : Component) → s ≡ flat c → child_from c (n + j) ≡ otherwise (first (child_at c (n + j))) (child_from c (n + (j + 1)))
  right-up j l c e = up_step c e (n + j) (n + (j + 1)) (omega arith) (omega arith)

  module _ {k j : ℕ} {y : List ℕ} (f : Scanned child_from s k j out y) (x : List ℕ) (c : Component) (e : s ≡ flat c) where
    -- the left merges behind the leading points and the tree after them are no children
    pub left-late : h < j → j < n → Passed child_from c k n false x
    left-late a b =
        let q = scan-merge p c e (omega arith) in
        passed-all c k n x
        (f.passed c e ∙ child_from-lefts c (node-valid p.node c e) n (candidates-count p c e) h q.0 q.1 q.2 q.3 j a (omega arith))

    pub left_end : j ≡ n → Passed child_from c k n false x
    left_end a = passed-all c k n x (f.passed c e ∙ ap (child_from c) a)

  module _ {k j : ℕ} {y : List ℕ} (f : Scanned child_from s k (n + j) out y) (x : List ℕ) (c : Component) (e : s ≡ flat c) where
    -- nor are such right merges
    pub right-late : h < j → j < n → Gave (child_from c k) false x
    right-late a b =
        let q = scan-merge p c e (omega arith) in
        subst (λ o. Gave o false x)
        (sym (f.passed c e ∙ child_from-past c (node-valid p.node c e) n (candidates-count p c e) h q.0 q.1 q.2 q.3 (n + j) (omega arith)))
        refl

    pub right_end : n ≤ j → Gave (child_from c k) false x
    right_end a =
        subst (λ o. Gave o false x)
        (sym (f.passed c e ∙ child_from-end c (n + j) (omega (arith, length-candidates c n (candidates-count p c e)))))
        refl
