-- The last child before a place: the right merges downward, and then the left merges.
use mathlib.Core.Path.{◌≡◌, refl, ap, sym, ◌∙◌, subst}
use mathlib.Core.Logic.{◌⊎◌, inl, inr}
use lib.Dec.{leb}
use Rattle.std.proofs.lemmas.Bool.Decides.{nat_tests}
use mathlib.Core.Bool.{false}
use mathlib.Core.List.{List, [], ◌∷◌}
use Prim.Native.Nat.{ℕ, suc, ◌+◌, ◌-◌, ◌≤◌, ◌<◌, min}
use native.Mathlib.Omega.{arith}
use lib.ListN.{length}
use Rattle.lists.specs.Select.{first}
use Rattle.lists.proofs.Tests.{by-test, either}
use Rattle.lists.proofs.Follow.{otherwise}
use Rattle.patterns.specs.Tree.{point, merge}
use Rattle.patterns.specs.Component.{Component, flat}
use Rattle.patterns.proofs.Trees.{length-flat}
use Rattle.trees.specs.Beginnings.{leading_points}
use Rattle.component_theory.specs.ChildPlaces.{child_at, child_before}
use Rattle.component_theory.proofs.ChildPlaces.{child_before-start, child_before-step, child_before-lefts, child_before-rights, length-candidates}
use Rattle.component_theory.proofs.Generation.{length-points}
use Rattle.children.specs.Candidates.{Gave}
use Rattle.scanning.specs.HeldNodes.{PlaceIn, HeldScan, Passed}
use Rattle.scanning.proofs.Scanning.{Scanned, passed-all, node-valid, candidates-count, scan-merge}

-- one place down
pub left_down : (c : Component) (i : ℕ) → 0 < i → child_before c i ≡ otherwise (first (child_at c (i - 1))) (child_before c (i - 1))
left_down c i h = let e : i ≡ suc (i - 1) = omega arith in ap (child_before c) e ∙ child_before-step c (i - 1)

pub right-down : (c : Component) (n i : ℕ) → 0 < i → child_before c (n + i) ≡ otherwise (first (child_at c (n + (i - 1)))) (child_before c (n + (i - 1)))
right-down c n i h = let e : n + i ≡ suc (n + (i - 1)) = omega arith in ap (child_before c) e ∙ child_before-step c (n + (i - 1))

module _ {s : List ℕ} {k j : ℕ} {out y : List ℕ} (x : List ℕ) (c : Component) (e : s ≡ flat c) (a : j ≤ 0) where
  -- before all left merges there is nothing
  pub left-none : Scanned child_before s k j out y → Gave (child_before c k) false x
  left-none f =
      let z : j ≡ 0 = omega arith in
      subst (λ o. Gave o false x) (sym (f.passed c e ∙ ap (child_before c) z ∙ child_before-start c)) refl

  -- before all right merges come the left ones
  pub right-none : (n : ℕ) → Scanned child_before s k (n + j) out y → Passed child_before c k n false x
  right-none n f = let z : n + j ≡ n = omega arith in passed-all c k n x (f.passed c e ∙ ap (child_before c) z)

-- r is the lesser of a and b
pub record Lesser (a b r : ℕ) : Type 0 where
  pub left : r ≤ a
  pub right : r ≤ b
  pub one : (r ≡ a) ⊎ (r ≡ b)

pub lesser-min : {a b r : ℕ} → r ≡ min a b → Lesser a b r
lesser-min {a} {b} e = record {
  left = omega arith;
  right = omega arith;
  one = by-test (leb a b) (λ h. inl (grind (arith, nat_tests))) (λ h. inr (grind (arith, nat_tests)));
}

-- of n pairs and h leading points, the pairs up to the first tree of more than one point
abbrev pub Reach : ℕ → ℕ → ℕ → Type 0
Reach n h r = Lesser n (h + 1) r

module _ (h : ℕ) {n r : ℕ} (reach : Reach n h r) where
  -- all of them, and some of them
  pub reach-all : Lesser n r r
  reach-all = record { left = reach.left; right = omega arith; one = inr refl }

  pub reach-part : {to i : ℕ} → Lesser to r i → (i ≤ n) × (i ≤ suc h)
  reach-part m = (omega (arith, m.right, reach.left), omega (arith, m.right, reach.right))

lead-length : (c : Component) → leading_points c ≤ length c
lead-length [] = omega arith
lead-length (point ∷ c) = omega (arith, lead-length c)
lead-length (merge x y ∷ c) = omega arith

pub lead-small : {s : List ℕ} {n h : ℕ} {out : List ℕ} → HeldScan s n h out → h ≤ 200
lead-small p =
    let c = p.node.trees in
    omega (arith, p.leads, lead-length c, length-points c, length-flat c, ap length p.node.is, p.node.small)

module _ {s : List ℕ} {n h : ℕ} {out : List ℕ} (p : HeldScan s n h out) {r : ℕ} (reach : Reach n h r) (c : Component) (e : s ≡ flat c) where
  -- behind them no left merge is a child
  pub lefts-reach : (to i : ℕ) → to ≤ n → Lesser to r i → child_before c i ≡ child_before c to
  lefts-reach to i t m =
      either m.one (λ q. ap (child_before c) q)
      (λ q. either reach.one
      (λ o. let z : i ≡ to = omega (arith, m.left, reach.left) in ap (child_before c) z)
      (λ o. beyond q o))
    where
      beyond : i ≡ r → r ≡ h + 1 → child_before c i ≡ child_before c to
      beyond q o =
          let g = scan-merge p c e (omega (arith, reach.left)) in
          ap (child_before c) (q ∙ o)
          ∙ sym (child_before-lefts c (node-valid p.node c e) n (candidates-count p c e) h g.0 g.1 g.2 g.3 to (omega (arith, m.left)) t)

  -- and no right merge
  pub rights-reach : (to i : ℕ) → n < to → PlaceIn s to → Lesser (to - n) r i → child_before c (n + i) ≡ child_before c to
  rights-reach to i t room m =
      let all : to ≤ n + n = omega (arith, room c e, length-candidates c n (candidates-count p c e)) in
      let back : n + (to - n) ≡ to = omega arith in
      either m.one (λ q. let z : n + i ≡ to = omega arith in ap (child_before c) z)
      (λ q. either reach.one
      (λ o. let z : n + i ≡ to = omega (arith, m.left) in ap (child_before c) z)
      (λ o. beyond q o all ∙ ap (child_before c) back))
    where
      beyond : i ≡ r → r ≡ h + 1 → to ≤ n + n → child_before c (n + i) ≡ child_before c (n + (to - n))
      beyond q o all =
          let g = scan-merge p c e (omega (arith, reach.left)) in
          ap (λ j. child_before c (n + j)) (q ∙ o)
          ∙ sym (child_before-rights c (node-valid p.node c e) n (candidates-count p c e) h g.0 g.1 g.2 g.3 (to - n) (omega (arith, m.left)) (omega arith))
