-- The list of the components of n points in generation order holds every valid one exactly once, and begins with the cycle of n points. That what is listed
-- is valid and stands once holds for any order of the children.
use mathlib.Core.Path.{◌≡◌, refl, ap, ap₂, sym, ◌∙◌}
use mathlib.Core.Bool.{Bool, true, false, true≢false}
use mathlib.Core.List.{List, [], ◌∷◌, ◌++◌, map, reverse}
use mathlib.Core.Option.{some}
use Prim.Native.Nat.{ℕ, zero, suc, ◌+◌, ◌-◌, ◌≤◌, ◌<◌}
use native.Mathlib.Omega.{arith}
use lib.ListN.{length, length-replicate}
use Rattle.lists.specs.Order.{at_most}
use Rattle.lists.specs.Select.{each, first}
use Rattle.lists.proofs.Tests.{◌∈◌, by-test, true-and, each-true}
use Rattle.lists.proofs.Comparison.{at_most-self}
use Rattle.lists.proofs.Members.{NoDup, not-in-nil, of-replicate}
use Rattle.lists.proofs.Reversed.{in-reverse, of_reverse, nodup_reverse}
use Rattle.patterns.specs.Tree.{point, merge, valid_tree}
use Rattle.patterns.specs.Component.{Component, points, compare_component, turn, first_rotations, valid_component}
use Rattle.patterns.specs.Generation.{has_parent, parent, children, walk, cycle, generation}
use Rattle.patterns.proofs.Trees.{size-positive, compare_component-lawful}
use Rattle.component_theory.proofs.Lemma8.{parent-valid, parent-points, parent-length}
use Rattle.component_theory.proofs.Children.{child-candidate, children-parent, children-once}
use Rattle.component_theory.proofs.Traversal.{Ranked, walk-root, walk-all, walk-closed, walk-once}

-- a component has at most as many trees as points
pub length-points : (c : Component) → length c ≤ points c
length-points [] = omega arith
length-points (t ∷ c) = omega (arith, size-positive t, length-points c)

-- a valid component has a tree
pub valid-positive : (c : Component) → valid_component c ≡ true → 0 < length c
unfolding valid_component
valid-positive [] v = absurd (true≢false (sym v))
valid-positive (t ∷ c) v = omega arith

-- the children of every component in some order, each once
pub record Arranged (kids : Component → List Component) : Type 0 where
  pub all : (c d : Component) → d ∈ children c → d ∈ kids c
  pub only : (c d : Component) → d ∈ kids c → d ∈ children c
  pub once : (c : Component) → NoDup (kids c)

pub children-arranged : Arranged children
children-arranged = record { all = λ c d i. i; only = λ c d i. i; once = children-once }

pub reverse-arranged : {kids : Component → List Component} → Arranged kids → Arranged (λ c. reverse (kids c))
reverse-arranged {kids} a = record {
  all = λ c d i. in-reverse (kids c) (a.all c d i);
  only = λ c d i. a.only c d (of_reverse (kids c) i);
  once = λ c. nodup_reverse (a.once c);
}

-- a child has one tree less than its parent
pub arranged-ranked : {kids : Component → List Component} → Arranged kids → Ranked kids parent length
arranged-ranked a = record {
  kid_up = λ c d i. (children-parent c d (a.only c d i)).2;
  kid_level = λ c d i. let r = children-parent c d (a.only c d i) in sym (parent-length d r.1) ∙ ap length r.2;
  kid_positive = λ c d i. valid-positive d (children-parent c d (a.only c d i)).0;
  kids_once = a.once;
}

-- a child has as many points as its parent
pub child-points : (c d : Component) → d ∈ children c → points d ≡ points c
child-points c d i = sym (parent-points d) ∙ ap points (children-parent c d i).2

pub generation-is-walk : (n : ℕ) → generation n ≡ walk children n true (cycle n)
unfolding generation
generation-is-walk n = refl

pub cycle-points : (n : ℕ) → points (cycle n) ≡ n
cycle-points zero = refl
cycle-points (suc n) = omega (arith, cycle-points n)

pub cycles-points : (l : List ℕ) → map points (map cycle l) ≡ l
cycles-points [] = refl
cycles-points (n ∷ l) = ap₂ ◌∷◌ (cycle-points n) (cycles-points l)

pub cycle-no-parent : (n : ℕ) → has_parent (cycle n) ≡ false
cycle-no-parent zero = refl
cycle-no-parent (suc n) = cycle-no-parent n

-- the parent of a cycle is the cycle itself
pub cycle-parent : (n : ℕ) → parent (cycle n) ≡ cycle n
unfolding parent
cycle-parent zero = refl
cycle-parent (suc n) = ap (λ l. point ∷ l) (cycle-parent n)

-- only a cycle has no parent
pub no-parent-cycle : (c : Component) → has_parent c ≡ false → c ≡ cycle (length c)
no-parent-cycle [] e = refl
no-parent-cycle (point ∷ c) e = ap (λ l. point ∷ l) (no-parent-cycle c e)
no-parent-cycle (merge t u ∷ c) e = absurd (true≢false e)

cycle-turn : (n : ℕ) → turn (cycle n) ≡ cycle n
cycle-turn zero = refl
cycle-turn (suc n) = pushed n
  where
    pushed : (n : ℕ) → cycle n ++ (point ∷ []) ≡ cycle (suc n)
    pushed zero = refl
    pushed (suc n) = ap (λ l. point ∷ l) (pushed n)

each-turned : (p : Component → Bool) (k : ℕ) (c : Component) → turn c ≡ c → p c ≡ true → each p (first_rotations k c) ≡ true
each-turned p zero c e q = refl
each-turned p (suc k) c e q = rw (q, e) (each-turned p k c e q)

pub cycle-valid : (n : ℕ) → valid_component (cycle (suc n)) ≡ true
unfolding valid_component valid_tree
cycle-valid n =
    true-and
    (each-true valid_tree (cycle (suc n)) (λ t m. ap valid_tree (of-replicate (suc n) m)))
    (each-turned (at_most compare_component (cycle (suc n))) (length (cycle (suc n))) (cycle (suc n))
    (cycle-turn (suc n)) (at_most-self compare_component-lawful (cycle (suc n))))

pub cycle-listed : (n : ℕ) → 0 < n → cycle n ∈ generation n
cycle-listed zero h = absurd (omega arith)
cycle-listed (suc n) h = rw (generation-is-walk (suc n)) (walk-root children n true (cycle (suc n)))

-- a child of what is listed is listed
pub child-listed : (n : ℕ) (c d : Component) → c ∈ generation n → d ∈ children c → d ∈ generation n
child-listed n c d m i =
    let h : length (cycle n) ≤ n = omega (arith, length-replicate n point) in
    rw (generation-is-walk n) (walk-closed (arranged-ranked children-arranged) n true (cycle n) c d h (rw (generation-is-walk n) at m) i)

-- What holds of the walk from the cycle of n points in any order of the children.
module _ {kids : Component → List Component} (a : Arranged kids) (even : Bool) where
  -- what stands there is valid and has n points
  pub arranged-sound : (n : ℕ) (c : Component) → c ∈ walk kids n even (cycle n) → (valid_component c ≡ true) × (points c ≡ n)
  arranged-sound zero c m = not-in-nil m
  arranged-sound (suc n) c m =
      walk-all kids (λ c. (valid_component c ≡ true) × (points c ≡ suc n))
      (λ c d p i. let j = a.only c d i in ((children-parent c d j).0, child-points c d j ∙ p.1))
      (suc n) even (cycle (suc n))
      (cycle-valid n, cycle-points (suc n))
      m

  -- nothing stands there twice
  pub arranged-once : (n : ℕ) → NoDup (walk kids n even (cycle n))
  arranged-once n = walk-once (arranged-ranked a) n even (cycle n)

-- what stands in the list is valid and has n points
pub generation-sound : (n : ℕ) (c : Component) → c ∈ generation n → (valid_component c ≡ true) × (points c ≡ n)
unfolding generation
generation-sound n c m = arranged-sound children-arranged true n c m

-- nothing stands in the list twice
pub generation-once : (n : ℕ) → NoDup (generation n)
unfolding generation
generation-once n = arranged-once children-arranged true n

module _ (P : Component → Type 0) (root : (n : ℕ) → P (cycle (suc n)))
    (step : (c : Component) → valid_component c ≡ true → has_parent c ≡ true → P (parent c) → P c) where
  unparented : (c : Component) → valid_component c ≡ true → has_parent c ≡ false → P c
  unparented [] v f = absurd (omega (arith, valid-positive [] v))
  unparented (t ∷ c) v f = rw (no-parent-cycle (t ∷ c) f) (root (length c))

  from-depth : (k : ℕ) (c : Component) → points c ≡ k + length c → valid_component c ≡ true → P c
  from-depth zero c h v =
      by-test (has_parent c)
      (λ t. absurd (omega (arith, parent-length c t, parent-points c, length-points (parent c))))
      (unparented c v)
  from-depth (suc k) c h v =
      by-test (has_parent c)
      (λ t. step c v t (from-depth k (parent c) (omega (arith, parent-length c t, parent-points c)) (parent-valid c v t)))
      (unparented c v)

  -- induction on the depth: what holds of the cycles, and of a component if of its parent, holds of every valid component
  pub by-parents : (c : Component) → valid_component c ≡ true → P c
  by-parents c v = from-depth (points c - length c) c (omega (arith, length-points c)) v

-- every valid component stands in the list
pub generation-complete : (c : Component) → valid_component c ≡ true → c ∈ generation (points c)
generation-complete =
    by-parents (λ c. c ∈ generation (points c))
    (λ n. rw (cycle-points (suc n)) (cycle-listed (suc n) (omega arith)))
    (λ c v t m. child-listed (points c) (parent c) c (rw (parent-points c) at m) (child-candidate c v t))

-- the cycle of n points comes first
pub generation-first : (n : ℕ) → first (generation (suc n)) ≡ some (cycle (suc n))
unfolding generation
generation-first n = refl
