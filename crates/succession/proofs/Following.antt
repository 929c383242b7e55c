-- What is first among a component and its descendants in a direction, and what follows them: from the answers for first child, next sibling and parent.
use mathlib.Core.Path.{◌≡◌, refl, ap, sym, ◌∙◌, subst}
use mathlib.Core.Bool.{Bool, true, false, cond, true≢false}
use mathlib.Core.List.{List, [], ◌∷◌}
use mathlib.Core.Option.{Option, none, some, map}
use Prim.Native.Nat.{ℕ, ◌-◌, ◌%◌, ◌≤◌}
use native.Mathlib.Omega.{arith}
use lib.Dec.{eqb}
use lib.ListN.{length}
use Rattle.lists.proofs.Tests.{◌∈◌}
use Rattle.lists.proofs.Members.{lawful-decides, in_head, in_list}
use Rattle.lists.proofs.Follow.{otherwise, first_some, next-within, within-some-in}
use Rattle.patterns.specs.Tree.{point, merge}
use Rattle.patterns.specs.Component.{Component, points, flat, valid_component}
use Rattle.patterns.specs.Generation.{has_parent, parent}
use Rattle.patterns.proofs.Trees.{compare_component-lawful, length-flat}
use Rattle.component_theory.specs.LocalStep.{even_depth, early}
use Rattle.component_theory.specs.Successor.{kids, first_child, next_sibling, opening, beyond_early, beyond_late, neighbour}
use Rattle.component_theory.proofs.Lemma8.{parent-valid}
use Rattle.component_theory.proofs.Children.{child-candidate, children-parent}
use Rattle.component_theory.proofs.Generation.{length-points}
use Rattle.component_theory.proofs.Successor.{kids-arranged}
use Rattle.children.specs.Candidates.{Gave}
use Rattle.scanning.specs.HeldNodes.{Node}
use Rattle.generation.specs.Siblings.{Beside}
use Rattle.generation.specs.declared.Sibling.{Sibling}
use Rattle.generation.specs.declared.Sibling.TheVariants.{Root, Last, Next}
use Rattle.scanning.proofs.Scanning.{gave-path, gave-first, gave-nothing}

-- the children of a component are valid
kid-valid : (forward : Bool) (c d : Component) → d ∈ kids forward c → valid_component d ≡ true
kid-valid forward c d i = (children-parent c d ((kids-arranged forward).only c d i)).0

first_child-valid : (forward : Bool) (c d : Component) → first_child forward c ≡ some d → valid_component d ≡ true
unfolding first_child
first_child-valid forward c d e =
    let s = first_some (kids forward c) e in
    kid-valid forward c d (in_list (sym s.1) in_head)

next_sibling-valid : (forward : Bool) (c d : Component) → valid_component c ≡ true → has_parent c ≡ true → next_sibling forward c ≡ some d → valid_component d ≡ true
unfolding next_sibling
next_sibling-valid forward c d v h e =
    let w = next-within (lawful-decides compare_component-lawful) ((kids-arranged forward).all (parent c) c (child-candidate c v h)) in
    kid-valid forward (parent c) d (within-some-in (rw (rw h at e) at w))

-- a component that was given
pub gave-node : (o : Option Component) (x : List ℕ) → Gave o true x → ((d : Component) → o ≡ some d → valid_component d ≡ true) → length x ≤ 200 → Node x
gave-node none x g f l = absurd (true≢false g)
gave-node (some d) x g f l = record { trees = d; is = g.1; valid = f d refl; small = l }

-- without a parent a component is its own
root-parent : (c : Component) → has_parent c ≡ false → parent c ≡ c
unfolding parent
root-parent [] h = refl
root-parent (point ∷ c) h = ap (λ l. point ∷ l) (root-parent c h)
root-parent (merge t u ∷ c) h = absurd (true≢false h)

root-early : (forward : Bool) (c : Component) → has_parent c ≡ false → beyond_early forward c ≡ none
unfolding beyond_early next_sibling
root-early forward c h = rw h

root-late : (forward : Bool) (c : Component) → has_parent c ≡ false → beyond_late forward c ≡ none
unfolding beyond_late next_sibling
root-late forward c h = let e = root-early forward c h in rw (h, root-parent c h, e)

-- what is opened goes before what else there is
opened : (forward : Bool) (o rest : Option Component) (y x : List ℕ) → Gave o true y → ((d : Component) → y ≡ flat d → x ≡ flat (opening forward d))
    → Gave (otherwise (map (opening forward) o) rest) true x
opened forward none rest y x g f = absurd (true≢false g)
opened forward (some d) rest y x g f = (refl, f d g.1)

-- What follows, by what stands beside c: u holds the parent, y the next sibling.
module _ (forward : Bool) (c : Component) (r : Sibling) (u y : List ℕ) (beside : Beside forward c r u y) where
  pub early-root : r ≡ Root → (x : List ℕ) → Gave (beyond_early forward c) false x
  early-root e x = gave-path (sym (root-early forward c (subst (λ q. Beside forward c q u y) e beside))) false x refl

  pub early-next : r ≡ Next → Gave (beyond_early forward c) true y
  unfolding beyond_early
  early-next e =
      let b = subst (λ q. Beside forward c q u y) e beside in
      gave-path (sym (gave-first (next_sibling forward c) (cond (has_parent c) (some (parent c)) none) y b.2)) true y b.2

  pub early-last : r ≡ Last → (x : List ℕ) → x ≡ u → Gave (beyond_early forward c) true x
  unfolding beyond_early
  early-last e x f =
      let b = subst (λ q. Beside forward c q u y) e beside in
      let a : beyond_early forward c ≡ some (parent c) = rw (b.2, b.0) in
      gave-path (sym a) true x (refl, f ∙ b.1)

  pub late-root : r ≡ Root → (x : List ℕ) → Gave (beyond_late forward c) false x
  late-root e x = gave-path (sym (root-late forward c (subst (λ q. Beside forward c q u y) e beside))) false x refl

  pub late-next : r ≡ Next → (x : List ℕ) → ((d : Component) → y ≡ flat d → x ≡ flat (opening forward d)) → Gave (beyond_late forward c) true x
  unfolding beyond_late
  late-next e x f =
      let b = subst (λ q. Beside forward c q u y) e beside in
      opened forward (next_sibling forward c) (beyond_early forward (parent c)) y x b.2 f

  pub late-last : r ≡ Last → (a : Bool) (x : List ℕ) → ((d : Component) → u ≡ flat d → Gave (beyond_early forward d) a x) → Gave (beyond_late forward c) a x
  unfolding beyond_late
  late-last e a x f =
      let b = subst (λ q. Beside forward c q u y) e beside in
      let q : beyond_late forward c ≡ beyond_early forward (parent c) = rw b.2 in
      gave-path (sym q) a x (f (parent c) b.1)

  pub sibling-node : valid_component c ≡ true → r ≡ Next → length y ≤ 200 → Node y
  sibling-node v e l =
      let b = subst (λ q. Beside forward c q u y) e beside in
      gave-node (next_sibling forward c) y b.2 (λ d f. next_sibling-valid forward c d v b.0 f) l

  pub parent-node : valid_component c ≡ true → r ≡ Last → length u ≤ 200 → Node u
  parent-node v e l =
      let b = subst (λ q. Beside forward c q u y) e beside in
      record { trees = parent c; is = b.1; valid = parent-valid c v b.0; small = l }

-- The step, by whether c comes before its descendants.
module _ (forward : Bool) (c : Component) where
  pub late-step : early forward c ≡ false → (b : Bool) (x : List ℕ) → Gave (beyond_late forward c) b x → Gave (neighbour forward c) b x
  unfolding neighbour
  late-step h b x g =
      let q : neighbour forward c ≡ beyond_late forward c = rw h in
      gave-path (sym q) b x g

  module _ (h : early forward c ≡ true) (r : Bool) (y : List ℕ) (k : Gave (first_child forward c) r y) where
    pub early-step : r ≡ false → (b : Bool) (x : List ℕ) → Gave (beyond_early forward c) b x → Gave (neighbour forward c) b x
    unfolding neighbour
    early-step f b x g =
        let a = gave-nothing (first_child forward c) y (subst (λ q. Gave (first_child forward c) q y) f k) in
        let q : neighbour forward c ≡ beyond_early forward c = rw (h, a) in
        gave-path (sym q) b x g

    pub child-step : r ≡ true → (x : List ℕ) → ((d : Component) → y ≡ flat d → x ≡ flat (opening forward d)) → Gave (neighbour forward c) true x
    unfolding neighbour
    child-step f x g =
        let q : neighbour forward c ≡ otherwise (map (opening forward) (first_child forward c)) (beyond_early forward c) = rw h in
        gave-path (sym q) true x (opened forward (first_child forward c) (beyond_early forward c) y x (subst (λ q. Gave (first_child forward c) q y) f k) g)

-- The parity of the depth.
module _ {s : List ℕ} (m : ℕ) (counted : (c : Component) → s ≡ flat c → m ≡ length c) (c : Component) (e : s ≡ flat c) where
  pub count-within : m ≤ length s
  count-within = omega (arith, length-flat c, ap length e, counted c e, length-points c)

  pub depth-even : even_depth c ≡ eqb ((length s - m) % 2) 0
  depth-even =
      let d : points c - length c ≡ length s - m = omega (arith, length-flat c, ap length e, counted c e) in
      ap (λ n. eqb (n % 2) 0) d

pub child-node : (forward : Bool) (c : Component) (r : Bool) (y : List ℕ) → Gave (first_child forward c) r y → r ≡ true → length y ≤ 200 → Node y
child-node forward c r y g e l = gave-node (first_child forward c) y (subst (λ q. Gave (first_child forward c) q y) e g) (first_child-valid forward c) l
