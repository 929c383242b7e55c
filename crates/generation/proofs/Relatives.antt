-- The step up to the parent and on to the next sibling, and what opens a component.
use mathlib.Core.Path.{◌≡◌, ap, sym, ◌∙◌, subst}
use mathlib.Core.Bool.{Bool, true, false, true≢false}
use mathlib.Core.List.{List}
use mathlib.Core.Option.{Option, none, some, get_or}
use Prim.Native.Nat.{ℕ, suc, ◌+◌, ◌-◌, ◌<◌}
use native.Mathlib.Omega.{arith}
use native.Mathlib.Numerals.{add-one}
use lib.ListN.{length}
use Rattle.lists.proofs.Members.{lawful-decides}
use Rattle.lists.proofs.Places.{place-index}
use Rattle.patterns.specs.Component.{Component, flat, valid_component}
use Rattle.patterns.specs.Generation.{has_parent, parent, candidates}
use Rattle.patterns.proofs.Trees.{compare_component-lawful, length-flat}
use Rattle.components.specs.Climbs.{Climbed}
use Rattle.component_theory.specs.Successor.{first_child, next_sibling, opening}
use Rattle.std.proofs.Common.{Option as Perhaps, Some, None}
use Rattle.component_theory.proofs.Lemma8.{parent-valid}
use Rattle.component_theory.proofs.Children.{in-candidates}
use Rattle.component_theory.specs.Path.{key}
use Rattle.component_theory.specs.ChildPlaces.{child_from, child_before}
use Rattle.component_theory.proofs.ChildPlaces.{first_child-place, last_child-place, next_sibling-place, previous_sibling-place, length-candidates}
use Rattle.component_theory.proofs.Generation.{length-points, valid-positive}
use Rattle.children.specs.Candidates.{Gave}
use Rattle.scanning.specs.HeldNodes.{Node, PlaceIn}
use Rattle.scanning.proofs.Scanning.{gave-path, gave-nothing, node-trees, node-valid}
use Rattle.generation.specs.Siblings.{ChildKey, child_beside}

-- The end of the candidates: twice the pairs, of which there is one less than trees.
module _ {s : List ℕ} (p : Node s) (m : ℕ) (counted : (c : Component) → s ≡ flat c → m ≡ length c) where
  pub candidates-end : (c : Component) → s ≡ flat c → length (candidates c) ≡ m - 1 + (m - 1)
  candidates-end c e = length-candidates c (m - 1) (omega (arith, counted c e, valid-positive c (node-valid p c e)))

  pub all-places : PlaceIn s (m - 1 + (m - 1))
  all-places c e = omega (arith, candidates-end c e)

  pub few-places : m - 1 + (m - 1) < 400
  few-places =
      let c = p.trees in
      omega (arith, counted c p.is, length-points c, length-flat c, ap length p.is, p.small, valid-positive c p.valid)

  pub child-backward : {forward : Bool} → forward ≡ false → (c : Component) → s ≡ flat c → child_before c (m - 1 + (m - 1)) ≡ first_child forward c
  child-backward b c e = ap (child_before c) (sym (candidates-end c e)) ∙ sym (last_child-place c) ∙ ap (λ f. first_child f c) (sym b)

pub child-forward : {forward : Bool} → forward ≡ true → (c : Component) → child_from c 0 ≡ first_child forward c
child-forward b c = sym (first_child-place c) ∙ ap (λ f. first_child f c) (sym b)

-- The child after the one with a key.
pub beside-forward : {forward : Bool} → forward ≡ true → (c : Component) (k : ℕ) → child_from c (k + 1) ≡ child_beside forward c k
unfolding child_beside
beside-forward b c k = ap (λ f. child_beside f c k) (sym b)

pub beside-backward : {forward : Bool} → forward ≡ false → (c : Component) (k : ℕ) → child_before c k ≡ child_beside forward c k
unfolding child_beside
beside-backward b c k = ap (λ f. child_beside f c k) (sym b)

beside-key : (forward : Bool) (c : Component) → valid_component c ≡ true → has_parent c ≡ true → child_beside forward (parent c) (key c) ≡ next_sibling forward c
unfolding child_beside
beside-key true c v h = ap (child_from (parent c)) (add-one (key c)) ∙ sym (next_sibling-place c v h)
beside-key false c v h = sym (previous_sibling-place c v h)

-- The step up: s holds a valid component, x its parent, and k is its key.
pub record Raised (s x : List ℕ) (k : ℕ) : Type 0 where
  pub node : Node s
  pub same : length x ≡ length s
  pub up : (c : Component) → s ≡ flat c → (has_parent c ≡ true) × (x ≡ flat (parent c)) × (k ≡ key c)

pub raised : {s : List ℕ} → Node s → (r : Perhaps ℕ) (k : ℕ) → r ≡ Some k → (x : List ℕ) → length x ≡ length s
    → ((c : Component) → s ≡ flat c → Climbed c r x) → Raised s x k
raised p r k climbs x same climbed = record { node = p; same = same; up = λ c e. subst (λ q. Climbed c q x) climbs (climbed c e) }

-- the scan of the parent's children after this one
module _ {s x : List ℕ} {k : ℕ} (v : Raised s x k) where
  abbrev p : Node s
  p = v.node

  pub up-node : Node x
  up-node =
      let u = v.up p.trees p.is in
      record { trees = parent p.trees; is = u.1; valid = parent-valid p.trees p.valid u.0; small = omega (arith, p.small, v.same) }

  pub up_key : ChildKey x k
  unfolding up-node
  up_key d e =
      let c = p.trees in
      let u = v.up c p.is in
      let q : parent c ≡ d = node-trees up-node d e in
      omega (arith, ap (λ z. length (candidates z)) q, u.2, (place-index (lawful-decides compare_component-lawful) c (in-candidates c u.0)).0)

  after-key : (forward : Bool) (c : Component) → s ≡ flat c → child_beside forward (parent c) k ≡ next_sibling forward c
  after-key forward c e =
      let u = v.up c e in
      ap (child_beside forward (parent c)) u.2 ∙ beside-key forward c (node-valid p c e) u.0

  module _ (forward b : Bool) (y : List ℕ) (found : (c : Component) → x ≡ flat c → Gave (child_beside forward c k) b y) (c : Component) (e : s ≡ flat c) where
    sibling : (a : Bool) → b ≡ a → Gave (next_sibling forward c) a y
    sibling a f = gave-path (after-key forward c e) a y (subst (λ q. Gave (child_beside forward (parent c) k) q y) f (found (parent c) (v.up c e).1))

    pub beside-next : b ≡ true → (has_parent c ≡ true) × (x ≡ flat (parent c)) × Gave (next_sibling forward c) true y
    beside-next f = let u = v.up c e in (u.0, u.1, sibling true f)

    pub beside-last : b ≡ false → (has_parent c ≡ true) × (x ≡ flat (parent c)) × (next_sibling forward c ≡ none)
    beside-last f = let u = v.up c e in (u.0, u.1, gave-nothing (next_sibling forward c) y (sibling false f))

-- a key and a place more are few
pub key-small : {s : List ℕ} (p : Node s) {k : ℕ} → ChildKey s k → k < 400
key-small {s} p {k} h =
    let c = p.trees in
    let n = length c - 1 in
    let l : length c ≡ suc n = omega (arith, valid-positive c p.valid) in
    omega (arith, h c p.is, length-candidates c n l, length-points c, length-flat c, ap length p.is, p.small)

pub key-within : {s : List ℕ} {k : ℕ} → ChildKey s k → PlaceIn s k
key-within h c e = omega (arith, h c e)

pub climbed-root : (c : Component) (r : Perhaps ℕ) (x : List ℕ) → Climbed c r x → r ≡ None → has_parent c ≡ false
climbed-root c r x g e = subst (λ k. Climbed c k x) e g

get_d-gave : (o : Option Component) (d : Component) (x : List ℕ) → Gave o true x → x ≡ flat (get_or o d)
get_d-gave none d x g = absurd (true≢false g)
get_d-gave (some e) d x g = g.1

module _ (forward : Bool) (c : Component) (r : Bool) (x : List ℕ) (g : Gave (first_child forward c) r x) where
  -- the first child opens
  pub opening-child : r ≡ true → x ≡ flat (opening forward c)
  unfolding opening
  opening-child e = get_d-gave (first_child forward c) c x (subst (λ b. Gave (first_child forward c) b x) e g)

  -- without a child, the component itself
  pub opening-self : r ≡ false → opening forward c ≡ c
  unfolding opening
  opening-self e = ap (λ o. get_or o c) (gave-nothing (first_child forward c) x (subst (λ b. Gave (first_child forward c) b x) e g))
