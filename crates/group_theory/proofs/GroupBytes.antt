-- The bytes of groups: a group takes at most four for each of its points, so a code at most 804; and every byte is below 256.
use mathlib.Core.Path.{◌≡◌, refl, ap, sym, ◌∙◌}
use mathlib.Core.Bool.{true}
use mathlib.Core.List.{List, [], ◌∷◌, ◌++◌, append-nil}
use Prim.Native.Nat.{ℕ, ◌+◌, ◌*◌, ◌≤◌, ◌<◌}
use native.Mathlib.Omega.{arith}
use lib.Dec.{is_le, leb}
use lib.ListN.{length, length-append}
use borrow.Author.Tests.{leb-true, leb-false}
use Rattle.lists.specs.Select.{gather}
use Rattle.lists.proofs.Tests.{by-test}
use Rattle.patterns.specs.Tree.{point, merge}
use Rattle.patterns.specs.Component.{Component, points, nonempty, valid_component}
use Rattle.patterns.specs.System.{System, weight, is_in_order, canonical}
use Rattle.patterns.specs.Written.{component_numbers, write_number, bytes}
use Rattle.patterns.proofs.Trees.{size-positive, length-flat}
use Rattle.patterns.proofs.Rotations.{points-positive}
use Rattle.form_theory.proofs.Bounds.{all_below, below-cons, below-tail, below-append}
use Rattle.form_theory.proofs.Numbers.{write-length, bytes-append, bytes_below, bytes-length}
use Rattle.form_theory.proofs.WrittenBack.{numbers-below}
use Rattle.system_theory.proofs.Canonical.{generated-fewer, is_in_order-from}
use Rattle.group_theory.specs.Groups.{Group, expand, groups, rising}
use Rattle.group_theory.specs.GroupedForm.{group_numbers, grouped_numbers, grouped_code}
use Rattle.group_theory.proofs.Groups.{counted, counted-head, counted-tail, expand-groups, groups-counted}
use Rattle.group_theory.proofs.RisingGroups.{rising-parts, canonical-rises}
use Rattle.group_theory.proofs.GroupWeights.{weight-expand, with_trees, trees-head, trees-tail, rising-trees, nonempty-points, copies-within, component-within, groups-points}

-- the one component of one point
one-point : (c : Component) → points c ≡ 1 → c ≡ point ∷ []
one-point [] e = absurd (omega arith)
one-point (point ∷ []) e = refl
one-point (point ∷ t ∷ c) e = absurd (omega (arith, size-positive t))
one-point (merge t u ∷ c) e = absurd (omega (arith, size-positive t, size-positive u))

-- copies, k and the tree of one point: the last two take one byte each
point-bytes : (q : ℕ) (c : Component) → points c ≡ 1 → length (bytes (q ∷ component_numbers c)) ≤ 4
point-bytes q c e =
    rw (one-point c e) (omega (arith, length-append (write_number q) (1 ∷ 1 ∷ []), (write-length q).1))

-- a group takes at most four bytes for each of its points
pub group-bytes : (g : Group) → 0 < g.copies → nonempty g.component ≡ true → length (bytes (group_numbers g)) ≤ 4 * (g.copies * points g.component)
group-bytes g h e =
    let c = g.component in
    let within = component-within g h in
    by-test (leb 2 (points c))
    (λ t. omega (arith, leb-true 2 (points c) t, bytes-length (group_numbers g), length-flat c))
    (λ t. let one : points c ≡ 1 = omega (arith, leb-false 2 (points c) t, nonempty-points c e) in omega (arith, point-bytes g.copies c one))

groups-bytes : (G : List Group) → counted G ≡ true → with_trees G ≡ true → length (bytes (gather group_numbers G)) ≤ 4 * weight (expand G)
groups-bytes [] h e = omega arith
groups-bytes (g ∷ G) h e =
    let l = ap length (bytes-append (group_numbers g) (gather group_numbers G)) in
    omega (
      arith,
      l,
      length-append (bytes (group_numbers g)) (bytes (gather group_numbers G)),
      weight-expand g G,
      group-bytes g (counted-head g G h) (trees-head g G e),
      groups-bytes G (counted-tail g G h) (trees-tail g G e),
    )

-- the numbers of a valid component, and of rising groups, are below any bound on their points
component-below : (k : ℕ) (c : Component) → valid_component c ≡ true → points c < k → all_below k (component_numbers c) ≡ true
unfolding canonical is_in_order
component-below k c v h =
    let w : points c + 0 ≡ points c = omega arith in
    let alone = is_in_order-from [] c [] v (ap is_le (generated-fewer [] c (points-positive c v))) refl in
    let all = numbers-below k (c ∷ []) alone (omega arith) in
    ap (all_below k) (sym (append-nil (component_numbers c)))
    ∙ below-tail k 1 (component_numbers c ++ []) (below-tail k (points c + 0) (1 ∷ (component_numbers c ++ [])) all)

groups-below : (k : ℕ) (p : Component) (G : List Group) → counted G ≡ true → rising p G ≡ true → weight (expand G) < k → all_below k (gather group_numbers G) ≡ true
groups-below k p [] h e w = refl
groups-below k p (g ∷ G) h e w =
    let r = rising-parts p g G e in
    let more = weight-expand g G in
    let few = copies-within g (trees-head g G (rising-trees p (g ∷ G) e)) in
    let one = component-within g (counted-head g G h) in
    below-append k (group_numbers g) (gather group_numbers G)
    (below-cons k g.copies (component_numbers g.component) (omega arith) (component-below k g.component r.0 (omega arith)))
    (groups-below k g.component G (counted-tail g G h) r.2 (omega arith))

-- the groups of a system have its points
pub groups-weight : (S : System) → weight (expand (groups S)) ≡ weight S
groups-weight S = ap weight (expand-groups S)

module _ (S : System) (c : canonical S ≡ true) where
  -- the groups of a canonical system have trees, and are no more than its points
  pub groups-trees : with_trees (groups S) ≡ true
  groups-trees = rising-trees [] (groups S) (canonical-rises S c)

  pub few-groups : length (groups S) ≤ weight S
  few-groups = omega (arith, groups-weight S, groups-points (groups S) (groups-counted S) groups-trees)

module _ (S : System) (c : canonical S ≡ true) (w : weight S ≤ 200) where
  -- the numbers of a code are written with one or two bytes
  pub grouped-numbers-below : all_below 16384 (grouped_numbers S) ≡ true
  unfolding grouped_numbers
  grouped-numbers-below =
      let G = groups S in
      below-cons 16384 (weight S) (length G ∷ gather group_numbers G) (omega arith)
      (below-cons 16384 (length G) (gather group_numbers G) (omega (arith, few-groups S c))
      (groups-below 16384 [] G (groups-counted S) (canonical-rises S c) (omega (arith, groups-weight S))))

  -- a code has at most 804 bytes
  pub grouped-fits : length (grouped_code S) ≤ 804
  unfolding grouped_code grouped_numbers
  grouped-fits =
      let G = groups S in
      let front = weight S ∷ length G ∷ [] in
      omega (
        arith,
        ap length (bytes-append front (gather group_numbers G)),
        length-append (bytes front) (bytes (gather group_numbers G)),
        bytes-length front,
        groups-bytes G (groups-counted S) (groups-trees S c),
        groups-weight S,
      )

  -- and its bytes are below 256
  pub grouped-below : all_below 256 (grouped_code S) ≡ true
  unfolding grouped_code
  grouped-below = bytes_below (grouped_numbers S) grouped-numbers-below
