-- Reading groups: their numbers are read as the groups that they were, and whatever is read has exactly those numbers.
use mathlib.Core.Path.{◌≡◌, refl, ap, sym, ◌∙◌}
use mathlib.Core.Bool.{true, ◌||◌}
use mathlib.Core.List.{List, [], ◌∷◌, ◌++◌, append_assoc}
use Prim.Native.Nat.{ℕ, zero, suc, ◌+◌, ◌-◌, ◌*◌, ◌/◌, ◌≤◌, ◌<◌}
use native.Mathlib.Omega.{arith}
use native.Mathlib.Nat.{mul_comm, mul-add-div, mul-div-le, mul-le-mul_left, le-div_iff_mul-le}
use lib.Dec.{ltb, eqb}
use lib.ListN.{length, drop, length-append}
use lib.Seq.{drop_at, drop-drop}
use borrow.Author.Tests.{le-ltb, eq-eqb, ne_eqb, eqb-true, eqb-false}
use Rattle.lists.specs.Select.{gather}
use Rattle.lists.proofs.Tests.{choose-case}
use Rattle.patterns.specs.Component.{Component, points, flat, nonempty}
use Rattle.patterns.specs.System.{weight}
use Rattle.patterns.specs.Written.{component_numbers}
use Rattle.patterns.specs.Reading.{done}
use Rattle.patterns.proofs.Trees.{length-flat}
use Rattle.form_theory.specs.ReadComponent.{read_component}
use Rattle.form_theory.proofs.Results.{Good, good-then, good-mapped, or-false}
use Rattle.form_theory.proofs.ReadFrom.{ComponentOf, component-good}
use Rattle.component_theory.proofs.Generation.{length-points}
use Rattle.form_theory.proofs.Readback.{nonempty-length, read-trees}
use Rattle.group_theory.specs.Groups.{Group, copies_of, expand}
use Rattle.group_theory.specs.GroupedForm.{group_numbers, groups_length, read_groups}
use Rattle.group_theory.proofs.Groups.{counted, counted-head, counted-tail, counted-cons}
use Rattle.group_theory.proofs.GroupWeights.{weight-expand, with_trees, trees-head, trees-tail, copies-within}

-- the numbers of a component within the limit are read as that component
read-component : (c : Component) (limit : ℕ) (r : List ℕ) → nonempty c ≡ true → points c ≤ limit → read_component limit (component_numbers c ++ r) ≡ done c
unfolding read_component
read-component c limit r e h =
    let n = nonempty-length c e in
    let m = length-points c in
    rw (ne_eqb (length c) 0 (λ z. omega arith), le-ltb limit (length c) (omega arith), read-trees c limit r h)

-- points that go q times into the points left are no more than those divided by q
points-divided : (q p left : ℕ) → 0 < q → q * p ≤ left → p ≤ left / q
points-divided q p left h k = (le-div_iff_mul-le h).1 (omega (arith, mul_comm p q))

-- Each point read takes q from the points left: what is left, divided by q, is then less by the points read. So trees along the cycle may be held against left / q.
pub left-divided : (q x left : ℕ) → 0 < q → q * x ≤ left → (left - q * x) / q ≡ left / q - x
left-divided q x left h k =
    let whole : q * x + (left - q * x) ≡ left = omega arith in
    omega (arith, mul-add-div h x (left - q * x), ap (λ n. n / q) whole)

-- the numbers of groups with all the points left are read as those groups
pub read-groups : (G : List Group) (left : ℕ) (r : List ℕ) → counted G ≡ true → with_trees G ≡ true → weight (expand G) ≡ left
    → read_groups (length G) left (gather group_numbers G ++ r) ≡ done G
unfolding read_groups
read-groups [] left r h e k = rw (eq-eqb left 0 (sym k))
read-groups (g ∷ G) left r h e k =
    let q = g.copies in
    let c = g.component in
    let s = gather group_numbers G ++ r in
    let more = weight-expand g G in
    let positive = counted-head g G h in
    let within = copies-within g (trees-head g G e) in
    rw (
      append_assoc (flat c) (gather group_numbers G) r,
      ne_eqb q 0 (λ z. omega arith),
      le-ltb left q (omega arith),
      read-component c (left / q) s (trees-head g G e) (points-divided q (points c) left positive (omega arith)),
      drop_at (component_numbers c) s (suc (points c)) (ap suc (length-flat c)),
      read-groups G (left - q * points c) r (counted-tail g G h) (trees-tail g G e) (omega arith),
    )

-- the numbers of groups are as many as are skipped after reading
pub length-groups : (G : List Group) → length (gather group_numbers G) ≡ groups_length G
length-groups [] = refl
length-groups (g ∷ G) = omega (arith, length-append (group_numbers g) (gather group_numbers G), length-flat g.component, length-groups G)

-- what m groups read from s have in common with s
abbrev pub GroupsOf : ℕ → ℕ → List ℕ → List Group → Type 0
GroupsOf m left s G = (s ≡ gather group_numbers G ++ drop (groups_length G) s) × (length G ≡ m) × (weight (expand G) ≡ left) × (counted G ≡ true)

-- a group and groups after it, read from s
group-before : (q : ℕ) (c : Component) (m left : ℕ) (s : List ℕ) (G : List Group) → 0 < q → ComponentOf (left / q) s c
    → GroupsOf m (left - q * points c) (drop (suc (points c)) s) G → GroupsOf (suc m) left (q ∷ s) (copies_of q c ∷ G)
group-before q c m left s G h r t =
    let a = component_numbers c in
    let b = gather group_numbers G in
    let p = suc (points c) in
    let within : q * points c ≤ left = omega (arith, mul-le-mul_left q r.2, mul-div-le left q) in
    let n : groups_length (copies_of q c ∷ G) ≡ suc (p + groups_length G) = omega arith in (
      rw n (ap (q ∷◌) (r.0 ∙ ap (a ++◌) (t.0 ∙ ap (b ++◌) (drop-drop (groups_length G) p s)) ∙ sym (append_assoc a b (drop (p + groups_length G) s)))),
      ap suc t.1,
      omega (arith, weight-expand (copies_of q c) G, t.2),
      counted-cons (copies_of q c) G h t.3,
    )

pub groups-good : (m left : ℕ) (s : List ℕ) → Good (GroupsOf m left s) (read_groups m left s)
unfolding read_groups
groups-good zero left s = choose-case (Good (GroupsOf 0 left s)) (eqb left 0) (λ e. (refl, refl, sym (eqb-true left 0 e), refl)) (λ e. tt)
groups-good (suc m) left [] = tt
groups-good (suc m) left (q ∷ s) =
    choose-case (Good (GroupsOf (suc m) left (q ∷ s))) (eqb q 0 || ltb left q) (λ e. tt) (λ e.
    let h : 0 < q = omega (arith, eqb-false q 0 (or-false (eqb q 0) (ltb left q) e).0) in
    good-then (ComponentOf (left / q) s) (GroupsOf (suc m) left (q ∷ s)) (read_component (left / q) s) _ (component-good (left / q) s) (λ c r.
    good-mapped (GroupsOf m (left - q * points c) (drop (suc (points c)) s)) (GroupsOf (suc m) left (q ∷ s))
    (read_groups m (left - q * points c) (drop (suc (points c)) s)) (copies_of q c ∷◌) (groups-good m (left - q * points c) (drop (suc (points c)) s)) (λ G t.
    group-before q c m left s G h r t)))
