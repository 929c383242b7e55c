-- How many rows of plants along a cycle have given trees, and from how many points of a cycle its trees read as a given component.
use mathlib.Core.Path.{◌≡◌, refl, ap, ap₂, sym, ◌∙◌}
use mathlib.Core.Bool.{Bool, true, cond}
use mathlib.Core.List.{List, [], ◌∷◌, ◌++◌, map, map-map, map-append, append-nil, append_assoc, head-eq_of_cons-eq, tail-eq_of_cons-eq}
use Prim.Native.Nat.{ℕ, ◌≤◌, ◌<◌}
use lib.ListN.{length, length-map}
use Rattle.lists.specs.Order.{same}
use Rattle.lists.specs.Select.{keep, each}
use Rattle.lists.proofs.Tests.{◌∈◌, by-test, either, clash, no_both, is_false, cond-true, cond-false, each-head, each_tail, each_member}
use Rattle.lists.proofs.Comparison.{same_true, same-of-path}
use Rattle.lists.proofs.Permute.{length-keep, total-map, perm-sym, perm-keep, perm-length}
use Rattle.lists.proofs.Members.{in_head, in_tail, in_list, in_map, of_map, in-cons-cases, not-in-nil, keep-none}
use Rattle.lists.proofs.Gathering.{map_same}
use Rattle.lists.proofs.Pigeon.{nodup-below-length}
use Rattle.patterns.specs.Tree.{Tree, valid_tree}
use Rattle.patterns.specs.Component.{Component, compare_component, first_rotations, rotations, rotation_symmetry, least_rotation, valid_component}
use Rattle.patterns.specs.Table.{on_cycle, hanging, tree_at, cycle_from, component_at}
use Rattle.patterns.proofs.Trees.{compare_component-lawful}
use Rattle.patterns.proofs.Rotations.{rotated-of-rotation, least_rotation-rotation, least_rotation-same, valid-least_rotation}
use Rattle.map_theory.specs.Plants.{Plant, shape, root}
use Rattle.map_theory.proofs.Cycles.{cycle-from}
use Rattle.map_theory.proofs.Leaders.{cycle-nodup, cycle-turn, cycle-on_cycle, cycle-perm, cycle-inside}
use Rattle.map_theory.proofs.Levels.{of-hanging, hanging-nodup}
use Rattle.counting_theory.specs.Symmetries.{product, tree_symmetries}
use Rattle.counting_theory.proofs.Exactly.{Exactly, exactly-one, exactly-pairs}
use Rattle.counting_theory.proofs.WholePlants.{Whole, whole-tree}
use Rattle.counting_theory.proofs.StandingPlants.{Stands, hanging-branches, exactly-standing}

-- d are the trees c at the points xs, with all that hangs there
pub record Along (n : ℕ) (f : ℕ → ℕ) (c : Component) (xs : List ℕ) (d : List Plant) : Type 0 where
  pub roots : map root d ≡ xs
  pub shaped : map shape d ≡ c
  pub whole : (t : Plant) → t ∈ d → Whole n f t

module _ (n : ℕ) (f : ℕ → ℕ) where
  -- along no points there is one row, that of no plants
  along-none : Along n f [] [] []
  along-none = record { roots = refl; shaped = refl; whole = λ t m. not-in-nil m }

  only_none : (d : List Plant) → Along n f [] [] d → d ≡ []
  only_none [] a = refl
  only_none (p ∷ d) a = clash cc

  -- a plant at the first point and a row along the others make a row
  along-cons : {t : Tree} {c : Component} {x : ℕ} {xs : List ℕ} (p : Plant) (d : List Plant)
      → Stands n f t x (hanging n f x) p → Along n f c xs d → Along n f (t ∷ c) (x ∷ xs) (p ∷ d)
  along-cons p d s a =
      record {
        roots = ap₂ ◌∷◌ s.rooted a.roots;
        shaped = ap₂ ◌∷◌ s.shaped a.shaped;
        whole = λ u m. either (in-cons-cases m)
            (λ q. rw q (record { grown = s.grown; hung = rw s.rooted s.filled }))
            (λ k. a.whole u k);
      }

  -- and every row is made so
  along-parts : {t : Tree} {c : Component} {x : ℕ} {xs : List ℕ} (z : List Plant) → Along n f (t ∷ c) (x ∷ xs) z
      → (p : Plant) × (d : List Plant) × Stands n f t x (hanging n f x) p × Along n f c xs d × (z ≡ p ∷ d)
  along-parts [] a = clash cc
  along-parts (p ∷ d) a =
      let e = head-eq_of_cons-eq a.roots in
      let w = a.whole p in_head in (
        p,
        d,
        record { rooted = e; shaped = head-eq_of_cons-eq a.shaped; filled = rw e at w.hung; grown = w.grown },
        record { roots = tail-eq_of_cons-eq a.roots; shaped = tail-eq_of_cons-eq a.shaped; whole = λ u m. a.whole u (in_tail m) },
        refl,
      )

module _ (n : ℕ) (f : ℕ → ℕ) (inside : (x : ℕ) → x < n → f x < n) where
  -- the rows with the trees that are there
  exactly-trees : (xs : List ℕ) → each valid_tree (map (tree_at n f) xs) ≡ true → ((x : ℕ) → x ∈ xs → x < n)
      → Exactly (Along n f (map (tree_at n f) xs) xs) (product tree_symmetries (map (tree_at n f) xs))
  exactly-trees [] v h = exactly-one [] (along-none n f) (only_none n f)
  exactly-trees (x ∷ xs) v h =
      let t = tree_at n f x in
      let c = map (tree_at n f) xs in
      exactly-pairs ◌∷◌
      (λ p s. exactly-trees xs (each_tail valid_tree t c v) (λ y m. h y (in_tail m)))
      (λ p q d e s r a b k. head-eq_of_cons-eq k)
      (λ p d e s a b k. tail-eq_of_cons-eq k)
      (exactly-standing n f inside t x (hanging n f x) (each-head valid_tree t c v) (hanging-nodup n f x)
      (λ y m. (of-hanging n f x m).0)
      (hanging-branches n f inside t x (h x in_head) refl))
      (along-cons n f)
      (along-parts n f)

  pub exactly-along : (c : Component) (xs : List ℕ) → each valid_tree c ≡ true → ((x : ℕ) → x ∈ xs → x < n) → map (tree_at n f) xs ≡ c
      → Exactly (Along n f c xs) (product tree_symmetries c)
  exactly-along c xs v h e = rw e at (exactly-trees xs (ap (each valid_tree) e ∙ v) h)

  pub along-trees : {c : Component} {xs : List ℕ} {d : List Plant} → each valid_tree c ≡ true → ((x : ℕ) → x ∈ xs → x < n)
      → Along n f c xs d → map (tree_at n f) xs ≡ c
  along-trees {d} v h a =
      ap (map (tree_at n f)) (sym a.roots)
      ∙ map-map (tree_at n f) root d
      ∙ map_same (λ t. tree_at n f (root t)) shape d
      (λ t m. whole-tree n f inside (a.whole t m)
      (each_member valid_tree v (in_list a.shaped (in_map shape m)))
      (h (root t) (in_list a.roots (in_map root m))))
      ∙ a.shaped

  -- the trees of a cycle, read from x on
  abbrev trees_from : ℕ → Component
  trees_from x = map (tree_at n f) (cycle_from n f x)

  -- they are turned from point to point: here from the points of b, where the cycle is a and then b
  trees-turned : (l : ℕ) → l < n → on_cycle n f l ≡ true → (a b : List ℕ) → cycle_from n f l ≡ a ++ b
      → map trees_from b ≡ first_rotations (length b) (map (tree_at n f) (b ++ a))
  trees-turned l h on a [] e = refl
  trees-turned l h on a (x ∷ b) e =
      let g : ℕ → Tree = tree_at n f in
      let fits : length (cycle_from n f l) ≤ n = nodup-below-length n (cycle-nodup n f l on) (λ y m. cycle-inside n f inside l h on m) in
      ap₂ ◌∷◌
      (ap (map g) (cycle-from n f (cycle_from n f l) (cycle-turn n f l on) (cycle-nodup n f l on) fits a b x e))
      (trees-turned l h on (a ++ (x ∷ [])) b (e ∙ sym (append_assoc a (x ∷ []) b))
      ∙ ap (first_rotations (length b)) (ap (map g) (sym (append_assoc b a (x ∷ []))) ∙ map-append g (b ++ a) (x ∷ [])))

  -- the trees of a cycle, read from each of its points
  pub trees-rotations : (l : ℕ) → l < n → on_cycle n f l ≡ true
      → map (λ x. map (tree_at n f) (cycle_from n f x)) (cycle_from n f l) ≡ rotations (map (tree_at n f) (cycle_from n f l))
  trees-rotations l h on =
      let c = cycle_from n f l in
      trees-turned l h on [] c refl
      ∙ ap₂ (λ k d. first_rotations k (map (tree_at n f) d)) (sym (length-map c (tree_at n f))) (append-nil c)

  -- where they read as a valid component, it is the component of the cycle
  pub component-of : (l : ℕ) → l < n → on_cycle n f l ≡ true → (c : Component) (x : ℕ) → valid_component c ≡ true → x ∈ cycle_from n f l
      → map (tree_at n f) (cycle_from n f x) ≡ c → component_at n f l ≡ c
  unfolding component_at
  component-of l h on c x v m e =
      least_rotation-same {c = trees_from l} (rotated-of-rotation (in_list (trees-rotations l h on) (in_map trees_from m)))
      ∙ ap least_rotation e
      ∙ valid-least_rotation c v

  -- and somewhere they read as the component of the cycle
  component-start : (l : ℕ) → l < n → on_cycle n f l ≡ true → (x : ℕ) × (x ∈ cycle_from n f l) × (component_at n f l ≡ trees_from x)
  unfolding component_at cycle_from
  component-start l h on =
      of_map trees_from (cycle_from n f l) (in_list (sym (trees-rotations l h on)) (least_rotation-rotation (trees_from l) refl))

  -- read from x they are c: from as many points they are c as rotations of c equal c
  starts-there : (x : ℕ) → x < n → on_cycle n f x ≡ true → (c : Component) → trees_from x ≡ c
      → length (keep (λ y. same compare_component c (trees_from y)) (cycle_from n f x)) ≡ rotation_symmetry c
  unfolding rotation_symmetry
  starts-there x h on c e =
      let p = same compare_component c in
      length-keep (λ y. p (trees_from y)) (cycle_from n f x)
      ∙ sym (total-map (λ d. cond (p d) 1 0) trees_from (cycle_from n f x))
      ∙ sym (length-keep p (map trees_from (cycle_from n f x)))
      ∙ ap (λ ds. length (keep p ds)) (trees-rotations x h on ∙ ap rotations e)

  pub starts-number : (l : ℕ) → l < n → on_cycle n f l ≡ true → (c : Component) → valid_component c ≡ true
      → length (keep (λ x. same compare_component c (map (tree_at n f) (cycle_from n f x))) (cycle_from n f l))
      ≡ cond (same compare_component c (component_at n f l)) (rotation_symmetry c) 0
  starts-number l h on c v =
      let reads : ℕ → Bool = λ x. same compare_component c (trees_from x) in
      by-test (same compare_component c (component_at n f l))
      (λ e.
      let s = component-start l h on in
      perm-length (perm-keep reads (perm-sym (cycle-perm n f l on s.1)))
      ∙ starts-there s.0 (cycle-inside n f inside l h on s.1) (cycle-on_cycle n f l on s.1) c
      (sym s.2 ∙ sym (same_true compare_component-lawful c (component_at n f l) e))
      ∙ sym (cond-true (rotation_symmetry c) 0 e))
      (λ e.
      ap length (keep-none reads (cycle_from n f l)
      (λ x m. is_false (reads x)
      (λ t. no_both (same-of-path compare_component-lawful (sym (component-of l h on c x v m (sym (same_true compare_component-lawful c (trees_from x) t))))) e)))
      ∙ sym (cond-false (rotation_symmetry c) 0 e))
