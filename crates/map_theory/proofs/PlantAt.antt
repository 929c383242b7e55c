-- The plant of a point: the tree at x with the points at its places. Its shape is the tree at x, it is valid, its arrows are those of f, and
-- the plants of level i hold the points of level i and of the later levels, each once.
use mathlib.Core.Path.{◌≡◌, refl, ap, sym, ◌∙◌}
use mathlib.Core.List.{List, [], ◌∷◌, ◌++◌, map, map-map, append-nil, append_assoc}
use mathlib.Core.Bool.{true}
use Prim.Native.Nat.{ℕ, zero, suc, ◌<◌}
use Rattle.lists.specs.Sort.{sort}
use Rattle.lists.specs.Select.{gather, range}
use Rattle.lists.proofs.Tests.{◌∈◌, each-true}
use Rattle.lists.proofs.Permute.{Perm, perm-path, perm-trans, perm-cons, perm-append, perm-gather, perm-gather-each, perm-gather-append}
use Rattle.lists.proofs.Sorting.{sort-map, sort-perm, sort-member, sort_sorted, sort-each}
use Rattle.lists.proofs.Members.{in_head, in_tail, of_map}
use Rattle.patterns.specs.Tree.{Tree, graft, graft_on, compare_tree, valid_tree}
use Rattle.patterns.specs.Table.{hanging, tree_to}
use Rattle.patterns.proofs.Trees.{compare_tree-lawful, branches-graft, branches-valid}
unfoldable pub use Rattle.map_theory.specs.Plants.{plant_on, compare_plant, plant_to}
use Rattle.lists.proofs.Gathering.{map_same, gather-gather, gather-map}
use Rattle.map_theory.proofs.Pictures.{Plant, tip, join, shape, root, labels, Arrows, arrows_tip, arrows_join}
use Rattle.map_theory.proofs.Levels.{level, of-hanging, next_level}

pub plant_on-shape : (t : Plant) (us : List Plant) → shape (plant_on t us) ≡ graft_on (shape t) (map shape us)
plant_on-shape t [] = refl
plant_on-shape t (u ∷ us) = plant_on-shape (join t u) us

pub plant_on-root : (t : Plant) (us : List Plant) → root (plant_on t us) ≡ root t
plant_on-root t [] = refl
plant_on-root t (u ∷ us) = plant_on-root (join t u) us

pub plant_on-labels : (t : Plant) (us : List Plant) → labels (plant_on t us) ≡ labels t ++ gather labels us
plant_on-labels t [] = sym (append-nil (labels t))
plant_on-labels t (u ∷ us) = plant_on-labels (join t u) us ∙ append_assoc (labels t) (labels u) (gather labels us)

pub plant_on-arrows : (f : ℕ → ℕ) (t : Plant) (us : List Plant) → Arrows f t → ((u : Plant) → u ∈ us → Arrows f u × (f (root u) ≡ root t))
    → Arrows f (plant_on t us)
plant_on-arrows f t [] a h = a
plant_on-arrows f t (u ∷ us) a h =
    let b = h u in_head in
    plant_on-arrows f (join t u) us (arrows_join a b.0 b.1) (λ v m. h v (in_tail m))

gather-tips : (l : List ℕ) → gather (λ x. x ∷ []) l ≡ l
gather-tips [] = refl
gather-tips (x ∷ l) = ap (λ r. x ∷ r) (gather-tips l)

module _ (n : ℕ) (f : ℕ → ℕ) where
  -- without the points it is the tree at x
  pub plant_to-shape : (k x : ℕ) → shape (plant_to n f k x) ≡ tree_to n f k x
  unfolding plant_to tree_to
  plant_to-shape zero x = refl
  plant_to-shape (suc k) x =
      plant_on-shape (tip x) (sort compare_plant (map (plant_to n f k) (hanging n f x)))
      ∙ ap graft
      (sym (sort-map compare_plant compare_tree shape (map (plant_to n f k) (hanging n f x)) (λ t u i j. refl))
      ∙ ap (sort compare_tree) (map-map shape (plant_to n f k) (hanging n f x) ∙ map_same (λ y. shape (plant_to n f k y)) (tree_to n f k) (hanging n f x) (λ y m. plant_to-shape k y)))

  pub plant_to-root : (k x : ℕ) → root (plant_to n f k x) ≡ x
  unfolding plant_to
  plant_to-root zero x = refl
  plant_to-root (suc k) x = plant_on-root (tip x) (sort compare_plant (map (plant_to n f k) (hanging n f x)))

  -- the branches at every point are the points that go there
  pub plant_to-arrows : (k x : ℕ) → Arrows f (plant_to n f k x)
  unfolding plant_to
  plant_to-arrows zero x = arrows_tip
  plant_to-arrows (suc k) x =
      plant_on-arrows f (tip x) (sort compare_plant (map (plant_to n f k) (hanging n f x))) arrows_tip
      (λ u m.
      let r = of_map (plant_to n f k) (hanging n f x) (sort-member compare_plant (map (plant_to n f k) (hanging n f x)) m) in
      (rw r.2 (plant_to-arrows k r.0), ap (λ v. f (root v)) r.2 ∙ ap f (plant_to-root k r.0) ∙ (of-hanging n f x r.1).1))

  -- the points of the plant: x, and those of the plants of the points that hang at x
  pub plant_to-labels : (k x : ℕ) → Perm (labels (plant_to n f (suc k) x)) (x ∷ gather (λ y. labels (plant_to n f k y)) (hanging n f x))
  unfolding plant_to
  plant_to-labels k x =
      perm-trans (perm-path (plant_on-labels (tip x) (sort compare_plant (map (plant_to n f k) (hanging n f x)))))
      (perm-cons x
      (perm-trans (perm-gather labels (sort-perm compare_plant (map (plant_to n f k) (hanging n f x))))
      (perm-path (gather-map labels (plant_to n f k) (hanging n f x)))))

  -- the tree at a point is valid
  pub tree_to-valid : (k x : ℕ) → valid_tree (tree_to n f k x) ≡ true
  unfolding tree_to valid_tree
  tree_to-valid zero x = refl
  tree_to-valid (suc k) x =
      let bs : List Tree = sort compare_tree (map (tree_to n f k) (hanging n f x)) in
      branches-valid (graft bs)
      (rw (branches-graft bs)
      (sort-each compare_tree valid_tree (map (tree_to n f k) (hanging n f x))
      ∙ each-true valid_tree (map (tree_to n f k) (hanging n f x))
      (λ t m. let r = of_map (tree_to n f k) (hanging n f x) m in ap valid_tree r.2 ∙ tree_to-valid k r.0)))
      (rw (branches-graft bs) (sort_sorted compare_tree-lawful (map (tree_to n f k) (hanging n f x))))

  module _ (inside : (x : ℕ) → x < n → f x < n) where
    -- the plants of level i, as far as k steps reach: the points of the levels i to i + k
    pub level-labels : (k i : ℕ) → Perm (gather (λ x. labels (plant_to n f k x)) (level n f i)) (gather (level n f) (range i (suc k)))
    unfolding plant_to
    level-labels zero i = perm-path (gather-tips (level n f i) ∙ sym (append-nil (level n f i)))
    level-labels (suc k) i =
        let g : ℕ → List ℕ = λ y. labels (plant_to n f k y) in
        perm-trans
        (perm-gather-each (λ x. labels (plant_to n f (suc k) x)) (λ x. (x ∷ []) ++ gather g (hanging n f x)) (level n f i) (λ x m. plant_to-labels k x))
        (perm-trans (perm-gather-append (λ x. x ∷ []) (λ x. gather g (hanging n f x)) (level n f i))
        (perm-append
        (perm-path (gather-tips (level n f i)))
        (perm-trans (perm-path (sym (gather-gather g (hanging n f) (level n f i))))
        (perm-trans (perm-gather g (next_level n f inside i)) (level-labels k (suc i))))))
