-- Plants in which every point, or every point but the root, has just the points that hang there as branches; they are the trees of the map, and hold its points.
use mathlib.Core.Path.{◌≡◌, refl, ap, ap₂, sym, ◌∙◌}
use mathlib.Core.Bool.{true}
use mathlib.Core.List.{List, [], ◌∷◌, ◌++◌, map, map-append, append-nil}
use Prim.Native.Nat.{ℕ, zero, suc, ◌≤◌, ◌<◌}
use native.Mathlib.Omega.{arith}
use Rattle.lists.specs.Select.{gather}
use Rattle.lists.proofs.Tests.{◌∈◌}
use Rattle.lists.proofs.Permute.{Perm, perm-refl, perm-path, perm-sym, perm-trans, perm-cons, perm-append, perm-map, perm-gather, perm-member}
use Rattle.lists.proofs.Comparison.{compare-lawful}
use Rattle.lists.proofs.Members.{in_head, in_list, in_append_left, in_append_right, gather_append}
use Rattle.lists.proofs.Sorting.{sort-is}
use Rattle.patterns.specs.Tree.{size, branches, graft, valid_tree}
use Rattle.patterns.specs.Table.{hanging, tree_at}
use Rattle.patterns.proofs.Trees.{size-positive, compare_tree-lawful, graft-branches, valid-branches, valid-merge}
use Rattle.map_theory.specs.Plants.{Plant, tip, join, shape, root, labels, plant_to}
use Rattle.map_theory.proofs.Pictures.{boughs, Arrows, arrows_tip, arrows_join}
use Rattle.map_theory.proofs.Plants.{bough-size, keep-root}
use Rattle.map_theory.proofs.Placed.{Placed, placed-bough}
use Rattle.map_theory.proofs.Levels.{of-hanging}
use Rattle.map_theory.proofs.PlantAt.{plant_to-labels}
use Rattle.map_theory.proofs.Theorems.{tree-equation}

-- every branch, and every branch of a branch, has just the points that hang at its root as branches
pub data Grown (n : ℕ) (f : ℕ → ℕ) : Plant → Type 0 where
  grown_tip : {x : ℕ} → Grown n f (tip x)
  grown_join : {t u : Plant} → Grown n f t → Grown n f u → Perm (map root (boughs u)) (hanging n f (root u)) → Grown n f (join t u)

-- and so has the root
pub record Whole (n : ℕ) (f : ℕ → ℕ) (t : Plant) : Type 0 where
  pub grown : Grown n f t
  pub hung : Perm (map root (boughs t)) (hanging n f (root t))

pub join-roots : (t u : Plant) → map root (boughs (join t u)) ≡ map root (boughs t) ++ (root u ∷ [])
join-roots t u = map-append root (boughs t) (u ∷ [])

-- the roots of the branches: those of the earlier ones, and that of the last
earlier-root : (t u : Plant) {x : ℕ} → x ∈ map root (boughs t) → x ∈ map root (boughs (join t u))
earlier-root t u m = in_list (sym (join-roots t u)) (in_append_left (root u ∷ []) m)

last-root : (t u : Plant) → root u ∈ map root (boughs (join t u))
last-root t u = in_list (sym (join-roots t u)) (in_append_right (map root (boughs t)) in_head)

module _ (n : ℕ) (f : ℕ → ℕ) where
  -- points that are those that hang at x go to x and are below n
  of-hung : {x y : ℕ} {l : List ℕ} → Perm l (hanging n f x) → y ∈ l → (y < n) × (f y ≡ x)
  of-hung {x} p m =
      let r = of-hanging n f x (perm-member compare-lawful p m) in
      (r.0, r.1)

  grown-boughs : (t : Plant) → ((u : Plant) → u ∈ boughs t → Whole n f u) → Grown n f t
  grown-boughs (tip x) h = grown_tip
  grown-boughs (join t u) h =
      let w = h u (in_append_right (boughs t) in_head) in
      grown_join (grown-boughs t (λ v m. h v (in_append_left (u ∷ []) m))) w.grown w.hung

  pub placed-whole : (k : ℕ) (t : Plant) → size (shape t) ≤ k → Placed n f t → Whole n f t
  placed-whole zero t h q = absurd (omega (arith, size-positive (shape t)))
  placed-whole (suc k) t h q =
      record {
        grown = grown-boughs t (λ u m. placed-whole k u (omega (arith, bough-size t m)) (placed-bough t q m));
        hung = perm-sym (perm-trans (q.hang (root t) in_head) (perm-path (keep-root q.arrows q.apart)));
      }

  grown-arrows : {t : Plant} → Grown n f t → ((x : ℕ) → x ∈ map root (boughs t) → f x ≡ root t) → Arrows f t
  grown-arrows grown_tip h = arrows_tip
  grown-arrows (grown_join {t = t} {u = u} a b p) h =
      arrows_join (grown-arrows a (λ x m. h x (earlier-root t u m))) (grown-arrows b (λ x m. (of-hung p m).1)) (h (root u) (last-root t u))

  pub whole-arrows : {t : Plant} → Whole n f t → Arrows f t
  whole-arrows w = grown-arrows w.grown (λ x m. (of-hung w.hung m).1)

  -- the points of a plant whose branches are those that hang at its root
  hung-labels : (k : ℕ) (t : Plant) → Perm (labels t) (root t ∷ gather (λ y. labels (plant_to n f k y)) (map root (boughs t)))
      → Perm (map root (boughs t)) (hanging n f (root t)) → Perm (labels t) (labels (plant_to n f (suc k) (root t)))
  hung-labels k t e p =
      perm-trans e
      (perm-trans (perm-cons (root t) (perm-gather (λ y. labels (plant_to n f k y)) p)) (perm-sym (plant_to-labels n f k (root t))))

  grown-labels : (k : ℕ) {t : Plant} → Grown n f t → size (shape t) ≤ suc k
      → Perm (labels t) (root t ∷ gather (λ y. labels (plant_to n f k y)) (map root (boughs t)))
  grown-labels k grown_tip h = perm-refl
  grown-labels zero (grown_join {t = t} {u = u} a b p) h = absurd (omega (arith, size-positive (shape t), size-positive (shape u)))
  grown-labels (suc k) (grown_join {t = t} {u = u} a b p) h =
      let g : ℕ → List ℕ = λ y. labels (plant_to n f (suc k) y) in
      let roots : gather g (map root (boughs (join t u))) ≡ gather g (map root (boughs t)) ++ g (root u) =
      ap (gather g) (join-roots t u)
      ∙ gather_append g (map root (boughs t)) (root u ∷ [])
      ∙ ap (λ l. gather g (map root (boughs t)) ++ l) (append-nil (g (root u))) in
      perm-trans
      (perm-append
      (grown-labels (suc k) a (omega arith))
      (hung-labels k u (grown-labels k b (omega (arith, size-positive (shape t)))) p))
      (perm-path (ap (λ l. root t ∷ l) (sym roots)))

  pub whole-labels : (k : ℕ) {t : Plant} → Whole n f t → size (shape t) ≤ suc k → Perm (labels t) (labels (plant_to n f (suc k) (root t)))
  whole-labels k {t} w h = hung-labels k t (grown-labels k w.grown h) w.hung

  module _ (inside : (x : ℕ) → x < n → f x < n) where
    -- a plant whose branches are the trees that hang at its root is the tree there
    tree-from : (u : Plant) → map (tree_at n f) (map root (boughs u)) ≡ branches (shape u) → Perm (map root (boughs u)) (hanging n f (root u))
        → valid_tree (shape u) ≡ true → root u < n → tree_at n f (root u) ≡ shape u
    tree-from u e p v h =
        tree-equation n f inside (root u) h
        ∙ ap graft (sort-is compare_tree-lawful (valid-branches (shape u) v).1 (perm-trans (perm-map (tree_at n f) (perm-sym p)) (perm-path e)))
        ∙ graft-branches (shape u)

    pub boughs-trees : {t : Plant} → Grown n f t → valid_tree (shape t) ≡ true → ((x : ℕ) → x ∈ map root (boughs t) → x < n)
        → map (tree_at n f) (map root (boughs t)) ≡ branches (shape t)
    boughs-trees grown_tip v h = refl
    boughs-trees (grown_join {t = t} {u = u} a b p) v h =
        let w = valid-merge (shape t) (shape u) v in
        ap (map (tree_at n f)) (join-roots t u)
        ∙ map-append (tree_at n f) (map root (boughs t)) (root u ∷ [])
        ∙ ap₂ (λ l r. l ++ (r ∷ []))
        (boughs-trees a w.0 (λ x m. h x (earlier-root t u m)))
        (tree-from u (boughs-trees b w.1 (λ x m. (of-hung p m).0)) p w.1 (h (root u) (last-root t u)))

    pub whole-tree : {t : Plant} → Whole n f t → valid_tree (shape t) ≡ true → root t < n → tree_at n f (root t) ≡ shape t
    whole-tree {t} w v h = tree-from t (boughs-trees w.grown v (λ x m. (of-hung w.hung m).0)) w.hung v h
