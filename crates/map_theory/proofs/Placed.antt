-- What a picture of a map says of its points: the roots are on cycles and the other points are not, and the tree at the root of a plant is its shape.
use mathlib.Core.Path.{◌≡◌, refl, ap, ap₂, sym, ◌∙◌}
use mathlib.Core.List.{List, [], ◌∷◌, ◌++◌, map, map-map, append-nil}
use mathlib.Core.Bool.{true, false, not}
use Prim.Native.Nat.{ℕ, zero, suc, ◌≤◌, ◌<◌}
use native.Mathlib.Omega.{arith}
use lib.Dec.{eqb}
use borrow.Author.Tests.{ne_eqb}
use lib.ListN.{length}
use Rattle.lists.specs.Sort.{sort}
use Rattle.lists.specs.Select.{keep, gather}
use Rattle.lists.proofs.Tests.{◌∈◌, by-test, either, no_both, is_false, and-true, not-of-true, each_member}
use Rattle.lists.proofs.Permute.{Perm, perm-sym, perm-trans, perm-path, perm-keep, perm-map}
use Rattle.lists.proofs.Sorting.{sort-is}
use Rattle.lists.proofs.Members.{NoDup, one, empty, in_head, in_tail, in_list, in_moved, in-cons-cases, in_append_left, in_append_right, not-in-nil, in_map, of_map, in-gather, of-gather, nodup-head, nodup-left, nodup-right, nodup-apart, nodup_range, keep_append, keep-none, gather_append}
use Rattle.lists.proofs.Places.{in_split}
use Rattle.lists.proofs.Pigeon.{nodup-below-length}
use Rattle.patterns.specs.Tree.{size, branches, graft, compare_tree, valid_tree}
use Rattle.patterns.specs.Table.{on_cycle, hangs_at, hanging, tree_to}
use Rattle.patterns.proofs.Trees.{size-positive, compare_tree-lawful, graft-branches, valid-branches}
use Rattle.lists.proofs.Gathering.{map_same, gather-gather, keep_same, perm-nodup, below_of, nodup-piece}
use Rattle.map_theory.proofs.Pictures.{Plant, tip, join, shape, root, inner, labels, boughs, Arrows, all_labels, Picture}
use Rattle.map_theory.proofs.Cycles.{cycle-image, on_cycle-closed, cycle-on}
use Rattle.map_theory.proofs.Plants.{shape-boughs, bough-size, bough-inner, inner-bough, bough-nodup, bough-arrows, inner-image, inner-reaches, keep-root, keep-bough}

-- the plants of all components
abbrev pub tops : List (List Plant) → List Plant
tops pic = gather (λ c. c) pic

-- a root is a label
pub root-label : (c : List Plant) {x : ℕ} → x ∈ map root c → x ∈ gather labels c
root-label c m = let r = of_map root c m in in-gather labels r.1 (in_moved (sym r.2) in_head)

pub roots-nodup : (c : List Plant) → NoDup (gather labels c) → NoDup (map root c)
roots-nodup [] d = empty
roots-nodup (t ∷ c) d =
    one (λ m. nodup-apart (labels t) d in_head (root-label c m)) (roots-nodup c (nodup-right (labels t) (gather labels c) d))

-- a root stands nowhere else
pub root-not-inner : (c : List Plant) {t : Plant} {x : ℕ} → NoDup (gather labels c) → t ∈ c → x ∈ inner t → x ∈ map root c → ⊥
root-not-inner [] d m i k = not-in-nil m
root-not-inner (s ∷ c) {t} {x} d m i k =
    either (in-cons-cases m)
    (λ q. let j : x ∈ inner s = rw q at i in
    either (in-cons-cases k)
    (λ e. nodup-head (nodup-left (labels s) (gather labels c) d) (in_moved e j))
    (λ k'. nodup-apart (labels s) d (in_tail j) (root-label c k')))
    (λ m'. either (in-cons-cases k)
    (λ e. nodup-apart (labels s) d (in_moved (sym e) in_head) (in-gather labels m' (in_tail i)))
    (λ k'. root-not-inner c (nodup-right (labels s) (gather labels c) d) m' i k'))

module _ (n : ℕ) (f : ℕ → ℕ) (pic : List (List Plant)) (p : Picture n f pic) where
  pub labels-nodup : NoDup (all_labels pic)
  labels-nodup = perm-nodup (perm-sym p.points) (nodup_range 0 n)

  -- every point of the picture is below n
  pub label-below : {c : List Plant} {x : ℕ} → c ∈ pic → x ∈ gather labels c → x < n
  label-below m k = below_of p.points (in-gather (gather labels) m k)

  pub component-nodup : {c : List Plant} → c ∈ pic → NoDup (gather labels c)
  component-nodup m = nodup-piece (gather labels) labels-nodup m

  pub component-roots-nodup : {c : List Plant} → c ∈ pic → NoDup (map root c)
  component-roots-nodup {c} m = roots-nodup c (component-nodup m)

  pub component-fits : {c : List Plant} → c ∈ pic → length (map root c) ≤ n
  component-fits {c} m = nodup-below-length n (component-roots-nodup m) (λ x k. label-below m (root-label c k))

  -- roots are on a cycle
  pub root-on : {c : List Plant} {x : ℕ} → c ∈ pic → x ∈ map root c → on_cycle n f x ≡ true
  root-on {c} m k = cycle-on n f (map root c) (p.cycles c m) (component-roots-nodup m) (component-fits m) k

  -- and the other points are not
  pub inner-off : {c : List Plant} {t : Plant} {x : ℕ} → c ∈ pic → t ∈ c → x ∈ inner t → on_cycle n f x ≡ false
  inner-off {c} {t} {x} m k i =
      is_false (on_cycle n f x) (λ e. root-not-inner c (component-nodup m) k i
      (on_cycle-closed n f (λ z. z ∈ map root c) (λ z j. cycle-image f (p.cycles c m) j) x (root t) e
      (inner-reaches (p.arrows c t m k) i) (in_map root k)))

  -- only the points inside a plant hang at a point
  root-hangs-not : {c : List Plant} {t : Plant} (x : ℕ) → c ∈ pic → t ∈ c → hangs_at n f x (root t) ≡ false
  unfolding hangs_at
  root-hangs-not {c} {t} x m k =
      is_false (hangs_at n f x (root t)) (λ e. no_both (root-on m (in_map root k))
      (not-of-true (on_cycle n f (root t)) (and-true (eqb (f (root t)) x) (not (on_cycle n f (root t))) e).1))

  inner-hangs : {c : List Plant} {t : Plant} {y : ℕ} (x : ℕ) → c ∈ pic → t ∈ c → y ∈ inner t → hangs_at n f x y ≡ eqb (f y) x
  unfolding hangs_at
  inner-hangs {y = y} x m k i = rw (inner-off m k i) (by-test (eqb (f y) x) (λ t. rw t) (λ t. rw t))

  hanging-elsewhere : (s : List Plant) (x : ℕ) → ((t : Plant) → t ∈ s → t ∈ tops pic) → (x ∈ gather labels s → ⊥) → keep (hangs_at n f x) (gather labels s) ≡ []
  hanging-elsewhere s x h k =
      keep-none (hangs_at n f x) (gather labels s) (λ y m.
      let r = of-gather labels s m in
      let q = of-gather (λ c. c) pic (h r.0 r.1) in
      either (in-cons-cases r.2)
      (λ e. rw e (root-hangs-not x q.1 q.2))
      (λ i. inner-hangs x q.1 q.2 i
      ∙ ne_eqb (f y) x (λ e. k (in_moved e (in-gather labels r.1 (inner-image (p.arrows q.0 r.0 q.1 q.2) i))))))

  -- what hangs at a point of a plant are the points of the plant that go there
  pub hanging-inside : {c : List Plant} {t : Plant} → c ∈ pic → t ∈ c → (x : ℕ) → x ∈ labels t
      → Perm (hanging n f x) (keep (λ y. eqb (f y) x) (inner t))
  unfolding hanging
  hanging-inside {c} {t} m k x i =
      let s = in_split (in-gather (λ c. c) m k) in
      let a = s.0 in
      let b = s.1 in
      let cut : all_labels pic ≡ gather labels a ++ (labels t ++ gather labels b) =
      sym (gather-gather labels (λ c. c) pic) ∙ ap (gather labels) s.2 ∙ gather_append labels a (t ∷ b) in
      let d : NoDup (gather labels a ++ (labels t ++ gather labels b)) = rw cut at labels-nodup in
      let d' = nodup-right (gather labels a) (labels t ++ gather labels b) d in
      let ea : keep (hangs_at n f x) (gather labels a) ≡ [] =
      hanging-elsewhere a x (λ u j. in_list (sym s.2) (in_append_left (t ∷ b) j))
      (λ j. nodup-apart (gather labels a) d j (in_append_left (gather labels b) i)) in
      let eb : keep (hangs_at n f x) (gather labels b) ≡ [] =
      hanging-elsewhere b x (λ u j. in_list (sym s.2) (in_append_right a (in_tail j)))
      (λ j. nodup-apart (labels t) d' i j) in
      let et : keep (hangs_at n f x) (labels t) ≡ keep (λ y. eqb (f y) x) (inner t) =
      rw (root-hangs-not x m k) (keep_same (hangs_at n f x) (λ y. eqb (f y) x) (inner t) (λ y j. inner-hangs x m k j)) in
      let e : keep (hangs_at n f x) (all_labels pic) ≡ keep (λ y. eqb (f y) x) (inner t) =
      ap (keep (hangs_at n f x)) cut
      ∙ keep_append (hangs_at n f x) (gather labels a) (labels t ++ gather labels b)
      ∙ ap₂ ◌++◌ ea (keep_append (hangs_at n f x) (labels t) (gather labels b) ∙ ap₂ ◌++◌ et eb ∙ append-nil (keep (λ y. eqb (f y) x) (inner t))) in
      perm-trans (perm-keep (hangs_at n f x) (perm-sym p.points)) (perm-path e)

-- a plant whose points are those that the map gives it, with branches in order
pub record Placed (n : ℕ) (f : ℕ → ℕ) (t : Plant) : Type 0 where
  pub arrows : Arrows f t
  pub apart : NoDup (labels t)
  pub hang : (x : ℕ) → x ∈ labels t → Perm (hanging n f x) (keep (λ y. eqb (f y) x) (inner t))
  pub valid : valid_tree (shape t) ≡ true

module _ {n : ℕ} {f : ℕ → ℕ} where
  -- its branches are such plants
  pub placed-bough : (t : Plant) {u : Plant} → Placed n f t → u ∈ boughs t → Placed n f u
  placed-bough t {u} q m =
      record {
        arrows = bough-arrows m q.arrows;
        apart = bough-nodup t m q.apart;
        hang = λ x k. perm-trans (q.hang x (in_tail (bough-inner t m k))) (perm-path (keep-bough q.arrows q.apart m x k));
        valid = each_member valid_tree (valid-branches (shape t) q.valid).0 (in_list (shape-boughs t) (in_map shape m));
      }

  -- the tree at the root is the shape
  pub placed-tree : (k : ℕ) (t : Plant) → size (shape t) ≤ suc k → Placed n f t → tree_to n f k (root t) ≡ shape t
  unfolding tree_to
  placed-tree zero (tip x) h q = refl
  placed-tree zero (join t u) h q = absurd (omega (arith, size-positive (shape t), size-positive (shape u)))
  placed-tree (suc k) t h q =
      let trees : map (tree_to n f k) (map root (boughs t)) ≡ branches (shape t) =
      map-map (tree_to n f k) root (boughs t)
      ∙ map_same (λ u. tree_to n f k (root u)) shape (boughs t)
      (λ u m. placed-tree k u (omega (arith, bough-size t m)) (placed-bough t q m))
      ∙ shape-boughs t in
      let hung : Perm (hanging n f (root t)) (map root (boughs t)) =
      perm-trans (q.hang (root t) in_head) (perm-path (keep-root q.arrows q.apart)) in
      let sorted : sort compare_tree (map (tree_to n f k) (hanging n f (root t))) ≡ branches (shape t) =
      sort-is compare_tree-lawful (valid-branches (shape t) q.valid).1
      (perm-trans (perm-map (tree_to n f k) hung) (perm-path trees)) in
      ap graft sorted ∙ graft-branches (shape t)

  -- every point of such a plant is the root of one
  pub placed_at : (k : ℕ) (t : Plant) {x : ℕ} → size (shape t) ≤ k → Placed n f t → x ∈ labels t
      → (u : Plant) × Placed n f u × (size (shape u) ≤ size (shape t)) × (x ≡ root u)
  placed_at zero t h q m = absurd (omega (arith, size-positive (shape t)))
  placed_at (suc k) t h q m =
      either (in-cons-cases m)
      (λ e. (t, q, omega arith, e))
      (λ i. let r = inner-bough t i in
      let s = placed_at k r.0 (omega (arith, bough-size t r.1)) (placed-bough t q r.1) r.2 in
      (s.0, s.1, omega (arith, bough-size t r.1, s.2), s.3))
