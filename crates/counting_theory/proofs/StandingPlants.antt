-- How many plants of a map have a given tree and root: as many as the tree has symmetries.
use mathlib.Core.Path.{◌≡◌, refl, ap, ap₂, sym, ◌∙◌}
use mathlib.Core.Bool.{true, cond}
use mathlib.Core.List.{List, [], ◌∷◌, map}
use Prim.Native.Nat.{ℕ, suc, ◌*◌, ◌<◌}
use native.Mathlib.Omega.{arith}
use lib.ListN.{length}
use Rattle.lists.specs.Order.{same}
use Rattle.lists.specs.Sort.{sort}
use Rattle.lists.specs.Select.{keep}
use Rattle.lists.proofs.Tests.{◌∈◌, cond-true}
use Rattle.lists.proofs.Comparison.{compare-lawful, same_true, same_self, same-of-path}
use Rattle.lists.proofs.Permute.{Perm, perm-refl, perm-path, perm-sym, perm-trans, perm-cons, perm-tail, perm-front, perm_append_comm, perm-length, perm-map, perm-member, total-append, length-keep, total-map}
use Rattle.lists.proofs.Sorting.{sort-perm}
use Rattle.lists.proofs.Members.{NoDup, in_head, in_tail, in_moved, nodup-tail}
use Rattle.lists.proofs.Gathering.{perm-nodup}
use Rattle.patterns.specs.Tree.{Tree, point, merge, branches, compare_tree, valid_tree}
use Rattle.patterns.specs.Table.{hanging, tree_at}
use Rattle.patterns.proofs.Trees.{compare_tree-lawful, branches-graft, valid-merge, merge-parts}
use Rattle.component_theory.proofs.Keys.{point-not-merge}
use Rattle.map_theory.specs.Plants.{Plant, tip, join, shape, root}
use Rattle.map_theory.proofs.Pictures.{boughs}
use Rattle.map_theory.proofs.Levels.{of-hanging, hanging-nodup}
use Rattle.map_theory.proofs.Theorems.{tree-equation}
use Rattle.counting_theory.specs.Symmetries.{copies, tree_symmetries}
use Rattle.counting_theory.proofs.Exactly.{Exactly, exactly-as, exactly-same, exactly-one, exactly-keep, exactly-pairs}
use Rattle.counting_theory.proofs.WholePlants.{Grown, grown_tip, grown_join, Whole, join-roots, whole-tree}

-- p is the tree T at x, where the points hs hang at x
pub record Stands (n : ℕ) (f : ℕ → ℕ) (T : Tree) (x : ℕ) (hs : List ℕ) (p : Plant) : Type 0 where
  pub rooted : root p ≡ x
  pub shaped : shape p ≡ T
  pub filled : Perm (map root (boughs p)) hs
  pub grown : Grown n f p

-- the same, where q is still to be attached
record Before (n : ℕ) (f : ℕ → ℕ) (T : Tree) (x : ℕ) (hs : List ℕ) (q p : Plant) : Type 0 where
  pub rooted : root p ≡ x
  pub shaped : shape p ≡ T
  pub filled : Perm (root q ∷ map root (boughs p)) hs
  pub grown : Grown n f p

-- q is the tree T at one of the points hs, with all that hangs there
record Last (n : ℕ) (f : ℕ → ℕ) (T : Tree) (hs : List ℕ) (q : Plant) : Type 0 where
  pub among : root q ∈ hs
  pub stands : Stands n f T (root q) (hanging n f (root q)) q

-- the last branch, and the plant without it
abbrev last_of : Plant → Plant
last_of (tip x) = tip x
last_of (join t u) = u

abbrev first_of : Plant → Plant
first_of (tip x) = tip x
first_of (join t u) = t

only-tip : {x : ℕ} (p : Plant) → shape p ≡ point → root p ≡ x → p ≡ tip x
only-tip (tip y) s r = ap tip r
only-tip (join t u) s r = point-not-merge (shape t) (shape u) (sym s)

-- the roots of the branches, the last one first
last-first : (p q : Plant) → Perm (map root (boughs (join p q))) (root q ∷ map root (boughs p))
last-first p q = perm-trans (perm-path (join-roots p q)) (perm_append_comm (map root (boughs p)) (root q ∷ []))

module _ {n : ℕ} {f : ℕ → ℕ} where
  join-parts : {t u : Plant} → Grown n f (join t u) → Grown n f t × Grown n f u × Perm (map root (boughs u)) (hanging n f (root u))
  join-parts (grown_join a b p) = (a, b, p)

  joined : {t u : Tree} {x : ℕ} {hs : List ℕ} (p q : Plant) → Last n f u hs q → Before n f t x hs q p → Stands n f (merge t u) x hs (join p q)
  joined p q l b =
      record {
        rooted = b.rooted;
        shaped = ap₂ merge b.shaped l.stands.shaped;
        filled = perm-trans (last-first p q) b.filled;
        grown = grown_join b.grown l.stands.grown l.stands.filled;
      }

  unjoin : (t u : Tree) (x : ℕ) (hs : List ℕ) (z : Plant) → Stands n f (merge t u) x hs z
      → (q : Plant) × (p : Plant) × Last n f u hs q × Before n f t x hs q p × (z ≡ join p q)
  unjoin t u x hs (tip y) s = point-not-merge t u s.shaped
  unjoin t u x hs (join p q) s =
      let e = merge-parts s.shaped in
      let g = join-parts s.grown in
      let filled : Perm (root q ∷ map root (boughs p)) hs = perm-trans (perm-sym (last-first p q)) s.filled in
      let l : Last n f u hs q = record {
        among = perm-member compare-lawful filled in_head;
        stands = record { rooted = refl; shaped = e.1; filled = g.2; grown = g.1 };
      } in
      (q, p, l, record { rooted = s.rooted; shaped = e.0; filled = filled; grown = g.0 }, refl)

module _ (n : ℕ) (f : ℕ → ℕ) (inside : (x : ℕ) → x < n → f x < n) where
  -- a plant that stands at a point with all that hangs there is the tree there
  pub stands-tree : {T : Tree} {x : ℕ} {p : Plant} → valid_tree T ≡ true → x < n → Stands n f T x (hanging n f x) p → tree_at n f x ≡ T
  stands-tree {T} {x} {p} v h s =
      let e : root p ≡ x = s.rooted in
      let w : Whole n f p = record { grown = s.grown; hung = rw e s.filled } in
      ap (tree_at n f) (sym e) ∙ whole-tree n f inside w (ap valid_tree s.shaped ∙ v) (rw e h) ∙ s.shaped

  -- the trees at the points that hang at y are the branches of the tree at y
  pub hanging-branches : (T : Tree) (y : ℕ) → y < n → tree_at n f y ≡ T → Perm (map (tree_at n f) (hanging n f y)) (branches T)
  hanging-branches T y h e =
      let bs : List Tree = map (tree_at n f) (hanging n f y) in
      perm-sym (perm-trans (perm-path (ap branches (sym e ∙ tree-equation n f inside y h) ∙ branches-graft (sort compare_tree bs))) (sort-perm compare_tree bs))

  -- k plants are the tree T at x, whichever points with the right trees hang there
  abbrev Counts : Tree → ℕ → ℕ → Type 0
  Counts T x k = (hs : List ℕ) → NoDup hs → ((y : ℕ) → y ∈ hs → y < n) → Perm (map (tree_at n f) hs) (branches T) → Exactly (Stands n f T x hs) k

  -- the last branch: one of the points with that tree, and a plant there
  exactly-last : (u : Tree) (hs : List ℕ) {k : ℕ} → valid_tree u ≡ true → NoDup hs → ((y : ℕ) → y ∈ hs → y < n) → ((y : ℕ) → Counts u y k)
      → Exactly (Last n f u hs) (length (keep (λ y. same compare_tree u (tree_at n f y)) hs) * k)
  exactly-last u hs v d b counts =
      exactly-pairs (λ y q. q)
      (λ y r.
      let e = sym (same_true compare_tree-lawful u (tree_at n f y) r.1) in
      counts y (hanging n f y) (hanging-nodup n f y) (λ z m. (of-hanging n f y m).0) (hanging-branches u y (b y r.0) e))
      (λ y y' q q' r r' s s' e. sym s.rooted ∙ ap root e ∙ s'.rooted)
      (λ y q q' r s s' e. e)
      (exactly-keep (λ y. same compare_tree u (tree_at n f y)) d)
      (λ y q r s. record { among = in_moved (sym s.rooted) r.0; stands = rw s.rooted s })
      (λ q l. (root q, q, (l.among, same-of-path compare_tree-lawful (sym (stands-tree v (b (root q) l.among) l.stands))), l.stands, refl))

  -- the plant without the last branch
  exactly-before : (t u : Tree) (x : ℕ) (hs : List ℕ) (q : Plant) {k : ℕ} → NoDup hs → ((y : ℕ) → y ∈ hs → y < n)
      → Perm (map (tree_at n f) hs) (branches (merge t u)) → root q ∈ hs → tree_at n f (root q) ≡ u → Counts t x k → Exactly (Before n f t x hs q) k
  exactly-before t u x hs q d b p m e counts =
      let s = perm-front m in
      let trees : Perm (u ∷ map (tree_at n f) s.0) (u ∷ branches t) =
      perm-trans (perm-path (ap (λ v. v ∷ map (tree_at n f) s.0) (sym e)))
      (perm-trans (perm-map (tree_at n f) (perm-sym s.1)) (perm-trans p (perm_append_comm (branches t) (u ∷ [])))) in
      exactly-same
      (λ r w. record { rooted = w.rooted; shaped = w.shaped; filled = perm-trans (perm-cons (root q) w.filled) (perm-sym s.1); grown = w.grown })
      (λ r w. record { rooted = w.rooted; shaped = w.shaped; filled = perm-tail (perm-trans w.filled s.1); grown = w.grown })
      (counts s.0 (nodup-tail (perm-nodup s.1 d)) (λ y i. b y (perm-member compare-lawful (perm-sym s.1) (in_tail i))) (perm-tail trees))

  -- as many of the points have the tree u as branches of the tree equal u
  equal-branches : (t u : Tree) (hs : List ℕ) → Perm (map (tree_at n f) hs) (branches (merge t u))
      → length (keep (λ y. same compare_tree u (tree_at n f y)) hs) ≡ suc (copies compare_tree u (branches t))
  equal-branches t u hs p =
      let g : Tree → ℕ = λ v. cond (same compare_tree u v) 1 0 in
      let one : g u ≡ 1 = cond-true 1 0 (same_self compare_tree-lawful u) in
      length-keep (λ y. same compare_tree u (tree_at n f y)) hs
      ∙ sym (total-map g (tree_at n f) hs)
      ∙ p.totals g
      ∙ omega (arith, total-append g (branches t) (u ∷ []), one)

  pub exactly-standing : (T : Tree) (x : ℕ) (hs : List ℕ) → valid_tree T ≡ true → NoDup hs → ((y : ℕ) → y ∈ hs → y < n)
      → Perm (map (tree_at n f) hs) (branches T) → Exactly (Stands n f T x hs) (tree_symmetries T)
  unfolding tree_symmetries
  exactly-standing point x [] v d b p =
      exactly-one (tip x) (record { rooted = refl; shaped = refl; filled = perm-refl; grown = grown_tip }) (λ q s. only-tip q s.shaped s.rooted)
  exactly-standing point x (y ∷ hs) v d b p = absurd (omega (arith, perm-length p))
  exactly-standing (merge t u) x hs v d b p =
      let w = valid-merge t u v in
      exactly-pairs (λ q r. join r q)
      (λ q l.
      exactly-before t u x hs q d b p l.among (stands-tree w.1 (b (root q) l.among) l.stands)
      (λ rest. exactly-standing t x rest w.0))
      (λ q q' r r' l l' m m' e. ap last_of e)
      (λ q r r' l m m' e. ap first_of e)
      (exactly-as (ap (λ k. k * tree_symmetries u) (equal-branches t u hs p)) (exactly-last u hs w.1 d b (λ y rest. exactly-standing u y rest w.1)))
      (λ q r. joined r q)
      (unjoin t u x hs)
