-- Trees and their codes: a code determines its tree and where it ends, trees are linearly ordered, and branches determine a tree.
use mathlib.Core.Path.{◌≡◌, refl, ap, sym, ◌∙◌}
use mathlib.Core.Bool.{true, cond, ◌&&◌}
use mathlib.Core.List.Memᴰ
use mathlib.Core.List.{List, [], ◌∷◌, ◌++◌, append_assoc, append-nil, append_cancel_left, head-eq_of_cons-eq}
use Prim.Native.Nat.{Ordering}
use Prim.Native.Nat.{ℕ, suc, ◌+◌, ◌-◌, ◌<◌, compare}
use native.Mathlib.Omega.{arith}
use lib.Dec.{eqb}
use borrow.Author.Tests.{ne_eqb}
use lib.ListN.{length, length-append}
use Rattle.lists.specs.Order.{lex, then, at_most}
use Rattle.lists.specs.Select.{each, gather, total}
use Rattle.lists.proofs.Tests.{◌∈◌, either, and-true, true-and, each_append, each-cons, each-head}
use Rattle.lists.proofs.Comparison.{Lawful, by_order, on-lawful, compare-lt, eq-of-compare, at_most-self, at_most-trans, lt-at_most}
use Rattle.lists.proofs.Lex.{lex-lawful, lex-compare-lawful, lex-append, lex-cons-lt}
use Rattle.lists.proofs.Members.{gather_append, in-append-cases, in_append_right, in-single, in_head}
use Rattle.lists.proofs.Permute.{total-append}
use Rattle.lists.proofs.Sorting.{Sorted, sorted_nil, sorted-one, sorted-append, sorted-left, sorted-across}
use Rattle.patterns.specs.Tree.{Tree, point, merge, size, below, code, branches, graft_on, graft, compare_tree, last_at_most, valid_tree}
use Rattle.patterns.specs.Component.{Component, points, flat, compare_component}
use Rattle.patterns.specs.System.{compare_system}

-- Sizes and lengths.

-- a tree has a point
pub size-positive : (t : Tree) → 0 < size t
size-positive point = omega arith
size-positive (merge t u) = omega (arith, size-positive t)

pub length-below : (t : Tree) → suc (length (below t)) ≡ size t
length-below point = refl
length-below (merge t u) = omega (arith, length-append (below t) (code u), length-below t, length-below u)

-- a code has as many numbers as its tree has points
pub length-code : (t : Tree) → length (code t) ≡ size t
length-code t = length-below t

pub length-flat : (c : Component) → length (flat c) ≡ points c
length-flat [] = refl
length-flat (t ∷ c) = omega (arith, length-append (code t) (flat c), length-code t, length-flat c)

pub points-append : (c d : Component) → points (c ++ d) ≡ points c + points d
points-append c d = total-append size c d

pub flat_append : (c d : Component) → flat (c ++ d) ≡ flat c ++ flat d
flat_append c d = gather_append code c d

-- Reading codes from the right: a number s takes as branches the first of the trees read so far, until s points are used.

-- t takes the first trees as further branches, until they have k points
abbrev give : Tree → ℕ → List Tree → List Tree
give t k [] = t ∷ []
give t k (u ∷ us) = cond (eqb k 0) (t ∷ u ∷ us) (give (merge t u) (k - size u) us)

abbrev read : List ℕ → List Tree
read [] = []
read (s ∷ xs) = give point (s - 1) (read xs)

give-none : (t : Tree) (ts : List Tree) → give t 0 ts ≡ t ∷ ts
give-none t [] = refl
give-none t (u ∷ us) = refl

give-branches : (t : Tree) (k n : ℕ) (ts : List Tree) → suc n ≡ size t + k → give point n (branches t ++ ts) ≡ give t k ts
give-branches point k n ts h =
    let e : n ≡ k = omega arith in
    rw e
give-branches (merge t u) k n ts h =
    let p = size-positive u in
    let e : size u + k - size u ≡ k = omega arith in
    rw append_assoc
    (give-branches t (size u + k) n (u ∷ ts) (omega arith)
    ∙ rw (ne_eqb (size u + k) 0 (λ q. omega arith), e, give))

read_below : (t : Tree) (xs : List ℕ) → read (below t ++ xs) ≡ branches t ++ read xs
read_below point xs = refl
read_below (merge t u) xs =
    let p = size-positive u in
    ap read (append_assoc (below t) (code u) xs)
    ∙ read_below t (code u ++ xs)
    ∙ ap (λ l. branches t ++ l) (ap (give point (size u - 1)) (read_below u xs) ∙ give-branches u 0 (size u - 1) (read xs) (omega arith) ∙ give-none u (read xs))
    ∙ sym (append_assoc (branches t) (u ∷ []) (read xs))

read-code : (t : Tree) (xs : List ℕ) → read (code t ++ xs) ≡ t ∷ read xs
read-code t xs =
    let p = size-positive t in
    ap (give point (size t - 1)) (read_below t xs) ∙ give-branches t 0 (size t - 1) (read xs) (omega arith) ∙ give-none t (read xs)

read-flat : (c : Component) → read (flat c) ≡ c
read-flat [] = refl
read-flat (t ∷ c) = read-code t (flat c) ∙ ap (λ l. t ∷ l) (read-flat c)

-- a code tells its tree, and where it ends
pub code-prefix : (t u : Tree) (r s : List ℕ) → code t ++ r ≡ code u ++ s → (t ≡ u) × (r ≡ s)
code-prefix t u r s e =
    let p : t ≡ u = head-eq_of_cons-eq (sym (read-code t r) ∙ ap read e ∙ read-code u s) in
    (p, append_cancel_left (code u) r s (ap (λ v. code v ++ r) (sym p) ∙ e))

-- different trees have different codes
pub code-injective : (t u : Tree) → code t ≡ code u → t ≡ u
code-injective t u e = (code-prefix t u [] [] (ap (λ l. l ++ []) e)).0

-- different components have different lists of numbers
pub flat-injective : (c d : Component) → flat c ≡ flat d → c ≡ d
flat-injective c d e = sym (read-flat c) ∙ ap read e ∙ read-flat d

-- The orders.

-- trees are linearly ordered
pub compare_tree-lawful : Lawful compare_tree
unfolding compare_tree
compare_tree-lawful = on-lawful code lex-compare-lawful code-injective

pub compare_component-lawful : Lawful compare_component
unfolding compare_component
compare_component-lawful = lex-lawful compare_tree-lawful

pub compare_system-lawful : Lawful compare_system
unfolding compare_system
compare_system-lawful = lex-lawful compare_component-lawful

-- fewer points come first
pub smaller-less : (t u : Tree) → size t < size u → compare_tree t u ≡ Ordering.lt
unfolding compare_tree
smaller-less t u h = lex-cons-lt compare (size t) (size u) (below t) (below u) (compare-lt (size t) (size u) h)

pub point-less : (t u : Tree) → compare_tree point (merge t u) ≡ Ordering.lt
point-less t u = smaller-less point (merge t u) (omega (arith, size-positive t, size-positive u))

-- the tree of one point is the least
pub point-least : (t : Tree) → at_most compare_tree point t ≡ true
point-least point = at_most-self compare_tree-lawful point
point-least (merge t u) = lt-at_most compare_tree-lawful point (merge t u) (point-less t u)

-- both parts are less than what they are merged to
pub less-merge-left : (t u : Tree) → compare_tree t (merge t u) ≡ Ordering.lt
less-merge-left t u = smaller-less t (merge t u) (omega (arith, size-positive u))

pub less-merge-right : (t u : Tree) → compare_tree u (merge t u) ≡ Ordering.lt
less-merge-right t u = smaller-less u (merge t u) (omega (arith, size-positive t))

-- comparing tree by tree is comparing the lists of numbers
pub compare_component-flat : (c d : Component) → compare_component c d ≡ lex compare (flat c) (flat d)
unfolding compare_component compare_tree
compare_component-flat [] [] = refl
compare_component-flat [] (u ∷ d) = refl
compare_component-flat (t ∷ c) [] = refl
compare_component-flat (t ∷ c) (u ∷ d) =
    by_order (compare (size t) (size u))
    (λ l. rw l)
    (λ q.
    ap (then (compare_tree t u)) (compare_component-flat c d)
    ∙ sym (lex-append compare (code t) (code u) (flat c) (flat d) (length-code t ∙ eq-of-compare (size t) (size u) q ∙ sym (length-code u))))
    (λ g. rw g)

-- Branches.

pub below-branches : (t : Tree) → below t ≡ flat (branches t)
below-branches point = refl
below-branches (merge t u) =
    ap (λ l. l ++ code u) (below-branches t)
    ∙ ap (λ l. flat (branches t) ++ l) (sym (append-nil (code u)))
    ∙ sym (flat_append (branches t) (u ∷ []))

-- Definition 1: a tree's code is its number of points and then the codes of its branches
pub code-branches : (t : Tree) → code t ≡ size t ∷ gather code (branches t)
code-branches t = ap (λ l. size t ∷ l) (below-branches t)

pub size-branches : (t : Tree) → size t ≡ suc (points (branches t))
size-branches t = sym (length-code t) ∙ ap length (code-branches t) ∙ ap suc (length-flat (branches t))

graft_on-append : (t : Tree) (a b : List Tree) → graft_on t (a ++ b) ≡ graft_on (graft_on t a) b
graft_on-append t [] b = refl
graft_on-append t (u ∷ a) b = graft_on-append (merge t u) a b

-- the last branch is the one merged last
pub graft-snoc : (bs : List Tree) (u : Tree) → graft (bs ++ (u ∷ [])) ≡ merge (graft bs) u
graft-snoc bs u = graft_on-append point bs (u ∷ [])

-- a tree is given by its branches
pub graft-branches : (t : Tree) → graft (branches t) ≡ t
graft-branches point = refl
graft-branches (merge t u) = graft-snoc (branches t) u ∙ ap (λ v. merge v u) (graft-branches t)

branches-graft_on : (t : Tree) (bs : List Tree) → branches (graft_on t bs) ≡ branches t ++ bs
branches-graft_on t [] = sym (append-nil (branches t))
branches-graft_on t (u ∷ bs) = branches-graft_on (merge t u) bs ∙ append_assoc (branches t) (u ∷ []) bs

-- and any list of trees can be the branches
pub branches-graft : (bs : List Tree) → branches (graft bs) ≡ bs
branches-graft bs = branches-graft_on point bs

pub size-graft : (bs : List Tree) → size (graft bs) ≡ suc (total size bs)
size-graft bs = size-branches (graft bs) ∙ ap (λ l. suc (total size l)) (branches-graft bs)

-- Valid trees.

-- the last branch is at most u: so is every branch of a sorted list
last-each : (t u : Tree) → Sorted compare_tree (branches t) → last_at_most t u ≡ true → (v : Tree) → v ∈ branches t → at_most compare_tree v u ≡ true
unfolding last_at_most
last-each point u s e v m = absurd (Memᴰ.not-nil m)
last-each (merge t w) u s e v m =
    either (in-append-cases (branches t) m)
    (λ k. at_most-trans compare_tree-lawful v w u (sorted-across (branches t) s k in_head) e)
    (λ k. ap (λ x. at_most compare_tree x u) (in-single k) ∙ e)

each_last : (t u : Tree) → ((v : Tree) → v ∈ branches t → at_most compare_tree v u ≡ true) → last_at_most t u ≡ true
unfolding last_at_most
each_last point u h = refl
each_last (merge t w) u h = h w (in_append_right (branches t) in_head)

-- a tree that is valid by merges has valid branches in nondecreasing order
pub valid-branches : (t : Tree) → valid_tree t ≡ true → (each valid_tree (branches t) ≡ true) × Sorted compare_tree (branches t)
unfolding valid_tree
valid-branches point e = (refl, sorted_nil)
valid-branches (merge t u) e =
    let a = and-true (valid_tree t && valid_tree u) (last_at_most t u) e in
    let b = and-true (valid_tree t) (valid_tree u) a.0 in
    let r = valid-branches t b.0 in (
      each_append valid_tree (branches t) (u ∷ []) ∙ true-and r.0 (each-cons valid_tree {x = u} [] b.1 refl),
      sorted-append r.1 (sorted-one u)
          (λ v w i j. ap (at_most compare_tree v) (in-single j) ∙ last-each t u r.1 a.1 v i),
    )

-- and valid branches in nondecreasing order make a valid tree
pub branches-valid : (t : Tree) → each valid_tree (branches t) ≡ true → Sorted compare_tree (branches t) → valid_tree t ≡ true
unfolding valid_tree
branches-valid point e s = refl
branches-valid (merge t u) e s =
    let a = and-true (each valid_tree (branches t)) (each valid_tree (u ∷ [])) (sym (each_append valid_tree (branches t) (u ∷ [])) ∙ e) in
    true-and
    (true-and (branches-valid t a.0 (sorted-left (branches t) (u ∷ []) s)) (each-head valid_tree u [] a.1))
    (each_last t u (λ v m. sorted-across (branches t) s m in_head))

-- a valid merge: both parts are valid, and the last branch of the first is at most the second
pub valid-merge : (t u : Tree) → valid_tree (merge t u) ≡ true → (valid_tree t ≡ true) × (valid_tree u ≡ true) × (last_at_most t u ≡ true)
unfolding valid_tree
valid-merge t u e =
    let a = and-true (valid_tree t && valid_tree u) (last_at_most t u) e in
    let b = and-true (valid_tree t) (valid_tree u) a.0 in
    (b.0, b.1, a.1)

pub merge-valid : (t u : Tree) → valid_tree t ≡ true → valid_tree u ≡ true → last_at_most t u ≡ true → valid_tree (merge t u) ≡ true
unfolding valid_tree
merge-valid t u e f h = true-and (true-and e f) h

-- the two parts of a merge
pub merge-parts : {t u t' u' : Tree} → merge t u ≡ merge t' u' → (t ≡ t') × (u ≡ u')
merge-parts e = (cc, cc)
