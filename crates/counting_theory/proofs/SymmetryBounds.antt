-- How large the symmetries of a tree and of trees side by side are at most: factorials of their points, so that no product in between exceeds the one of all points.
use mathlib.Core.Path.{◌≡◌, subst}
use mathlib.Core.Bool.{cond}
use mathlib.Core.List.{List, [], ◌∷◌, ◌++◌}
use Prim.Native.Nat.{ℕ, zero, suc, ◌+◌, ◌-◌, ◌*◌, ◌≤◌, ◌<◌}
use native.Mathlib.Nat.{add-zero, add-suc, zero-add, suc-add, one-mul, mul_assoc, mul-le-mul, le-mul_of_pos_right, mul_comm, mul-pos, le_refl, le_trans}
use native.Mathlib.Omega.{arith}
use Rattle.lists.specs.Order.{same}
use Rattle.lists.proofs.Tests.{by-test}
use Rattle.lists.proofs.Permute.{total-append, total_mono}
use Rattle.patterns.specs.Tree.{Tree, point, merge, size, branches, compare_tree}
use Rattle.patterns.specs.Component.{Component, points}
use Rattle.patterns.proofs.Trees.{size-positive, size-branches}
use Rattle.counting_theory.specs.Symmetries.{factorial, product, copies, tree_symmetries}

pub factorial-rises : (n : ℕ) → factorial n ≤ factorial (suc n)
factorial-rises n = rw (mul_comm (suc n) (factorial n)) (le-mul_of_pos_right {m = suc n} (factorial n) (omega arith))

factorial-further : (m k : ℕ) → factorial m ≤ factorial (m + k)
factorial-further m zero = rw (add-zero m) (le_refl (factorial m))
factorial-further m (suc k) = rw (add-suc m k) (le_trans (factorial-further m k) (factorial-rises (m + k)))

pub factorial-le : (m n : ℕ) → m ≤ n → factorial m ≤ factorial n
factorial-le m n h =
    let sum : m + (n - m) ≡ n = omega arith in
    subst (λ k. factorial m ≤ factorial k) sum (factorial-further m (n - m))

pub factorial-add : (a b : ℕ) → factorial a * factorial b ≤ factorial (a + b)
factorial-add zero b = rw (zero-add b, one-mul (factorial b)) (le_refl (factorial b))
factorial-add (suc a) b =
    rw (suc-add a b, mul_assoc (suc a) (factorial a) (factorial b)) (mul-le-mul {n₁ = suc a} {n₂ = suc (a + b)} (omega arith) (factorial-add a b))

pub copies-points : (u : Tree) (l : List Tree) → copies compare_tree u l ≤ points l
copies-points u l =
    total_mono (λ t. cond (same compare_tree u t) 1 0) size l
    (λ t m. by-test (same compare_tree u t) (λ e. rw e (size-positive t)) (λ e. rw e (omega arith)))

pub tree-bound : (t : Tree) → tree_symmetries t ≤ factorial (points (branches t))
unfolding tree_symmetries
tree-bound point = omega arith
tree-bound (merge t u) =
    let m = points (branches t) in
    let k = points (branches u) in
    let all : points (branches t ++ (u ∷ [])) ≡ suc (k + m) = omega (arith, total-append size (branches t) (u ∷ []), size-branches u) in
    let few : suc (copies compare_tree u (branches t)) ≤ suc m = omega (arith, copies-points u (branches t)) in
    let more : suc m ≤ suc (k + m) = omega arith in
    rw all
    (le_trans
    (mul-le-mul (mul-le-mul few (tree-bound u)) (tree-bound t))
    (rw (mul_assoc (suc m) (factorial k) (factorial m)) (mul-le-mul more (factorial-add k m))))

pub product-bound : (c : Component) → product tree_symmetries c ≤ factorial (points c)
product-bound [] = omega arith
product-bound (t ∷ c) =
    let k = points (branches t) in
    let fewer : k + points c ≤ size t + points c = omega (arith, size-branches t) in
    le_trans (mul-le-mul (tree-bound t) (product-bound c)) (le_trans (factorial-add k (points c)) (factorial-le (k + points c) (size t + points c) fewer))

pub tree-positive : (t : Tree) → 0 < tree_symmetries t
unfolding tree_symmetries
tree-positive point = omega arith
tree-positive (merge t u) =
    mul-pos (mul-pos {m = suc (copies compare_tree u (branches t))} (omega arith) (tree-positive u)) (tree-positive t)
