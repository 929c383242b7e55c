-- Single points that come first: the trees of one point that a component begins with, and the branches of one point that a tree begins with.
use mathlib.Core.Path.{◌≡◌, refl, ap, sym, ◌∙◌}
use mathlib.Core.Bool.{true}
use mathlib.Core.List.{List, [], ◌∷◌, ◌++◌}
use Rattle.std.proofs.Common.{◌<◌, ◌≢◌, nat_eq, unwrap_or, Option, MatchOption}
use Rattle.std.specs.List.{prefix_len, AllWithin, HoldsAt}
use Rattle.std.proofs.lemmas.Iterator.{index_from_first}
use Rattle.std.proofs.lemmas.Bool.Decides.{nat_tests}
use Prim.Native.Nat.{ℕ, zero, suc, ◌+◌, ◌-◌, ◌≤◌, max}
use native.Mathlib.Omega.{arith}
use lib.Seq.{take_all}
use Rattle.std.proofs.lemmas.List.{length-map}
use Rattle.trees.specs.Codes.{codes}
use Rattle.trees.proofs.TreeCodes.{codes-flat}
use lib.ListN.{length, take, length-drop, drop, replicate}
use Rattle.patterns.specs.Tree.{Tree, point, merge, size, code, branches, graft_on, compare_tree, last_at_most, valid_tree}
use Rattle.patterns.specs.Component.{Component, flat}
use Rattle.patterns.proofs.Trees.{size-positive, length-flat, below-branches, graft-branches, merge-valid}
use Rattle.memory.specs.Memory.{HeldTree}
use Rattle.component_theory.proofs.Generation.{length-points}
use Rattle.trees.specs.Beginnings.{last_start, leading_points, star}
use Rattle.trees.proofs.Walks.{Inside}

-- the place of the first number that is not 1
leading-ones : (c : Component) → prefix_len (λ x. nat_eq x 1) (flat c) ≡ leading_points c
leading-ones [] = refl
leading-ones (point ∷ c) = grind (arith, leading-ones c)
leading-ones (merge t u ∷ c) = grind (arith, nat_tests, size-positive t, size-positive u)

pub leading-first : (c : Component) (r : Option ℕ)
    → MatchOption r (AllWithin (λ x. x ≡ 1) (flat c) 0 (length (flat c))) (λ i. (i < length (flat c)) × HoldsAt (λ x. x ≢ 1) (flat c) i × AllWithin (λ x. x ≡ 1) (flat c) 0 i)
    → unwrap_or r (length (flat c)) ≡ leading_points c
leading-first c r h =
    let ones : List ℕ → ℕ = prefix_len (λ x. nat_eq x 1) in
    sym (index_from_first ones (λ x. x ≢ 1) (λ x. x ≡ 1) refl (λ x xs h. grind (arith, nat_tests)) (λ x xs h. grind (arith, nat_tests)) (flat c) r h) ∙ leading-ones c

leading-split : (c : Component) → replicate (leading_points c) point ++ drop (leading_points c) c ≡ c
leading-split [] = refl
leading-split (point ∷ c) = ap (λ l. point ∷ l) (leading-split c)
leading-split (merge t u ∷ c) = refl

-- behind k of the leading points
pub drop-points : (c : Component) (k : ℕ) → k ≤ leading_points c → (drop k (flat c) ≡ flat (drop k c)) × (leading_points c ≡ k + leading_points (drop k c))
drop-points c zero h = (refl, omega arith)
drop-points [] (suc k) h = absurd (omega arith)
drop-points (point ∷ c) (suc k) h = let d = drop-points c k (omega arith) in (d.0, omega (arith, d.1))
drop-points (merge t u ∷ c) (suc k) h = absurd (omega arith)

-- the branches of a tree stand behind its first number
pub branches-held : {s : List ℕ} (h : HeldTree s) → drop 1 s ≡ flat (branches h.tree)
branches-held h = ap (drop 1) h.is ∙ below-branches h.tree

size-star : (k : ℕ) → size (star k) ≡ k + 1
size-star zero = refl
size-star (suc k) = omega (arith, size-star k)

pub last_start-star : (k : ℕ) → last_start (star (suc k)) ≡ suc k
last_start-star k = omega (arith, size-star k)

pub max-star : (k : ℕ) → max k 1 ≡ last_start (star k)
max-star zero = refl
max-star (suc k) = rw last_start-star (omega arith)

star-last : (k : ℕ) → last_at_most (star k) point ≡ true
unfolding last_at_most compare_tree
star-last zero = refl
star-last (suc k) = refl

pub star-valid : (k : ℕ) → valid_tree (star k) ≡ true
unfolding valid_tree
star-valid zero = refl
star-valid (suc k) = merge-valid (star k) point (star-valid k) refl (star-last k)

-- points grafted on a star make a greater star
graft_on-points : (k j : ℕ) (r : Component) → graft_on (star k) (replicate j point ++ r) ≡ graft_on (star (j + k)) r
graft_on-points k zero r =
    let n : k ≡ 0 + k = omega arith in
    ap (λ n. graft_on (star n) r) n
graft_on-points k (suc j) r =
    let n : j + suc k ≡ suc j + k = omega arith in
    graft_on-points (suc k) j r ∙ ap (λ n. graft_on (star n) r) n

-- a walk along the branches of a tree may begin behind those that are points
pub inside-points : {s : List ℕ} (h : HeldTree s) {k : ℕ} → k ≡ leading_points (branches h.tree) → (P : Tree → Type 0) → P (star k)
    → Inside s (last_start (star k)) (k + 1) P
inside-points h {k} e P p =
    let bs = branches h.tree in
    let n : k + 0 ≡ k = omega arith in
    let split : bs ≡ replicate k point ++ drop k bs = sym (leading-split bs) ∙ ap (λ n. replicate n point ++ drop n bs) (sym e) in
    record {
      had = star k;
      rest = drop k bs;
      cut = h.is ∙ ap code (sym (graft-branches h.tree) ∙ ap (graft_on point) split ∙ graft_on-points 0 k (drop k bs) ∙ ap (λ n. graft_on (star n) (drop k bs)) n);
      place = sym (size-star k);
      from = refl;
      kept = p;
    }

leading-length : (c : Component) → leading_points c ≤ length c
leading-length [] = omega arith
leading-length (point ∷ c) = omega (arith, leading-length c)
leading-length (merge t u ∷ c) = omega arith

-- what stands behind the leading points
module _ (s : List ℕ) (c : Component) (k : ℕ) (e : s ≡ flat c) (l : k ≡ leading_points c) where
  pub leading-within : k ≤ length s
  leading-within = omega (arith, leading-length c, length-points c, length-flat c, ap length e)

  pub behind-points : take (length s - k) (drop k s) ≡ flat (drop k c)
  behind-points =
      take_all (length s - k) (drop k s) (omega (arith, length-drop k s))
      ∙ ap (drop k) e
      ∙ (drop-points c k (omega arith)).0

  pub count-behind : k + length (codes (take (length s - k) (drop k s))) ≡ length c
  count-behind =
      let n = ap length (codes-flat (take (length s - k) (drop k s)) (drop k c) behind-points) in
      omega (arith, n, length-map (drop k c) code, length-drop k c, leading-length c)

  pub count-within : length c ≤ length s
  count-within = omega (arith, length-points c, length-flat c, ap length e)
