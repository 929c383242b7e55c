-- The levels of a map f on the points below n: level i holds the points of distance i from their cycle. The levels hold every point once, the
-- points that hang at those of one level are the next level, and the cycles from the leaders are level 0.
use mathlib.Core.Path.{◌≡◌, refl, ap, sym, ◌∙◌}
use mathlib.Core.List.{List}
use mathlib.Core.Bool.{false, not}
use Prim.Native.Nat.{ℕ, suc, ◌≤◌, ◌<◌}
use native.Mathlib.Omega.{arith}
use lib.Dec.{eqb}
use borrow.Author.Tests.{eq-eqb, eqb-true}
use Rattle.lists.specs.Select.{keep, gather, range}
use Rattle.lists.proofs.Tests.{◌∈◌, is_false, and-true, true-and, not-of-true}
use Rattle.lists.proofs.Permute.{Perm, perm-trans}
use Rattle.lists.proofs.Members.{NoDup, in-keep, of-keep, in-range, of_range, in-gather, of-gather, nodup-keep, nodup_range, nodup-gather}
use Rattle.lists.proofs.Pigeon.{same-members-perm}
use Rattle.patterns.specs.Table.{on_cycle, hangs_at, hanging, cycle_from, leaders}
use Rattle.patterns.specs.Census.{steps_to_cycle}
use Rattle.map_theory.proofs.Leaders.{cycles-perm}
use Rattle.map_theory.proofs.Distances.{steps_on, distance-bound, distance_next, distance_none}

module _ (n : ℕ) (f : ℕ → ℕ) where
  -- the points of distance i from their cycle
  unfoldable pub level : ℕ → List ℕ
  level i = keep (λ x. eqb (steps_to_cycle n f n x) i) (range 0 n)

  pub in-level : (i x : ℕ) → x < n → steps_to_cycle n f n x ≡ i → x ∈ level i
  unfolding level
  in-level i x h e = in-keep (λ y. eqb (steps_to_cycle n f n y) i) (in-range 0 n (omega arith) (omega arith)) (eq-eqb (steps_to_cycle n f n x) i e)

  pub of-level : (i : ℕ) {x : ℕ} → x ∈ level i → (x < n) × (steps_to_cycle n f n x ≡ i)
  unfolding level
  of-level i {x} m =
      let r = of-keep (λ y. eqb (steps_to_cycle n f n y) i) (range 0 n) m in
      let s = of_range 0 n r.0 in
      (omega arith, eqb-true (steps_to_cycle n f n x) i r.1)

  pub level-nodup : (i : ℕ) → NoDup (level i)
  unfolding level
  level-nodup i = nodup-keep (λ y. eqb (steps_to_cycle n f n y) i) (nodup_range 0 n)

  pub in-hanging : (x y : ℕ) → y < n → f y ≡ x → on_cycle n f y ≡ false → y ∈ hanging n f x
  unfolding hanging
  in-hanging x y h e c = in-keep (hangs_at n f x) (in-range 0 n (omega arith) (omega arith)) (true-and (eq-eqb (f y) x e) (ap not c))

  pub of-hanging : (x : ℕ) {y : ℕ} → y ∈ hanging n f x → (y < n) × (f y ≡ x) × (on_cycle n f y ≡ false)
  unfolding hanging
  of-hanging x {y} m =
      let r = of-keep (hangs_at n f x) (range 0 n) m in
      let s = of_range 0 n r.0 in
      let t = and-true (eqb (f y) x) (not (on_cycle n f y)) r.1 in
      (omega arith, eqb-true (f y) x t.0, not-of-true (on_cycle n f y) t.1)

  pub hanging-nodup : (x : ℕ) → NoDup (hanging n f x)
  unfolding hanging
  hanging-nodup x = nodup-keep (hangs_at n f x) (nodup_range 0 n)

  module _ (inside : (x : ℕ) → x < n → f x < n) where
    -- the first levels, as many as there are points or more, hold every point once
    pub levels-perm : (m : ℕ) → n ≤ m → Perm (gather level (range 0 m)) (range 0 n)
    levels-perm m b =
        same-members-perm
        (nodup-gather level (nodup_range 0 m) (λ i k. level-nodup i) (λ i j x k k' u v. sym (of-level i u).1 ∙ (of-level j v).1))
        (nodup_range 0 n)
        (λ x k. let r = of-gather level (range 0 m) k in let s = of-level r.0 r.2 in in-range 0 n (omega arith) (omega arith))
        (λ x k.
        let s = of_range 0 n k in
        let h = distance-bound n f inside x (omega arith) in
        in-gather level (in-range 0 m (omega arith) (omega arith)) (in-level (steps_to_cycle n f n x) x (omega arith) refl))

    -- the points that hang at the points of level i are level i + 1
    pub next_level : (i : ℕ) → Perm (gather (hanging n f) (level i)) (level (suc i))
    next_level i =
        same-members-perm
        (nodup-gather (hanging n f) (level-nodup i) (λ x k. hanging-nodup x) (λ x y z k k' u v. sym (of-hanging x u).1 ∙ (of-hanging y v).1))
        (level-nodup (suc i))
        (λ y k.
        let r = of-gather (hanging n f) (level i) k in
        let s = of-hanging r.0 r.2 in
        let t = of-level i r.1 in
        in-level (suc i) y s.0 (distance_next n f inside y s.0 s.2 ∙ ap (λ x. suc (steps_to_cycle n f n x)) s.1 ∙ ap suc t.1))
        (λ y k.
        let s = of-level (suc i) k in
        let c : on_cycle n f y ≡ false = is_false (on_cycle n f y) (λ t. let z = steps_on n f n y t in omega arith) in
        let d = distance_next n f inside y s.0 c in
        in-gather (hanging n f) (in-level i (f y) (inside y s.0) (omega arith)) (in-hanging (f y) y s.0 refl c))

    -- the cycles from the leaders are level 0
    pub cycles-level : Perm (gather (cycle_from n f) (leaders n f)) (level 0)
    cycles-level =
        perm-trans (cycles-perm n f inside)
        (same-members-perm (nodup-keep (on_cycle n f) (nodup_range 0 n)) (level-nodup 0)
        (λ x k.
        let r = of-keep (on_cycle n f) (range 0 n) k in
        let s = of_range 0 n r.0 in
        in-level 0 x (omega arith) (steps_on n f n x r.1))
        (λ x k.
        let s = of-level 0 k in
        in-keep (on_cycle n f) (in-range 0 n (omega arith) (omega arith)) (distance_none n f inside x s.0 s.1)))
