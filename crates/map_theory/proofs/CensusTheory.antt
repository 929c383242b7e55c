-- The cycles of a map f on the points below n, as the census counts them: every point on a cycle belongs to exactly one of the counted cycles, the cycle lengths
-- add up to the points on cycles, and the greatest distance is that of the map.
use mathlib.Core.Path.{◌≡◌, refl, ap, sym, ◌∙◌}
use mathlib.Core.List.{List, [], ◌∷◌, map}
use mathlib.Core.Bool.{Bool, true, cond, ◌&&◌}
use Prim.Native.Nat.{ℕ, ◌+◌, ◌-◌, ◌*◌, ◌≤◌, ◌<◌, compare}
use native.Mathlib.Nat.{mul-zero, mul-one}
use native.Mathlib.Omega.{arith}
use lib.Dec.{leb, eqb}
use borrow.Author.Tests.{leb-true, leb-false, eqb-true}
use lib.ListN.{length}
use Rattle.lists.specs.Order.{same}
use Rattle.lists.specs.Select.{keep, gather, total, range, times}
use Rattle.lists.proofs.Tests.{◌∈◌, by-test, either}
use Rattle.lists.proofs.Permute.{perm-length, total-one, total-zero, total-add, total-same, total_mono, total-keep, total-scale, length-keep, total-map, total-gather}
use Rattle.lists.proofs.Members.{NoDup, in_head, in_tail, in-cons-cases, not-in-nil, in_map, of_map, of-keep, in-range, of_range, nodup-keep, nodup_range}
use Rattle.lists.proofs.Places.{times-in, in-of-times, times-nodup}
use Rattle.lists.proofs.Pigeon.{inside-rest, nodup-below-length}
use Rattle.patterns.specs.Table.{on_cycle, cycle_from, leaders}
use Rattle.patterns.specs.Census.{greatest, cycle_lengths, cycles_of, steps_to_cycle, height}
use Rattle.map_theory.proofs.Leaders.{cycle-nodup, cycle-perm, one-leader, of-leaders, leader-on_cycle, has-leader, cycles-perm}

-- no number of a list exceeds the greatest
pub greatest-bound : {l : List ℕ} {x : ℕ} → x ∈ l → x ≤ greatest l
greatest-bound {l} {x} m = bound l m
  where
    bound : (l : List ℕ) → x ∈ l → x ≤ greatest l
    bound [] m = not-in-nil m
    bound (y ∷ l) m =
        by-test (leb (greatest l) y)
        (λ t. rw t (let h = leb-true (greatest l) y t in either (in-cons-cases m) (λ e. omega arith) (λ k. let b = bound l k in omega arith)))
        (λ t. rw t (let h = leb-false (greatest l) y t in either (in-cons-cases m) (λ e. omega arith) (λ k. bound l k)))

-- which stands in the list, if it has a number
pub greatest-in : (x : ℕ) (l : List ℕ) → greatest (x ∷ l) ∈ (x ∷ l)
greatest-in x [] = by-test (leb 0 x) (λ t. rw t in_head) (λ t. absurd (let h = leb-false 0 x t in omega arith))
greatest-in x (y ∷ l) =
    by-test (leb (greatest (y ∷ l)) x) (λ t. rw t in_head) (λ t. rw t (in_tail (greatest-in y l)))

pub greatest-member : (l : List ℕ) {x : ℕ} → x ∈ l → greatest l ∈ l
greatest-member [] m = not-in-nil m
greatest-member (y ∷ l) m = greatest-in y l

total-twenty : (l : List ℕ) → total (λ x. 20) l ≡ 20 * length l
total-twenty [] = refl
total-twenty (x ∷ l) = omega (arith, total-twenty l)

-- different numbers from 1 on: k of them have a sum of at least 20 k − 190
pub different-sum : (l : List ℕ) → NoDup l → ((x : ℕ) → x ∈ l → 0 < x) → 20 * length l ≤ total (λ x. x) l + 190
different-sum l d h =
    let w : ℕ → ℕ = λ x. 20 - x in
    let p : ℕ → Bool = λ x. leb x 20 in
    let low : total w (keep p l) ≤ 190 =
    let r = inside-rest {m = range 1 20} (nodup-keep p d)
    (λ x m. let s = of-keep p l m in let b = leb-true x 20 s.1 in let c = h x s.0 in in-range 1 20 (omega arith) (omega arith)) in
    omega (arith, r.1 w) in
    let all : total w (keep p l) ≡ total w l =
    total-keep w p l ∙ total-same (λ x. cond (p x) (w x) 0) w l
    (λ x m. by-test (p x) (λ t. rw t) (λ t. rw t (let b = leb-false x 20 t in omega arith))) in
    omega (arith, total-twenty l, total-add (λ x. x) w l, total_mono (λ x. 20) (λ x. x + w x) l (λ x m. omega arith))

module _ (n : ℕ) (f : ℕ → ℕ) where
  -- all points of a cycle have cycles of the same length
  pub cycle-length-same : (x : ℕ) {y : ℕ} → on_cycle n f x ≡ true → y ∈ cycle_from n f x → length (cycle_from n f y) ≡ length (cycle_from n f x)
  cycle-length-same x e m = perm-length (cycle-perm n f x e m)

  pub in-cycle_lengths : {x : ℕ} → x ∈ leaders n f → length (cycle_from n f x) ∈ cycle_lengths n f
  unfolding cycle_lengths
  in-cycle_lengths m = in_map (λ x. length (cycle_from n f x)) m

  pub of-cycle_lengths : {l : ℕ} → l ∈ cycle_lengths n f → (x : ℕ) × (x ∈ leaders n f) × (l ≡ length (cycle_from n f x))
  unfolding cycle_lengths
  of-cycle_lengths m = of_map (λ x. length (cycle_from n f x)) (leaders n f) m

  -- a cycle has a point
  pub cycle-length-positive : (x : ℕ) → 0 < length (cycle_from n f x)
  unfolding cycle_from
  cycle-length-positive x = omega arith

  pub cycle_lengths-positive : (l : ℕ) → l ∈ cycle_lengths n f → 0 < l
  cycle_lengths-positive l m = let r = of-cycle_lengths m in omega (arith, cycle-length-positive r.0)

  -- which lengths occur
  pub occurs : (l : ℕ) → 0 < cycles_of n f l → l ∈ cycle_lengths n f
  unfolding cycles_of
  occurs l h = in-of-times l (cycle_lengths n f) h

  pub occurs-not : (l : ℕ) → cycles_of n f l ≡ 0 → l ∈ cycle_lengths n f → ⊥
  unfolding cycles_of
  occurs-not l e m = let h = times-in m in omega arith

  module _ (inside : (x : ℕ) → x < n → f x < n) where
    -- every point on a cycle belongs to exactly one counted cycle, in which it stands once
    pub every-cycle-once : (z : ℕ) → z < n → on_cycle n f z ≡ true
        → (x : ℕ) × (x ∈ leaders n f) × (times z (cycle_from n f x) ≡ 1) × ((y : ℕ) → y ∈ leaders n f → z ∈ cycle_from n f y → y ≡ x)
    every-cycle-once z h e =
        let r = has-leader n f inside z h e in (
          r.0,
          r.1,
          times-nodup (cycle-nodup n f r.0 (leader-on_cycle n f inside r.1)) r.2,
          λ y m k. one-leader n f y r.0 (of-leaders n f inside m).1 (of-leaders n f inside r.1).1 k r.2,
        )

    -- the cycle lengths add up to the number of points on cycles
    pub lengths-add-up : total (λ l. l) (cycle_lengths n f) ≡ length (keep (on_cycle n f) (range 0 n))
    unfolding cycle_lengths
    lengths-add-up =
        total-map (λ l. l) (λ x. length (cycle_from n f x)) (leaders n f)
        ∙ total-same (λ x. length (cycle_from n f x)) (λ x. total (λ y. 1) (cycle_from n f x)) (leaders n f) (λ x m. sym (total-one (cycle_from n f x)))
        ∙ sym (total-gather (λ y. 1) (cycle_from n f) (leaders n f))
        ∙ total-one (gather (cycle_from n f) (leaders n f))
        ∙ perm-length (cycles-perm n f inside)

    pub cycle-points-bound : length (keep (on_cycle n f) (range 0 n)) ≤ n
    cycle-points-bound =
        nodup-below-length n (nodup-keep (on_cycle n f) (nodup_range 0 n))
        (λ x m. let r = of_range 0 n (of-keep (on_cycle n f) (range 0 n) m).0 in omega arith)

    -- the height is the greatest distance of a point from its cycle
    pub height_bound : (x : ℕ) → x < n → steps_to_cycle n f n x ≤ height n f
    unfolding height
    height_bound x h = greatest-bound (in_map (steps_to_cycle n f n) (in-range 0 n (omega arith) (omega arith)))

    pub height-reached : 0 < n → (x : ℕ) × (x < n) × (steps_to_cycle n f n x ≡ height n f)
    unfolding height
    height-reached h =
        let r = of_map (steps_to_cycle n f n) (range 0 n)
        (greatest-member (map (steps_to_cycle n f n) (range 0 n)) (in_map (steps_to_cycle n f n) (in-range 0 n {x = 0} (omega arith) (omega arith)))) in
        let s = of_range 0 n r.1 in
        (r.0, omega arith, sym r.2)

    -- l times the number of cycles of length l is the number of points on cycles of length l
    pub cycles_of-points : (l : ℕ) → l * cycles_of n f l ≡ length (keep (λ x. on_cycle n f x && eqb l (length (cycle_from n f x))) (range 0 n))
    unfolding cycles_of cycle_lengths
    cycles_of-points l =
        let q : ℕ → ℕ = λ x. cond (eqb l (length (cycle_from n f x))) 1 0 in
        ap (λ t. l * t) (total-map (λ y. cond (same compare l y) 1 0) (λ x. length (cycle_from n f x)) (leaders n f))
        ∙ sym (total-scale l q (leaders n f))
        ∙ total-same (λ x. l * q x) (λ x. total q (cycle_from n f x)) (leaders n f) (λ x m. each-leader x (leader-on_cycle n f inside m))
        ∙ sym (total-gather q (cycle_from n f) (leaders n f))
        ∙ (cycles-perm n f inside).totals q
        ∙ total-keep q (on_cycle n f) (range 0 n)
        ∙ total-same (λ x. cond (on_cycle n f x) (q x) 0) (λ x. cond (on_cycle n f x && eqb l (length (cycle_from n f x))) 1 0) (range 0 n)
        (λ x m. by-test (on_cycle n f x) (λ t. rw t) (λ t. rw t))
        ∙ sym (length-keep (λ x. on_cycle n f x && eqb l (length (cycle_from n f x))) (range 0 n))
      where
        each-leader : (x : ℕ) → on_cycle n f x ≡ true
            → l * cond (eqb l (length (cycle_from n f x))) 1 0 ≡ total (λ y. cond (eqb l (length (cycle_from n f y))) 1 0) (cycle_from n f x)
        each-leader x e =
            let same-all : total (λ y. cond (eqb l (length (cycle_from n f y))) 1 0) (cycle_from n f x) ≡ total (λ y. cond (eqb l (length (cycle_from n f x))) 1 0) (cycle_from n f x) =
            total-same (λ y. cond (eqb l (length (cycle_from n f y))) 1 0) (λ y. cond (eqb l (length (cycle_from n f x))) 1 0) (cycle_from n f x)
            (λ y m. ap (λ k. cond (eqb l k) 1 0) (cycle-length-same x e m)) in
            by-test (eqb l (length (cycle_from n f x)))
            (λ t. ap (λ b. l * cond b 1 0) t ∙ mul-one l ∙ eqb-true l (length (cycle_from n f x)) t ∙ sym (total-one (cycle_from n f x))
            ∙ sym (same-all ∙ ap (λ b. total (λ y. cond b 1 0) (cycle_from n f x)) t))
            (λ t. ap (λ b. l * cond b 1 0) t ∙ mul-zero l ∙ sym (total-zero (cycle_from n f x))
            ∙ sym (same-all ∙ ap (λ b. total (λ y. cond b 1 0) (cycle_from n f x)) t))
