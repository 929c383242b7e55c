-- How many lists of rows of plants show a system on given cycles of a map: as many as the system has symmetries.
use mathlib.Core.Path.{◌≡◌, refl, ap, ap₂, sym, ◌∙◌}
use mathlib.Core.Bool.{Bool, true, false, cond}
use mathlib.Core.List.{List, [], ◌∷◌, ◌++◌, map, head-eq_of_cons-eq, tail-eq_of_cons-eq}
use Prim.Native.Nat.{ℕ, suc, ◌*◌, ◌<◌}
use native.Mathlib.Omega.{arith}
use native.Mathlib.Nat.{mul-zero, mul-one, mul_comm, mul_assoc}
use lib.ListN.{length}
use Rattle.lists.specs.Order.{same}
use Rattle.lists.specs.Select.{keep, each, gather, total}
use Rattle.lists.proofs.Tests.{◌∈◌, either, each-head, each_tail}
use Rattle.lists.proofs.Comparison.{same_true, same_self, compare-lawful}
use Rattle.lists.proofs.Permute.{Perm, total-same, total-scale, length-keep, total-map, total-gather, perm-refl, perm-path, perm-sym, perm-trans, perm-tail, perm-front, perm-cancel, perm-append, perm-length, perm-member, perm-map, perm-gather}
use Rattle.lists.proofs.Members.{NoDup, in_head, in_tail, in_list, in-cons-cases, in_append_left, not-in-nil, of-gather, nodup-tail, nodup-gather}
use Rattle.lists.proofs.Gathering.{map_injective, perm-nodup}
use Rattle.patterns.specs.Component.{Component, compare_component, rotation_symmetry, valid_component}
use Rattle.patterns.specs.System.{System}
use Rattle.patterns.specs.Table.{on_cycle, tree_at, cycle_from, component_at, leaders}
use Rattle.patterns.proofs.Trees.{compare_component-lawful}
use Rattle.patterns.proofs.Rotations.{valid-trees}
use Rattle.map_theory.specs.Plants.{Plant, shape, root, shapes}
use Rattle.map_theory.proofs.Leaders.{cycle-nodup, in-cycle-start, cycle-trans, cycle-perm, one-leader, of-leaders, leader-on_cycle, cycle-inside}
use Rattle.counting_theory.specs.Symmetries.{copies, product, tree_symmetries, component_symmetries, symmetries}
use Rattle.counting_theory.proofs.Exactly.{Exactly, exactly-as, exactly-same, exactly-one, exactly-keep, exactly-pairs}
use Rattle.counting_theory.proofs.WholePlants.{Whole}
use Rattle.counting_theory.proofs.CyclePlants.{Along, exactly-along, along-trees, component-of, starts-number}

-- d are whole plants along a cycle
pub record CycleRow (n : ℕ) (f : ℕ → ℕ) (d : List Plant) : Type 0 where
  pub start : ℕ
  pub roots : map root d ≡ cycle_from n f start
  pub whole : (t : Plant) → t ∈ d → Whole n f t

-- pic shows the system S on the cycle points cs
pub record Shown (n : ℕ) (f : ℕ → ℕ) (S : System) (cs : List ℕ) (pic : List (List Plant)) : Type 0 where
  pub shaped : shapes pic ≡ S
  pub rows : (d : List Plant) → d ∈ pic → CycleRow n f d
  pub filled : Perm (gather (map root) pic) cs

-- d are the trees c along the cycle from one of the points cs
record First (n : ℕ) (f : ℕ → ℕ) (c : Component) (cs : List ℕ) (d : List Plant) : Type 0 where
  pub start : ℕ
  pub among : start ∈ cs
  pub along : Along n f c (cycle_from n f start) d

-- others are the leaders ls without that of the cycle of d, and lead the components S
record Without (n : ℕ) (f : ℕ → ℕ) (S : System) (ls : List ℕ) (d : List Plant) : Type 0 where
  pub others : List ℕ
  pub apart : NoDup others
  pub lead : (l : ℕ) → l ∈ others → l ∈ leaders n f
  pub components : Perm (map (component_at n f) others) S
  pub covered : Perm (map root d ++ gather (cycle_from n f) others) (gather (cycle_from n f) ls)

module _ {A : Type 0} where
  -- k for each entry that passes
  total-chosen : (p : A → Bool) (k : ℕ) (l : List A) → total (λ x. cond (p x) k 0) l ≡ total (λ x. cond (p x) 1 0) l * k
  total-chosen p k l =
      total-same (λ x. cond (p x) k 0) (λ x. k * cond (p x) 1 0) l (λ x m. chosen (p x))
      ∙ total-scale k (λ x. cond (p x) 1 0) l
      ∙ mul_comm k (total (λ x. cond (p x) 1 0) l)
    where
      chosen : (b : Bool) → cond {A = ℕ} b k 0 ≡ k * cond {A = ℕ} b 1 0
      chosen true = sym (mul-one k)
      chosen false = sym (mul-zero k)

module _ (n : ℕ) (f : ℕ → ℕ) (c : Component) (S : System) where
  module _ (ls : List ℕ) (d : List Plant) (w : Without n f S ls d) (pic : List (List Plant)) where
    -- with d, what shows the other components shows all of them
    shown-with : First n f c (gather (cycle_from n f) ls) d → Shown n f S (gather (cycle_from n f) w.others) pic
        → Shown n f (c ∷ S) (gather (cycle_from n f) ls) (d ∷ pic)
    shown-with a h =
        record {
          shaped = ap₂ ◌∷◌ a.along.shaped h.shaped;
          rows = λ e m. either (in-cons-cases m)
              (λ q. rw q (record { start = a.start; roots = a.along.roots; whole = a.along.whole }))
              (λ k. h.rows e k);
          filled = perm-trans (perm-append (perm-refl {l = map root d}) h.filled) w.covered;
        }

    shown-without : Shown n f (c ∷ S) (gather (cycle_from n f) ls) (d ∷ pic) → Shown n f S (gather (cycle_from n f) w.others) pic
    shown-without h =
        record {
          shaped = tail-eq_of_cons-eq h.shaped;
          rows = λ e m. h.rows e (in_tail m);
          filled = perm-cancel (map root d) (perm-trans h.filled (perm-sym w.covered));
        }

  -- what shows a system begins with its first component
  shown-first : (cs : List ℕ) (z : List (List Plant)) → Shown n f (c ∷ S) cs z
      → (d : List Plant) × (pic : List (List Plant)) × First n f c cs d × Shown n f (c ∷ S) cs (d ∷ pic) × (z ≡ d ∷ pic)
  shown-first cs [] h = absurd (omega (arith, ap length h.shaped))
  shown-first cs (d ∷ pic) h =
      let r = h.rows d in_head in
      let m : r.start ∈ map root d = in_list (sym r.roots) (in-cycle-start n f r.start) in (
        d,
        pic,
        record {
          start = r.start;
          among = perm-member compare-lawful h.filled (in_append_left (gather (map root) pic) m);
          along = record { roots = r.roots; shaped = head-eq_of_cons-eq h.shaped; whole = r.whole };
        },
        h,
        refl,
      )

module _ (n : ℕ) (f : ℕ → ℕ) (inside : (x : ℕ) → x < n → f x < n) where
  same_start : {x y : ℕ} → cycle_from n f x ≡ cycle_from n f y → x ≡ y
  unfolding cycle_from
  same_start e = head-eq_of_cons-eq e

  -- the trees of the cycle, from x on, are c
  abbrev starts : Component → ℕ → Bool
  starts c x = same compare_component c (map (tree_at n f) (cycle_from n f x))

  module _ (ls : List ℕ) (lead : (l : ℕ) → l ∈ ls → l ∈ leaders n f) where
    abbrev cycle_points : List ℕ
    cycle_points = gather (cycle_from n f) ls

    below : {l : ℕ} → l ∈ ls → l < n
    below {l} m = (of-leaders n f inside (lead l m)).0

    on : {l : ℕ} → l ∈ ls → on_cycle n f l ≡ true
    on {l} m = leader-on_cycle n f inside (lead l m)

    points-nodup : NoDup ls → NoDup cycle_points
    points-nodup d =
        nodup-gather (cycle_from n f) d (λ l m. cycle-nodup n f l (on m))
        (λ l k z i j u v. one-leader n f l k (of-leaders n f inside (lead l i)).1 (of-leaders n f inside (lead k j)).1 u v)

    points-below : (x : ℕ) → x ∈ cycle_points → (y : ℕ) → y ∈ cycle_from n f x → y < n
    points-below x m y k =
        let r = of-gather (cycle_from n f) ls m in
        cycle-inside n f inside r.0 (below r.1) (on r.1) (cycle-trans n f r.0 (on r.1) r.2 k)

    module _ (c : Component) (S : System) (valid : valid_component c ≡ true) (p : Perm (map (component_at n f) ls) (c ∷ S)) where
      -- from so many points on the trees are c
      start-points : length (keep (starts c) cycle_points) ≡ suc (copies compare_component c S) * rotation_symmetry c
      start-points =
          let k : ℕ = rotation_symmetry c in
          let at : ℕ → ℕ = λ x. cond (starts c x) 1 0 in
          let each-cycle : Component → ℕ = λ d. cond (same compare_component c d) k 0 in
          let with-c : copies compare_component c (c ∷ S) ≡ suc (copies compare_component c S) = rw (same_self compare_component-lawful c) (omega arith) in
          length-keep (starts c) cycle_points
          ∙ total-gather at (cycle_from n f) ls
          ∙ total-same (λ l. total at (cycle_from n f l)) (λ l. each-cycle (component_at n f l)) ls
          (λ l m. sym (length-keep (starts c) (cycle_from n f l)) ∙ starts-number n f inside l (below m) (on m) c valid)
          ∙ sym (total-map each-cycle (component_at n f) ls)
          ∙ p.totals each-cycle
          ∙ total-chosen (same compare_component c) k (c ∷ S)
          ∙ ap (λ t. t * k) with-c

      first-trees : {d : List Plant} (a : First n f c cycle_points d) → map (tree_at n f) (cycle_from n f a.start) ≡ c
      first-trees a = along-trees n f inside (valid-trees c valid) (points-below a.start a.among) a.along

      -- a start and the plants from there on
      exactly-first : NoDup ls → Exactly (First n f c cycle_points) (suc (copies compare_component c S) * component_symmetries c)
      unfolding component_symmetries
      exactly-first u =
          exactly-as
          (ap (λ t. t * product tree_symmetries c) start-points ∙ mul_assoc (suc (copies compare_component c S)) (rotation_symmetry c) (product tree_symmetries c))
          (exactly-pairs {Q = λ x d. Along n f c (cycle_from n f x) d} (λ x d. d)
          (λ x a. exactly-along n f inside c (cycle_from n f x) (valid-trees c valid) (points-below x a.0)
          (sym (same_true compare_component-lawful c (map (tree_at n f) (cycle_from n f x)) a.1)))
          (λ x y d e a b i j q. same_start (sym i.roots ∙ ap (map root) q ∙ j.roots))
          (λ x d e a i j q. q)
          (exactly-keep (starts c) (points-nodup u))
          (λ x d a i. record { start = x; among = a.0; along = i })
          (λ d a. (a.start, d, (a.among, ap (same compare_component c) (first-trees a) ∙ same_self compare_component-lawful c), a.along, refl)))

      -- the leader of the cycle of d taken out of ls
      without-first : NoDup ls → (d : List Plant) → First n f c cycle_points d → Without n f S ls d
      without-first u d a =
          let r = of-gather (cycle_from n f) ls a.among in
          let s = perm-front r.1 in
          let moved : Perm (map (component_at n f) ls) (map (component_at n f) (r.0 ∷ s.0)) = perm-map (component_at n f) s.1 in
          let e : component_at n f r.0 ≡ c = component-of n f inside r.0 (below r.1) (on r.1) c a.start valid r.2 (first-trees a) in
          let cycle : Perm (map root d) (cycle_from n f r.0) = perm-trans (perm-path a.along.roots) (cycle-perm n f r.0 (on r.1) r.2) in
          record {
            others = s.0;
            apart = nodup-tail (perm-nodup s.1 u);
            lead = λ l m. lead l (perm-member compare-lawful (perm-sym s.1) (in_tail m));
            components = perm-tail (perm-trans (perm-path (ap (λ z. z ∷ map (component_at n f) s.0) (sym e))) (perm-trans (perm-sym moved) p));
            covered = perm-trans (perm-append cycle (perm-refl {l = gather (cycle_from n f) s.0})) (perm-sym (perm-gather (cycle_from n f) s.1));
          }

  pub exactly-shown : (S : System) (ls : List ℕ) → each valid_component S ≡ true → NoDup ls → ((l : ℕ) → l ∈ ls → l ∈ leaders n f)
      → Perm (map (component_at n f) ls) S → Exactly (Shown n f S (gather (cycle_from n f) ls)) (symmetries S)
  unfolding symmetries
  exactly-shown [] [] v u lead p =
      exactly-one []
      (record { shaped = refl; rows = λ d m. not-in-nil m; filled = perm-refl })
      (λ pic h. map_injective (map shape) pic [] (λ d e i j. not-in-nil j) h.shaped)
  exactly-shown [] (l ∷ ls) v u lead p = absurd (omega (arith, perm-length p))
  exactly-shown (c ∷ S) ls v u lead p =
      let valid = each-head valid_component c S v in
      exactly-pairs {Q = λ d pic. Shown n f (c ∷ S) (gather (cycle_from n f) ls) (d ∷ pic)} ◌∷◌
      (λ d a.
      let w = without-first ls lead c S valid p u d a in
      exactly-same (λ pic. shown-with n f c S ls d w pic a) (shown-without n f c S ls d w)
      (exactly-shown S w.others (each_tail valid_component c S v) w.apart w.lead w.components))
      (λ d e pic pic' a b i j q. head-eq_of_cons-eq q)
      (λ d pic pic' a i j q. tail-eq_of_cons-eq q)
      (exactly-first ls lead c S valid p u)
      (λ d pic a h. h)
      (shown-first n f c S (gather (cycle_from n f) ls))
