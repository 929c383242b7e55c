-- The components at the leaders of a table's cycles: together they hold every point once, and each has the arrows and the cycle of the map.
use mathlib.Core.Path.{◌≡◌, refl, ap, ap₂, sym, ◌∙◌}
use mathlib.Core.Bool.{Bool, true, false, cond}
use mathlib.Core.List.{List, [], ◌∷◌, ◌++◌, map, map-append}
use Prim.Native.Nat.{ℕ, suc, ◌+◌, ◌-◌, ◌≤◌}
use native.Mathlib.Nat.{sub-zero}
use native.Mathlib.Numerals.{add-one}
use native.Mathlib.Omega.{arith}
use lib.ListN.{length, length-append}
use Rattle.lists.specs.Select.{keep, gather, range}
use Rattle.lists.proofs.Tests.{◌∈◌, either}
use Rattle.lists.proofs.Permute.{Perm, perm-trans, perm-path, perm-length, perm-gather, perm-gather-each}
use Rattle.lists.proofs.Members.{keep_append, gather_append, in_list, in-append-cases, in_append_left, in_append_right, of_map}
use Rattle.lists.proofs.Places.{range-append, range_length}
use Rattle.patterns.specs.Component.{turn}
use Rattle.patterns.specs.Table.{image, is_table, on_cycle, cycle_from, leads_cycle, leaders}
use Rattle.patterns.proofs.Rotations.{Rotated}
use Rattle.map_theory.specs.Plants.{Plant, root, labels, plant_at, plants_along}
use Rattle.lists.proofs.Gathering.{gather-gather, gather-map}
use Rattle.map_theory.proofs.Pictures.{Arrows}
use Rattle.map_theory.proofs.Cycles.{cycle-turned}
use Rattle.map_theory.proofs.Leaders.{cycle-turn}
use Rattle.map_theory.proofs.Levels.{levels-perm, cycles-level}
use Rattle.map_theory.proofs.PlantAt.{plant_to-root, plant_to-arrows, level-labels}
use Rattle.map_theory.proofs.Isomorphisms.{table_below}

module _ (f : List ℕ) where
  -- the leaders from x on
  leaders_from : ℕ → List ℕ
  leaders_from x = keep (leads_cycle (length f) (image f)) (range x (length f - x))

  -- the points of their components
  unfoldable pub points_from : ℕ → List ℕ
  unfolding leaders_from
  points_from x = gather (λ z. gather labels (plants_along f z)) (leaders_from x)

  pub from-none : (x : ℕ) → length f ≤ x → points_from x ≡ []
  unfolding points_from
  from-none x h = let e : length f - x ≡ 0 = omega arith in rw e

  leaders-cons : {b : Bool} (x z : ℕ) → x ≡ z + 1 → x ≤ length f → leads_cycle (length f) (image f) z ≡ b
      → leaders_from z ≡ cond b (z ∷ leaders_from x) (leaders_from x)
  unfolding leaders_from
  leaders-cons x z e h t =
      let q : length f - z ≡ suc (length f - suc z) = omega arith in
      ap (λ k. keep (leads_cycle (length f) (image f)) (range z k)) q
      ∙ ap (λ k. cond (leads_cycle (length f) (image f) z) (z ∷ keep (leads_cycle (length f) (image f)) (range k (length f - k))) (keep (leads_cycle (length f) (image f)) (range k (length f - k))))
      (sym (e ∙ add-one z))
      ∙ ap (λ b. cond b (z ∷ leaders_from x) (leaders_from x)) t

  pub from-skip : (x z : ℕ) → x ≡ z + 1 → x ≤ length f → leads_cycle (length f) (image f) z ≡ false → points_from z ≡ points_from x
  unfolding points_from
  from-skip x z e h t = ap (gather (λ z. gather labels (plants_along f z))) (leaders-cons x z e h t)

  pub from-take : (x z : ℕ) → x ≡ z + 1 → x ≤ length f → leads_cycle (length f) (image f) z ≡ true
      → points_from z ≡ gather labels (plants_along f z) ++ points_from x
  unfolding points_from
  from-take x z e h t = ap (gather (λ z. gather labels (plants_along f z))) (leaders-cons x z e h t)

  -- the components at the leaders hold every point once
  pub from_all : is_table f ≡ true → Perm (points_from 0) (range 0 (length f))
  unfolding points_from leaders
  from_all t =
      let n = length f in
      let inside = table_below n f refl t in
      let g : ℕ → List ℕ = λ y. labels (plant_at f y) in
      perm-trans (perm-path (ap (λ k. gather (λ z. gather labels (plants_along f z)) (keep (leads_cycle n (image f)) (range 0 k))) (sub-zero n)))
      (perm-trans (perm-gather-each (λ z. gather labels (plants_along f z)) (λ z. gather g (cycle_from n (image f) z)) (leaders n (image f))
      (λ z m. perm-path (gather-map labels (plant_at f) (cycle_from n (image f) z))))
      (perm-trans (perm-path (sym (gather-gather g (cycle_from n (image f)) (leaders n (image f)))))
      (perm-trans (perm-gather g (cycles-level n (image f) inside))
      (perm-trans (level-labels n (image f) inside n 0) (levels-perm n (image f) inside (suc n) (omega arith))))))

  from-split : (x : ℕ) → x ≤ length f → points_from 0 ≡ gather (λ z. gather labels (plants_along f z)) (keep (leads_cycle (length f) (image f)) (range 0 x)) ++ points_from x
  unfolding points_from
  from-split x h =
      let p = leads_cycle (length f) (image f) in
      let e : length f - 0 ≡ x + (length f - x) = omega arith in
      let q : 0 + x ≡ x = omega arith in
      ap (λ k. gather (λ z. gather labels (plants_along f z)) (keep p (range 0 k))) e
      ∙ ap (λ l. gather (λ z. gather labels (plants_along f z)) (keep p l)) (range-append 0 x (length f - x) ∙ ap (λ k. range 0 x ++ range k (length f - x)) q)
      ∙ ap (gather (λ z. gather labels (plants_along f z))) (keep_append p (range 0 x) (range x (length f - x)))
      ∙ gather_append (λ z. gather labels (plants_along f z)) (keep p (range 0 x)) (keep p (range x (length f - x)))

  -- so there is room for those from x on
  pub from-bound : is_table f ≡ true → (x : ℕ) → x ≤ length f → length (points_from x) ≤ length f
  from-bound t x h =
      omega (
        arith,
        perm-length (from_all t),
        range_length 0 (length f),
        ap length (from-split x h),
        length-append (gather (λ z. gather labels (plants_along f z)) (keep (leads_cycle (length f) (image f)) (range 0 x))) (points_from x),
      )

  -- a component turned: its arrows are those of f, and its roots are a cycle
  pub turned-arrows : (x : ℕ) {c : List Plant} → Rotated (plants_along f x) c → {t : Plant} → t ∈ c → Arrows (image f) t
  turned-arrows x {c} r {t} m =
      let u : t ∈ plants_along f x = in_list (sym r.cut) (either (in-append-cases r.back (in_list r.joined m))
      (λ i. in_append_right r.front i) (λ i. in_append_left r.back i)) in
      let v = of_map (plant_at f) (cycle_from (length f) (image f) x) u in
      rw v.2 (plant_to-arrows (length f) (image f) (length f) v.0)

  along-roots : (l : List ℕ) → map root (map (plant_at f) l) ≡ l
  along-roots [] = refl
  along-roots (y ∷ l) = ap₂ ◌∷◌ (plant_to-root (length f) (image f) (length f) y) (along-roots l)

  pub turned-cycle : (x : ℕ) {c : List Plant} → on_cycle (length f) (image f) x ≡ true → Rotated (plants_along f x) c
      → map (image f) (map root c) ≡ turn (map root c)
  turned-cycle x {c} o r =
      let e : cycle_from (length f) (image f) x ≡ map root r.front ++ map root r.back =
      sym (along-roots (cycle_from (length f) (image f) x)) ∙ ap (map root) r.cut ∙ map-append root r.front r.back in
      let h : map root c ≡ map root r.back ++ map root r.front = ap (map root) r.joined ∙ map-append root r.back r.front in
      let k = cycle-turn (length f) (image f) x o in
      rw h (cycle-turned (image f) (map root r.front) (map root r.back) (rw e at k))
