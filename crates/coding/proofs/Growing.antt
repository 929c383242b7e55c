-- Writing the tree at a point: its branches, from the greatest point that hangs there to the least, each inserted among those written before.
use mathlib.Core.Path.{◌≡◌, refl, ap, ap₂, sym, subst, ◌∙◌}
use mathlib.Core.Bool.{Bool, true, false, cond}
use mathlib.Core.List.{List, [], ◌∷◌, ◌++◌, map, append-nil, append_assoc}
use Prim.Native.Nat.{ℕ, zero, suc, ◌+◌, ◌-◌, ◌≤◌, ◌<◌}
use native.Mathlib.Nat.{sub-zero}
use native.Mathlib.Numerals.{add-one}
use native.Mathlib.Omega.{arith}
use lib.ListN.{length, get_or, take, drop, set}
use lib.Seq.{take-suc, set_at, length-take-le}
use Rattle.lists.specs.Sort.{insert, sort}
use Rattle.lists.specs.Select.{keep, gather, range, total}
use Rattle.lists.proofs.Tests.{by-test}
use Rattle.lists.proofs.Permute.{total-append, total-map, member-total}
use Rattle.lists.proofs.Sorting.{sort-total}
use Rattle.lists.proofs.Members.{keep_append}
use Rattle.lists.proofs.Places.{range-append}
use Rattle.patterns.specs.Tree.{size, code, graft}
use Rattle.patterns.specs.Component.{points, flat}
use Rattle.patterns.specs.Table.{image, hangs_at, hanging}
use Rattle.patterns.proofs.Trees.{size-positive, size-graft, code-branches, branches-graft, length-flat}
use Rattle.written.specs.Putting.{placed}
use Rattle.map_theory.specs.Plants.{Plant, tip, shape, labels, plant_on, compare_plant, plant_to, plant_at}
use Rattle.links.specs.Links.{last_below}
use Rattle.arrangement.specs.Arrangement.{Planted, SiblingsStand, Inserts}
use Rattle.coding.specs.Writing.{Prepared, TreeAsked}
use Rattle.lists.proofs.Gathering.{map_same}
use Rattle.links.proofs.Linking.{last-skip, last-take, last-bound, last-hangs}
use Rattle.map_theory.proofs.PlantAt.{plant_on-shape, plant_on-labels}
use Rattle.map_theory.proofs.Shown.{length-labels}
use Rattle.memory.proofs.Standing.{stands-left, stands-path}
use Rattle.arrangement.proofs.Planting.{flat-plants, planted-none, planted-then, planted-trees, planted-labels, planted-stands}

-- the number of points of a plant
abbrev pub plant_size : Plant → ℕ
plant_size t = size (shape t)

plant_on-size : (x : ℕ) (us : List Plant) → plant_size (plant_on (tip x) us) ≡ suc (points (map shape us))
plant_on-size x us = ap size (plant_on-shape (tip x) us) ∙ size-graft (map shape us)

sorted-points : (us : List Plant) → points (map shape (sort compare_plant us)) ≡ total plant_size us
sorted-points us = total-map size shape (sort compare_plant us) ∙ sort-total compare_plant plant_size us

module _ (n : ℕ) (f : ℕ → ℕ) where
  plant_to-size : (k x : ℕ) → plant_size (plant_to n f (suc k) x) ≡ suc (total (λ y. plant_size (plant_to n f k y)) (hanging n f x))
  unfolding plant_to
  plant_to-size k x =
      plant_on-size x (sort compare_plant (map (plant_to n f k) (hanging n f x)))
      ∙ ap suc (sorted-points (map (plant_to n f k) (hanging n f x)) ∙ total-map plant_size (plant_to n f k) (hanging n f x))

  plant_to-again : (k x : ℕ) → map (plant_to n f (suc k)) (hanging n f x) ≡ map (plant_to n f k) (hanging n f x)
      → plant_to n f (suc (suc k)) x ≡ plant_to n f (suc k) x
  unfolding plant_to
  plant_to-again k x e = ap (λ l. plant_on (tip x) (sort compare_plant l)) e

  -- a plant of at most k points is reached whole in k steps
  pub plant_to-whole : (k x : ℕ) → plant_size (plant_to n f k x) ≤ k → plant_to n f (suc k) x ≡ plant_to n f k x
  plant_to-whole zero x h = absurd (omega (arith, size-positive (shape (plant_to n f 0 x))))
  plant_to-whole (suc k) x h =
      plant_to-again k x (map_same (plant_to n f (suc k)) (plant_to n f k) (hanging n f x)
      (λ y m. plant_to-whole k y (omega (arith, plant_to-size k x, member-total (λ z. plant_size (plant_to n f k z)) m))))

module _ (f : List ℕ) (x : ℕ) where
  -- the points from y on that hang at x
  hanging_from : ℕ → List ℕ
  hanging_from y = keep (hangs_at (length f) (image f) x) (range y (length f - y))

  -- their plants, in order
  unfoldable pub branches_from : ℕ → List Plant
  unfolding hanging_from
  branches_from y = sort compare_plant (map (plant_at f) (hanging_from y))

  pub branches-none : (y : ℕ) → length f ≤ y → branches_from y ≡ []
  unfolding branches_from
  branches-none y h = let e : length f - y ≡ 0 = omega arith in rw e

  hanging-cons : (y z : ℕ) → y ≡ z + 1 → y ≤ length f → hanging_from z ≡ cond (hangs_at (length f) (image f) x z) (z ∷ hanging_from y) (hanging_from y)
  unfolding hanging_from
  hanging-cons y z e h = let q : length f - z ≡ suc (length f - suc z) = omega arith in rw (e, add-one z, q)

  hanging-is : {b : Bool} (y z : ℕ) → y ≡ z + 1 → y ≤ length f → hangs_at (length f) (image f) x z ≡ b
      → hanging_from z ≡ cond b (z ∷ hanging_from y) (hanging_from y)
  hanging-is y z e h t = hanging-cons y z e h ∙ ap (λ b. cond b (z ∷ hanging_from y) (hanging_from y)) t

  pub branches-skip : (y z : ℕ) → y ≡ z + 1 → y ≤ length f → hangs_at (length f) (image f) x z ≡ false → branches_from z ≡ branches_from y
  unfolding branches_from
  branches-skip y z e h t = ap (λ l. sort compare_plant (map (plant_at f) l)) (hanging-is y z e h t)

  pub branches-take : (y z : ℕ) → y ≡ z + 1 → y ≤ length f → hangs_at (length f) (image f) x z ≡ true
      → branches_from z ≡ insert compare_plant (plant_at f z) (branches_from y)
  unfolding branches_from
  branches-take y z e h t = ap (λ l. sort compare_plant (map (plant_at f) l)) (hanging-is y z e h t)

  -- the plant of x
  pub plant-branches : plant_size (plant_at f x) ≤ length f → plant_at f x ≡ plant_on (tip x) (branches_from 0)
  unfolding branches_from plant_to hanging
  plant-branches h =
      sym (plant_to-whole (length f) (image f) (length f) x h)
      ∙ ap (λ k. plant_on (tip x) (sort compare_plant (map (plant_at f) (keep (hangs_at (length f) (image f) x) (range 0 k))))) (sym (sub-zero (length f)))

  branches-points : (y : ℕ) → points (map shape (branches_from y)) ≡ total (λ z. plant_size (plant_at f z)) (hanging_from y)
  unfolding branches_from
  branches-points y = sorted-points (map (plant_at f) (hanging_from y)) ∙ total-map plant_size (plant_at f) (hanging_from y)

  hanging-split : (y : ℕ) → y ≤ length f → hanging_from 0 ≡ keep (hangs_at (length f) (image f) x) (range 0 y) ++ hanging_from y
  unfolding hanging_from
  hanging-split y h =
      let e : length f - 0 ≡ y + (length f - y) = omega arith in
      let q : 0 + y ≡ y = omega arith in
      ap (λ k. keep (hangs_at (length f) (image f) x) (range 0 k)) e
      ∙ ap (keep (hangs_at (length f) (image f) x)) (range-append 0 y (length f - y) ∙ ap (λ k. range 0 y ++ range k (length f - y)) q)
      ∙ keep_append (hangs_at (length f) (image f) x) (range 0 y) (range y (length f - y))

  -- the branches from y on have fewer points than the plant
  pub branches-bound : (y : ℕ) → y ≤ length f → plant_size (plant_at f x) ≤ length f → points (map shape (branches_from y)) < plant_size (plant_at f x)
  branches-bound y h k =
      omega (
        arith,
        branches-points y,
        branches-points 0,
        ap (total (λ z. plant_size (plant_at f z))) (hanging-split y h),
        total-append (λ z. plant_size (plant_at f z)) (keep (hangs_at (length f) (image f) x) (range 0 y)) (hanging_from y),
        ap plant_size (plant-branches k),
        plant_on-size x (branches_from 0),
      )

  -- and one more branch still fits
  pub branch-bound : (y z : ℕ) → y ≡ z + 1 → y ≤ length f → hangs_at (length f) (image f) x z ≡ true → plant_size (plant_at f x) ≤ length f
      → points (map shape (branches_from y)) + plant_size (plant_at f z) < plant_size (plant_at f x)
  branch-bound y z e h t k =
      omega (
        arith,
        branches-points y,
        branches-points z,
        ap (total (λ w. plant_size (plant_at f w))) (hanging-is y z e h t),
        branches-bound z (omega arith) k,
      )

  -- between a point and the one that its link leads to none hangs at x
  pub branches-last : (k : ℕ) → k ≤ length f → branches_from (last_below f x k) ≡ branches_from k
  unfolding last_below
  branches-last zero h = refl
  branches-last (suc k) h =
      by-test (hangs_at (length f) (image f) x k)
      (λ t. ap branches_from (last-take f x k t))
      (λ t. ap branches_from (last-skip f x k t) ∙ branches-last k (omega arith) ∙ branches-skip (suc k) k (sym (add-one k)) h t)

-- the branches from y on are written, and end at `end`; the point before y, if any, hangs at x
pub record Growing (f : List ℕ) (x at : ℕ) (d e : List ℕ) (y end : ℕ) (trees labelled : List ℕ) : Type 0 where
  pub passed : y ≤ length f
  pub hangs : (z : ℕ) → y ≡ z + 1 → hangs_at (length f) (image f) x z ≡ true
  pub planted : Planted (branches_from f x y) (at + 1) d e end trees labelled

-- the branches from k on are written: a link leads to the next one
growing-link : {f : List ℕ} {x at : ℕ} {d e : List ℕ} (k : ℕ) {y end : ℕ} {trees labelled : List ℕ} → k ≤ length f → y ≡ last_below f x k
    → Planted (branches_from f x k) (at + 1) d e end trees labelled → Growing f x at d e y end trees labelled
growing-link {f} {x} {at} {d} {e} k {y} {end} {trees} {labelled} h q p =
    record {
      passed = omega (arith, last-bound f x k);
      hangs = λ z r. last-hangs f x k z (sym q ∙ r);
      planted = subst (λ us. Planted us (at + 1) d e end trees labelled) (sym (ap (branches_from f x) q ∙ branches-last f x k h)) p;
    }

pub growing-start : {f last before : List ℕ} {x left at : ℕ} {d e : List ℕ} → TreeAsked f last before x left d e at
    → Growing f x at d e (get_or last x 0) (at + 1) d e
growing-start {f} {last} {before} {x} {left} {at} {d} {e} a =
    growing-link (length f) (omega arith) (a.links.last_are x a.here)
    (subst (λ us. Planted us (at + 1) d e (at + 1) d e) (sym (branches-none f x (length f) (omega arith))) (planted-none (at + 1) d e))

module _ {f last before : List ℕ} {x left at : ℕ} {d e : List ℕ} {y end : ℕ} {trees labelled : List ℕ}
    (a : TreeAsked f last before x left d e at) (g : Growing f x at d e y end trees labelled) where
  whole : plant_size (plant_at f x) ≤ length f
  whole = omega (arith, a.bounded, a.room)

  -- what is written has fewer points than are left
  pub growing-bound : (at < end) × (end - at ≤ left) × (end ≤ length f)
  growing-bound =
      let p = g.planted.ends in
      let b = branches-bound f x y g.passed whole in
      (omega arith, omega (arith, a.bounded), omega (arith, a.bounded, a.room))

  pub growing-trees : length trees ≡ length f
  growing-trees = planted-trees g.planted (omega (arith, growing-bound, a.prepared.trees_room)) ∙ a.prepared.trees_room

  pub growing-labels : length labelled ≡ length f
  growing-labels = planted-labels g.planted (omega (arith, growing-bound, a.prepared.labels_room)) ∙ a.prepared.labels_room

  pub growing-prepared : Prepared f trees labelled
  growing-prepared =
      record {
        table = a.prepared.table;
        small = a.prepared.small;
        trees_room = growing-trees;
        labels_room = growing-labels;
      }

  module _ (z : ℕ) (q : y ≡ z + 1) where
    fits : points (map shape (branches_from f x y)) + plant_size (plant_at f z) < plant_size (plant_at f x)
    fits = branch-bound f x y z q g.passed (g.hangs z q) whole

    -- the tree at z may be asked for
    pub growing-asked : TreeAsked f last before z (left - (end - at)) trees labelled end
    growing-asked =
        let p = g.planted.ends in
        record {
          prepared = growing-prepared;
          links = a.links;
          here = omega (arith, g.passed);
          bounded = omega (arith, fits, a.bounded);
          room = omega (arith, growing-bound, a.room);
        }

    -- the link of z leads to a lesser point
    pub growing-less : get_or before z 0 < y
    growing-less = omega (arith, a.links.before_are x z (omega (arith, g.passed)) (g.hangs z q), last-bound f x z)

    module _ {next : ℕ} {trees' labelled' : List ℕ} (w : Planted (plant_at f z ∷ []) end trees labelled next trees' labelled') where
      next-bound : next ≤ length f
      next-bound = omega (arith, w.ends, g.planted.ends, fits, a.bounded, a.room)

      joined : Planted (branches_from f x y ++ (plant_at f z ∷ [])) (at + 1) d e next trees' labelled'
      joined =
          let p = g.planted.ends in
          planted-then
          (omega (arith, growing-bound, a.prepared.trees_room))
          (omega (arith, growing-bound, a.prepared.labels_room))
          g.planted w

      trees-kept : length trees' ≡ length f
      trees-kept = planted-trees w (omega (arith, next-bound, growing-trees)) ∙ growing-trees

      labels-kept : length labelled' ≡ length f
      labels-kept = planted-labels w (omega (arith, next-bound, growing-labels)) ∙ growing-labels

      -- the tree at z may be inserted among the others
      pub growing-siblings : SiblingsStand trees' labelled' (at + 1) end next
      growing-siblings =
          record {
            siblings = map shape (branches_from f x y);
            stands = stands-left (flat (map shape (plant_at f z ∷ [])))
                (stands-path (flat-plants (branches_from f x y) (plant_at f z ∷ [])) (planted-stands (omega (arith, growing-bound, a.prepared.trees_room)) joined));
            ends = g.planted.ends;
            after = omega (arith, w.ends);
            fits = omega (arith, next-bound, trees-kept);
            same = labels-kept ∙ sym trees-kept;
          }

      -- and then the branches from z on are written, and the link of z leads to the next one
      pub growing-take : {trees'' labelled'' : List ℕ} → Inserts (at + 1) end next trees' labelled' trees'' labelled''
          → Growing f x at d e (get_or before z 0) next trees'' labelled''
      growing-take {trees''} {labelled''} i =
          growing-link z (omega (arith, g.passed)) (a.links.before_are x z (omega (arith, g.passed)) (g.hangs z q))
          (subst (λ us. Planted us (at + 1) d e next trees'' labelled'') (sym (branches-take f x y z q g.passed (g.hangs z q)))
          (i.inserts (branches_from f x y) (plant_at f z) d e
          (omega (arith, next-bound, a.prepared.trees_room)) (omega (arith, next-bound, a.prepared.labels_room)) g.planted.ends joined))

-- one entry before what is placed
set-placed : (at v : ℕ) (l d : List ℕ) → at + 1 + length l ≤ length d → set (placed (at + 1) l d) at v ≡ placed at (v ∷ l) d
set-placed at v l d h =
    let r : List ℕ = l ++ drop (at + 1 + length l) d in
    let y : ℕ = get_or d at 0 in
    let one : take (at + 1) d ≡ take at d ++ (y ∷ []) = rw add-one (take-suc d at 0 (omega arith)) in
    let q : at + 1 + length l ≡ at + suc (length l) = omega arith in
    ap (λ t. set (t ++ r) at v) one
    ∙ ap (λ t. set t at v) (append_assoc (take at d) (y ∷ []) r)
    ∙ set_at (take at d) y r v at (length-take-le at d (omega arith))
    ∙ ap (λ k. take at d ++ (v ∷ (l ++ drop k d))) q

-- the trees and the labels of a plant, by its branches
code-plant : (x : ℕ) (us : List Plant) → code (shape (plant_on (tip x) us)) ≡ suc (points (map shape us)) ∷ flat (map shape us)
code-plant x us =
    ap code (plant_on-shape (tip x) us)
    ∙ code-branches (graft (map shape us))
    ∙ ap₂ (λ k bs. k ∷ flat bs) (size-graft (map shape us)) (branches-graft (map shape us))

-- all branches are written: the root is written before them
pub growing-end : {f last before : List ℕ} {x left at : ℕ} {d e : List ℕ} {y end : ℕ} {trees labelled : List ℕ} → TreeAsked f last before x left d e at
    → Growing f x at d e y end trees labelled → y ≡ 0 → Planted (plant_at f x ∷ []) at d e end (set trees at (end - at)) (set labelled at x)
growing-end {f} {last} {before} {x} {left} {at} {d} {e} {y} {end} {trees} {labelled} a g z =
    let us : List Plant = branches_from f x 0 in
    let p : Planted us (at + 1) d e end trees labelled = subst (λ k. Planted (branches_from f x k) (at + 1) d e end trees labelled) z g.planted in
    let plant : plant_at f x ≡ plant_on (tip x) us = plant-branches f x (whole a g) in
    let b = growing-bound a g in
    let n : end - at ≡ suc (points (map shape us)) = omega (arith, p.ends) in
    record {
      ends = omega (arith, p.ends, ap plant_size plant, plant_on-size x us);
      trees_are =
          ap₂ (λ l k. set l at k) p.trees_are n
          ∙ set-placed at (suc (points (map shape us))) (flat (map shape us)) d (omega (arith, p.ends, length-flat (map shape us), a.prepared.trees_room))
          ∙ ap (λ l. placed at l d) (sym (append-nil (code (shape (plant_at f x))) ∙ ap (λ t. code (shape t)) plant ∙ code-plant x us));
      labels_are =
          ap (λ l. set l at x) p.labels_are
          ∙ set-placed at x (gather labels us) e (omega (arith, p.ends, length-labels us, a.prepared.labels_room))
          ∙ ap (λ l. placed at l e) (sym (append-nil (labels (plant_at f x)) ∙ ap labels plant ∙ plant_on-labels (tip x) us));
    }
