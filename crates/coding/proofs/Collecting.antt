-- Writing the system of a table: the components at the leaders of the cycles, from the greatest leader to the least, each inserted among those before.
use mathlib.Core.Path.{◌≡◌, refl, ap, sym, subst, ◌∙◌}
use mathlib.Core.Bool.{true, false}
use mathlib.Core.List.{List, [], ◌∷◌, ◌++◌, map}
use Prim.Native.Nat.{ℕ, ◌+◌, ◌≤◌, ◌<◌}
use native.Mathlib.Omega.{arith}
use lib.ListN.{length, take, length-append, length-map}
use Rattle.lists.specs.Sort.{sort}
use Rattle.lists.specs.Select.{each, gather, range}
use Rattle.lists.proofs.Tests.{◌∈◌, either, each-cons, each-head, each_tail}
use Rattle.lists.proofs.Permute.{Perm, perm-trans, perm-path, perm-length, perm-append, perm-gather}
use Rattle.lists.proofs.Sorting.{sort-map, sort-perm, sort-member, sort-each, sort-length}
use Rattle.lists.proofs.Members.{in-cons-cases, in_list, not-in-nil}
use Rattle.lists.proofs.Places.{range_length}
use Rattle.patterns.specs.Component.{points, flat, turn, valid_component}
use Rattle.patterns.specs.System.{System, weight, compare_generated, canonical}
use Rattle.patterns.specs.Table.{image, on_cycle, leads_cycle, system_of_table}
use Rattle.patterns.specs.MapOf.{map_of}
use Rattle.patterns.specs.Isomorphism.{Isomorphism}
use Rattle.patterns.proofs.Trees.{length-flat}
use Rattle.patterns.proofs.Rotations.{Rotated, rotated-perm, points-positive}
use Rattle.written.proofs.Placing.{placed-all}
use Rattle.map_theory.specs.Plants.{Plant, shape, root, labels, shapes, compare_shapes, plants_along, joined}
use Rattle.links.specs.Links.{Links}
use Rattle.arrangement.specs.Arrangement.{Planted}
use Rattle.coding.specs.Writing.{CycleAsked, ComponentWritten}
use Rattle.arrangement.specs.Arrangement.{InsertAsked, ComponentInserted}
use Rattle.coding.specs.Systems.{SystemAsked, SystemWritten}
use Rattle.map_theory.proofs.Pictures.{Arrows, all_labels, Picture}
use Rattle.map_theory.proofs.Leaders.{leads-on_cycle}
use Rattle.map_theory.proofs.SortedCanonical.{sort-generated, sorted-canonical}
use Rattle.map_theory.proofs.Labelled.{picture-isomorphism}
use Rattle.map_theory.proofs.Shown.{length-labels, system-shown}
use Rattle.arrangement.proofs.Planting.{planted-none, planted-then, planted-trees, planted-labels}
use Rattle.arrangement.proofs.ComponentInserting.{joined-flat, joined-points, joined-labels, inserting-trees, inserting-last}
use Rattle.map_theory.proofs.FromLeaders.{points_from, from-none, from-skip, from-take, from_all, from-bound, turned-arrows, turned-cycle}

-- valid components have a point each
valid-count : (S : System) → each valid_component S ≡ true → length S ≤ weight S
valid-count [] v = omega arith
valid-count (c ∷ S) v =
    omega (arith, points-positive c (each-head valid_component c S v), valid-count S (each_tail valid_component c S v))

abbrev sorted : List (List Plant) → List (List Plant)
sorted made = sort compare_shapes made

shapes-sorted : (made : List (List Plant)) → sort compare_generated (shapes made) ≡ shapes (sorted made)
shapes-sorted made = sort-map compare_shapes compare_generated (map shape) made (λ c d i j. refl)

-- the components made of the leaders from x on, sorted, are written up to `end`, their sizes in the first m places
pub record Collecting (f d e : List ℕ) (x end m : ℕ) (sizes trees labelled : List ℕ) : Type 0 where
  pub passed : x ≤ length f
  pub made : List (List Plant)
  pub sizes_room : length sizes ≡ length f
  pub count : m ≡ length made
  pub sizes_are : take m sizes ≡ map points (shapes (sort compare_shapes made))
  pub planted : Planted (joined (sort compare_shapes made)) 0 d e end trees labelled
  pub valid : each valid_component (shapes made) ≡ true
  pub arrows : (c : List Plant) (t : Plant) → c ∈ made → t ∈ c → Arrows (image f) t
  pub cycles : (c : List Plant) → c ∈ made → map (image f) (map root c) ≡ turn (map root c)
  pub points_are : Perm (all_labels made) (points_from f x)

pub collecting-start : (f d e sizes : List ℕ) → length sizes ≡ length f → Collecting f d e (length f) 0 0 sizes d e
collecting-start f d e sizes h =
    record {
      passed = omega arith;
      made = [];
      sizes_room = h;
      count = refl;
      sizes_are = refl;
      planted = planted-none 0 d e;
      valid = refl;
      arrows = λ c t i j. not-in-nil i;
      cycles = λ c i. not-in-nil i;
      points_are = perm-path (sym (from-none f (length f) (omega arith)));
    }

module _ {f marks d e : List ℕ} {x end m : ℕ} {sizes₀ sizes trees labelled : List ℕ} (a : SystemAsked f marks sizes₀ d e)
    (g : Collecting f d e x end m sizes trees labelled) where
  valid-sorted : each valid_component (shapes (sorted g.made)) ≡ true
  valid-sorted = ap (each valid_component) (sym (shapes-sorted g.made)) ∙ sort-each compare_generated valid_component (shapes g.made) ∙ g.valid

  -- as many places are taken as the leaders from x on have points
  end_is : end ≡ length (points_from f x)
  end_is =
      omega (
        arith,
        g.planted.ends,
        length-labels (joined (sorted g.made)),
        ap length (joined-labels (sorted g.made)),
        perm-length (perm-trans (perm-gather (gather labels) (sort-perm compare_shapes g.made)) g.points_are),
      )

  -- every component has a point
  count-bound : m ≤ end
  count-bound =
      omega (
        arith,
        g.count,
        length-map (sorted g.made) (map shape),
        sort-length compare_shapes g.made,
        valid-count (shapes (sorted g.made)) valid-sorted,
        joined-points (sorted g.made),
        g.planted.ends,
      )

  pub collecting-bound : (end ≤ length f) × (m ≤ length f)
  collecting-bound =
      let b : end ≤ length f = omega (arith, end_is, from-bound f a.prepared.table x g.passed) in
      (b, omega (arith, count-bound))

  pub collecting-trees : length trees ≡ length f
  collecting-trees = planted-trees g.planted (omega (arith, collecting-bound, a.prepared.trees_room)) ∙ a.prepared.trees_room

  pub collecting-labels : length labelled ≡ length f
  collecting-labels = planted-labels g.planted (omega (arith, collecting-bound, a.prepared.labels_room)) ∙ a.prepared.labels_room

  -- z leads no cycle
  pub collecting-skip : (z : ℕ) → x ≡ z + 1 → leads_cycle (length f) (image f) z ≡ false → Collecting f d e z end m sizes trees labelled
  collecting-skip z q t =
      record {
        passed = omega (arith, g.passed);
        made = g.made;
        sizes_room = g.sizes_room;
        count = g.count;
        sizes_are = g.sizes_are;
        planted = g.planted;
        valid = g.valid;
        arrows = g.arrows;
        cycles = g.cycles;
        points_are = perm-trans g.points_are (perm-path (sym (from-skip f x z q g.passed t)));
      }

  module _ (z : ℕ) (q : x ≡ z + 1) (t : leads_cycle (length f) (image f) z ≡ true) where
    on : on_cycle (length f) (image f) z ≡ true
    on = leads-on_cycle (length f) (image f) z t

    room : end + points (map shape (plants_along f z)) ≤ length f
    room =
        omega (
          arith,
          end_is,
          length-labels (plants_along f z),
          ap length (from-take f x z q g.passed t),
          length-append (gather labels (plants_along f z)) (points_from f x),
          from-bound f a.prepared.table z (omega (arith, g.passed)),
        )

    -- the component at z may be asked for
    pub collecting-asked : {last before : List ℕ} → Links f (length f) last before → CycleAsked f last before z trees labelled end
    collecting-asked l =
        record {
          prepared =
              record {
                table = a.prepared.table;
                small = a.prepared.small;
                trees_room = collecting-trees;
                labels_room = collecting-labels;
              };
          links = l;
          here = omega (arith, g.passed);
          on = on;
          room = room;
        }

    module _ {next : ℕ} {trees' labelled' : List ℕ} (w : ComponentWritten f z end trees labelled next trees' labelled') where
      turned : Rotated (plants_along f z) w.plants
      turned = record { front = w.front; back = w.back; cut = w.cut; joined = w.joined }

      all : Planted (joined (sorted g.made) ++ w.plants) 0 d e next trees' labelled'
      all =
          planted-then
          (omega (arith, collecting-bound, g.planted.ends, a.prepared.trees_room))
          (omega (arith, collecting-bound, g.planted.ends, a.prepared.labels_room))
          g.planted w.planted

      turned-points : points (map shape w.plants) ≡ points (map shape (plants_along f z))
      turned-points =
          omega (
            arith,
            length-labels w.plants,
            length-labels (plants_along f z),
            perm-length (perm-gather labels (rotated-perm turned)),
          )

      next-bound : (end < next) × (next ≤ length f)
      next-bound = (
        omega (arith, w.planted.ends, points-positive (map shape w.plants) w.valid),
        omega (arith, w.planted.ends, turned-points, room),
      )

      ends : end ≡ points (map shape (joined (sorted g.made)))
      ends = omega (arith, g.planted.ends)

      counted : m < length sizes
      counted = omega (arith, g.sizes_room, next-bound, count-bound)

      -- it may be inserted among the others
      pub collecting-insert : InsertAsked sizes m trees' labelled' end next
      collecting-insert =
          record {
            system = shapes (sorted g.made);
            component = map shape w.plants;
            sizes_are = g.sizes_are;
            trees_are = inserting-trees (sorted g.made) w.plants ends all;
            component_is = inserting-last (sorted g.made) w.plants ends all;
            system_valid = valid-sorted;
            component_valid = w.valid;
            count = counted;
            after = omega (arith, next-bound);
            fits = omega (arith, next-bound, planted-trees all (omega (arith, next-bound, a.prepared.trees_room)), a.prepared.trees_room);
            same =
                planted-labels all (omega (arith, next-bound, a.prepared.labels_room)) ∙ a.prepared.labels_room
                ∙ sym (planted-trees all (omega (arith, next-bound, a.prepared.trees_room)) ∙ a.prepared.trees_room);
            small = omega (arith, planted-trees all (omega (arith, next-bound, a.prepared.trees_room)), a.prepared.trees_room, a.prepared.small);
          }

      -- and then the components of the leaders from z on are written
      pub collecting-take : {sizes' trees'' labelled'' : List ℕ} → length sizes' ≡ length sizes
          → ComponentInserted m end next sizes trees' labelled' sizes' trees'' labelled'' → Collecting f d e z next (m + 1) sizes' trees'' labelled''
      collecting-take {sizes'} {trees''} {labelled''} l i =
          let r = i.inserts (sorted g.made) w.plants d e
          (omega (arith, next-bound, a.prepared.trees_room)) (omega (arith, next-bound, a.prepared.labels_room)) counted g.sizes_are ends all in
          record {
            passed = omega (arith, g.passed);
            made = w.plants ∷ g.made;
            sizes_room = l ∙ g.sizes_room;
            count = omega (arith, g.count);
            sizes_are = r.0;
            planted = r.1;
            valid = each-cons valid_component (shapes g.made) w.valid g.valid;
            arrows = λ c u i j. either (in-cons-cases i) (λ p. turned-arrows f z turned (in_list p j)) (λ k. g.arrows c u k j);
            cycles = λ c i. either (in-cons-cases i)
                (λ p. rw p (turned-cycle f z on turned))
                (λ k. g.cycles c k);
            points_are =
                perm-trans (perm-append (perm-gather labels (rotated-perm turned)) g.points_are)
                (perm-path (sym (from-take f x z q g.passed t)));
          }

  module _ (z : x ≡ 0) where
    all-points : Perm (all_labels (sorted g.made)) (range 0 (length f))
    all-points =
        perm-trans (perm-gather (gather labels) (sort-perm compare_shapes g.made))
        (perm-trans g.points_are (perm-trans (perm-path (ap (points_from f) z)) (from_all f a.prepared.table)))

    picture : Picture (length f) (image f) (sorted g.made)
    picture =
        record {
          points = all-points;
          arrows = λ c t i j. g.arrows c t (sort-member compare_shapes g.made i) j;
          cycles = λ c i. g.cycles c (sort-member compare_shapes g.made i);
        }

    in_order : canonical (shapes (sorted g.made)) ≡ true
    in_order =
        rw (sym (shapes-sorted g.made))
        (sorted-canonical (sort compare_generated (shapes g.made))
        (sort-each compare_generated valid_component (shapes g.made) ∙ g.valid)
        (sort-generated (shapes g.made)))

    shown : system_of_table f ≡ shapes (sorted g.made)
    unfolding system_of_table
    shown = system-shown (length f) (image f) (sorted g.made) picture in_order

    full : end ≡ length f
    full = omega (arith, end_is, perm-length (perm-trans (perm-path (ap (points_from f) z)) (from_all f a.prepared.table)), range_length 0 (length f))

    -- at the end the system is written
    pub collecting-end : SystemWritten f m sizes trees labelled
    collecting-end =
        record {
          within = omega (arith, g.sizes_room, collecting-bound);
          sizes_are = g.sizes_are ∙ ap (map points) (sym shown);
          trees_are =
              g.planted.trees_are
              ∙ placed-all (flat (map shape (joined (sorted g.made)))) d
              (omega (arith, length-flat (map shape (joined (sorted g.made))), g.planted.ends, full, a.prepared.trees_room))
              ∙ joined-flat (sorted g.made)
              ∙ ap (gather flat) (sym shown);
          labels_are =
              subst (λ l. Isomorphism (length f) (map_of (system_of_table f)) f l)
              (sym (g.planted.labels_are
              ∙ placed-all (gather labels (joined (sorted g.made))) e
              (omega (arith, length-labels (joined (sorted g.made)), g.planted.ends, full, a.prepared.labels_room))
              ∙ joined-labels (sorted g.made)))
              (subst (λ S. Isomorphism (length f) (map_of S) f (all_labels (sorted g.made))) (sym shown)
              (picture-isomorphism (length f) f (sorted g.made) picture));
        }
