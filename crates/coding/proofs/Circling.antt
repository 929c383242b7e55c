-- Writing the trees along a cycle, from one of its points on until it comes again.
use mathlib.Core.Path.{◌≡◌, refl, ap, sym, subst, ◌∙◌}
use mathlib.Core.List.{List, [], ◌∷◌, ◌++◌, map, map-append, append-nil, append_assoc}
use Prim.Native.Nat.{ℕ, zero, suc, ◌+◌, ◌-◌, ◌≤◌, ◌<◌}
use native.Mathlib.Omega.{arith}
use lib.ListN.{length}
use Rattle.patterns.specs.Tree.{size}
use Rattle.patterns.specs.Component.{points}
use Rattle.patterns.specs.Table.{image, iterate, orbit, cycle_from}
use Rattle.patterns.proofs.Trees.{size-positive}
use Rattle.map_theory.specs.Plants.{shape, plant_at, plants_along}
use Rattle.arrangement.specs.Arrangement.{Planted}
use Rattle.coding.specs.Writing.{TreeAsked, CycleAsked}
use Rattle.map_theory.proofs.Isomorphisms.{table_below}
use Rattle.map_theory.proofs.Leaders.{cycle-period}
use Rattle.arrangement.proofs.Planting.{points-plants, planted-then, planted-trees, planted-labels}

-- from y the walk goes over the points l, none of them x, and comes to x
pub data Walk (f : ℕ → ℕ) (x : ℕ) : ℕ → List ℕ → Type 0 where
  home : {y : ℕ} → y ≡ x → Walk f x y []
  onward : {y : ℕ} {l : List ℕ} → (y ≡ x → ⊥) → Walk f x (f y) l → Walk f x y (y ∷ l)

module _ {f : ℕ → ℕ} {x : ℕ} where
  pub walk-home : {y : ℕ} {l : List ℕ} → Walk f x y l → y ≡ x → l ≡ []
  walk-home (home h) e = refl
  walk-home (onward h w) e = absurd (h e)

  pub walk-on : {y : ℕ} {l : List ℕ} → Walk f x y l → (y ≡ x → ⊥) → (m : List ℕ) × (l ≡ y ∷ m) × Walk f x (f y) m
  walk-on (home h) e = absurd (e h)
  walk-on (onward {l = l} h w) e = (l, refl, w)

  -- what is met until x comes for the first time
  pub orbit-walk : (p y : ℕ) → iterate f (suc p) y ≡ x → ((i : ℕ) → i < p → iterate f (suc i) y ≡ x → ⊥) → Walk f x (f y) (orbit f p y)
  orbit-walk zero y e h = home e
  orbit-walk (suc p) y e h = onward (h 0 (omega arith)) (orbit-walk p (f y) e (λ i b. h (suc i) (omega arith)))

-- the trees at the points done are written, the walk is at y, and the points rest are next
pub record Circling (f : List ℕ) (x at : ℕ) (d e : List ℕ) (y end : ℕ) (trees labels : List ℕ) : Type 0 where
  pub done : List ℕ
  pub rest : List ℕ
  pub cycle : cycle_from (length f) (image f) x ≡ done ++ rest
  pub walk : Walk (image f) x y rest
  pub here : y < length f
  pub planted : Planted (map (plant_at f) done) at d e end trees labels

module _ {f last before : List ℕ} {x at : ℕ} {d e : List ℕ} (a : CycleAsked f last before x d e at) where
  -- the point x itself, and the others
  round : (p : ℕ) × (cycle_from (length f) (image f) x ≡ x ∷ orbit (image f) p x) × Walk (image f) x (image f x) (orbit (image f) p x)
  round =
      let r = cycle-period (length f) (image f) x a.on in
      (r.0, r.3, orbit-walk r.0 x r.2.returns r.2.no_earlier)

  sum : (done rest : List ℕ) → cycle_from (length f) (image f) x ≡ done ++ rest
      → points (map shape (plants_along f x)) ≡ points (map shape (map (plant_at f) done)) + points (map shape (map (plant_at f) rest))
  sum done rest e =
      ap (λ l. points (map shape (map (plant_at f) l))) e
      ∙ ap (λ us. points (map shape us)) (map-append (plant_at f) done rest)
      ∙ points-plants (map (plant_at f) done) (map (plant_at f) rest)

  -- the tree at x may be asked for
  pub circling-first : TreeAsked f last before x (length f - at) d e at
  circling-first =
      let s = sum (x ∷ []) (orbit (image f) round.0 x) round.1 in
      record {
        prepared = a.prepared;
        links = a.links;
        here = a.here;
        bounded = omega (arith, a.room);
        room = omega (arith, a.room);
      }

  pub circling-start : {end : ℕ} {trees labels : List ℕ} → Planted (plant_at f x ∷ []) at d e end trees labels
      → Circling f x at d e (image f x) end trees labels
  circling-start w =
      record {
        done = x ∷ [];
        rest = orbit (image f) round.0 x;
        cycle = round.1;
        walk = round.2;
        here = table_below (length f) f refl a.prepared.table x a.here;
        planted = w;
      }

  module _ {y end : ℕ} {trees labels : List ℕ} (c : Circling f x at d e y end trees labels) where
    pub circling-bound : end ≤ length f
    circling-bound = omega (arith, c.planted.ends, sum c.done c.rest c.cycle, a.room)

    pub circling-trees : length trees ≡ length f
    circling-trees = planted-trees c.planted (omega (arith, circling-bound, a.prepared.trees_room)) ∙ a.prepared.trees_room

    pub circling-labels : length labels ≡ length f
    circling-labels = planted-labels c.planted (omega (arith, circling-bound, a.prepared.labels_room)) ∙ a.prepared.labels_room

    -- the cycle is closed
    pub circling-end : y ≡ x → Planted (plants_along f x) at d e end trees labels
    circling-end q =
        subst (λ l. Planted (map (plant_at f) l) at d e end trees labels)
        (sym (c.cycle ∙ ap (λ l. c.done ++ l) (walk-home c.walk q) ∙ append-nil c.done)) c.planted

    module _ (q : y ≡ x → ⊥) where
      abbrev later : List ℕ
      later = (walk-on c.walk q).0

      split : cycle_from (length f) (image f) x ≡ c.done ++ (y ∷ later)
      split = c.cycle ∙ ap (λ l. c.done ++ l) (walk-on c.walk q).1

      fits : end + size (shape (plant_at f y)) ≤ length f
      fits = omega (arith, c.planted.ends, sum c.done (y ∷ later) split, a.room)

      -- the tree at y may be asked for
      pub circling-asked : TreeAsked f last before y (length f - end) trees labels end
      circling-asked =
          record {
            prepared =
                record {
                  table = a.prepared.table;
                  small = a.prepared.small;
                  trees_room = circling-trees;
                  labels_room = circling-labels;
                };
            links = a.links;
            here = c.here;
            bounded = omega (arith, fits);
            room = omega (arith, fits);
          }

      module _ {next : ℕ} {trees' labels' : List ℕ} (w : Planted (plant_at f y ∷ []) end trees labels next trees' labels') where
        pub circling-less : length f - next < length f - end
        circling-less = omega (arith, w.ends, fits, size-positive (shape (plant_at f y)))

        -- the walk goes on
        pub circling-next : Circling f x at d e (image f y) next trees' labels'
        circling-next =
            record {
              done = c.done ++ (y ∷ []);
              rest = later;
              cycle = split ∙ sym (append_assoc c.done (y ∷ []) later);
              walk = (walk-on c.walk q).2;
              here = table_below (length f) f refl a.prepared.table y c.here;
              planted = subst (λ us. Planted us at d e next trees' labels') (sym (map-append (plant_at f) c.done (y ∷ [])))
                  (planted-then
                  (omega (arith, circling-bound, c.planted.ends, a.prepared.trees_room))
                  (omega (arith, circling-bound, c.planted.ends, a.prepared.labels_room))
                  c.planted w);
            }
