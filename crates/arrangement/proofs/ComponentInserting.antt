-- Inserting a component of plants among sorted ones, as blocks of trees and labels, and its size among their sizes.
use mathlib.Core.Path.{◌≡◌, refl, ap, sym, subst, ◌∙◌}
use mathlib.Core.List.{List, [], ◌∷◌, ◌++◌, map, map-append, append_assoc}
use Prim.Native.Nat.{ℕ, suc, ◌+◌, ◌-◌, ◌≤◌, ◌<◌}
use native.Mathlib.Omega.{arith}
use lib.ListN.{length, take, drop, set, length-append, length-map}
use lib.Seq.{set_split, take_at, length-take-le}
use Rattle.lists.specs.Order.{at_most}
use Rattle.lists.specs.Sort.{insert}
use Rattle.lists.specs.Blocks.{exchanged}
use Rattle.lists.specs.Select.{gather}
use Rattle.lists.proofs.Tests.{by-test}
use Rattle.lists.proofs.Members.{gather_append}
use Rattle.patterns.specs.Component.{Component, points, flat}
use Rattle.patterns.specs.System.{System, weight, compare_generated}
use Rattle.patterns.proofs.Trees.{length-flat}
use Rattle.arrangement.specs.declared.Place.{Place}
use Rattle.map_theory.specs.Plants.{Plant, shape, labels, shapes, compare_shapes, joined}
use Rattle.arrangement.specs.Arrangement.{Planted}
use Rattle.arrangement.specs.Arrangement.{components_before, PlaceFound, PlaceAsked, InsertAsked}
use Rattle.memory.proofs.Standing.{stands-left, stands-right, stands-path, stands_at, stands-part, part_length}
use Rattle.arrangement.proofs.Planting.{exchanged-parts, flat-plants, points-plants, planted-stands, planted-exchanged}
use Rattle.memory.proofs.Parts.{length-trees}
use Rattle.arrangement.proofs.ComponentPlaces.{before-stop, before-pass, before-none}

-- the trees and labels of components one after another
pub joined-flat : (pic : List (List Plant)) → flat (map shape (joined pic)) ≡ gather flat (shapes pic)
joined-flat [] = refl
joined-flat (c ∷ pic) = flat-plants c (joined pic) ∙ ap (λ l. flat (map shape c) ++ l) (joined-flat pic)

pub joined-points : (pic : List (List Plant)) → points (map shape (joined pic)) ≡ weight (shapes pic)
joined-points [] = refl
joined-points (c ∷ pic) = points-plants c (joined pic) ∙ ap (λ k. points (map shape c) + k) (joined-points pic)

pub joined-labels : (pic : List (List Plant)) → gather labels (joined pic) ≡ gather (gather labels) pic
joined-labels [] = refl
joined-labels (c ∷ pic) = gather_append labels c (joined pic) ∙ ap (λ l. gather labels c ++ l) (joined-labels pic)

pub joined-append : (a b : List (List Plant)) → joined (a ++ b) ≡ joined a ++ joined b
joined-append a b = gather_append (λ c. c) a b

-- the components before the place of c, and those from there on
pub record InsertedAmong (c : List Plant) (pic : List (List Plant)) : Type 0 where
  pub front : List (List Plant)
  pub back : List (List Plant)
  pub cut : pic ≡ front ++ back
  pub together : insert compare_shapes c pic ≡ front ++ (c ∷ back)
  pub place : components_before (map shape c) (shapes pic) ≡ shapes front

pub insert-among : (c : List Plant) (pic : List (List Plant)) → InsertedAmong c pic
insert-among c [] = record { front = []; back = []; cut = refl; together = refl; place = before-none (map shape c) }
insert-among c (d ∷ pic) =
    by-test (at_most compare_shapes c d)
    (λ t. record { front = []; back = d ∷ pic; cut = refl; together = rw t; place = before-stop (map shape c) (map shape d) (shapes pic) t })
    (λ t.
    let r = insert-among c pic in
    record {
      front = d ∷ r.front;
      back = r.back;
      cut = ap (λ l. d ∷ l) r.cut;
      together = rw t (ap (λ l. d ∷ l) r.together);
      place = before-pass (map shape c) (map shape d) (shapes pic) t ∙ ap (λ l. map shape d ∷ l) r.place;
    })

-- a number put behind the first m and brought to its place among them
number-inserted : (a b : List ℕ) (x : ℕ) (s : List ℕ) (i m : ℕ) → m < length s → take m s ≡ a ++ b → length a ≡ i
    → take (m + 1) (exchanged i m (m + 1) (set s m x)) ≡ a ++ (x ∷ b)
number-inserted a b x s i m h e k =
    let z : List ℕ = drop (suc m) s in
    let n : length (a ++ b) ≡ m = ap length (sym e) ∙ length-take-le m s (omega arith) in
    let q : set s m x ≡ a ++ (b ++ ((x ∷ []) ++ z)) = set_split s m x h ∙ ap (λ l. l ++ (x ∷ z)) e ∙ append_assoc a b (x ∷ z) in
    let r : exchanged i m (m + 1) (set s m x) ≡ (a ++ (x ∷ b)) ++ z =
    ap (exchanged i m (m + 1)) q
    ∙ exchanged-parts a b (x ∷ []) z i m (m + 1) k (omega (arith, length-append a b)) refl
    ∙ sym (append_assoc a (x ∷ b) z) in
    ap (take (m + 1)) r ∙ take_at (a ++ (x ∷ b)) z (m + 1) (omega (arith, length-append a (x ∷ b), length-append a b))

module _ (pic : List (List Plant)) (c : List Plant) {end next : ℕ} {d e trees labelled : List ℕ} (ends : end ≡ points (map shape (joined pic)))
    (p : Planted (joined pic ++ c) 0 d e next trees labelled) where
  next-is : next ≡ end + points (map shape c)
  next-is = omega (arith, p.ends, points-plants (joined pic) c)

  -- where the components and the last one stand
  pub inserting-trees : take end trees ≡ gather flat (shapes pic)
  inserting-trees =
      let s = stands-left (flat (map shape c)) (stands-path (flat-plants (joined pic) c) (planted-stands (omega arith) p)) in
      let k : end - 0 ≡ end = omega arith in
      ap (λ n. take n trees) (sym k) ∙ stands-part end (omega (arith, length-flat (map shape (joined pic)))) s ∙ joined-flat pic

  pub inserting-last : take (next - end) (drop end trees) ≡ flat (map shape c)
  inserting-last =
      stands-part next (omega (arith, next-is, length-flat (map shape c)))
      (stands_at (omega (arith, length-flat (map shape (joined pic))))
      (stands-right (flat (map shape (joined pic))) (stands-path (flat-plants (joined pic) c) (planted-stands (omega arith) p))))

  -- the exchanges bring c and its size to their places
  pub component-inserted : (m : ℕ) (sizes : List ℕ) (r : Place) → next ≤ length d → next ≤ length e → m < length sizes
      → take m sizes ≡ map points (shapes pic) → PlaceFound (map shape c) (shapes pic) r
      → (take (m + 1) (exchanged r.index m (m + 1) (set sizes m (next - end))) ≡ map points (shapes (insert compare_shapes c pic)))
      × Planted (joined (insert compare_shapes c pic)) 0 d e next (exchanged r.at end next trees) (exchanged r.at end next labelled)
  component-inserted m sizes r h k b s f =
      let w = insert-among c pic in
      let front = w.front in
      let back = w.back in
      let at_is : r.at ≡ points (map shape (joined front)) = f.at_is ∙ ap weight w.place ∙ sym (joined-points front) in
      let cut : joined pic ++ c ≡ joined front ++ (joined back ++ c) =
      ap (λ l. joined l ++ c) w.cut ∙ ap (λ l. l ++ c) (joined-append front back) ∙ append_assoc (joined front) (joined back) c in
      let out : joined (insert compare_shapes c pic) ≡ joined front ++ (c ++ joined back) = ap joined w.together ∙ joined-append front (c ∷ back) in
      let size : next - end ≡ points (map shape c) = omega (arith, next-is) in (
        number-inserted (map points (shapes front)) (map points (shapes back)) (next - end) sizes r.index m b
            (s ∙ ap (λ l. map points (shapes l)) w.cut ∙ ap (map points) (map-append (map shape) front back) ∙ map-append points (shapes front) (shapes back))
            (length-map (shapes front) points ∙ sym (f.index_is ∙ ap length w.place))
            ∙ ap (λ x. map points (shapes front) ++ (x ∷ map points (shapes back))) size
            ∙ sym (ap (λ l. map points (shapes l)) w.together ∙ ap (map points) (map-append (map shape) front (c ∷ back)) ∙ map-append points (shapes front) (shapes (c ∷ back))),
        subst (λ us. Planted us 0 d e next (exchanged r.at end next trees) (exchanged r.at end next labelled)) (sym out)
            (planted-exchanged (joined front) (joined back) c {mid = r.at} {end = end} h k
            (omega arith)
            (omega (arith, ap (λ l. points (map shape (joined l))) w.cut, ap (λ l. points (map shape l)) (joined-append front back), points-plants (joined front) (joined back)))
            (subst (λ us. Planted us 0 d e next trees labelled) cut p)),
      )

-- the components before the place of c are among the others
before-within : (c : Component) (S : System) → (length (components_before c S) ≤ length S) × (weight (components_before c S) ≤ weight S)
before-within c [] = (omega (arith, ap length (before-none c)), omega (arith, ap weight (before-none c)))
before-within c (d ∷ S) =
    by-test (at_most compare_generated c d)
    (λ t. (omega (arith, ap length (before-stop c d S t)), omega (arith, ap weight (before-stop c d S t))))
    (λ t.
    let r = before-within c S in
    (omega (arith, ap length (before-pass c d S t)), omega (arith, ap weight (before-pass c d S t))))

module _ {sizes : List ℕ} {m : ℕ} {trees labelled : List ℕ} {end next : ℕ} (a : InsertAsked sizes m trees labelled end next) where
  whole-trees : take (end - 0) trees ≡ take end trees
  whole-trees = let k : end - 0 ≡ end = omega arith in ap (λ n. take n trees) k

  -- its place may be asked for
  pub asked-place : PlaceAsked (take (next - end) (drop end trees)) (take m sizes) (take (end - 0) trees)
  asked-place =
      record {
        component = a.component;
        system = a.system;
        component_is = a.component_is;
        component_valid = a.component_valid;
        sizes_are = a.sizes_are;
        trees_are = whole-trees ∙ a.trees_are;
        system_valid = a.system_valid;
        small = (
          omega (arith, part_length trees end next a.fits, a.fits, a.small),
          omega (arith, ap length whole-trees, length-take-le end trees (omega (arith, a.after, a.fits)), a.after, a.fits, a.small),
        );
      }

  module _ {r : Place}
      (f : (x : Component) (S : System) → take (next - end) (drop end trees) ≡ flat x → take m sizes ≡ map points S → take (end - 0) trees ≡ gather flat S
      → PlaceFound x S r) where
    -- and lies within
    pub place-within : (r.index ≤ m) × (r.at ≤ end)
    place-within =
        let p = f a.component a.system a.component_is a.sizes_are (whole-trees ∙ a.trees_are) in
        let b = before-within a.component a.system in (
          omega (arith, p.index_is, ap length a.sizes_are, length-map a.system points, length-take-le m sizes (omega (arith, a.count))),
          omega (arith, p.at_is, ap length a.trees_are, length-trees a.system, length-take-le end trees (omega (arith, a.after, a.fits))),
        )

    pub place_of : (pic : List (List Plant)) (c : List Plant) {d e : List ℕ} → take m sizes ≡ map points (shapes pic)
        → end ≡ points (map shape (joined pic)) → Planted (joined pic ++ c) 0 d e next trees labelled → PlaceFound (map shape c) (shapes pic) r
    place_of pic c s ends p = f (map shape c) (shapes pic) (inserting-last pic c ends p) s (whole-trees ∙ inserting-trees pic c ends p)
