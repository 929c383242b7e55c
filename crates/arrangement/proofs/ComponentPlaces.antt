-- The place of a component among others, by number of points and then by generation order.
use mathlib.Core.Path.{◌≡◌, refl, ap, sym, ◌∙◌}
use mathlib.Core.Bool.{true, false}
use mathlib.Core.List.{List, [], ◌∷◌, ◌++◌, map, append_assoc, append-nil}
use Prim.Native.Nat.{ℕ, ◌+◌, ◌-◌, ◌≤◌, ◌<◌, Ordering}
use native.Mathlib.Omega.{arith}
use lib.Dec.{is_le}
use lib.ListN.{length, get_or, take, drop, length-map}
use Rattle.std.specs.Ordering.{is_le as cmp_is_le}
use Rattle.std.specs.declared.cmp.Ordering as cmp
use Rattle.std.specs.declared.cmp.Ordering.TheVariants.{Less, Equal, Greater}
use Rattle.lists.specs.Order.{at_most}
use Rattle.lists.specs.Blocks.{ordering_of}
use Rattle.lists.specs.Select.{gather}
use Rattle.lists.proofs.Tests.{each_member}
use Rattle.lists.proofs.Members.{in_head, in_list, in_append_right}
use Rattle.patterns.specs.Component.{Component, points, flat, valid_component}
use Rattle.patterns.specs.System.{System, weight, compare_generated}
use Rattle.arrangement.specs.declared.Place.{Place}
use Rattle.arrangement.specs.Arrangement.{components_before, PlaceAsked, PlaceFound}
use Rattle.paths.specs.HeldPaths.{HeldPair}
use Rattle.memory.proofs.Parts.{length-trees}
use Rattle.memory.proofs.Standing.{part_length}
use Rattle.memory.proofs.SystemWalks.{AlongSystem, NextComponent, system_start, system-next, system-end, system-step, component-part, component-size, component-ends, whole}

-- whether the library's ordering says at most
pub ordering-le : (o : cmp.Ordering) → is_le (ordering_of o) ≡ cmp_is_le o
ordering-le Less = refl
ordering-le Equal = refl
ordering-le Greater = refl

pub before-stop : (c d : Component) (S : System) → at_most compare_generated c d ≡ true → components_before c (d ∷ S) ≡ []
unfolding components_before
before-stop c d S e = rw e

pub before-pass : (c d : Component) (S : System) → at_most compare_generated c d ≡ false → components_before c (d ∷ S) ≡ d ∷ components_before c S
unfolding components_before
before-pass c d S e = rw e

pub before-none : (c : Component) → components_before c [] ≡ []
unfolding components_before
before-none c = refl

-- all components up to the place come before c
pub record Searching (c : Component) (S : System) (i at : ℕ) : Type 0 where
  pub along : AlongSystem S i at
  pub before : components_before c S ≡ along.had ++ components_before c along.rest

pub searching-start : (c : Component) (S : System) → Searching c S 0 0
unfolding system_start
searching-start c S = record { along = system_start S; before = refl }

module _ {c : Component} {S : System} {i at : ℕ} (w : Searching c S i at) where
  found : components_before c w.along.rest ≡ [] → components_before c S ≡ w.along.had
  found e = w.before ∙ ap (λ l. w.along.had ++ l) e ∙ append-nil w.along.had

  module _ (n : NextComponent w.along) where
    pub searching-stop : at_most compare_generated c n.component ≡ true → components_before c S ≡ w.along.had
    searching-stop t = found (ap (components_before c) n.is ∙ before-stop c n.component n.later t)

    pub searching-step : (end : ℕ) → end ≡ at + points n.component → at_most compare_generated c n.component ≡ false → Searching c S (i + 1) end
    unfolding system-step
    searching-step end e t =
        record {
          along = system-step w.along n end e;
          before =
              w.before
              ∙ ap (λ l. w.along.had ++ l) (ap (components_before c) n.is ∙ before-pass c n.component n.later t)
              ∙ sym (append_assoc w.along.had (n.component ∷ []) (components_before c n.later));
        }

  pub searching-end : length S ≤ i → components_before c S ≡ w.along.had
  searching-end h = found (ap (components_before c) (system-end w.along h) ∙ before-none c)

  pub place_found : (r : Place) → r.index ≡ i → r.at ≡ at → components_before c S ≡ w.along.had → PlaceFound c S r
  place_found r e g q =
      record {
        index_is = e ∙ sym w.along.index ∙ ap length (sym q);
        at_is = g ∙ w.along.place ∙ ap weight (sym q);
      }

module _ {s sizes trees : List ℕ} {i at : ℕ} (a : PlaceAsked s sizes trees)
    (inv : (c : Component) (S : System) → s ≡ flat c → sizes ≡ map points S → trees ≡ gather flat S → Searching c S i at) (h : i < length sizes) where
  pub next : (c : Component) (S : System) (e : s ≡ flat c) (g : sizes ≡ map points S) (q : trees ≡ gather flat S) → NextComponent (inv c S e g q).along
  next c S e g q = system-next (inv c S e g q).along (omega (arith, ap length g, length-map S points))

  -- the component at the place ends within the trees
  pub searching-bound : at + get_or sizes i 0 ≤ length trees
  searching-bound =
      let w = (inv a.component a.system a.component_is a.sizes_are a.trees_are).along in
      let n = next a.component a.system a.component_is a.sizes_are a.trees_are in
      omega (arith, component-size w n a.sizes_are, component-ends w n, ap length a.trees_are, length-trees a.system)

  -- and is what stands there
  pub searching-part : (c : Component) (S : System) (e : s ≡ flat c) (g : sizes ≡ map points S) (q : trees ≡ gather flat S)
      → take (at + get_or sizes i 0 - at) (drop at trees) ≡ flat (next c S e g q).component
  searching-part c S e g q =
      let w = (inv c S e g q).along in
      let n = next c S e g q in
      component-part w n (at + get_or sizes i 0) q (ap (λ k. at + k) (component-size w n g))

  -- the two may be compared
  pub searching-both : HeldPair s (take (at + get_or sizes i 0 - at) (drop at trees))
  searching-both =
      let w = (inv a.component a.system a.component_is a.sizes_are a.trees_are).along in
      let n = next a.component a.system a.component_is a.sizes_are a.trees_are in
      let p = searching-part a.component a.system a.component_is a.sizes_are a.trees_are in
      record {
        first = a.component;
        second = n.component;
        first_is = a.component_is;
        second_is = p;
        valid = λ _. (a.component_valid, each_member valid_component a.system_valid (in_list (sym (whole w n)) (in_append_right w.had in_head)));
        small = (a.small.0, omega (arith, part_length trees at (at + get_or sizes i 0) searching-bound, searching-bound, a.small.1));
      }

  module _ {o : Ordering} (r : (x y : Component) → s ≡ flat x → take (at + get_or sizes i 0 - at) (drop at trees) ≡ flat y → o ≡ compare_generated x y) where
    compared : (c : Component) (S : System) (e : s ≡ flat c) (g : sizes ≡ map points S) (q : trees ≡ gather flat S)
        → at_most compare_generated c (next c S e g q).component ≡ is_le o
    compared c S e g q = ap is_le (sym (r c (next c S e g q).component e (searching-part c S e g q)))

    -- the place is found
    pub search-stop : is_le o ≡ true → (p : Place) → p.index ≡ i → p.at ≡ at
        → (c : Component) (S : System) → s ≡ flat c → sizes ≡ map points S → trees ≡ gather flat S → PlaceFound c S p
    search-stop t p f k c S e g q =
        let w = inv c S e g q in
        place_found w p f k (searching-stop w (next c S e g q) (compared c S e g q ∙ t))

    -- the search goes on
    pub search-step : is_le o ≡ false
        → (c : Component) (S : System) → s ≡ flat c → sizes ≡ map points S → trees ≡ gather flat S → Searching c S (i + 1) (at + get_or sizes i 0)
    search-step t c S e g q =
        let w = inv c S e g q in
        let n = next c S e g q in
        searching-step w n (at + get_or sizes i 0) (ap (λ k. at + k) (component-size w.along n g)) (compared c S e g q ∙ t)

-- the place is after them all
pub search-end : {s sizes trees : List ℕ} {i at : ℕ}
    → ((c : Component) (S : System) → s ≡ flat c → sizes ≡ map points S → trees ≡ gather flat S → Searching c S i at) → length sizes ≤ i
    → (p : Place) → p.index ≡ i → p.at ≡ at
    → (c : Component) (S : System) → s ≡ flat c → sizes ≡ map points S → trees ≡ gather flat S → PlaceFound c S p
search-end inv h p f k c S e g q =
    let w = inv c S e g q in
    place_found w p f k (searching-end w (omega (arith, ap length g, length-map S points)))
