-- Components one after another, read up to a place, and what the lent memory then holds.
use Rattle.std.specs.Prelude.{Result as Read, Ok, Err}
use mathlib.Core.Path.{◌≡◌, refl, ap, sym, ◌∙◌}
use mathlib.Core.Bool.{◌||◌}
use mathlib.Core.List.{List, [], ◌∷◌, ◌++◌, map, append-nil, append_assoc}
use Prim.Native.Nat.{ℕ, suc, ◌+◌, ◌-◌, ◌≤◌, ◌<◌}
use native.Mathlib.Nat.{sub-zero}
use native.Mathlib.Numerals.{add-one}
use native.Mathlib.Omega.{arith}
use lib.Dec.{ltb, eqb}
use lib.ListN.{length, take, drop, get_or, set, length-append, length-drop, length-set}
use lib.Seq.{drop-drop, take_at, take-suc-set, length-take-le}
use borrow.Author.Tests.{eq-eqb, ne_eqb}
use Rattle.lists.specs.Select.{gather}
use Rattle.lists.proofs.Tests.{by-test, clash}
use Rattle.lists.proofs.Members.{gather_append}
use Rattle.lists.proofs.Permute.{total-append}
use Rattle.patterns.specs.declared.Refusal.{Refusal}
use Rattle.patterns.specs.declared.Refusal.TheVariants.{Sizes}
use Rattle.patterns.specs.Component.{Component, points, flat}
use Rattle.patterns.specs.System.{System, weight}
use Rattle.patterns.specs.Reading.{Result, done, fault, and_then, mapped, read_components}
use Rattle.patterns.proofs.Trees.{length-flat}
use Rattle.written.specs.Putting.{placed}
use Rattle.written.proofs.Placing.{placed-length}
use Rattle.form_theory.specs.ReadComponent.{read_component}
use Rattle.tree_reading.specs.Walking.{walked_all}
use Rattle.component_reading.specs.ReadComponents.{MemoryRoom, ReadInto}
use Rattle.form_theory.proofs.Results.{good-done, mapped-none, mapped-more}
use Rattle.form_theory.proofs.ReadFrom.{ComponentOf, component-good}
use Rattle.tree_reading.proofs.Narrowing.{flat-small}

-- m + 1 components: one, and then m
pub components-next : (m left : ℕ) (s : List ℕ)
    → read_components (suc m) left s ≡ and_then (read_component left s) (λ c. mapped (c ∷◌) (read_components m (left - points c) (drop (suc (points c)) s)))
unfolding read_components read_component
components-next m left [] = refl
components-next m left (k ∷ s) = by-test (eqb k 0 || ltb left k) (λ e. rw e) (λ e. rw e)

-- the component c was read from place `next` to place `end`
pub record ComponentAt (s : List ℕ) (next rest end : ℕ) (c : Component) : Type 0 where
  pub is : read_component rest (drop next s) ≡ done c
  pub place : end ≡ next + 1 + points c
  pub trees : 0 < length c
  pub within : points c ≤ rest
  pub ends : end ≤ length s
  pub flat_is : take (end - (next + 1)) (drop (next + 1) s) ≡ flat c

component-of : (at next : ℕ) (o : Result Component) → walked_all at o ≡ Ok next → (c : Component) × (o ≡ done c) × (next ≡ at + points c)
component-of at next (done c) e = (c, refl, cc)
component-of at next (fault c) e = clash cc

component-fault : (at : ℕ) (c : Refusal) (o : Result Component) → walked_all at o ≡ Err c → o ≡ fault c
component-fault at c (done t) e = clash cc
component-fault at c (fault d) e = ap fault cc

placed-component : (s : List ℕ) (next rest end : ℕ) (c : Component) → read_component rest (drop next s) ≡ done c → end ≡ next + 1 + points c
    → ComponentAt s next rest end c
placed-component s next rest end c e z =
    let g = good-done (ComponentOf rest (drop next s)) (read_component rest (drop next s)) c e (component-good rest (drop next s)) in
    let n = ap length g.0 in
    let l = length-append (flat c) (drop (suc (points c)) (drop next s)) in
    let f = length-flat c in
    let d = length-drop next s in
    let k : end - (next + 1) ≡ points c = omega arith in
    let q : drop (next + 1) s ≡ flat c ++ drop (suc (points c)) (drop next s) = sym (drop-drop 1 next s) ∙ ap (drop 1) g.0 in
    record {
      is = e;
      place = z;
      trees = g.1;
      within = g.2;
      ends = omega arith;
      flat_is = rw (k, q) (take_at (flat c) (drop (suc (points c)) (drop next s)) (points c) f);
    }

pub component-at : (s : List ℕ) (next rest end : ℕ) (r : Read ℕ Refusal) → r ≡ walked_all (next + 1) (read_component rest (drop next s)) → r ≡ Ok end
    → (c : Component) × ComponentAt s next rest end c
component-at s next rest end r f e =
    let g = component-of (next + 1) end (read_component rest (drop next s)) (sym f ∙ e) in
    (g.0, placed-component s next rest end g.0 g.1 g.2)

-- its numbers are bytes
pub component_bytes : {s : List ℕ} {next rest end : ℕ} {c : Component} → ComponentAt s next rest end c → rest ≤ 200
    → (i : ℕ) → get_or (take (end - (next + 1)) (drop (next + 1) s)) i 0 < 256
component_bytes {s} {next} {rest} {end} {c} a h i = rw a.flat_is (omega (arith, flat-small c (points c) (omega arith) i, a.within))

-- Components one after another: i of m have been read, from place `at` to place `next`, and `rest` points are left.
pub record Gathering (s sizes₀ trees₀ : List ℕ) (at m left : ℕ) (sizes trees : List ℕ) (next rest i : ℕ) : Type 0 where
  pub turn : i ≤ m
  pub had : System
  pub count : length had ≡ i
  pub place : next ≡ at + (length had + weight had)
  pub points_left : rest + weight had ≡ left
  pub further : read_components m left (drop at s) ≡ mapped (had ++◌) (read_components (m - i) rest (drop next s))
  pub same_sizes : length sizes ≡ length sizes₀
  pub same_trees : length trees ≡ length trees₀
  pub points_are : take i sizes ≡ map points had
  pub flat_is : take (left - rest) trees ≡ gather flat had

pub gathering-start : (s sizes trees : List ℕ) (at m left : ℕ) → Gathering s sizes trees at m left sizes trees at left 0
gathering-start s sizes trees at m left =
    let z : left - left ≡ 0 = omega arith in
    record {
      turn = omega arith;
      had = [];
      count = refl;
      place = omega arith;
      points_left = omega arith;
      further = rw sub-zero (mapped-none (read_components m left (drop at s)));
      same_sizes = refl;
      same_trees = refl;
      points_are = refl;
      flat_is = rw z;
    }

-- what was placed, with what stands before it
take-placed : (p : ℕ) (l d : List ℕ) → p ≤ length d → take (p + length l) (placed p l d) ≡ take p d ++ l
take-placed p l d h =
    let q : take p d ++ (l ++ drop (p + length l) d) ≡ take p d ++ l ++ drop (p + length l) d = sym (append_assoc (take p d) l (drop (p + length l) d)) in
    ap (take (p + length l)) q
    ∙ take_at (take p d ++ l) (drop (p + length l) d) (p + length l) (omega (arith, length-append (take p d) l, length-take-le p d h))

map_snoc : {A B : Type 0} (f : A → B) (l : List A) (x : A) → map f (l ++ (x ∷ [])) ≡ map f l ++ (f x ∷ [])
map_snoc f [] x = refl
map_snoc f (y ∷ l) x = ap (f y ∷◌) (map_snoc f l x)

gather-snoc : (S : System) (c : Component) → gather flat (S ++ (c ∷ [])) ≡ gather flat S ++ flat c
gather-snoc S c = gather_append flat S (c ∷ []) ∙ ap (gather flat S ++◌) (append-nil (flat c))

module _ {s sizes₀ trees₀ : List ℕ} {at m left : ℕ} {sizes trees : List ℕ} {next rest i : ℕ}
    (room : MemoryRoom m left sizes₀ trees₀) (w : Gathering s sizes₀ trees₀ at m left sizes trees next rest i) where
  more : i < m → m - i ≡ suc (m - (i + 1))
  more h = omega arith

  -- room for its numbers
  pub gathering-room : {c : Component} {end : ℕ} → ComponentAt s next rest end c → left - rest + length (take (end - (next + 1)) (drop (next + 1) s)) ≤ length trees
  gathering-room {c} {end} a =
      rw (a.flat_is, length-flat c) (omega (arith, room.points, w.same_trees, w.points_left, a.within))

  -- one more component
  pub gathering-next : (c : Component) (end : ℕ) → ComponentAt s next rest end c → i < m
      → Gathering s sizes₀ trees₀ at m left (set sizes i (end - next - 1))
      (placed (left - rest) (take (end - (next + 1)) (drop (next + 1) s)) trees)
      end (rest - (end - next - 1)) (i + 1)
  gathering-next c end a h =
      let size : end - next - 1 ≡ points c = omega (arith, a.place) in
      let l = length-append w.had (c ∷ []) in
      let t = total-append points w.had (c ∷ []) in
      let f = length-flat c in
      let filled : left - (rest - points c) ≡ left - rest + length (flat c) = omega (arith, w.points_left, a.within) in
      let from : next + suc (points c) ≡ end = omega (arith, a.place) in
      record {
        turn = omega arith;
        had = w.had ++ (c ∷ []);
        count = omega (arith, w.count);
        place = omega (arith, w.place, a.place);
        points_left = omega (arith, w.points_left, a.place, a.within);
        further =
            w.further
            ∙ rw (more h, components-next (m - (i + 1)) rest (drop next s), a.is, drop-drop (suc (points c)) next s, from, size)
            (mapped-more w.had c (read_components (m - (i + 1)) (rest - points c) (drop end s)));
        same_sizes = simp length-set w.same_sizes;
        same_trees =
            rw a.flat_is
            (placed-length (left - rest) (flat c) trees (omega (arith, room.points, w.same_trees, w.points_left, a.within)) ∙ w.same_trees);
        points_are =
            rw (add-one, size, map_snoc points w.had c, ← w.points_are)
            (take-suc-set sizes i (points c) (omega (arith, room.components, w.same_sizes)));
        flat_is =
            rw (a.flat_is, size, filled, gather-snoc w.had c, ← w.flat_is)
            (take-placed (left - rest) (flat c) trees (omega (arith, room.points, w.same_trees)));
      }

  -- a component that is refused
  pub gathering-refused : (c : Refusal) (r : Read ℕ Refusal) → i < m → r ≡ walked_all (next + 1) (read_component rest (drop next s)) → r ≡ Err c
      → ReadInto at (read_components m left (drop at s)) (Err c) sizes trees
  gathering-refused c r h g e =
      let f = component-fault (next + 1) c (read_component rest (drop next s)) (sym g ∙ e) in
      let o : read_components m left (drop at s) ≡ fault c = w.further ∙ rw (more h, components-next (m - (i + 1)) rest (drop next s), f) in
      record { reply = rw o; held = λ S q. clash cc }

  -- points are left after the last component
  pub gathering-over : m ≤ i → 0 < rest → ReadInto at (read_components m left (drop at s)) (Err Sizes) sizes trees
  unfolding read_components
  gathering-over h p =
      let z : m - i ≡ 0 = omega arith in
      let o : read_components m left (drop at s) ≡ fault Sizes = w.further ∙ rw (z, ne_eqb rest 0 (λ e. omega arith)) in
      record { reply = rw o; held = λ S q. clash cc }

  -- nothing is left
  pub gathering-end : m ≤ i → rest ≤ 0 → ReadInto at (read_components m left (drop at s)) (Ok next) sizes trees
  unfolding read_components
  gathering-end h p =
      let z : m - i ≡ 0 = omega arith in
      let v : rest ≡ 0 = omega arith in
      let o : read_components m left (drop at s) ≡ done w.had = w.further ∙ rw (z, eq-eqb rest 0 v, append-nil w.had) in
      let q : left - rest ≡ weight w.had = omega (arith, w.points_left) in
      let k : i ≡ length w.had = sym w.count in
      let n : next ≡ at + (length w.had + weight w.had) = w.place in
      record {
        reply = rw o (ap Ok n);
        held = λ S e. let same : w.had ≡ S = cc in rw (← same) record { points_are = rw w.count w.points_are; flat_is = rw (← q) w.flat_is };
      }
