-- Writing numbers, components and whole systems into a lent output, one after another, with exactly the room that they need.
use mathlib.Core.Path.{◌≡◌, refl, ap, sym, ◌∙◌, subst}
use mathlib.Core.Bool.{Bool, false}
use mathlib.Core.List.{List, [], ◌∷◌, ◌++◌, append-nil}
use Prim.Native.Nat.{ℕ, ◌+◌, ◌-◌, ◌≤◌, ◌<◌}
use native.Mathlib.Numerals.{add-one}
use native.Mathlib.Omega.{arith}
use lib.ListN.{length, take, drop, get_or, length-append}
use lib.Seq.{take-suc}
use lib.Dec.{ltb}
use borrow.Author.Tests.{ltb-false}
use Rattle.lists.specs.Select.{gather}
use Rattle.patterns.specs.Component.{Component, flat}
use Rattle.patterns.specs.System.{System, weight}
use Rattle.patterns.specs.Written.{component_numbers, write_number, bytes, written}
use Rattle.patterns.proofs.Trees.{length-flat}
use Rattle.memory.specs.Memory.{Holds, HeldSystem}
use Rattle.memory.proofs.Parts.{take_next, part-fits, held-count, held-points, held_fits, held-part, held_next, held-unique}
use Rattle.written.specs.Putting.{Placed}
use Rattle.written.proofs.Placing.{placed-length, placed-then}
use Rattle.form_theory.proofs.Bounds.{gather-within}
use Rattle.form_theory.proofs.Numbers.{bytes-append}
use Rattle.component_theory.proofs.Generation.{length-points}
use Rattle.form_theory.proofs.Readback.{components-points}
use Rattle.form_theory.proofs.Stretches.{bytes_of_component, bytes-gather}
use Rattle.form_theory.proofs.WrittenShort.{written-short}
use Rattle.form_theory.proofs.Widths.{widths-next, widths-within}
use Rattle.writing.specs.Writable.{ComponentRoom, ComponentsRoom, SystemRoom}

-- the output keeps its length
pub placed_same : {l : List ℕ} {at r : ℕ} {before after : List ℕ} → at + length l ≤ length before → Placed l at before r after → length after ≡ length before
placed_same {l} {at} {r} {before} h p = ap length p.output ∙ placed-length at l before h

-- numbers behind numbers
bytes_next : (xs ys : List ℕ) {at m r : ℕ} {before mid after : List ℕ} → at + length (bytes xs) ≤ length before
    → Placed (bytes xs) at before m mid → Placed (bytes ys) m mid r after → Placed (bytes (xs ++ ys)) at before r after
bytes_next xs ys h p q = rw (bytes-append xs ys) (placed-then h p q)

number-bytes : (x : ℕ) {at r : ℕ} {before after : List ℕ} → Placed (write_number x) at before r after → Placed (bytes (x ∷ [])) at before r after
number-bytes x p = rw (append-nil (write_number x)) p

-- The first i numbers of s are written.
pub record Numbering (s before : List ℕ) (at : ℕ) (out : List ℕ) (i next : ℕ) : Type 0 where
  pub within : i ≤ length s
  pub room : at + length (bytes s) ≤ length before
  pub had : Placed (bytes (take i s)) at before next out

module _ {s before : List ℕ} {at : ℕ} {out : List ℕ} {i next : ℕ} (w : Numbering s before at out i next) where
  numbering-had : at + length (bytes (take i s)) ≤ length before
  numbering-had = omega (arith, widths-within s i, w.room)

  pub numbering-same : length out ≡ length before
  numbering-same = placed_same numbering-had w.had

  -- room for the next
  pub numbering-fits : i < length s → next + length (write_number (get_or s i 0)) ≤ length out
  numbering-fits h = omega (arith, numbering-same, w.had.end, widths-next s i h, widths-within s (i + 1), w.room)

  pub numbering-next : (r : ℕ) (after : List ℕ) → i < length s → Placed (write_number (get_or s i 0)) next out r after → Numbering s before at after (i + 1) r
  numbering-next r after h p =
      record {
        within = omega arith;
        room = w.room;
        had = rw (add-one i, take-suc s i 0 h) (bytes_next (take i s) (get_or s i 0 ∷ []) numbering-had w.had (number-bytes (get_or s i 0) p));
      }

-- A component: the number of its trees, then their codes.
module _ {s before : List ℕ} {at : ℕ} (w : ComponentRoom s before at) where
  module _ {k : ℕ} (n : (c : Component) → s ≡ flat c → k ≡ length c) where
    count-is : k ≡ length w.held.trees
    count-is = n w.held.trees w.held.is

    -- the bytes of both parts
    all-bytes : length (bytes (component_numbers w.held.trees)) ≡ length (write_number k) + length (bytes s)
    all-bytes =
        let c = w.held.trees in
        omega (arith, length-append (write_number (length c)) (bytes (flat c)), ap (λ x. length (write_number x)) count-is, ap (λ x. length (bytes x)) w.held.is)

    pub number_fits : (k < 16384) × (at + length (write_number k) ≤ length before)
    number_fits =
        let c = w.held.trees in
        (omega (arith, count-is, ap length w.held.is, length-flat c, length-points c, w.held.small), omega (arith, all-bytes, w.room))

    module _ {m : ℕ} {mid : List ℕ} (p : Placed (write_number k) at before m mid) where
      pub component-written : (last : ℕ) (after : List ℕ) → Placed (bytes s) m mid last after
          → (c : Component) → s ≡ flat c → Placed (bytes (component_numbers c)) at before last after
      component-written last after q c e = rw (← e, ← n c e) (placed-then number_fits.1 p q)

-- The components of a system, one after another.

-- The first i components of S are written from the place `start` on, up to the place `from` of the trees.
pub record Writing (S : System) (before : List ℕ) (start : ℕ) (out : List ℕ) (i from at : ℕ) : Type 0 where
  pub place : from ≡ weight (take i S)
  pub had : Placed (bytes (gather component_numbers (take i S))) start before at out

-- the bytes of the first components
first-bytes : (S : System) (i : ℕ) → length (bytes (gather component_numbers (take i S))) ≤ length (bytes (gather component_numbers S))
first-bytes S i = omega (arith, ap length (bytes-gather (take i S)), ap length (bytes-gather S), gather-within bytes_of_component i S)

more_bytes : (S : System) (i : ℕ) → i < length S
    → length (bytes (gather component_numbers (take (i + 1) S))) ≡ length (bytes (gather component_numbers (take i S))) + length (bytes (component_numbers (get_or S i [])))
more_bytes S i h =
    let a = gather component_numbers (take i S) in
    let b = component_numbers (get_or S i []) in
    rw (take_next component_numbers S i h) (ap length (bytes-append a b) ∙ length-append (bytes a) (bytes b))

-- The same of the system that the two slices hold, whichever name it has.
module _ {sizes trees before : List ℕ} {start : ℕ} (w : ComponentsRoom sizes trees before start) where
  abbrev the-system : System
  the-system = w.held.system

  abbrev the-holds : Holds the-system sizes trees
  the-holds = w.held.holds

  module _ {out : List ℕ} {i from at : ℕ} (f : (S : System) → Holds S sizes trees → Writing S before start out i from at) where
    here : Writing the-system before start out i from at
    here = f the-system the-holds

    head-fits : start + length (bytes (gather component_numbers (take i the-system))) ≤ length before
    head-fits = omega (arith, first-bytes the-system i, w.room)

    pub system-same : length out ≡ length before
    system-same = placed_same head-fits here.had

    -- the next component ends within the trees
    pub system-to : i < length sizes → from + get_or sizes i 0 ≤ length trees
    system-to k = held_fits the-holds i from k here.place

    module _ (k : i < length sizes) where
      part : (S : System) → Holds S sizes trees → take (from + get_or sizes i 0 - from) (drop from trees) ≡ flat (get_or S i [])
      part S h = held-part h i from (from + get_or sizes i 0) k (f S h).place refl

      pub system-room : ComponentRoom (take (from + get_or sizes i 0 - from) (drop from trees)) out at
      system-room =
          let S = the-system in
          let c = get_or S i [] in
          let e = part S the-holds in
          let j : i < length S = omega (arith, held-count the-holds) in
          record {
            held = record { trees = c; is = e; small = omega (arith, ap length e, length-flat c, part-fits S i j, w.held.small) };
            room = omega (arith, here.had.end, more_bytes S i j, first-bytes S (i + 1), system-same, w.room);
          }

      pub system-next : (last : ℕ) (after : List ℕ)
          → ((c : Component) → take (from + get_or sizes i 0 - from) (drop from trees) ≡ flat c → Placed (bytes (component_numbers c)) at out last after)
          → (S : System) → Holds S sizes trees → Writing S before start after (i + 1) (from + get_or sizes i 0) last
      system-next last after p S h =
          let e : the-system ≡ S = held-unique the-holds h in
          let fits : start + length (bytes (gather component_numbers (take i S))) ≤ length before = rw e at head-fits in
          record {
            place = held_next h i from (from + get_or sizes i 0) k (f S h).place refl;
            had =
                rw (take_next component_numbers S i (omega (arith, held-count h)))
                (bytes_next (gather component_numbers (take i S)) (component_numbers (get_or S i [])) fits (f S h).had (p (get_or S i []) (part S h)));
          }

-- A whole system: its points, its components, then each component.
module _ {sizes trees before : List ℕ} {at : ℕ} (w : SystemRoom sizes trees before at) where
  abbrev rest : List ℕ
  rest = gather component_numbers w.held.system

  -- the bytes of the three parts
  whole : length (written w.held.system) ≡ length (write_number (length trees)) + (length (write_number (length sizes)) + length (bytes rest))
  unfolding written
  whole =
      let S = w.held.system in
      let n = write_number (weight S) in
      let m = write_number (length S) in
      rw (held-points w.held.holds, held-count w.held.holds)
      (omega (arith, length-append n (m ++ bytes rest), length-append m (bytes rest)))

  pub points-fit : (length trees < 16384) × (at + length (write_number (length trees)) ≤ length before)
  points-fit = (omega (arith, held-points w.held.holds, w.held.small), omega (arith, whole, w.room))

  module _ {front : ℕ} {mid : List ℕ} (p : Placed (write_number (length trees)) at before front mid) where
    -- there is room for what follows, also where the second number stands before the end of the first
    module _ {place : ℕ} (up_to : place ≤ front) where
      pub count_fits : (length sizes < 16384) × (place + length (write_number (length sizes)) ≤ length mid)
      count_fits = (
        omega (arith, held-count w.held.holds, components-points w.held.system w.held.each_nonempty, w.held.small),
        omega (arith, up_to, placed_same points-fit.1 p, p.end, whole, w.room),
      )

      pub components-fit : {next : ℕ} {out : List ℕ} → Placed (write_number (length sizes)) place mid next out → ComponentsRoom sizes trees out next
      components-fit q =
          record { held = w.held; room = omega (arith, up_to, placed_same points-fit.1 p, placed_same count_fits.1 q, p.end, q.end, whole, w.room) }

    module _ {next : ℕ} {out : List ℕ} (q : Placed (write_number (length sizes)) front mid next out) where
      pub system-written : (r : ℕ) (after : List ℕ) → ((S : System) → Holds S sizes trees → Placed (bytes (gather component_numbers S)) next out r after)
          → (S : System) → Holds S sizes trees → Placed (written S) at before r after
      unfolding written
      system-written r after f S h =
          let body : Placed (write_number (length sizes) ++ bytes (gather component_numbers S)) front mid r after = placed-then (count_fits (omega arith)).1 q (f S h) in
          rw (held-points h, held-count h) at (placed-then points-fit.1 p body)

-- The whole system put into the output, after a test whether it lacks room.
module _ {sizes trees : List ℕ} (w : HeldSystem sizes trees) where
  pub held-short : (S : System) → Holds S sizes trees → length (written S) ≤ 804
  held-short S h = subst (λ R. length (written R) ≤ 804) (held-unique w.holds h) (written-short w.system w.each_nonempty w.small)

module _ {sizes trees : List ℕ} (w : HeldSystem sizes trees) (before : List ℕ) {b : Bool}
    (e : (S : System) → Holds S sizes trees → b ≡ ltb (length before) (length (written S))) where
  fits : b ≡ false → (S : System) → Holds S sizes trees → length (written S) ≤ length before
  fits f S i = ltb-false (length before) (length (written S)) (sym (e S i) ∙ f)

  pub put-room : b ≡ false → SystemRoom sizes trees before 0
  put-room f = record { held = w; room = omega (arith, fits f w.system w.holds) }
