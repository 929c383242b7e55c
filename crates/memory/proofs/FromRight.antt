-- A system in memory, gone through from the right: the components from one on, and what is put in their place.
use mathlib.Core.Path.{◌≡◌, refl, ap, ap₂, sym, ◌∙◌}
use mathlib.Core.List.{List, [], ◌∷◌, ◌++◌, map, map-append, append-nil}
use Prim.Native.Nat.{ℕ, zero, suc, ◌+◌, ◌-◌, ◌≤◌, ◌<◌}
use native.Mathlib.Omega.{arith}
use lib.ListN.{length, take, drop, get_or, length-drop, take-append-drop, drop_of_length-le}
use lib.Seq.{take_all, drop-cons}
use Rattle.lists.specs.Select.{gather}
use Rattle.lists.proofs.Members.{gather_append}
use Rattle.patterns.specs.Component.{points, flat}
use Rattle.patterns.specs.System.{System, weight}
use Rattle.memory.specs.Memory.{Holds}
use Rattle.memory.proofs.Parts.{weight-next, weight-cut, front-trees, rest-trees, held-size, held-count, held-points}

rest-sizes : (S : System) (i : ℕ) → drop i (map points S) ≡ map points (drop i S)
rest-sizes [] zero = refl
rest-sizes [] (suc i) = refl
rest-sizes (c ∷ S) zero = refl
rest-sizes (c ∷ S) (suc i) = rest-sizes S i

-- the part of a list from k on, as a slice of it
abbrev pub from_place : ℕ → List ℕ → List ℕ
from_place k l = take (length l - k) (drop k l)

to_end : (k : ℕ) (l : List ℕ) → from_place k l ≡ drop k l
to_end k l = take_all (length l - k) (drop k l) (omega (arith, length-drop k l))

-- a list with another part from k on
abbrev pub with_rest : ℕ → List ℕ → List ℕ → List ℕ
with_rest k part l = take k l ++ (part ++ drop (length l - k) (drop k l))

-- the same part
pub rest-again : (k : ℕ) (part l : List ℕ) → part ≡ from_place k l → with_rest k part l ≡ l
rest-again k part l e = rw (e, take-append-drop (length l - k) (drop k l), take-append-drop k l)

-- The components before i are to come; component i begins at the place `at` of the trees.
pub record Reached (S : System) (sizes trees : List ℕ) (i at : ℕ) : Type 0 where
  pub holds : Holds S sizes trees
  pub within : i ≤ length S
  pub place : at ≡ weight (take i S)

-- to the right of all
pub reached-start : {S : System} {sizes trees : List ℕ} → Holds S sizes trees → Reached S sizes trees (length sizes) (length trees)
reached-start {S} {sizes} h =
    record {
      holds = h;
      within = omega (arith, held-count h);
      place = held-points h ∙ ap weight (sym (take_all (length sizes) S (omega (arith, held-count h))));
    }

-- Component i - 1, the next to the left.
module _ {S : System} {sizes trees : List ℕ} {i at : ℕ} (s : Reached S sizes trees i at) (k : 0 < i) where
  -- where it begins
  abbrev begin : ℕ
  begin = at - get_or sizes (i - 1) 0

  pub left-within : i - 1 < length S
  left-within = omega (arith, s.within)

  left_back : weight (take i S) ≡ weight (take (i - 1) S) + get_or sizes (i - 1) 0
  left_back =
      let e : i - 1 + 1 ≡ i = omega arith in
      ap (λ n. weight (take n S)) (sym e) ∙ weight-next S (i - 1) left-within ∙ ap (λ n. weight (take (i - 1) S) + n) (sym (held-size s.holds (i - 1)))

  pub left-index : i - 1 < length sizes
  left-index = omega (arith, s.within, held-count s.holds)

  pub left-size : get_or sizes (i - 1) 0 ≤ at
  left-size = omega (arith, left_back, s.place)

  left_place : begin ≡ weight (take (i - 1) S)
  left_place = omega (arith, left_back, s.place)

  pub left-begin : begin ≤ length trees
  left-begin = omega (arith, s.place, weight-cut S i, held-points s.holds)

  pub left_cut : drop (i - 1) S ≡ get_or S (i - 1) [] ∷ drop i S
  left_cut =
      let e : suc (i - 1) ≡ i = omega arith in
      drop-cons S (i - 1) [] left-within ∙ ap (λ n. get_or S (i - 1) [] ∷ drop n S) e

  pub left_split : S ≡ take (i - 1) S ++ (get_or S (i - 1) [] ∷ drop i S)
  left_split = sym (take-append-drop (i - 1) S) ∙ ap (take (i - 1) S ++◌) left_cut

  -- it stands in front of the components passed
  pub left-held : Holds (get_or S (i - 1) [] ∷ drop i S) (from_place (i - 1) sizes) (from_place begin trees)
  left-held =
      record {
        points_are = to_end (i - 1) sizes ∙ ap (drop (i - 1)) s.holds.points_are ∙ rest-sizes S (i - 1) ∙ ap (map points) left_cut;
        flat_is = to_end begin trees ∙ ap₂ drop left_place s.holds.flat_is ∙ rest-trees S (i - 1) ∙ ap (gather flat) left_cut;
      }

  pub left-reached : Reached S sizes trees (i - 1) begin
  left-reached = record { holds = s.holds; within = omega (arith, s.within); place = left_place }

  -- other components of the same sizes in their place
  pub left-replaced : (T : System) (part : List ℕ) → map points T ≡ map points (get_or S (i - 1) [] ∷ drop i S) → part ≡ gather flat T
      → Holds (take (i - 1) S ++ T) sizes (with_rest begin part trees)
  left-replaced T part e f =
      let h = s.holds in
      let R = take (i - 1) S in
      let none_left : drop (length trees - begin) (drop begin trees) ≡ [] =
      drop_of_length-le (drop begin trees) {i = length trees - begin} (omega (arith, length-drop begin trees)) in
      record {
        points_are =
            h.points_are ∙ ap (map points) left_split ∙ map-append points R (get_or S (i - 1) [] ∷ drop i S)
            ∙ ap (map points R ++◌) (sym e)
            ∙ sym (map-append points R T);
        flat_is =
            ap₂ (λ a b. a ++ (part ++ b)) (ap₂ take left_place h.flat_is ∙ front-trees S (i - 1)) none_left
            ∙ ap (gather flat R ++◌) (append-nil part ∙ f)
            ∙ sym (gather_append flat R T);
      }
