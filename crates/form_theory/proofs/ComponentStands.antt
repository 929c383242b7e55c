-- What a caller of the component reader can rely on: where a component of an accepted code stands, that it is shown whole and alone, how many of its rotations
-- equal it, and that every other position is refused with 9.
use denote.Ref.{Bor}
use mathlib.Core.Path.{◌≡◌, refl, ap, sym, ◌∙◌}
use mathlib.Core.Bool.{true}
use mathlib.Core.List.{List, []}
use Prim.Native.Nat.{ℕ, ◌*◌, ◌-◌, ◌≤◌, ◌<◌}
use native.Mathlib.Omega.{arith}
use borrow.Author.Tests.{lt-ltb, le-ltb, ltb-true}
use lib.Dec.{ltb}
use lib.ListN.{length, take, drop, get_or}
use Rattle.lists.proofs.Tests.{by-test, clash, each_member}
use Rattle.lists.proofs.Permute.{member-total}
use Rattle.lists.proofs.Places.{in-index, drop-take}
use Rattle.patterns.specs.declared.Refusal.TheVariants.{Position}
use Rattle.patterns.specs.Component.{Component, points, rotation_symmetry, nonempty}
use Rattle.patterns.specs.System.{System, weight, canonical}
use Rattle.patterns.specs.Written.{component_numbers, bytes, written}
use Rattle.patterns.specs.Reading.{Result, done, fault, and_then, accepted}
use Rattle.patterns.specs.Replies.{part_is}
use Rattle.patterns.specs.Entry.{Part, part_in, component_in, component_of, part_answered, Shown}
use Rattle.component_theory.proofs.RotationSymmetry.{rounds, symmetry-bounds}
use Rattle.form_theory.proofs.Bounds.{all_below}
use Rattle.component_theory.proofs.Generation.{length-points}
use Rattle.form_theory.proofs.Readback.{canonical-nonempty}
use Rattle.form_theory.proofs.WrittenBack.{written_back, written-bytes, accepted-is, accepted-canonical}
use Rattle.form_theory.proofs.Stretches.{component-stretch, component-ends}

-- The part p shows the component at position i of the code b.
pub record ComponentAt (b : List ℕ) (i : ℕ) (p : Part) : Type 0 where
  pub system : System
  pub is : accepted b ≡ done system
  pub inside : i < length system
  pub part_is : p ≡ part_in system i

pub stands : (b : List ℕ) (i : ℕ) (p : Part) → component_of b i ≡ done p → ComponentAt b i p
unfolding component_of
stands b i p e = of (accepted b) refl e
  where
    of : (o : Result System) → accepted b ≡ o → and_then o (λ S. component_in S i) ≡ done p → ComponentAt b i p
    of (done S) a q =
        by-test (ltb i (length S))
        (λ t.
        let r : done (part_in S i) ≡ done p = rw t at q in
        record { system = S; is = a; inside = ltb-true i (length S) t; part_is = cc })
        (λ f. let r = rw f at q in clash cc)
    of (fault c) a q = clash cc

-- what a reply says of the result
pub answer-part : (o : Result Part) (start end turns : ℕ) → part_is start end turns ≡ part_answered o
    → o ≡ done (record { start = start; end = end; turns = turns })
answer-part (done part) start end turns e =
    let p : start ≡ part.start = cc in
    let q : end ≡ part.end = cc in
    let r : turns ≡ part.turns = cc in
    rw (p, q, r)
answer-part (fault c) start end turns e = clash cc

-- both ends lie within the code
pub stands-within : {b : List ℕ} {i : ℕ} {p : Part} → all_below 256 b ≡ true → ComponentAt b i p → (p.start < p.end) × (p.end ≤ length b)
unfolding part_in
stands-within {b} {i} h s =
    let ends = component-ends s.system i s.inside in
    let whole = (accepted-is b s.system h s.is).0 in
    rw s.part_is (ends.0, omega (arith, ends.1, ap length whole))

-- What is shown: the number of trees of the component at position i of the code's system, and then their codes, as they are written.
pub component-shown : {b : List ℕ} {i : ℕ} {p : Part} → all_below 256 b ≡ true → (s : ComponentAt b i p)
    → take (p.end - p.start) (drop p.start b) ≡ bytes (component_numbers (get_or s.system i []))
unfolding part_in
component-shown {b} {i} {p} h s =
    let S = s.system in
    sym (drop-take p.start p.end b) ∙ rw (s.part_is, (accepted-is b S h s.is).0) (component-stretch S i s.inside)

-- Document 02, paper 6: the number that the reply gives is how many rotations of that component equal it; it is from 1 to the number k of its trees, and divides k.
pub record Turns (c : Component) (turns : ℕ) : Type 0 where
  pub counted : turns ≡ rotation_symmetry c
  pub some_turn : 1 ≤ turns
  pub is_at_most : turns ≤ length c
  pub period : ℕ
  pub divides : length c ≡ turns * period

pub component-turns : {b : List ℕ} {i : ℕ} {p : Part} → (s : ComponentAt b i p) → Turns (get_or s.system i []) p.turns
unfolding part_in
component-turns {b} {i} s =
    let S = s.system in
    let c = get_or S i [] in
    let some = each_member nonempty (canonical-nonempty S (accepted-canonical b S s.is).0) (in-index S i [] s.inside) in
    let bounds = symmetry-bounds c some in
    let whole = rounds c some in
    rw s.part_is (record { counted = refl; some_turn = bounds.0; is_at_most = bounds.1; period = whole.period; divides = whole.divides })

-- so there are at most 200
pub turns-small : {b : List ℕ} {i : ℕ} {p : Part} → ComponentAt b i p → p.turns ≤ 200
turns-small {b} {i} s =
    let S = s.system in
    let c = get_or S i [] in
    omega (arith, (component-turns s).is_at_most, length-points c, member-total points (in-index S i [] s.inside), (accepted-canonical b S s.is).1)

-- The same of a reply: it tells this of the component at position i of the code's system.
pub record ReaderTurns (b : List ℕ) (i turns : ℕ) : Type 0 where
  pub system : System
  pub is : accepted b ≡ done system
  pub inside : i < length system
  pub turns_are : Turns (get_or system i []) turns

pub replied-turns : (b : List ℕ) (i start end turns : ℕ) → part_is start end turns ≡ part_answered (component_of b i) → ReaderTurns b i turns
replied-turns b i start end turns e =
    let s = stands b i (record { start = start; end = end; turns = turns }) (answer-part (component_of b i) start end turns e) in
    record { system = s.system; is = s.is; inside = s.inside; turns_are = component-turns s }

-- The code of a canonical system of at most 200 points.
module _ (S : System) (c : canonical S ≡ true) (h : weight S ≤ 200) where
  pub position-inside : (i : ℕ) → i < length S → component_of (written S) i ≡ done (part_in S i)
  unfolding component_of
  position-inside i k = rw (written_back S c h, lt-ltb i (length S) k)

  pub position_past : (i : ℕ) → length S ≤ i → component_of (written S) i ≡ fault Position
  unfolding component_of
  position_past i k = rw (written_back S c h, le-ltb i (length S) k)

  -- the number of trees of the component, and then their codes
  pub component-whole : (code part : Bor (List ℕ)) (i : ℕ) → code.now ≡ written S → i < length S → Shown code (component_of code.now i) part
      → part.now ≡ bytes (component_numbers (get_or S i []))
  component-whole code part i e k s =
      let p = rw (e, position-inside i k) at s in
      let here : ComponentAt (written S) i (part_in S i) =
      record { system = S; is = written_back S c h; inside = k; part_is = refl } in
      p.bytes_are ∙ component-shown (written-bytes S c h) here
