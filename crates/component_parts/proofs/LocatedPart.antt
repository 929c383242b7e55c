-- The part that shows the component at a position of a system in memory: its two ends in the written code, and how many of its rotations equal it.
use mathlib.Core.Path.{◌≡◌, ap, ◌∙◌}
use mathlib.Core.List.{List, []}
use Prim.Native.Nat.{ℕ, ◌+◌, ◌-◌, ◌≤◌, ◌<◌}
use native.Mathlib.Omega.{arith}
use borrow.Author.Tests.{lt-ltb}
use lib.ListN.{length, take, drop, get_or}
use Rattle.lists.proofs.Tests.{cond-true, each_member}
use Rattle.lists.proofs.Places.{in-index}
use Rattle.patterns.specs.Component.{Component, flat, rotation_symmetry, valid_component}
use Rattle.patterns.specs.System.{System}
use Rattle.patterns.specs.Written.{component_numbers, bytes}
use Rattle.patterns.specs.Reading.{done}
use Rattle.patterns.specs.Replies.{PartAnswer, part_is}
use Rattle.patterns.specs.Entry.{part_in, part_answered, component_in}
use Rattle.component_theory.proofs.CanonicalComponents.{canonical-valid}
use Rattle.memory.specs.Memory.{Holds, HeldSystem}
use Rattle.memory.specs.HeldCode.{HeldValid, HeldCanonical}
use Rattle.memory.proofs.Parts.{held-count}
use Rattle.form_theory.proofs.Numbers.{bytes-length}
use Rattle.form_theory.proofs.Stretches.{stretch-end}
use Rattle.writing.specs.Passed.{Passed}
use Rattle.writing.proofs.Locating.{next-held, part-is-flat}
use Rattle.writing.proofs.CanonicalHeld.{canonical-held}

-- a component takes few bytes
pub few_bytes : {s : List ℕ} (w : HeldValid s) (n : ℕ) → ((c : Component) → s ≡ flat c → n ≡ length (bytes (component_numbers c))) → n ≤ 402
few_bytes w n f = let c = w.trees in omega (arith, f c w.is, bytes-length (component_numbers c), ap length w.is, w.small)

-- The component at a position, which begins at `start` in the written code and at `from` in the trees.
module _ {sizes trees : List ℕ} (w : HeldCanonical sizes trees) where
  pub code-held : HeldSystem sizes trees
  code-held = canonical-held w.holds w.canonical_is w.small

  module _ {i from start : ℕ} (f : (S : System) → Holds S sizes trees → Passed S i from start) (k : i < length sizes) where
    abbrev component : List ℕ
    component = take (from + get_or sizes i 0 - from) (drop from trees)

    pub component-held : HeldValid component
    component-held =
        let S = w.system in
        record {
          trees = get_or S i [];
          is = part-is-flat code-held f k S w.holds;
          valid = each_member valid_component (canonical-valid S w.canonical_is) (in-index S i [] (omega (arith, held-count w.holds)));
          small = (next-held code-held f k).small;
        }

    pub located : (a : PartAnswer) → ((c : Component) → component ≡ flat c → a ≡ part_is start (start + length (bytes (component_numbers c))) (rotation_symmetry c))
        → (S : System) → Holds S sizes trees → a ≡ part_answered (component_in S i)
    unfolding part_in
    located a p S h =
        let inside : i < length S = omega (arith, held-count h) in
        let found : component_in S i ≡ done (part_in S i) = cond-true _ _ (lt-ltb i (length S) inside) in
        p (get_or S i []) (part-is-flat code-held f k S h) ∙ rw (found, (f S h).begins, stretch-end S i inside)
