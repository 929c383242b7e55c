-- A table and its marks: images are points, and what a mark says of its point.
use mathlib.Core.Path.{◌≡◌, refl, sym, ◌∙◌}
use mathlib.Core.Bool.{true, false}
use mathlib.Core.List.{List, ◌++◌}
use Prim.Native.Nat.{ℕ, ◌≤◌, ◌<◌}
use native.Mathlib.Omega.{arith}
use lib.ListN.{length, get_or, length-append}
use Rattle.lists.proofs.Tests.{by-test}
use Rattle.patterns.specs.Table.{image, is_table, on_cycle}
use Rattle.cycles.specs.Marks.{Marked}
use Rattle.map_theory.proofs.Isomorphisms.{table_below}

-- an image is a point
pub inside : (f : List ℕ) → is_table f ≡ true → (x : ℕ) → x < length f → image f x < length f
inside f t = table_below (length f) f refl t

module _ {f marks : List ℕ} where
  -- a point marked by 0 is on no cycle
  pub marks-off : {x : ℕ} → Marked f marks → x < length f → get_or marks x 0 ≡ 0 → on_cycle (length f) (image f) x ≡ false
  marks-off {x} m h e =
      by-test (on_cycle (length f) (image f) x)
      (λ t. let q : 0 ≡ 1 = sym e ∙ m.marks_are x h ∙ rw t in absurd (omega arith))
      (λ t. t)

  -- any other is on one
  pub marks-on : {x : ℕ} → Marked f marks → x < length f → (get_or marks x 0 ≡ 0 → ⊥) → on_cycle (length f) (image f) x ≡ true
  marks-on {x} m h e =
      by-test (on_cycle (length f) (image f) x)
      (λ t. t)
      (λ t. absurd (e (m.marks_are x h ∙ rw t)))

  -- marks in the first places of an array
  pub marks-within : Marked f marks → (d : List ℕ) → length f ≤ length (marks ++ d)
  marks-within m d = rw length-append (omega (arith, m.same))
