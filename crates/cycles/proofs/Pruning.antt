-- Where no leaf is left each point is reached in any number of steps, so that it is on a cycle.
use mathlib.Core.Path.{◌≡◌, refl, ap, sym, ◌∙◌}
use mathlib.Core.Bool.{true, cond, not, ◌&&◌}
use mathlib.Core.List.{List}
use Prim.Native.Nat.{ℕ, zero, suc, ◌+◌, ◌-◌, ◌≤◌, ◌<◌}
use native.Mathlib.Omega.{arith}
use lib.Dec.{eqb}
use lib.ListN.{length, get_or}
use borrow.Author.Tests.{eq-eqb, eqb-true}
use Rattle.lists.proofs.Tests.{by-test, no_both, not_of_false, and-true}
use Rattle.patterns.specs.Table.{image, iterate, is_table, on_cycle}
use Rattle.map_theory.proofs.Orbits.{iterate-add, on_cycle-moves, every-point-reaches-cycle}
use Rattle.cycles.specs.Marks.{Marked}
use Rattle.cycles.specs.Queue.{among}
use Rattle.cycles.specs.Pruning.{in_degree, left, Pruned, LeftMarked}
use Rattle.cycles.proofs.CountBelow.{count-some}
use Rattle.cycles.proofs.Marks.{inside}
use Rattle.cycles.proofs.Leaves.{TakenOff, in-queue}

-- a walk of as many steps as there are points ends on a cycle
far-on_cycle : (f : List ℕ) → is_table f ≡ true → (x : ℕ) → x < length f → on_cycle (length f) (image f) (iterate (image f) (length f) x) ≡ true
far-on_cycle f table x h =
    let n = length f in
    let r = every-point-reaches-cycle n (image f) (inside f table) x h in
    let e : r.0 + (n - r.0) ≡ n = omega (arith, r.1) in
    ap (λ y. on_cycle n (image f) y) (ap (λ j. iterate (image f) j x) (sym e) ∙ iterate-add (image f) r.0 (n - r.0) x)
    ∙ on_cycle-moves n (image f) (n - r.0) (iterate (image f) r.0 x) r.2

module _ {f degrees queue : List ℕ} {i len : ℕ} (t : TakenOff f degrees queue i len) (all : len ≤ i) where
  -- all of the queue is taken off, and nothing else
  left_is : (z : ℕ) → z < length f → not (among queue i z) ≡ left degrees z
  left_is z h =
      let e : i ≡ len = omega (arith, t.passed) in
      ap not (ap (λ k. among queue k z) e ∙ in-queue t z h)

  -- each point that is left comes after one that is left
  left-before : (z : ℕ) → z < length f → left degrees z ≡ true → (w : ℕ) × (w < length f) × (left degrees w ≡ true) × (image f w ≡ z)
  left-before z h l =
      let some : in_degree f (λ v. not (among queue i v)) z ≡ 0 → ⊥ =
      λ e. no_both l (ap not (eq-eqb (get_or degrees z 0) 0 (t.counted z h ∙ e))) in
      let r = count-some (λ v. not (among queue i v) && eqb (image f v) z) (length f) (omega (arith, some)) in
      let b = and-true (not (among queue i r.0)) (eqb (image f r.0) z) r.2 in
      (r.0, r.1, sym (left_is r.0 r.1) ∙ b.0, eqb-true (image f r.0) z b.1)

  -- and so is reached in any number of steps
  left-reached : (k z : ℕ) → z < length f → left degrees z ≡ true → (w : ℕ) × (w < length f) × (left degrees w ≡ true) × (iterate (image f) k w ≡ z)
  left-reached zero z h l = (z, h, l, refl)
  left-reached (suc k) z h l =
      let r = left-reached k z h l in
      let s = left-before r.0 r.1 r.2 in
      (s.0, s.1, s.2, ap (iterate (image f) k) s.3 ∙ r.3)

  -- what is left is on a cycle, and nothing else
  left-on_cycle : (z : ℕ) → z < length f → left degrees z ≡ on_cycle (length f) (image f) z
  left-on_cycle z h =
      by-test (left degrees z)
      (λ l.
      let r = left-reached (length f) z h l in
      l ∙ sym (ap (λ y. on_cycle (length f) (image f) y) (sym r.3) ∙ far-on_cycle f t.table r.0 r.1))
      (λ l. l ∙ sym (t.off z h (eqb-true (get_or degrees z 0) 0 (not_of_false (eqb (get_or degrees z 0) 0) l))))

  pub all-taken : Pruned f degrees
  all-taken = record { same = t.same; left_are = left-on_cycle }

pub pruned-marked : {f degrees marks : List ℕ} → Pruned f degrees → LeftMarked degrees marks → Marked f marks
pruned-marked p m =
    record {
      same = m.same ∙ p.same;
      marks_are = λ z h. m.marks_are z (omega (arith, p.same)) ∙ ap (λ b. cond b 1 0) (p.left_are z h);
    }
