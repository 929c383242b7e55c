-- Clearing marks: round the cycle of one point, and cycle after cycle, so that a point is marked exactly if it is on a cycle that has not been walked.
use mathlib.Core.Path.{◌≡◌, refl, ap, sym, subst, ◌∙◌}
use mathlib.Core.List.{List}
use mathlib.Core.Bool.{true, false}
use Prim.Native.Nat.{ℕ, suc, ◌+◌, ◌≤◌, ◌<◌}
use native.Mathlib.Omega.{arith}
use lib.Dec.{eqb}
use borrow.Author.Count.{below_more}
use borrow.Author.Tests.{eqb-true, eqb-false}
use lib.ListN.{length, get_or, set, length-set}
use lib.Seq.{get_or-set_same, get_or-set_other}
use Rattle.lists.proofs.Tests.{◌∈◌, by-test, either, is_false}
use Rattle.lists.proofs.Comparison.{compare-lawful}
use Rattle.lists.proofs.Members.{lawful-decides, in-cons-cases, in_list, in_moved, in-or-not}
use Rattle.patterns.specs.Table.{image, iterate, is_table, on_cycle, cycle_from, leads_cycle}
use Rattle.map_theory.proofs.Orbits.{iterate-add, orbit-length, of-orbit, on_cycle-moves, on_cycle-back}
use Rattle.map_theory.proofs.Leaders.{in-cycle, of-cycle, leads-on_cycle, leads-least, least-leads}
use Rattle.cycles.specs.Marks.{Marked}
use Rattle.cycles.proofs.Marks.{inside, marks-on}
use Rattle.census.specs.Counts.{ClearAsked, CycleCleared}
use Rattle.census.proofs.Walking.{Walking, walking_start, walking-next, walking-end}

-- One cycle.

-- a cleared mark stays so
clear-more : (marks : List ℕ) (y z : ℕ) → y < length marks → get_or marks z 0 ≡ 0 → get_or (set marks y 0) z 0 ≡ 0
clear-more marks y z h e =
    by-test (eqb z y)
    (λ t. ap (λ w. get_or (set marks y 0) w 0) (eqb-true z y t) ∙ get_or-set_same marks y 0 0 h)
    (λ t. get_or-set_other marks y z 0 0 (eqb-false z y t) ∙ e)

-- y comes k steps after x; the points before it are cleared, and those that are not on the way are marked as in marks₀
pub record Clearing (f marks₀ : List ℕ) (x k y : ℕ) (marks : List ℕ) : Type 0 where
  pub walk : Walking (length f) (image f) x k y
  pub same : length marks ≡ length f
  pub cleared : (i : ℕ) → i < k → get_or marks (iterate (image f) i x) 0 ≡ 0
  pub others : (z : ℕ) → ((i : ℕ) → z ≡ iterate (image f) i x → ⊥) → get_or marks z 0 ≡ get_or marks₀ z 0

module _ {f before : List ℕ} {x : ℕ} (table : is_table f ≡ true) (a : ClearAsked f before x) where
  -- the mark of x itself is cleared first
  pub clearing-start : Clearing f (set before x 0) x 1 (image f x) (set before x 0)
  clearing-start =
      record {
        walk = walking_start (length f) (image f) (inside f table) x a.here a.is_on_cycle;
        same = length-set before x 0 ∙ a.room;
        cleared = λ i b. let e : i ≡ 0 = omega arith in rw e (get_or-set_same before x 0 0 (omega (arith, a.room, a.here)));
        others = λ z h. refl;
      }

  module _ {k y : ℕ} {marks : List ℕ} (c : Clearing f (set before x 0) x k y marks) where
    -- one step further
    pub clearing-next : (y ≡ x → ⊥) → Clearing f (set before x 0) x (k + 1) (image f y) (set marks y 0)
    clearing-next h =
        let here : y < length marks = omega (arith, c.same, c.walk.point) in
        record {
          walk = walking-next (length f) (image f) (inside f table) c.walk h;
          same = length-set marks y 0 ∙ c.same;
          cleared = below_more (λ i. get_or (set marks y 0) (iterate (image f) i x) 0 ≡ 0) k
              (λ i b. clear-more marks y (iterate (image f) i x) here (c.cleared i b))
              (ap (λ w. get_or (set marks y 0) w 0) (sym c.walk.comes) ∙ get_or-set_same marks y 0 0 here);
          others = λ z g. get_or-set_other marks y z 0 0 (λ e. g k (e ∙ c.walk.comes)) ∙ c.others z g;
        }

    -- x comes back: its cycle is walked, and all points on it are cleared
    pub clearing-end : y ≡ x → CycleCleared f before x k marks
    clearing-end h =
        let w = c.walk in
        let long = walking-end w h in
        let steps : k ≡ suc w.steps = long ∙ ap length w.cycle ∙ ap suc (orbit-length (image f) w.steps x) in
        record {
          long = long;
          cleared = λ i. either (in-cons-cases (in_list w.cycle (in-cycle (length f) (image f) i x a.is_on_cycle)))
              (λ e. ap (λ z. get_or marks z 0) e ∙ c.cleared 0 (omega arith))
              (λ m. let r = of-orbit (image f) w.steps x m in ap (λ z. get_or marks z 0) r.2 ∙ c.cleared (suc r.0) (omega (arith, r.1)));
          others = λ z g. c.others z g ∙ get_or-set_other before x z 0 0 (g 0);
        }

-- All cycles.

-- no point that comes after y, nor y itself, is below x
abbrev pub NoneBelow : List ℕ → ℕ → ℕ → Type 0
NoneBelow f x y = (i : ℕ) → x ≤ iterate (image f) i y

-- the points that are still marked are those of cycles with no point below x
pub record Cleared (f marks : List ℕ) (x : ℕ) : Type 0 where
  pub same : length marks ≡ length f
  pub sound : (y : ℕ) → y < length f → (get_or marks y 0 ≡ 0 → ⊥) → (on_cycle (length f) (image f) y ≡ true) × NoneBelow f x y
  pub done : (y : ℕ) → y < length f → on_cycle (length f) (image f) y ≡ true → NoneBelow f x y → get_or marks y 0 ≡ 0 → ⊥

pub cleared-start : {f marks : List ℕ} → Marked f marks → Cleared f marks 0
cleared-start {f} {marks} m =
    record {
      same = m.same;
      sound = λ y h e. (marks-on m h e, λ i. omega arith);
      done = λ y h on b e. let q : ◌≡◌ {A = ℕ} 0 1 = sym e ∙ m.marks_are y h ∙ rw on in absurd (omega arith);
    }

module _ (f : List ℕ) where
  abbrev n : ℕ
  n = length f

  -- nor is it x
  none-below-next : (x y : ℕ) → NoneBelow f x y → ((i : ℕ) → iterate (image f) i y ≡ x → ⊥) → NoneBelow f (x + 1) y
  none-below-next x y b differs i =
      by-test (eqb (iterate (image f) i y) x)
      (λ t. absurd (differs i (eqb-true (iterate (image f) i y) x t)))
      (λ t. let r = eqb-false (iterate (image f) i y) x t in omega (arith, b i))

  -- a point on another cycle does not lead to x
  other-cycle : (x y : ℕ) → on_cycle n (image f) x ≡ true → on_cycle n (image f) y ≡ true → (y ∈ cycle_from n (image f) x → ⊥)
      → (i : ℕ) → iterate (image f) i y ≡ x → ⊥
  other-cycle x y on on' out i q =
      let r = on_cycle-back n (image f) i y on' in
      out (in_moved (ap (iterate (image f) r.0) (sym q) ∙ r.1) (in-cycle n (image f) r.0 x on))

  -- and x does not lead to a point that comes to greater ones only
  greater-cycle : (x y : ℕ) → on_cycle n (image f) x ≡ true → NoneBelow f (x + 1) y → (i : ℕ) → y ≡ iterate (image f) i x → ⊥
  greater-cycle x y on b i q =
      let r = on_cycle-back n (image f) i x on in
      let e : iterate (image f) r.0 y ≡ x = ap (iterate (image f) r.0) q ∙ r.1 in
      omega (arith, b r.0)

module _ {f marks : List ℕ} {x : ℕ} (c : Cleared f marks x) (h : x < length f) where
  -- a marked point leads its cycle
  pub marked-leads : (get_or marks x 0 ≡ 0 → ⊥) → leads_cycle (length f) (image f) x ≡ true
  marked-leads e =
      let s = c.sound x h e in
      least-leads (length f) (image f) x s.0 (λ y m. let r = of-cycle (length f) (image f) x s.0 m in rw r.2 (s.1 r.0))

  -- any other leads none
  pub unmarked-leads-not : get_or marks x 0 ≡ 0 → leads_cycle (length f) (image f) x ≡ false
  unmarked-leads-not e =
      is_false (leads_cycle (length f) (image f) x)
      (λ t.
      let on = leads-on_cycle (length f) (image f) x t in
      c.done x h on (λ i. leads-least (length f) (image f) x t (in-cycle (length f) (image f) i x on)) e)

  -- the cycle of x is cleared
  pub cleared-led : (get_or marks x 0 ≡ 0 → ⊥) → {l : ℕ} {after : List ℕ} → length after ≡ length marks → CycleCleared f marks x l after
      → Cleared f after (x + 1)
  cleared-led e {l} {after} same d =
      let on = (c.sound x h e).0 in
      record {
        same = same ∙ c.same;
        sound = λ y b g. either (in-or-not (lawful-decides compare-lawful) y (cycle_from (length f) (image f) x))
            (λ m. let r = of-cycle (length f) (image f) x on m in absurd (g (ap (λ z. get_or after z 0) r.2 ∙ d.cleared r.0)))
            (λ out.
            let kept = d.others y (λ i p. out (in_moved (sym p) (in-cycle (length f) (image f) i x on))) in
            let s = c.sound y b (λ q. g (kept ∙ q)) in
            (s.0, none-below-next f x y s.1 (other-cycle f x y on s.0 out)));
        done = λ y b t g q. c.done y b t (λ i. omega (arith, g i)) (sym (d.others y (greater-cycle f x y on g)) ∙ q);
      }

  -- x is on no cycle, or its cycle is cleared already: no marked point leads to it
  pub cleared-passed : get_or marks x 0 ≡ 0 → Cleared f marks (x + 1)
  cleared-passed e =
      record {
        same = c.same;
        sound = λ y b g.
            let s = c.sound y b g in (
              s.0,
              none-below-next f x y s.1 (λ i q.
                  c.done x h (ap (on_cycle (length f) (image f)) (sym q) ∙ on_cycle-moves (length f) (image f) i y s.0)
                  (λ j. subst (λ z. x ≤ z) (iterate-add (image f) i j y ∙ ap (iterate (image f) j) q) (s.1 (i + j))) e),
            );
        done = λ y b t g. c.done y b t (λ i. omega (arith, g i));
      }
