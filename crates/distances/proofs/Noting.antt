-- Distances that are noted: found by stepping to the first noted point, and noted along the same way.
use mathlib.Core.Path.{◌≡◌, refl, ap, sym, ◌∙◌}
use mathlib.Core.Bool.{true}
use mathlib.Core.List.{List}
use Prim.Native.Nat.{ℕ, suc, max, ◌+◌, ◌-◌, ◌≤◌, ◌<◌}
use native.Mathlib.Omega.{arith}
use lib.Dec.{eqb, leb}
use borrow.Author.Tests.{eqb-true, eqb-false, leb-true, leb-false}
use lib.ListN.{length, get_or, set, length-set}
use lib.Seq.{get_or-set_same, get_or-set_other}
use Rattle.std.specs.Ordering.{ord_max, nat_cmp}
use Rattle.std.proofs.lemmas.Bool.Decides.{nat_tests}
use Rattle.lists.proofs.Tests.{by-test}
use Rattle.patterns.specs.Table.{image, is_table, on_cycle}
use Rattle.patterns.specs.Census.{height}
use Rattle.map_theory.proofs.Heights.{height_to, height_to-start, height_to-taken, height_to-passed, height_to-all}
use Rattle.map_theory.proofs.Distances.{steps_on, distance-bound, distance_next}
use Rattle.cycles.specs.Marks.{Marked}
use Rattle.cycles.proofs.Marks.{inside, marks-on, marks-off}
use Rattle.distances.specs.Noted.{distance_in, Noted, NotedTable, Within, WayNoted}

-- the marks of the points on cycles note their distances
pub marks-noted : {f marks : List ℕ} → Marked f marks → Noted f marks
marks-noted {f} {marks} m =
    record {
      same = m.same;
      right = λ x h e.
          let on = marks-on m h e in
          m.marks_are x h ∙ rw on (ap suc (sym (steps_on (length f) (image f) (length f) x on)));
      off_cycles = λ x h e. marks-off m h e;
    }

pub noted-table : {f noted : List ℕ} → is_table f ≡ true → length f ≤ 200 → Noted f noted → NotedTable f noted
noted-table t h n = record { table = t; small = h; is_noted = n }

-- the table with other notes
pub renoted : {f noted noted' : List ℕ} → NotedTable f noted → Noted f noted' → NotedTable f noted'
renoted t n = record { table = t.table; small = t.small; is_noted = n }

module _ {f noted : List ℕ} (t : NotedTable f noted) where
  -- a distance is below the number of points
  pub near : (x : ℕ) → x < length f → distance_in f x < length f
  near x h = distance-bound (length f) (image f) (inside f t.table) x h

  -- a point that is not noted is one step further than its image
  pub further : (x : ℕ) → x < length f → get_or noted x 0 ≡ 0 → distance_in f x ≡ suc (distance_in f (image f x))
  further x h e = distance_next (length f) (image f) (inside f t.table) x h (t.is_noted.off_cycles x h e)

-- the distance of x is k more than that of y
pub record Stepping (f : List ℕ) (x k y : ℕ) : Type 0 where
  pub point : y < length f
  pub rest : distance_in f x ≡ k + distance_in f y

module _ {f noted : List ℕ} (t : NotedTable f noted) {x k y : ℕ} (s : Stepping f x k y) where
  pub stepping-next : get_or noted y 0 ≡ 0 → Stepping f x (k + 1) (image f y)
  stepping-next e = record { point = inside f t.table y s.point; rest = omega (arith, s.rest, further t y s.point e) }

  pub stepping-end : (get_or noted y 0 ≡ 0 → ⊥) → k + (get_or noted y 0 - 1) ≡ distance_in f x
  stepping-end e = omega (arith, s.rest, t.is_noted.right y s.point e)

-- one more distance is noted
pub noted_more : {f noted : List ℕ} → Noted f noted → (y : ℕ) → y < length f → {d : ℕ} → d ≡ suc (distance_in f y) → Noted f (set noted y d)
noted_more {f} {noted} n y h {d} e =
    let new : get_or (set noted y d) y 0 ≡ d = get_or-set_same noted y d 0 (omega (arith, n.same)) in
    record {
      same = simp length-set n.same;
      right = λ x b z. by-test (eqb x y)
          (λ q. rw (eqb-true x y q) (new ∙ e))
          (λ q. let other = get_or-set_other noted y x d 0 (eqb-false x y q) in other ∙ n.right x b (λ r. z (other ∙ r)));
      off_cycles = λ x b z. by-test (eqb x y)
          (λ q. let none : d ≡ 0 = sym new ∙ ap (λ w. get_or (set noted y d) w 0) (sym (eqb-true x y q)) ∙ z in absurd (omega arith))
          (λ q. n.off_cycles x b (sym (get_or-set_other noted y x d 0 (eqb-false x y q)) ∙ z));
    }

-- a list with one number more keeps its bound
within-set : {m : ℕ} (l : List ℕ) → Within m l → (y : ℕ) → y < length l → {d : ℕ} → d ≤ m → Within m (set l y d)
within-set l w y h {d} b z a =
    by-test (eqb z y)
    (λ q. rw (eqb-true z y q, get_or-set_same l y d 0 h) b)
    (λ q. rw (get_or-set_other l y z d 0 (eqb-false z y q)) (w z (rw length-set at a)))

-- y is the next point to note, with one more than its distance, on the way from a point of distance k
pub record NotingWay (f noted₀ : List ℕ) (k : ℕ) (noted : List ℕ) (y d : ℕ) : Type 0 where
  pub known : NotedTable f noted
  pub point : y < length f
  pub next : d ≡ suc (distance_in f y)
  pub nearer : d ≤ suc k
  pub within : (m : ℕ) → suc k ≤ m → Within m noted₀ → Within m noted

pub noting-start : {f noted : List ℕ} → NotedTable f noted → {x d : ℕ} → x < length f → d ≡ distance_in f x → NotingWay f noted d noted x (d + 1)
noting-start t h e = record { known = t; point = h; next = omega arith; nearer = omega arith; within = λ m b w. w }

module _ {f noted₀ noted : List ℕ} {k y d : ℕ} (w : NotingWay f noted₀ k noted y d) where
  -- what is noted fits a byte
  pub noting-byte : (0 < d) × (d ≤ 200)
  noting-byte = (omega (arith, w.next), omega (arith, w.next, near w.known y w.point, w.known.small))

  pub noting-next : get_or noted y 0 ≡ 0 → NotingWay f noted₀ k (set noted y d) (image f y) (d - 1)
  noting-next e =
      record {
        known = renoted w.known (noted_more w.known.is_noted y w.point w.next);
        point = inside f w.known.table y w.point;
        next = omega (arith, w.next, further w.known y w.point e);
        nearer = omega (arith, w.nearer);
        within = λ m b v. within-set noted (w.within m b v) y (omega (arith, w.point, w.known.is_noted.same)) (omega (arith, w.nearer));
      }

  pub noting-end : WayNoted f noted₀ k noted
  noting-end = record { is_noted = w.known.is_noted; within = w.within }

-- the greater of two numbers, as the library's method finds it
pub greater-is : (a b : ℕ) → ord_max nat_cmp a b ≡ max a b
greater-is a b = grind (arith, nat_tests)

-- The greatest distance of the points below x, and the notes so far: none is greater.
pub record Measuring (f noted : List ℕ) (most x : ℕ) : Type 0 where
  pub known : NotedTable f noted
  pub passed : x ≤ length f
  pub most_is : most ≡ height_to (length f) (image f) x
  pub none_greater : Within (suc most) noted

pub measuring-start : {f marks : List ℕ} → is_table f ≡ true → length f ≤ 200 → Marked f marks → Measuring f marks 0 0
measuring-start {f} {marks} table small m =
    record {
      known = record { table = table; small = small; is_noted = marks-noted m };
      passed = omega arith;
      most_is = sym (height_to-start (length f) (image f));
      none_greater = λ z b.
          rw (m.marks_are z (omega (arith, m.same))) (by-test (on_cycle (length f) (image f) z) (λ c. rw c (omega arith)) (λ c. rw c (omega arith)));
    }

module _ {f noted : List ℕ} {most x : ℕ} (s : Measuring f noted most x) (h : x < length f) where
  -- a point that is noted
  pub measuring-noted : (get_or noted x 0 ≡ 0 → ⊥) → Measuring f noted most (x + 1)
  measuring-noted e =
      record {
        known = s.known;
        passed = omega arith;
        most_is = height_to-passed (length f) (image f) x s.most_is refl (omega (arith, s.known.is_noted.right x h e, s.none_greater x (omega (arith, s.known.is_noted.same))));
        none_greater = s.none_greater;
      }

  module _ {d : ℕ} (e : d ≡ distance_in f x) {noted' : List ℕ} (w : WayNoted f noted d noted') where
    -- a point that was not noted: it is further than all before, or it is not
    pub measuring-walked : Measuring f noted' (max most d) (x + 1)
    measuring-walked =
        record {
          known = renoted s.known w.is_noted;
          passed = omega arith;
          most_is = by-test (leb most d)
              (λ t. let b = leb-true most d t in omega (arith, height_to-taken (length f) (image f) x s.most_is e b))
              (λ t. let b = leb-false most d t in omega (arith, height_to-passed (length f) (image f) x s.most_is e (omega arith)));
          none_greater = w.within (suc (max most d)) (omega arith) (λ z a. omega (arith, s.none_greater z a));
        }

pub measuring-end : {f noted : List ℕ} {most x : ℕ} → Measuring f noted most x → length f ≤ x → most ≡ height (length f) (image f)
measuring-end {f} {x = x} s h =
    let e : x ≡ length f = omega (arith, s.passed) in
    s.most_is ∙ ap (height_to (length f) (image f)) e ∙ height_to-all (length f) (image f)
