-- Leaves: a point that no point which is left goes to is on no cycle. Where a point is taken off, the point that it goes to has one less, and nothing else
-- changes.
use mathlib.Core.Path.{◌≡◌, refl, ap, sym, ◌∙◌}
use mathlib.Core.Bool.{Bool, true, false, not, ◌&&◌, ◌||◌}
use mathlib.Core.List.{List}
use Prim.Native.Nat.{ℕ, suc, ◌+◌, ◌-◌, ◌≤◌, ◌<◌}
use native.Mathlib.Numerals.{add-one}
use native.Mathlib.Omega.{arith}
use lib.Dec.{eqb}
use lib.ListN.{length, get_or, set, length-set}
use lib.Seq.{get_or-set_same, get_or-set_other}
use borrow.Author.Tests.{eq-eqb, ne_eqb, eqb-true, eqb-false}
use Rattle.lists.proofs.Tests.{by-test, no_both, is_false, true-and}
use Rattle.patterns.specs.Table.{image, iterate, is_table, on_cycle}
use Rattle.map_theory.proofs.Orbits.{iterate-suc, iterate-inside, on_cycle-period, on_cycle-moves}
use Rattle.cycles.specs.Queue.{among, Queue}
use Rattle.cycles.specs.Pruning.{in_degree, InDegrees}
use Rattle.cycles.proofs.CountBelow.{count-one, count_same, count_less}
use Rattle.cycles.proofs.Marks.{inside}
use Rattle.cycles.proofs.Queue.{among_later, among-kept, among-joined, distinct-kept, distinct-joined, distinct-within, distinct-room}

-- a point on a cycle comes after another one
cycle-before : (f : List ℕ) → is_table f ≡ true → (y : ℕ) → y < length f → on_cycle (length f) (image f) y ≡ true
    → (w : ℕ) × (w < length f) × (on_cycle (length f) (image f) w ≡ true) × (image f w ≡ y)
cycle-before f table y h e =
    let r = on_cycle-period (length f) (image f) y e in (
      iterate (image f) r.0 y,
      iterate-inside (length f) (image f) (inside f table) r.0 y h,
      on_cycle-moves (length f) (image f) r.0 y e,
      sym (iterate-suc (image f) r.0 y) ∙ r.2,
    )

-- where a point that passes goes has an in-degree that is not 0
degree-some : (f : List ℕ) (p : ℕ → Bool) {w y : ℕ} → w < length f → p w ≡ true → image f w ≡ y → 0 < in_degree f p y
degree-some f p {w} {y} h e to =
    count-one (λ z. p z && eqb (image f z) y) (length f) h (true-and e (eq-eqb (image f w) y to))

-- where only points that are on no cycle are taken off, a point that no other point goes to is on no cycle
leaf-off : (f : List ℕ) → is_table f ≡ true → (taken : ℕ → Bool)
    → ((z : ℕ) → z < length f → taken z ≡ true → on_cycle (length f) (image f) z ≡ false)
    → (y : ℕ) → y < length f → in_degree f (λ z. not (taken z)) y ≡ 0 → on_cycle (length f) (image f) y ≡ false
leaf-off f table taken off y h leaf =
    is_false (on_cycle (length f) (image f) y)
    (λ t.
    let r = cycle-before f table y h t in
    let stays : taken r.0 ≡ false = is_false (taken r.0) (λ u. no_both r.2 (off r.0 r.1 u)) in
    omega (arith, leaf, degree-some f (λ z. not (taken z)) r.1 (ap not stays) r.3))

-- the first i points of the queue are taken off: each point has its in-degree among the others, and where that is 0 it is on no cycle
pub record TakenOff (f degrees queue : List ℕ) (i len : ℕ) : Type 0 where
  pub table : is_table f ≡ true
  pub same : length degrees ≡ length f
  pub passed : i ≤ len
  pub queued : Queue degrees queue len
  pub counted : (y : ℕ) → y < length f → get_or degrees y 0 ≡ in_degree f (λ z. not (among queue i z)) y
  pub off : (y : ℕ) → y < length f → get_or degrees y 0 ≡ 0 → on_cycle (length f) (image f) y ≡ false

pub none-taken : {f degrees queue : List ℕ} {leaves : ℕ} → InDegrees f degrees → Queue degrees queue leaves → TakenOff f degrees queue 0 leaves
none-taken {f} {degrees} {queue} d q =
    record {
      table = d.table;
      same = d.same;
      passed = omega arith;
      queued = q;
      counted = d.counted;
      off = λ y h leaf. leaf-off f d.table (λ z. false) (λ z b e. no_both e refl) y h (sym (d.counted y h) ∙ leaf);
    }

module _ {f degrees queue : List ℕ} {i len : ℕ} (t : TakenOff f degrees queue i len) where
  -- whether a point stands in the queue
  pub in-queue : (y : ℕ) → y < length f → among queue len y ≡ eqb (get_or degrees y 0) 0
  in-queue y h = t.queued.zeros y (omega (arith, t.same))

  -- what stands in the queue is on no cycle
  queue-off : (k : ℕ) → k ≤ len → (z : ℕ) → z < length f → among queue k z ≡ true → on_cycle (length f) (image f) z ≡ false
  queue-off k b z h e = t.off z h (eqb-true (get_or degrees z 0) 0 (sym (in-queue z h) ∙ among_later queue k len z b e))

  -- the queue has at most one place for each point
  pub queue-within : len ≤ length f
  queue-within = omega (arith, distinct-within queue len (length degrees) t.queued.distinct, t.same)

  module _ (more : i < len) where
    abbrev head : ℕ
    head = get_or queue i 0

    abbrev next : ℕ
    next = image f head

    pub head-place : i < length queue
    head-place = omega (arith, queue-within, t.same, t.queued.same)

    pub head-inside : head < length f
    head-inside = omega (arith, t.queued.distinct.points i more, t.same)

    next-inside : next < length f
    next-inside = inside f t.table head head-inside

    pub next_place : next < length degrees
    next_place = omega (arith, next-inside, t.same)

    head-stays : not (among queue i head) ≡ true
    head-stays = ap not (t.queued.distinct.fresh i more)

    -- where the next point of the queue goes there is something to take away
    pub next-some : 1 ≤ get_or degrees next 0
    next-some = omega (arith, t.counted next next-inside, degree-some f (λ z. not (among queue i z)) head-inside head-stays refl)

    -- so it is not in the queue, and there is room for it
    next-new : among queue len next ≡ false
    next-new = in-queue next next-inside ∙ ne_eqb (get_or degrees next 0) 0 (λ e. omega (arith, next-some))

    pub next-room : len < length queue
    next-room = omega (arith, distinct-room queue len (length degrees) t.queued.distinct next_place next-new, t.queued.same)

    abbrev fewer : List ℕ
    fewer = set degrees next (get_or degrees next 0 - 1)

    abbrev longer : List ℕ
    longer = set queue len next

    at_next : get_or fewer next 0 ≡ get_or degrees next 0 - 1
    at_next = get_or-set_same degrees next (get_or degrees next 0 - 1) 0 next_place

    at_other : (w : ℕ) → (w ≡ next → ⊥) → get_or fewer w 0 ≡ get_or degrees w 0
    at_other w other = get_or-set_other degrees next w (get_or degrees next 0 - 1) 0 other

    -- what is taken off afterwards
    taken-now : (z : ℕ) → among longer (i + 1) z ≡ (eqb head z || among queue i z)
    taken-now z = among-kept queue len next (i + 1) z (omega arith) ∙ ap (λ k. among queue k z) (add-one i)

    head-gone : not (among longer (i + 1) head) ≡ false
    head-gone = ap not (taken-now head ∙ ap (λ b. b || among queue i head) (eq-eqb head head refl))

    others-stay : (z : ℕ) → (z ≡ head → ⊥) → not (among queue i z) ≡ not (among longer (i + 1) z)
    others-stay z other = sym (ap not (taken-now z ∙ ap (λ b. b || among queue i z) (ne_eqb head z (λ e. other (sym e)))))

    -- the in-degrees afterwards
    degree-next : in_degree f (λ z. not (among queue i z)) next ≡ suc (in_degree f (λ z. not (among longer (i + 1) z)) next)
    degree-next =
        count_less (λ z. not (among queue i z) && eqb (image f z) next) (λ z. not (among longer (i + 1) z) && eqb (image f z) next) (length f)
        head-inside
        (true-and head-stays (eq-eqb next next refl))
        (ap (λ b. b && eqb next next) head-gone)
        (λ z b other. ap (λ c. c && eqb (image f z) next) (others-stay z other))

    degree-other : (w : ℕ) → (w ≡ next → ⊥) → in_degree f (λ z. not (among queue i z)) w ≡ in_degree f (λ z. not (among longer (i + 1) z)) w
    degree-other w apart =
        count_same (λ z. not (among queue i z) && eqb (image f z) w) (λ z. not (among longer (i + 1) z) && eqb (image f z) w) (length f)
        (λ z b. by-test (eqb z head)
        (λ u. rw (eqb-true z head u)
        (ap (λ c. c && eqb next w) head-stays ∙ ne_eqb next w (λ e. apart (sym e)) ∙ sym (ap (λ c. c && eqb next w) head-gone)))
        (λ u. ap (λ c. c && eqb (image f z) w) (others-stay z (eqb-false z head u))))

    counted-now : (w : ℕ) → w < length f → get_or fewer w 0 ≡ in_degree f (λ z. not (among longer (i + 1) z)) w
    counted-now w h =
        by-test (eqb w next)
        (λ u. rw (eqb-true w next u) (at_next ∙ omega (arith, t.counted next next-inside, degree-next)))
        (λ u. at_other w (eqb-false w next u) ∙ t.counted w h ∙ degree-other w (eqb-false w next u))

    taken-off : (len' : ℕ) → i + 1 ≤ len' → Queue fewer longer len' → TakenOff f fewer longer (i + 1) len'
    taken-off len' within q =
        record {
          table = t.table;
          same = simp length-set t.same;
          passed = within;
          queued = q;
          counted = counted-now;
          off = λ w h leaf. leaf-off f t.table (among longer (i + 1))
              (λ z b e. queue-off (i + 1) (omega arith) z b (sym (among-kept queue len next (i + 1) z (omega arith)) ∙ e))
              w h (sym (counted-now w h) ∙ leaf);
        }

    -- the point joins where its degree comes to 0
    pub next-joins : get_or fewer next 0 ≡ 0 → TakenOff f fewer longer (i + 1) (len + 1)
    next-joins leaf =
        taken-off (len + 1) (omega arith)
        record {
          same = simp length-set t.queued.same;
          distinct = rw length-set (distinct-joined queue len next t.queued.distinct next-room next_place next-new);
          zeros = λ w h.
              let b : w < length f = rw (length-set, t.same) at h in
              among-joined queue len next w next-room
              ∙ by-test (eqb w next)
              (λ u. rw (eqb-true w next u) (ap (λ c. c || among queue len next) (eq-eqb next next refl) ∙ sym (eq-eqb (get_or fewer next 0) 0 leaf)))
              (λ u.
              let other = eqb-false w next u in
              ap (λ c. c || among queue len w) (ne_eqb next w (λ e. other (sym e))) ∙ in-queue w b ∙ ap (λ v. eqb v 0) (sym (at_other w other)));
        }

    -- else the queue stays as it is
    pub next-waits : (get_or fewer next 0 ≡ 0 → ⊥) → TakenOff f fewer longer (i + 1) len
    next-waits no-leaf =
        taken-off len (omega arith)
        record {
          same = simp length-set t.queued.same;
          distinct = rw length-set (distinct-kept queue len next t.queued.distinct);
          zeros = λ w h.
              let b : w < length f = rw (length-set, t.same) at h in
              among-kept queue len next len w (omega arith)
              ∙ by-test (eqb w next)
              (λ u. rw (eqb-true w next u) (next-new ∙ sym (ne_eqb (get_or fewer next 0) 0 no-leaf)))
              (λ u. in-queue w b ∙ ap (λ v. eqb v 0) (sym (at_other w (eqb-false w next u))));
        }
