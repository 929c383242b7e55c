-- The first point after x that is not greater than x: the way there leads past the greater points between, and x leads its cycle exactly if it is x itself.
use mathlib.Core.Path.{◌≡◌, refl, ap, sym, subst, ◌∙◌}
use mathlib.Core.Bool.{true, false}
use mathlib.Core.List.{List, ◌++◌}
use Prim.Native.Nat.{ℕ, suc, ◌+◌, ◌-◌, ◌≤◌, ◌<◌}
use native.Mathlib.Omega.{arith}
use lib.Dec.{eqb, ltb}
use borrow.Author.Tests.{eq-eqb, ne_eqb, eqb-true, eqb-false, ltb-true, ltb-false}
use lib.ListN.{length, take, get_or, set, replicate, length-set, length-append, length-replicate, get_or-replicate}
use lib.Seq.{get_or-set_same, get_or-set_other, take_at}
use Rattle.lists.proofs.Tests.{by-test, either, is_false, no_both}
use Rattle.lists.proofs.Members.{in-cons-cases, in_list, in_moved}
use Rattle.patterns.specs.Table.{image, iterate, on_cycle, leads_cycle}
use Rattle.links.specs.Leads.{Descends, Lesser, Leads}
use Rattle.map_theory.proofs.Orbits.{iterate-add, of-orbit, on_cycle-moves, on_cycle-back, iterate-inside}
use Rattle.map_theory.proofs.Leaders.{cycle-period, in-cycle, leads-on_cycle, leads-least, least-leads}

module _ (n : ℕ) (f : ℕ → ℕ) where
  -- back at x, and only greater points on the way: x leads its cycle
  pub descends-leads : {x y : ℕ} → on_cycle n f x ≡ true → Descends f x y → y ≡ x → leads_cycle n f x ≡ true
  descends-leads {x} {y} on d e =
      let r = cycle-period n f x on in
      let whole : r.0 < d.steps =
      by-test (ltb r.0 d.steps)
      (λ t. ltb-true r.0 d.steps t)
      (λ t.
      let b = ltb-false r.0 d.steps t in
      let s : suc (d.steps - 1) ≡ d.steps = omega (arith, d.begun) in
      absurd (r.2.no_earlier (d.steps - 1) (omega (arith, d.begun)) (ap (λ k. iterate f k x) s ∙ sym d.comes ∙ e))) in
      least-leads n f x on (λ z m. either (in-cons-cases (in_list r.3 m))
      (λ q. omega arith)
      (λ i.
      let o = of-orbit f r.0 x i in
      let b = d.above (suc o.0) (omega arith) (omega (arith, o.1)) in
      let q = o.2 in
      omega arith))

  -- a lesser point comes: x does not lead its cycle
  pub descends-leads-not : {x y : ℕ} → on_cycle n f x ≡ true → Descends f x y → (y ≡ x → ⊥) → leads_cycle n f x ≡ false
  descends-leads-not {x} {y} on d h =
      is_false (leads_cycle n f x)
      (λ t. let b = leads-least n f x t (in_moved (sym d.comes) (in-cycle n f d.steps x on)) in h (omega (arith, d.not_above)))

  -- y comes some steps after x, and only greater points come before it
  pub record Ahead (x y : ℕ) : Type 0 where
    pub steps : ℕ
    pub begun : 0 < steps
    pub comes : y ≡ iterate f steps x
    pub above : (i : ℕ) → 0 < i → i < steps → x < iterate f i x

  pub ahead-start : (x : ℕ) → Ahead x (f x)
  ahead-start x = record { steps = 1; begun = omega arith; comes = refl; above = λ i a b. absurd (omega arith) }

  -- past a greater point, on to where it descends
  pub ahead-next : {x y z : ℕ} → Ahead x y → x < y → Descends f y z → Ahead x z
  ahead-next {x} {y} {z} a h d =
      let k = a.steps in
      record {
        steps = k + d.steps;
        begun = omega (arith, a.begun);
        comes = d.comes ∙ ap (iterate f d.steps) a.comes ∙ sym (iterate-add f k d.steps x);
        above = λ i b c. by-test (ltb i k)
            (λ t. a.above i b (ltb-true i k t))
            (λ t.
            let g = ltb-false i k t in
            let e : k + (i - k) ≡ i = omega arith in
            let q : iterate f i x ≡ iterate f (i - k) y =
            ap (λ j. iterate f j x) (sym e) ∙ iterate-add f k (i - k) x ∙ ap (iterate f (i - k)) (sym a.comes) in
            rw q (by-test (eqb (i - k) 0)
            (λ u. rw (eqb-true (i - k) 0 u) h)
            (λ u.
            let w = eqb-false (i - k) 0 u in
            let b' = d.above (i - k) (omega arith) (omega arith) in
            omega arith)));
      }

  pub ahead-on_cycle : {x y : ℕ} → on_cycle n f x ≡ true → Ahead x y → on_cycle n f y ≡ true
  ahead-on_cycle {x} on a = ap (λ z. on_cycle n f z) a.comes ∙ on_cycle-moves n f a.steps x on

  -- a greater point on the cycle of x leads no cycle, so it descends to a lesser one
  pub ahead-less : {x y z : ℕ} → on_cycle n f x ≡ true → Ahead x y → x < y → Descends f y z → z < y
  ahead-less {x} {y} {z} on a h d =
      by-test (eqb z y)
      (λ t.
      let on' = ahead-on_cycle on a in
      let leads = descends-leads on' d (eqb-true z y t) in
      let back = on_cycle-back n f a.steps x on in
      let b = leads-least n f y leads (in_moved (ap (iterate f back.0) a.comes ∙ back.1) (in-cycle n f back.0 y on')) in
      absurd (omega arith))
      (λ t. let q = eqb-false z y t in omega (arith, d.not_above))

  pub ahead-end : {x y : ℕ} → Ahead x y → y ≤ x → Descends f x y
  ahead-end a h = record { steps = a.steps; begun = a.begun; comes = a.comes; not_above = h; above = a.above }

  pub ahead-inside : ((x : ℕ) → x < n → f x < n) → {x y : ℕ} → x < n → Ahead x y → y < n
  ahead-inside i {x} {y} h a = subst (λ z. z < n) (sym a.comes) (iterate-inside n f i a.steps x h)

-- All points, from the greatest down.

pub lesser-start : (f lesser : List ℕ) (k : ℕ) → lesser ≡ replicate k 255 → k ≡ length f → Lesser f lesser (length f)
lesser-start f lesser k m e =
    record {
      room = ap length m ∙ length-replicate k 255 ∙ e;
      passed = omega arith;
      on = λ z a b. absurd (omega arith);
      others = λ z b h. ap (λ l. get_or l z 0) m ∙ get_or-replicate k z 255 0 (omega arith);
    }

module _ {f lesser : List ℕ} {x : ℕ} (l : Lesser f lesser (x + 1)) where
  -- a point on no cycle
  pub lesser-off : on_cycle (length f) (image f) x ≡ false → Lesser f lesser x
  lesser-off e =
      record {
        room = l.room;
        passed = omega (arith, l.passed);
        on = λ z a b t. by-test (eqb z x)
            (λ q. no_both (subst (λ w. on_cycle (length f) (image f) w ≡ true) (eqb-true z x q) t) e)
            (λ q. let r = eqb-false z x q in l.on z (omega arith) b t);
        others = λ z b h. l.others z b (λ a t. h (omega arith) t);
      }

  -- a point on a cycle, and where it descends to
  pub lesser-on : (y : ℕ) → on_cycle (length f) (image f) x ≡ true → Descends (image f) x y → Lesser f (set lesser x y) x
  lesser-on y e d =
      record {
        room = simp length-set l.room;
        passed = omega (arith, l.passed);
        on = λ z a b t. by-test (eqb z x)
            (λ q.
            let r = eqb-true z x q in
            rw r (subst (λ w. Descends (image f) x w) (sym (get_or-set_same lesser x y 0 (omega (arith, l.room, l.passed)))) d))
            (λ q.
            let r = eqb-false z x q in
            subst (λ w. Descends (image f) z w) (sym (get_or-set_other lesser x z y 0 r)) (l.on z (omega arith) b t));
        others = λ z b h. by-test (eqb z x)
            (λ q. let r = eqb-true z x q in absurd (h (omega arith) (ap (λ w. on_cycle (length f) (image f) w) r ∙ e)))
            (λ q. get_or-set_other lesser x z y 0 (eqb-false z x q) ∙ l.others z b (λ a t. h (omega arith) t));
      }

-- the points that descend to themselves are the leaders
pub lesser-end : {f lesser : List ℕ} → length f ≤ 200 → Lesser f lesser 0 → Leads f lesser
lesser-end {f} {lesser} small l =
    record {
      room = l.room;
      leads_are = λ x h. by-test (on_cycle (length f) (image f) x)
          (λ t.
          let d = l.on x (omega arith) h t in
          by-test (eqb (get_or lesser x 0) x)
          (λ q. rw q (sym (descends-leads (length f) (image f) t d (eqb-true (get_or lesser x 0) x q))))
          (λ q. rw q (sym (descends-leads-not (length f) (image f) t d (eqb-false (get_or lesser x 0) x q)))))
          (λ t.
          let z = l.others x h (λ a u. no_both u t) in
          let q : leads_cycle (length f) (image f) x ≡ false = is_false (leads_cycle (length f) (image f) x) (λ u. no_both (leads-on_cycle (length f) (image f) x u) t) in
          rw (z, q) (ne_eqb 255 x (λ e. omega arith)));
    }

-- leaders in the first places of an array
pub leads-within : {f leads : List ℕ} → Leads f leads → (d : List ℕ) → length f ≤ length (leads ++ d)
leads-within l d = rw length-append (omega (arith, l.room))

pub leads-back : {f leads : List ℕ} → Leads f leads → (d : List ℕ) → Leads f (take (length f) (leads ++ d))
leads-back {f} {leads} l d = rw (take_at leads d (length f) l.room) l

module _ {f leads : List ℕ} (l : Leads f leads) {x : ℕ} (h : x < length f) where
  pub leader-yes : get_or leads x 0 ≡ x → leads_cycle (length f) (image f) x ≡ true
  leader-yes e = sym (l.leads_are x h) ∙ eq-eqb (get_or leads x 0) x e

  pub leader-no : (get_or leads x 0 ≡ x → ⊥) → leads_cycle (length f) (image f) x ≡ false
  leader-no e = sym (l.leads_are x h) ∙ ne_eqb (get_or leads x 0) x e
