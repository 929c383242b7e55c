-- The cycles of a map f on the points below n: the cycle from a point on it, and that each cycle has exactly one leader, so that the cycles
-- from the leaders hold every point on a cycle once.
use mathlib.Core.Path.{◌≡◌, refl, ap, sym, ◌∙◌}
use mathlib.Core.List.{[], ◌∷◌, ◌++◌, map}
use mathlib.Core.Bool.{Bool, true, false}
use Prim.Native.Nat.{ℕ, zero, suc, ◌+◌, ◌-◌, ◌≤◌, ◌<◌}
use native.Mathlib.Omega.{arith}
use lib.Dec.{leb, eqb}
use borrow.Author.Tests.{eq-eqb, ne_eqb, eqb-true, eqb-false, le-leb, leb-true}
use Rattle.lists.specs.Select.{keep, each, gather, range}
use Rattle.lists.proofs.Tests.{◌∈◌, by-test, either, and-true, true-and, each-true, each_member}
use Rattle.lists.proofs.Permute.{Perm}
use Rattle.lists.proofs.Members.{NoDup, in_head, in-cons-cases, in_list, in_moved, in-keep, of-keep, in-range, of_range, in-gather, of-gather, nodup-keep, nodup_range, nodup-gather}
use Rattle.lists.proofs.Pigeon.{same-members-perm}
use Rattle.patterns.specs.Component.{turn}
use Rattle.patterns.specs.Table.{iterate, orbit, on_cycle, until, cycle_from, leads_cycle, leaders}
use Rattle.lists.proofs.Gathering.{least-member}
use Rattle.map_theory.proofs.Cycles.{cycle-image}
use Rattle.map_theory.proofs.Orbits.{iterate-suc, iterate-add, period-moves, in-orbit, of-orbit, orbit-turn, orbit-repeats, on_cycle-period, on_cycle-moves, on_cycle-back, iterate-inside}

-- if some number passes a test, there is a least one that does
pub least-true : (t : ℕ → Bool) (p : ℕ) → t p ≡ true → (q : ℕ) × (q ≤ p) × (t q ≡ true) × ((i : ℕ) → i < q → t i ≡ false)
least-true t zero e = (0, omega arith, e, λ i h. absurd (omega arith))
least-true t (suc p) e =
    by-test (t 0)
    (λ u. (0, omega arith, u, λ i h. absurd (omega arith)))
    (λ u. let r = least-true (λ i. t (suc i)) p e in (suc r.0, omega arith, r.2, before u r.0 r.3))
  where
    before : t 0 ≡ false → (q : ℕ) → ((i : ℕ) → i < q → t (suc i) ≡ false) → (i : ℕ) → i < suc q → t i ≡ false
    before u q h zero k = u
    before u q h (suc i) k = h i (omega arith)

-- the least number of steps, less one, after which x comes back
pub record Period (f : ℕ → ℕ) (x p : ℕ) : Type 0 where
  pub returns : iterate f (suc p) x ≡ x
  pub no_earlier : (i : ℕ) → i < p → iterate f (suc i) x ≡ x → ⊥

module _ (f : ℕ → ℕ) where
  -- what comes back has a least number of steps to do so
  pub least-period : (p x : ℕ) → iterate f (suc p) x ≡ x → (q : ℕ) × (q ≤ p) × Period f x q
  least-period p x e =
      let r = least-true (λ i. eqb (iterate f (suc i) x) x) p (eq-eqb (iterate f (suc p) x) x e) in (
        r.0,
        r.1,
        record {
          returns = eqb-true (iterate f (suc r.0) x) x r.2;
          no_earlier = λ i h. eqb-false (iterate f (suc i) x) x (r.3 i h);
        },
      )

  -- until its least period is over a point meets only different points
  pub period-nodup : {x p : ℕ} → Period f x p → NoDup (x ∷ orbit f p x)
  period-nodup {x} {p} c =
      either (orbit-repeats f p x)
      (λ d. d)
      (λ r.
      let e : r.0 + (suc p - r.0) ≡ suc p = omega arith in
      let b : iterate f (suc p - r.0) (iterate f r.0 x) ≡ x =
      sym (iterate-add f r.0 (suc p - r.0) x) ∙ ap (λ i. iterate f i x) e ∙ c.returns in
      absurd (c.no_earlier r.1 (omega arith) (rw b at (period-moves f (suc r.1) (suc p - r.0) r.3))))

module _ (n : ℕ) (f : ℕ → ℕ) where
  -- the walk from y stops where x first comes
  pub until-orbit : (k m x y : ℕ) → m ≤ k → iterate f (suc m) y ≡ x → ((i : ℕ) → i < m → iterate f (suc i) y ≡ x → ⊥)
      → until n f k x (f y) ≡ orbit f m y
  unfolding until
  until-orbit zero zero x y h e l = refl
  until-orbit zero (suc m) x y h e l = absurd (omega arith)
  until-orbit (suc k) zero x y h e l = rw (eq-eqb (f y) x e)
  until-orbit (suc k) (suc m) x y h e l =
      rw (ne_eqb (f y) x (l 0 (omega arith)))
      (ap (λ r. f y ∷ r) (until-orbit k m x (f y) (omega arith) e (λ i b. l (suc i) (omega arith))))

  -- a point on a cycle has a least period, and the cycle from it is what it meets until then
  pub cycle-period : (x : ℕ) → on_cycle n f x ≡ true → (p : ℕ) × (p < n) × Period f x p × (cycle_from n f x ≡ x ∷ orbit f p x)
  unfolding cycle_from
  cycle-period x e =
      let r = on_cycle-period n f x e in
      let s = least-period f r.0 x r.2 in
      (s.0, omega arith, s.2, ap (λ l. x ∷ l) (until-orbit n s.0 x x (omega arith) s.2.returns s.2.no_earlier))

  -- the cycle from a point on it has no repetition
  pub cycle-nodup : (x : ℕ) → on_cycle n f x ≡ true → NoDup (cycle_from n f x)
  cycle-nodup x e = let r = cycle-period x e in rw r.3 (period-nodup f r.2)

  -- each of its points goes to the next, and the last to the first
  pub cycle-turn : (x : ℕ) → on_cycle n f x ≡ true → map f (cycle_from n f x) ≡ turn (cycle_from n f x)
  cycle-turn x e =
      let r = cycle-period x e in
      rw r.3 (orbit-turn f r.0 x ∙ ap (λ y. orbit f r.0 x ++ (y ∷ [])) r.2.returns)

  pub in-cycle-start : (x : ℕ) → x ∈ cycle_from n f x
  unfolding cycle_from
  in-cycle-start x = in_head

  -- what is on the cycle from x is reached from x
  pub of-cycle : (x : ℕ) {y : ℕ} → on_cycle n f x ≡ true → y ∈ cycle_from n f x → (i : ℕ) × (i < n) × (y ≡ iterate f i x)
  of-cycle x e m =
      let r = cycle-period x e in
      either (in-cons-cases (in_list r.3 m))
      (λ q. (0, omega arith, q))
      (λ k. let s = of-orbit f r.0 x k in (suc s.0, omega arith, s.2))

  -- what is reached from x is on the cycle from x
  pub in-cycle : (i x : ℕ) → on_cycle n f x ≡ true → iterate f i x ∈ cycle_from n f x
  in-cycle zero x e = in-cycle-start x
  in-cycle (suc i) x e =
      rw (iterate-suc f i x) (cycle-image f (cycle-turn x e) (in-cycle i x e))

  -- the points of a cycle are on a cycle
  pub cycle-on_cycle : (x : ℕ) {y : ℕ} → on_cycle n f x ≡ true → y ∈ cycle_from n f x → on_cycle n f y ≡ true
  cycle-on_cycle x e m = let r = of-cycle x e m in rw r.2 (on_cycle-moves n f r.0 x e)

  -- if y is on the cycle from x, x is on the cycle from y
  pub cycle-sym : (x : ℕ) {y : ℕ} → on_cycle n f x ≡ true → y ∈ cycle_from n f x → x ∈ cycle_from n f y
  cycle-sym x {y} e m =
      let r = of-cycle x e m in
      let s = on_cycle-back n f r.0 x e in
      in_moved (ap (iterate f s.0) r.2 ∙ s.1) (in-cycle s.0 y (cycle-on_cycle x e m))

  pub cycle-trans : (x : ℕ) {y z : ℕ} → on_cycle n f x ≡ true → y ∈ cycle_from n f x → z ∈ cycle_from n f y → z ∈ cycle_from n f x
  cycle-trans x {y} e m k =
      let r = of-cycle x e m in
      let s = of-cycle y (cycle-on_cycle x e m) k in
      in_moved (iterate-add f r.0 s.0 x ∙ ap (iterate f s.0) (sym r.2) ∙ sym s.2) (in-cycle (r.0 + s.0) x e)

  -- a cycle has the same points from each of them on
  pub cycle-perm : (x : ℕ) {y : ℕ} → on_cycle n f x ≡ true → y ∈ cycle_from n f x → Perm (cycle_from n f y) (cycle_from n f x)
  cycle-perm x {y} e m =
      let o = cycle-on_cycle x e m in
      same-members-perm (cycle-nodup y o) (cycle-nodup x e) (λ z k. cycle-trans x e m k) (λ z k. cycle-trans y o (cycle-sym x e m) k)

  -- a leader is on a cycle and no point of its cycle is less
  pub leads-on_cycle : (x : ℕ) → leads_cycle n f x ≡ true → on_cycle n f x ≡ true
  unfolding leads_cycle
  leads-on_cycle x e = (and-true (on_cycle n f x) (each (leb x) (orbit f n x)) e).0

  pub leads-least : (x : ℕ) {y : ℕ} → leads_cycle n f x ≡ true → y ∈ cycle_from n f x → x ≤ y
  unfolding leads_cycle
  leads-least x {y} e m =
      let a = and-true (on_cycle n f x) (each (leb x) (orbit f n x)) e in
      let r = cycle-period x a.0 in
      either (in-cons-cases (in_list r.3 m))
      (λ q. omega arith)
      (λ k. let s = of-orbit f r.0 x k in
      leb-true x y (each_member (leb x) a.1 (in_moved (sym s.2) (in-orbit f n s.0 x (omega arith)))))

  pub least-leads : (x : ℕ) → on_cycle n f x ≡ true → ((y : ℕ) → y ∈ cycle_from n f x → x ≤ y) → leads_cycle n f x ≡ true
  unfolding leads_cycle
  least-leads x e h =
      true-and e
      (each-true (leb x) (orbit f n x)
      (λ y m. let s = of-orbit f n x m in le-leb x y (h y (in_moved (sym s.2) (in-cycle (suc s.0) x e)))))

  -- two leaders on one cycle are equal
  pub one-leader : (x y : ℕ) {z : ℕ} → leads_cycle n f x ≡ true → leads_cycle n f y ≡ true → z ∈ cycle_from n f x → z ∈ cycle_from n f y → x ≡ y
  one-leader x y a b k m =
      let xz = cycle-sym x (leads-on_cycle x a) k in
      let yz = cycle-sym y (leads-on_cycle y b) m in
      let h : x ≤ y = leads-least x a (cycle-trans x (leads-on_cycle x a) k yz) in
      let g : y ≤ x = leads-least y b (cycle-trans y (leads-on_cycle y b) m xz) in
      omega arith

  module _ (inside : (x : ℕ) → x < n → f x < n) where
    pub of-leaders : {x : ℕ} → x ∈ leaders n f → (x < n) × (leads_cycle n f x ≡ true)
    unfolding leaders
    of-leaders m = let r = of-keep (leads_cycle n f) (range 0 n) m in let s = of_range 0 n r.0 in (omega arith, r.1)

    pub in-leaders : {x : ℕ} → x < n → leads_cycle n f x ≡ true → x ∈ leaders n f
    unfolding leaders
    in-leaders h e = in-keep (leads_cycle n f) (in-range 0 n (omega arith) (omega arith)) e

    pub leader-on_cycle : {x : ℕ} → x ∈ leaders n f → on_cycle n f x ≡ true
    leader-on_cycle {x} m = leads-on_cycle x (of-leaders m).1

    pub cycle-inside : (x : ℕ) {y : ℕ} → x < n → on_cycle n f x ≡ true → y ∈ cycle_from n f x → y < n
    cycle-inside x h e m = let r = of-cycle x e m in rw r.2 (iterate-inside n f inside r.0 x h)

    pub leaders-nodup : NoDup (leaders n f)
    unfolding leaders
    leaders-nodup = nodup-keep (leads_cycle n f) (nodup_range 0 n)

    -- every point on a cycle is on the cycle of a leader
    pub has-leader : (z : ℕ) → z < n → on_cycle n f z ≡ true → (x : ℕ) × (x ∈ leaders n f) × (z ∈ cycle_from n f x)
    has-leader z h e =
        let r = cycle-period z e in
        let s = least-member z (orbit f r.0 z) in
        let m : s.0 ∈ cycle_from n f z = in_list (sym r.3) s.1 in
        let o = cycle-on_cycle z e m in (
          s.0,
          in-leaders (cycle-inside z h e m) (least-leads s.0 o (λ y k. s.2 y (in_list r.3 (cycle-trans z e m k)))),
          cycle-sym z e m,
        )

    -- the cycles from the leaders, one after another, are the points on cycles, each once
    pub cycles-perm : Perm (gather (cycle_from n f) (leaders n f)) (keep (on_cycle n f) (range 0 n))
    cycles-perm =
        same-members-perm
        (nodup-gather (cycle_from n f) leaders-nodup
        (λ x m. cycle-nodup x (leader-on_cycle m))
        (λ x y z k m i j. one-leader x y (of-leaders k).1 (of-leaders m).1 i j))
        (nodup-keep (on_cycle n f) (nodup_range 0 n))
        (λ z m.
        let r = of-gather (cycle_from n f) (leaders n f) m in
        let e = leader-on_cycle r.1 in
        in-keep (on_cycle n f) (in-range 0 n (omega arith) (let h = cycle-inside r.0 (of-leaders r.1).0 e r.2 in omega arith)) (cycle-on_cycle r.0 e r.2))
        (λ z m.
        let r = of-keep (on_cycle n f) (range 0 n) m in
        let s = of_range 0 n r.0 in
        let t = has-leader z (omega arith) r.1 in
        in-gather (cycle_from n f) t.1 t.2)
