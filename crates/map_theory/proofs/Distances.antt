-- The distance of a point from its cycle: what `steps_to_cycle` counts is the least number of steps after which a point of a cycle comes.
use mathlib.Core.Path.{◌≡◌, refl}
use mathlib.Core.Bool.{true, false}
use Prim.Native.Nat.{ℕ, zero, suc, ◌≤◌, ◌<◌}
use native.Mathlib.Omega.{arith}
use lib.Dec.{leb}
use borrow.Author.Tests.{leb-true, leb-false}
use Rattle.lists.proofs.Tests.{by-test, no_both}
use Rattle.patterns.specs.Table.{iterate, on_cycle}
use Rattle.patterns.specs.Census.{steps_to_cycle}
use Rattle.map_theory.proofs.Orbits.{every-point-reaches-cycle}

-- a point of a cycle comes d steps after x, and no earlier
pub record Distance (n : ℕ) (f : ℕ → ℕ) (x d : ℕ) : Type 0 where
  pub reaches : on_cycle n f (iterate f d x) ≡ true
  pub no_nearer : (i : ℕ) → i < d → on_cycle n f (iterate f i x) ≡ false

module _ (n : ℕ) (f : ℕ → ℕ) where
  pub steps_on : (k x : ℕ) → on_cycle n f x ≡ true → steps_to_cycle n f k x ≡ 0
  unfolding steps_to_cycle
  steps_on zero x e = refl
  steps_on (suc k) x e = rw e

  pub steps-off : (k x : ℕ) → on_cycle n f x ≡ false → steps_to_cycle n f (suc k) x ≡ suc (steps_to_cycle n f k (f x))
  unfolding steps_to_cycle
  steps-off k x e = rw e

  -- a point on a cycle has distance 0
  pub distance-zero : (x : ℕ) → on_cycle n f x ≡ true → Distance n f x 0
  distance-zero x e = record { reaches = e; no_nearer = λ i h. absurd (omega arith) }

  -- any other point is one step further than its image
  pub distance-suc : (x d : ℕ) → on_cycle n f x ≡ false → Distance n f (f x) d → Distance n f x (suc d)
  distance-suc x d e r = record { reaches = r.reaches; no_nearer = nearer }
    where
      nearer : (i : ℕ) → i < suc d → on_cycle n f (iterate f i x) ≡ false
      nearer zero h = e
      nearer (suc i) h = r.no_nearer i (omega arith)

  pub distance-unique : (x : ℕ) {d e : ℕ} → Distance n f x d → Distance n f x e → d ≡ e
  distance-unique x {d} {e} r s =
      by-test (leb d e)
      (λ t. let h = leb-true d e t in by-test (leb e d)
      (λ u. let g = leb-true e d u in omega arith)
      (λ u. no_both r.reaches (s.no_nearer d (leb-false e d u))))
      (λ t. no_both s.reaches (r.no_nearer e (leb-false d e t)))

  -- if some point of a cycle comes within k steps, counting up to k finds the distance
  pub steps-distance : (k e x : ℕ) → e ≤ k → on_cycle n f (iterate f e x) ≡ true → Distance n f x (steps_to_cycle n f k x)
  steps-distance zero zero x h t = rw (steps_on 0 x t) (distance-zero x t)
  steps-distance zero (suc e) x h t = absurd (omega arith)
  steps-distance (suc k) zero x h t = rw (steps_on (suc k) x t) (distance-zero x t)
  steps-distance (suc k) (suc e) x h t =
      by-test (on_cycle n f x)
      (λ u. rw (steps_on (suc k) x u) (distance-zero x u))
      (λ u. rw (steps-off k x u) (distance-suc x (steps_to_cycle n f k (f x)) u (steps-distance k e (f x) (omega arith) t)))

  module _ (inside : (x : ℕ) → x < n → f x < n) where
    -- steps_to_cycle gives the least number of steps to a cycle
    pub distance_least : (x : ℕ) → x < n → Distance n f x (steps_to_cycle n f n x)
    distance_least x h = let r = every-point-reaches-cycle n f inside x h in steps-distance n r.0 x (omega arith) r.2

    -- which is less than the number of points
    pub distance-bound : (x : ℕ) → x < n → steps_to_cycle n f n x < n
    distance-bound x h =
        let r = every-point-reaches-cycle n f inside x h in
        by-test (leb (steps_to_cycle n f n x) r.0)
        (λ t. let b = leb-true (steps_to_cycle n f n x) r.0 t in omega arith)
        (λ t. no_both r.2 ((distance_least x h).no_nearer r.0 (leb-false (steps_to_cycle n f n x) r.0 t)))

    -- a point that is on no cycle is one step further than its image
    pub distance_next : (x : ℕ) → x < n → on_cycle n f x ≡ false → steps_to_cycle n f n x ≡ suc (steps_to_cycle n f n (f x))
    distance_next x h e =
        distance-unique x (distance_least x h) (distance-suc x (steps_to_cycle n f n (f x)) e (distance_least (f x) (inside x h)))

    -- a point of distance 0 is on a cycle
    pub distance_none : (x : ℕ) → x < n → steps_to_cycle n f n x ≡ 0 → on_cycle n f x ≡ true
    distance_none x h e = let r = (distance_least x h).reaches in rw e at r
