-- The checks of a request, in their order: 1, 13, 8.
use mathlib.Core.Path.{◌≡◌}
use mathlib.Core.List.{List}
use Prim.Native.Nat.{ℕ, ◌≤◌, ◌<◌}
use native.Mathlib.Omega.{arith}
use lib.Dec.{ltb}
use lib.ListN.{length}
use borrow.Author.Tests.{lt-ltb, le-ltb, ltb-true, ltb-false}
use Rattle.lists.proofs.Tests.{by-test}
use Rattle.patterns.specs.declared.Refusal.TheVariants.{Count, Room, TooManyPoints}
use Rattle.patterns.specs.Reading.{done, fault}
use Rattle.patterns.specs.GreatestPeriod.{checked_request}

module _ (n : ℕ) (out : List ℕ) where
  pub request-count : 200 < n → checked_request n out ≡ fault Count
  unfolding checked_request
  request-count h = rw (lt-ltb 200 n h)

  pub request-many : 120 < n → n ≤ 200 → checked_request n out ≡ fault TooManyPoints
  unfolding checked_request
  request-many h k = rw (le-ltb 200 n k, lt-ltb 120 n h)

  pub request-room : n ≤ 120 → length out < 1000 → checked_request n out ≡ fault Room
  unfolding checked_request
  request-room h k = rw (le-ltb 200 n (omega arith), le-ltb 120 n h, lt-ltb (length out) 1000 k)

  pub request-passes : n ≤ 120 → 1000 ≤ length out → checked_request n out ≡ done n
  unfolding checked_request
  request-passes h k = rw (le-ltb 200 n (omega arith), le-ltb 120 n h, le-ltb (length out) 1000 k)

  -- there are no others
  pub request-cases : {P : Type 0}
      → (200 < n → checked_request n out ≡ fault Count → P)
      → (120 < n → n ≤ 200 → checked_request n out ≡ fault TooManyPoints → P)
      → (n ≤ 120 → length out < 1000 → checked_request n out ≡ fault Room → P)
      → (n ≤ 120 → 1000 ≤ length out → checked_request n out ≡ done n → P)
      → P
  request-cases count many room passes =
      by-test (ltb 200 n)
      (λ t. let h = ltb-true 200 n t in count h (request-count h))
      (λ t.
      let h = ltb-false 200 n t in
      by-test (ltb 120 n)
      (λ u. let k = ltb-true 120 n u in many k h (request-many k h))
      (λ u.
      let k = ltb-false 120 n u in
      by-test (ltb (length out) 1000)
      (λ v. let l = ltb-true (length out) 1000 v in room k l (request-room k l))
      (λ v. let l = ltb-false (length out) 1000 v in passes k l (request-passes k l))))
