-- The checks of a table whose period is asked for [document 02, paper 8], in their order: 1, 13, 2.
use mathlib.Core.Path.{◌≡◌}
use mathlib.Core.Bool.{true, false}
use mathlib.Core.List.{List}
use Prim.Native.Nat.{ℕ, ◌≤◌, ◌<◌}
use native.Mathlib.Omega.{arith}
use lib.Dec.{ltb}
use lib.ListN.{length}
use borrow.Author.Tests.{lt-ltb, le-ltb, ltb-true, ltb-false}
use Rattle.lists.proofs.Tests.{by-test}
use Rattle.patterns.specs.declared.Refusal.TheVariants.{Count, Image, TooManyPoints}
use Rattle.patterns.specs.Table.{is_table}
use Rattle.patterns.specs.Reading.{done, fault}
use Rattle.patterns.specs.Period.{checked_small}

module _ (f : List ℕ) where
  pub small-passes : length f ≤ 120 → is_table f ≡ true → checked_small f ≡ done f
  unfolding checked_small
  small-passes h t = rw (le-ltb 200 (length f) (omega arith), le-ltb 120 (length f) h, t)

  pub small-image : length f ≤ 120 → is_table f ≡ false → checked_small f ≡ fault Image
  unfolding checked_small
  small-image h t = rw (le-ltb 200 (length f) (omega arith), le-ltb 120 (length f) h, t)

  pub small-large : 120 < length f → length f ≤ 200 → checked_small f ≡ fault TooManyPoints
  unfolding checked_small
  small-large h k = rw (le-ltb 200 (length f) k, lt-ltb 120 (length f) h)

  pub small_count : 200 < length f → checked_small f ≡ fault Count
  unfolding checked_small
  small_count h = rw (lt-ltb 200 (length f) h)

  -- there are no others
  pub small_cases : {P : Type 0}
      → (200 < length f → checked_small f ≡ fault Count → P)
      → (120 < length f → length f ≤ 200 → checked_small f ≡ fault TooManyPoints → P)
      → (length f ≤ 120 → is_table f ≡ false → checked_small f ≡ fault Image → P)
      → (length f ≤ 120 → is_table f ≡ true → checked_small f ≡ done f → P)
      → P
  small_cases count large image passes =
      by-test (ltb 200 (length f))
      (λ t. let h = ltb-true 200 (length f) t in count h (small_count h))
      (λ t.
      let h = ltb-false 200 (length f) t in
      by-test (ltb 120 (length f))
      (λ u. let k = ltb-true 120 (length f) u in large k h (small-large k h))
      (λ u.
      let k = ltb-false 120 (length f) u in
      by-test (is_table f) (λ v. passes k v (small-passes k v)) (λ v. image k v (small-image k v))))
