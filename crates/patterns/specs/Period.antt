-- The period of a map [document 02, paper 8: round length]: "the least number p of at least 1 such that, once every point is on a cycle, p further steps bring each
-- point back". It takes the place of document 01's round length, which was the longest cycle length.
use Rattle.std.specs.Prelude.{Bool, List, ltb, eqb, length}
use Rattle.std.proofs.Math.Bool.{cond}
use Prim.Native.Nat.{ℕ, zero, suc, ◌^◌}
use Rattle.lists.specs.Select.{each, range}
use Rattle.patterns.specs.declared.Refusal.TheVariants.{Count, Image, TooManyPoints}
use Rattle.patterns.specs.Table.{image, iterate, is_table}
use Rattle.patterns.specs.Reading.{Result, done, fault, and_then}

module _ (n : ℕ) (f : ℕ → ℕ) where
  -- once every point is on a cycle, which n steps see to, p further steps bring each point back
  unfoldable pub brings_back : ℕ → Bool
  brings_back p = each (λ x. eqb (iterate f p (iterate f n x)) (iterate f n x)) (range 0 n)

  -- the first of p, p + 1, .. that does, or the last of k more
  unfoldable pub least_from : ℕ → ℕ → ℕ
  unfolding brings_back
  least_from zero p = p
  least_from (suc k) p =
      let later = least_from k (suc p) in
      cond (brings_back p) p later

  -- the least of at least 1 that does: it is at most n ^ n, so that as many tries are enough
  unfoldable pub period : ℕ
  unfolding least_from
  period = least_from (n ^ n) 1

-- a table of at most 120 points, each byte a point: 1; "a table of more than 120 points is refused with 13, directly after 1 and before 2"; 2
unfoldable pub checked_small : List ℕ → Result (List ℕ)
checked_small f =
    let judged = cond (is_table f) (done f) (fault Image) in
    cond (ltb 200 (length f)) (fault Count) (cond (ltb 120 (length f)) (fault TooManyPoints) judged)

-- Entry "round length"
unfoldable pub period_of : List ℕ → Result ℕ
unfolding checked_small period
period_of f = and_then (checked_small f) (λ f. done (period (length f) (image f)))
