-- The numbers of a census: a table of at most 200 points has at most 19 rows, and its height is at most its number of points.
use mathlib.Core.Path.{◌≡◌, refl, sym, ap, ◌∙◌, subst}
use mathlib.Core.Bool.{true}
use mathlib.Core.List.{List, [], ◌∷◌, map}
use Prim.Native.Nat.{ℕ, zero, suc, ◌≤◌}
use native.Mathlib.Omega.{arith}
use lib.Dec.{leb, ltb}
use lib.IntN.{ℤ}
use lib.ListN.{length}
use mir.Syntax.{w64}
use mir.Val.{to_z, of_z}
use borrow.Author.Tests.{ltb-false}
use Rattle.lists.specs.Select.{range}
use Rattle.lists.proofs.Tests.{by-test}
use Rattle.patterns.specs.declared.Refusal.TheVariants.{Count, Image, Room}
use Rattle.patterns.specs.Table.{image, is_table, on_cycle}
use Rattle.patterns.specs.Census.{greatest, Row, rows_of, steps_to_cycle, height, census_rows}
use Rattle.patterns.specs.Replies.{Answer}
use Rattle.patterns.specs.Entry.{checked_table, answered, census_of, rows_found, ColumnsReplied, height_of}
use Rattle.map_theory.proofs.Isomorphisms.{table_below}
use Rattle.map_theory.proofs.Occurring.{census-fits}
use Rattle.patterns.specs.SignedReplies.{signed_of, CensusReported}
use Rattle.c_interface.proofs.Fitting.{Fits, read_back, refused-fits, small-fits}

module _ (n : ℕ) (f : ℕ → ℕ) where
  steps-few : (k x : ℕ) → steps_to_cycle n f k x ≤ k
  unfolding steps_to_cycle
  steps-few zero x = omega arith
  steps-few (suc k) x = by-test (on_cycle n f x) (λ t. rw t (omega arith)) (λ t. rw t (omega (arith, steps-few k (f x))))

  distances-few : (l : List ℕ) → greatest (map (steps_to_cycle n f n) l) ≤ n
  distances-few [] = omega arith
  distances-few (x ∷ l) =
      by-test (leb (greatest (map (steps_to_cycle n f n) l)) (steps_to_cycle n f n x)) (λ t. rw t (steps-few n x)) (λ t. rw t (distances-few l))

  height-few : height n f ≤ n
  unfolding height
  height-few = distances-few (range 0 n)

module _ (f : List ℕ) where
  pub height-fits : Fits (height_of f)
  unfolding checked_table
  height-fits =
      by-test (ltb 200 (length f))
      (λ t. rw t (refused-fits Count))
      (λ t.
      by-test (is_table f)
      (λ u. rw (t, u) (let k = ltb-false 200 (length f) t in small-fits (height (length f) (image f)) (omega (arith, height-few (length f) (image f)))))
      (λ u. rw (t, u) (refused-fits Image)))

  rows_few : is_table f ≡ true → length f ≤ 200 → length (census_rows (length f) (image f)) ≤ 19
  rows_few t h = census-fits (length f) (image f) (table_below (length f) f refl t) h

  -- the number of rows
  rows_fit : (before : List Row) → Fits (answered (rows_found f) before)
  unfolding census_of checked_table
  rows_fit before =
      by-test (ltb 200 (length f))
      (λ t. rw t (refused-fits Count))
      (λ t.
      by-test (is_table f)
      (λ u. rw (t, u) (
      by-test (leb (length (census_rows (length f) (image f))) (length before))
      (λ v. rw v (let k = rows_few u (ltb-false 200 (length f) t) in small-fits (length (census_rows (length f) (image f))) (omega arith)))
      (λ v. rw v (refused-fits Room))))
      (λ u. rw (t, u) (refused-fits Image)))

-- the rows in two columns
module _ {f lengths counts lengths' counts' : List ℕ} {a : Answer} (p : ColumnsReplied f lengths counts a lengths' counts') where
  pub columns-fit : Fits a
  columns-fit = subst Fits (sym p.reply) (rows_fit f (rows_of lengths counts))

  pub census-reported : {z : ℤ} → z ≡ signed_of a → CensusReported f lengths counts (to_z w64 (of_z w64 z)) lengths' counts'
  census-reported e = record { number = read_back e columns-fit ∙ ap signed_of p.reply; output = p.output }
