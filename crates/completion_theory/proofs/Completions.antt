-- The list of completions: what stands in it, and that it rises, so that its first entry is the least.
use mathlib.Core.Path.{◌≡◌, ◌∙◌}
use mathlib.Core.Bool.{Bool, true, ◌&&◌}
use mathlib.Core.List.{List, [], ◌∷◌, map}
use Prim.Native.Nat.{ℕ, zero, suc, compare}
use Rattle.lists.specs.Order.{same, lex}
use Rattle.lists.proofs.Tests.{◌∈◌, and-true, true-and}
use Rattle.lists.proofs.Comparison.{compare_self, same_true, same-of-path}
use Rattle.lists.proofs.Lex.{lex-cons-eq, lex-cons-lt}
use Rattle.lists.proofs.Members.{of_map, in-keep, of-keep}
use Rattle.lists.proofs.Rising.{Rising, rising-single, rising-keep, rising-map, rising-gather-rising, rising-range}
use Rattle.patterns.specs.System.{System, compare_system}
use Rattle.patterns.specs.Table.{system_of_table}
use Rattle.patterns.specs.Isomorphism.{tables}
use Rattle.patterns.proofs.Trees.{compare_system-lawful}
use Rattle.counting_theory.proofs.TableLists.{PointTable, listed-table, table-listed}
use Rattle.completion_theory.specs.Completion.{within_spans, completions}

-- the tables are listed in lexicographic order
pub tables-rising : (k n : ℕ) → Rising (lex compare) (tables k n)
tables-rising zero n = rising-single []
tables-rising (suc k) n =
    rising-gather-rising (λ y. map (y ∷◌) (tables k n)) (rising-range 0 n)
    (λ x y i j c u v p q.
    let s = of_map (x ∷◌) (tables k n) p in
    let t = of_map (y ∷◌) (tables k n) q in
    rw (s.2, t.2) (lex-cons-lt compare x y s.0 t.0 c))
    (λ y i. rising-map (y ∷◌) (λ f g a b c. lex-cons-eq compare y y f g (compare_self y) ∙ c) (tables-rising k n))

module _ (n : ℕ) (spans : List (List ℕ)) (S : System) where
  completes : List ℕ → Bool
  completes f = within_spans spans f && same compare_system (system_of_table f) S

  -- what stands in the list
  pub record Completes (f : List ℕ) : Type 0 where
    pub table : PointTable n f
    pub within : within_spans spans f ≡ true
    pub code : system_of_table f ≡ S

  pub in-completions : {f : List ℕ} → Completes f → f ∈ completions n spans S
  unfolding completions completes
  in-completions {f} h =
      in-keep completes (table-listed n h.table) (true-and h.within (same-of-path compare_system-lawful h.code))

  pub of-completions : {f : List ℕ} → f ∈ completions n spans S → Completes f
  unfolding completions completes
  of-completions {f} i =
      let r = of-keep completes (tables n n) i in
      let b = and-true (within_spans spans f) (same compare_system (system_of_table f) S) r.1 in
      record { table = listed-table n r.0; within = b.0; code = same_true compare_system-lawful (system_of_table f) S b.1 }

  pub completions-rising : Rising (lex compare) (completions n spans S)
  unfolding completions completes
  completions-rising = rising-keep completes (tables-rising n n)
