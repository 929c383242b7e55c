-- How many tables have a code [document 02, paper 7: how many sheets share a pattern].
use Rattle.std.specs.Prelude.{cond, List, ℕ, ltb, length}
use Rattle.lists.specs.Order.{same}
use Rattle.lists.specs.Select.{keep}
use Rattle.patterns.specs.declared.Refusal.TheVariants.{Uncounted}
use Rattle.patterns.specs.System.{System, weight, compare_system}
use Rattle.patterns.specs.Table.{system_of_table}
use Rattle.patterns.specs.Isomorphism.{tables}
use Rattle.patterns.specs.Reading.{Result, done, fault, and_then, accepted}

-- how many tables of n points have the system S: "defined as a count of tables, not by a formula over symmetries"
unfoldable pub tables_with : ℕ → System → ℕ
unfolding system_of_table compare_system
tables_with n S = length (keep (λ f. same compare_system (system_of_table f) S) (tables n n))

-- that number where S has at most 15 points, else 12
unfoldable pub tables_counted : System → Result ℕ
unfolding tables_with
tables_counted S =
    let number = done (tables_with (weight S) S) in
    cond (ltb 15 (weight S)) (fault Uncounted) number

-- Entry "number of tables": "a code of more points is refused with 12, after the code's own checks"
unfoldable pub table_count : List ℕ → Result ℕ
unfolding accepted tables_counted
table_count b = and_then (accepted b) tables_counted
