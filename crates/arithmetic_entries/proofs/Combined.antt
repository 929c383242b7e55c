-- One table made of two tables of at most 200 points: what its making asks for, and its code, or 11.
use mathlib.Core.Path.{◌≡◌, refl, ap, sym, ◌∙◌, subst}
use mathlib.Core.List.{List, ◌++◌}
use Prim.Native.Nat.{ℕ, ◌≤◌, ◌<◌}
use native.Mathlib.Omega.{arith}
use lib.ListN.{length, take, length-append}
use lib.Seq.{take_at, length-take-le}
use Rattle.patterns.specs.Replies.{Answer, refused}
use Rattle.patterns.specs.Entry.{Replied, code_of_map}
use Rattle.patterns.specs.Arithmetic.{code_of_result}
use Rattle.patterns.proofs.Outcomes.{code_gives}
use Rattle.patterns.proofs.ArithmeticExamples.{two-hundred-points, more-points}
use Rattle.tables.specs.declared.Table.{Table}
use Rattle.combining.specs.declared.Operation.{Operation}
use Rattle.combining.specs.declared.Operation.TheVariants.{Sum, Product}
use Rattle.combining.specs.Combining.{points_of, table_of, CombineAsked}
use Rattle.arithmetic_theory.proofs.Operation.{Operation as Lawful}
use Rattle.arithmetic_theory.proofs.Sums.{sum-operation}
use Rattle.arithmetic_theory.proofs.Products.{product-operation}

-- the laws of either operation
lawful : (o : Operation) → Lawful (table_of o) (points_of o)
lawful Sum = sum-operation
lawful Product = product-operation

module _ (o : Operation) (f g : Table) {k : ℕ} (e : k ≡ points_of o (length f.images.now) (length g.images.now)) where
  -- the table that is made of both
  abbrev both : List ℕ
  both = table_of o f.images.now g.images.now

  count : length both ≡ k
  count = (lawful o).counts f.images.now g.images.now ∙ sym e

  -- more than 200 points
  pub combined-refused : (before : List ℕ) → 200 < k → Replied (code_of_result (both)) before (refused 11) before
  combined-refused before h = rw (more-points (both) (omega (arith, count))) (record { reply = refl; output = refl })

  module _ (small : k ≤ 200) where
    pub combine-asked : (room : List ℕ) → length room ≡ 200 → CombineAsked o f.images.now g.images.now (take k room)
    combine-asked room l =
        let n : length (take k room) ≡ k = length-take-le k room (omega arith) in
        record { first = f.table; second = g.table; room = n ∙ e; small = omega arith }

    module _ {table : List ℕ} (made : table ≡ both) (rest : List ℕ) where
      pub table-within : k ≤ length (table ++ rest)
      table-within = omega (arith, length-append table rest, ap length made, count)

      -- at most 200: the code of the table
      pub combined-coded : {before after : List ℕ} {a : Answer} → Replied (code_of_map (take k (table ++ rest))) before a after
          → Replied (code_of_result (both)) before a after
      combined-coded {before} {after} {a} p =
          let h = both in
          let few : length h ≤ 200 = omega (arith, count) in
          let whole : take k (table ++ rest) ≡ h = take_at table rest k (ap length made ∙ count) ∙ made in
          let found = code_gives h few ((lawful o).makes_table f.images.now g.images.now f.table g.table) ∙ sym (two-hundred-points h few) in
          subst (λ q. Replied q before a after) (ap code_of_map whole ∙ found) p
