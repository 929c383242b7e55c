-- The promises of the entries, as the code states them, are what the theorems speak of: each holds by itself.
use contract.Lifetimes.{Lfts}
use borrow.Fn.Kinds.{Dens}
use mathlib.Core.Path.{◌≡◌, refl}
use mathlib.Core.List.{map}
use seplogic.Ra.Ura.{Ura}
use base.Logic.{SProp, emp}
use prog.Memory.{Memory}
use prog.Routine.{Routine}
use types.Logic.{Logic}
use contract.Monad.{Fun, fact}
use Rattle.patterns.specs.Page.{page_of, PageReplied}
use Rattle.patterns.specs.Predecessor.{predecessor_of}
use Rattle.patterns.specs.Arithmetic.{sum_of_codes, product_of_codes}
use Rattle.patterns.specs.TableCount.{table_count}
use Rattle.patterns.specs.Period.{period_of}
use Rattle.patterns.specs.GreatestPeriod.{GreatestReplied}
use Rattle.patterns.specs.Digraph6.{digraph6_of_code, code_of_digraph6}
use Rattle.patterns.specs.Entry.{Replied, answer, accept_of, first_of, successor_of, code_of_map, map_of_code, IsomorphismReplied, CensusReplied}
use Rattle.patterns.specs.Replies.{length_is, answer_of, quantity_answer, greatest_answer}
use Rattle.patterns.specs.Replies.{successor_answer, predecessor_answer, page_answer, isomorphism_answer, census_answer}
use Rattle.patterns.specs.Replies.{row_of}
use Rattle.patterns.specs.Entry.{RowsReplied, ColumnsReplied, height_of}
use Rattle.code_entries.proofs.accept.Reads as accept
use Rattle.code_entries.proofs.accept.Kinds as accept-kinds
use Rattle.code_entries.proofs.first.Reads as first
use Rattle.code_entries.proofs.first.Kinds as first-kinds
use Rattle.successor_entry.proofs.successor.Reads as successor
use Rattle.successor_entry.proofs.successor.Kinds as successor-kinds
use Rattle.predecessor_entry.proofs.predecessor.Reads as predecessor
use Rattle.predecessor_entry.proofs.predecessor.Kinds as predecessor-kinds
use Rattle.page_entry.proofs.page.Reads as page
use Rattle.page_entry.proofs.page.Kinds as page-kinds
use Rattle.coding_entry.proofs.code_of_map.Reads as code-of-map
use Rattle.coding_entry.proofs.code_of_map.Kinds as code-of-map-kinds
use Rattle.decoding_entry.proofs.map_of_code.Reads as map-of-code
use Rattle.decoding_entry.proofs.map_of_code.Kinds as map-of-code-kinds
use Rattle.arithmetic_entries.proofs.sum.Reads as sum
use Rattle.arithmetic_entries.proofs.sum.Kinds as sum-kinds
use Rattle.arithmetic_entries.proofs.product.Reads as product
use Rattle.arithmetic_entries.proofs.product.Kinds as product-kinds
use Rattle.counting_entry.proofs.table_count.Reads as table-count
use Rattle.counting_entry.proofs.table_count.Kinds as table-count-kinds
use Rattle.isomorphism_entry.proofs.isomorphism.Reads as isomorphism
use Rattle.isomorphism_entry.proofs.isomorphism.Kinds as isomorphism-kinds
use Rattle.census_entries.specs.contracts.census as census
use Rattle.census_entries.proofs.census_columns.Reads as census-columns
use Rattle.census_entries.proofs.census_columns.Kinds as census-columns-kinds
use Rattle.census_entries.proofs.cycle_columns.Reads as cycle-columns
use Rattle.census_entries.proofs.cycle_columns.Kinds as cycle-columns-kinds
use Rattle.census_entries.proofs.height.Reads as height
use Rattle.census_entries.proofs.height.Kinds as height-kinds
use Rattle.period_entry.proofs.period.Reads as period
use Rattle.period_entry.proofs.period.Kinds as period-kinds
use Rattle.greatest_period_entry.proofs.greatest_period.Reads as greatest-period
use Rattle.greatest_period_entry.proofs.greatest_period.Kinds as greatest-period-kinds
use Rattle.digraph6_entries.proofs.digraph6_of_code.Reads as digraph6-of-code
use Rattle.digraph6_entries.proofs.digraph6_of_code.Kinds as digraph6-of-code-kinds
use Rattle.digraph6_entries.proofs.code_of_digraph6.Reads as code-of-digraph6
use Rattle.digraph6_entries.proofs.code_of_digraph6.Kinds as code-of-digraph6-kinds

-- `accept`: the reply
pub accept-promise : (κs : Lfts 1) (a : Dens κs accept-kinds.ps) (r : _) (s : _) → accept.Post κs a r s → answer_of r ≡ accept_of a.0.now
accept-promise κs a r s p = p

-- `first`: what one call of "first code" did
pub first-promise : (κs : Lfts 1) (a : Dens κs first-kinds.ps) (r : _) (s : _) → first.Post κs a r s
    → Replied (first_of a.0) a.1.0.now (answer_of r) s.1.0.now
first-promise κs a r s p = p

-- `successor`
pub successor-promise : (κs : Lfts 2) (a : Dens κs successor-kinds.ps) (r : _) (s : _) → successor.Post κs a r s
    → Replied (successor_of a.0.now) a.1.0.now (successor_answer r) s.1.0.now
successor-promise κs a r s p = p

-- `predecessor`
pub predecessor-promise : (κs : Lfts 2) (a : Dens κs predecessor-kinds.ps) (r : _) (s : _) → predecessor.Post κs a r s
    → Replied (predecessor_of a.0.now) a.1.0.now (predecessor_answer r) s.1.0.now
predecessor-promise κs a r s p = p

-- `page`
pub page-promise : (κs : Lfts 2) (a : Dens κs page-kinds.ps) (r : _) (s : _) → page.Post κs a r s
    → PageReplied (page_of a.1.0 a.0.now) a.1.1.0.now (page_answer r) s.1.1.0.now
page-promise κs a r s p = p

-- `code_of_map`
pub code-of-map-promise : (κs : Lfts 2) (a : Dens κs code-of-map-kinds.ps) (r : _) (s : _) → code-of-map.Post κs a r s
    → Replied (code_of_map a.0.now) a.1.0.now (answer_of r) s.1.0.now
code-of-map-promise κs a r s p = p

-- `map_of_code`
pub map-of-code-promise : (κs : Lfts 2) (a : Dens κs map-of-code-kinds.ps) (r : _) (s : _) → map-of-code.Post κs a r s
    → Replied (map_of_code a.0.now) a.1.0.now (answer_of r) s.1.0.now
map-of-code-promise κs a r s p = p

-- `sum` and `product`
pub sum-promise : (κs : Lfts 3) (a : Dens κs sum-kinds.ps) (r : _) (s : _) → sum.Post κs a r s
    → Replied (sum_of_codes a.0.now a.1.0.now) a.1.1.0.now (answer_of r) s.1.1.0.now
sum-promise κs a r s p = p

pub product-promise : (κs : Lfts 3) (a : Dens κs product-kinds.ps) (r : _) (s : _) → product.Post κs a r s
    → Replied (product_of_codes a.0.now a.1.0.now) a.1.1.0.now (answer_of r) s.1.1.0.now
product-promise κs a r s p = p

-- `table_count`: the reply
pub table-count-promise : (κs : Lfts 1) (a : Dens κs table-count-kinds.ps) (r : _) (s : _) → table-count.Post κs a r s
    → quantity_answer r ≡ answer (table_count a.0.now) length_is
table-count-promise κs a r s p = p

-- `isomorphism`
pub isomorphism-promise : (κs : Lfts 3) (a : Dens κs isomorphism-kinds.ps) (r : _) (s : _) → isomorphism.Post κs a r s
    → IsomorphismReplied a.0.now a.1.0.now a.1.1.0.now (isomorphism_answer r) s.1.1.0.now
isomorphism-promise κs a r s p = p

-- `census`: its `ensures` is this record, and it asks nothing
module _ {M : Type 1} {𝓤 : Ura M} (𝓛 : Logic 𝓤) (mem : Memory → SProp 𝓤) (run : Routine → Fun 𝓤) (κs : Lfts 2) (a : _) where
  pub census-promise : (r : _) (s : _) → (census.clauses 𝓛 mem run κs a).ensures tt r s
      ≡ fact 𝓤 (CensusReplied a.0.now (map row_of a.1.0.now) (census_answer r) (map row_of s.1.0.now))
  census-promise r s = refl

  pub census-asks : (census.clauses 𝓛 mem run κs a).requires tt ≡ emp 𝓤
  census-asks = refl

-- `census_columns`
pub census-columns-promise : (κs : Lfts 3) (a : Dens κs census-columns-kinds.ps) (r : _) (s : _) → census-columns.Post κs a r s
    → RowsReplied a.0.now a.1.0.now a.1.1.0.now (census_answer r) s.1.0.now s.1.1.0.now
census-columns-promise κs a r s p = p

-- `cycle_columns`: the rows alone
pub cycle-columns-promise : (κs : Lfts 3) (a : Dens κs cycle-columns-kinds.ps) (r : _) (s : _) → cycle-columns.Post κs a r s
    → ColumnsReplied a.0.now a.1.0.now a.1.1.0.now (answer_of r) s.1.0.now s.1.1.0.now
cycle-columns-promise κs a r s p = p

-- `height`: the other number alone
pub height-promise : (κs : Lfts 1) (a : Dens κs height-kinds.ps) (r : _) (s : _) → height.Post κs a r s → answer_of r ≡ height_of a.0.now
height-promise κs a r s p = p

-- `period`: the reply
pub period-promise : (κs : Lfts 1) (a : Dens κs period-kinds.ps) (r : _) (s : _) → period.Post κs a r s → quantity_answer r ≡ answer (period_of a.0.now) length_is
period-promise κs a r s p = p

-- `greatest_period`
pub greatest-period-promise : (κs : Lfts 1) (a : Dens κs greatest-period-kinds.ps) (r : _) (s : _) → greatest-period.Post κs a r s
    → GreatestReplied a.0 a.1.0.now (greatest_answer r) s.1.0.now
greatest-period-promise κs a r s p = p

-- `digraph6_of_code`
pub digraph6-of-code-promise : (κs : Lfts 2) (a : Dens κs digraph6-of-code-kinds.ps) (r : _) (s : _) → digraph6-of-code.Post κs a r s
    → Replied (digraph6_of_code a.0.now) a.1.0.now (answer_of r) s.1.0.now
digraph6-of-code-promise κs a r s p = p

-- `code_of_digraph6`
pub code-of-digraph6-promise : (κs : Lfts 2) (a : Dens κs code-of-digraph6-kinds.ps) (r : _) (s : _) → code-of-digraph6.Post κs a r s
    → Replied (code_of_digraph6 a.0.now) a.1.0.now (answer_of r) s.1.0.now
code-of-digraph6-promise κs a r s p = p
