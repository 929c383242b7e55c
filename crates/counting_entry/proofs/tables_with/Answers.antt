use native.Mathlib.Omega.{arith}
use Rattle.counting_entry.proofs.TableCounts.{not-counted, divisor, tables-told}
use Rattle.counting_entry.proofs.tables_with.Goals as goal

pub returns-then-trees-gt15 : goal.returns-then-trees-gt15
returns-then-trees-gt15 c = not-counted c.requires (omega arith)

pub symmetries-requires : goal.symmetries-requires
symmetries-requires c = (c.requires, omega arith)

pub nonzero_div-result : goal.nonzero_div-result
nonzero_div-result c =
    divisor c.requires c.factorial-orders.ensures c.symmetries.ensures

pub returns : goal.returns
returns c =
    tables-told c.requires c.factorial-orders.ensures c.symmetries.ensures (omega arith)
