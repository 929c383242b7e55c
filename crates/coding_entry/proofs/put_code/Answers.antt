use Rattle.coding_entry.proofs.CodedPut.{coded-held, coded-put}
use Rattle.coding_entry.proofs.put_code.Goals as goal

pub invariant_of-put : goal.invariant_of-put
invariant_of-put c =
    record { held = rw (c.sizes.ensures, c.trees.ensures) (coded-held c.coded-system.result c.coded-system.ensures c.args.table.table c.args.table.small) }

pub returns : goal.returns
returns c =
    let put = c.put.ensures in
    coded-put c.coded-system.result c.coded-system.ensures (rw (c.sizes.ensures, c.trees.ensures) at put)
