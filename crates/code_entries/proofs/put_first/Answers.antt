use lib.ListN.{length}
use Rattle.code_entries.proofs.FirstPut.{first-held, first-put}
use Rattle.code_entries.proofs.put_first.Goals as goal

pub invariant_of-put : goal.invariant_of-put
invariant_of-put c = record { held = first-held (length c.args.sizes.now) c.requires.1 c.first_system.ensures }

pub returns : goal.returns
returns c = first-put (length c.args.sizes.now) c.requires.1 c.first_system.ensures c.put.ensures
