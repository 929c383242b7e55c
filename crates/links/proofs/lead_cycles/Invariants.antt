use Rattle.links.specs.Leads.{Lesser}
use Rattle.links.proofs.lead_cycles.Given as goal

abbrev pub invariant-loop-x : goal.invariant-loop-x
invariant-loop-x l = Lesser l.table.images.now l.leads l.x
