use Rattle.links.specs.Links.{Links}
use Rattle.links.proofs.link_branches.Given as goal

abbrev pub invariant-loop-y : goal.invariant-loop-y
invariant-loop-y l = Links l.f l.y l.last l.before
