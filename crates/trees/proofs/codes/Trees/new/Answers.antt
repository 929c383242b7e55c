use Rattle.trees.proofs.TreeCodes.{filled-held}
use Rattle.trees.proofs.codes.Trees.new.Goals as goal

pub invariant_of-result : goal.invariant_of-result
invariant_of-result c = record { whole = filled-held c.requires }
