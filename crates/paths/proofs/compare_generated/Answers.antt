use Rattle.std.proofs.Common.{◌≡◌, not, true, rules}
use Prim.Native.Nat.{compare}
use Rattle.std.specs.Ordering.{MatchOrdering}
use Rattle.std.specs.declared.cmp.Ordering.TheVariants.{Less, Greater}
use Rattle.lists.specs.Blocks.{ordering_of}
use Rattle.lists.specs.Order.{lex_by}
use Rattle.component_theory.specs.Path.{path}
use Rattle.paths.proofs.Tracing.{generated-told}
use Rattle.paths.proofs.compare_generated.Goals as goal

pub returns : goal.returns
returns c =
    λ x y e f.
    let r = c.then_with.result in
    let h : MatchOrdering c.cmp.result (r ≡ Less) (ordering_of r ≡ lex_by compare not true (path x) (path y)) (r ≡ Greater) = search rules in
    generated-told x y e f c.cmp.result r c.cmp.ensures h c.requires
