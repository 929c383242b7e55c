use mathlib.Core.Path.{sym, ◌∙◌}
use Rattle.std.proofs.Common.{not, true}
use Rattle.lists.proofs.Comparison.{compare-lawful, same_true}
use Rattle.lists.proofs.Lex.{lex_by-lawful, lex-compare-lawful}
use Rattle.component_theory.specs.Path.{path}
use Rattle.patterns.proofs.Trees.{flat-injective}
use Rattle.paths.proofs.compare_by_paths.Goals as goal

pub returns-then-equal : goal.returns-then-equal
returns-then-equal c =
    λ x y e f.
    let s = same_true lex-compare-lawful c.args.a.now c.args.b.now (sym c.equal.ensures ∙ c.if-equal.true) in
    rw (flat-injective x y (sym e ∙ s ∙ f)) (sym ((lex_by-lawful compare-lawful not true).self (path y)))
