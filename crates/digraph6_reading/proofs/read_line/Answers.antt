use mathlib.Core.Path.{sym, ◌∙◌}
use native.Mathlib.Omega.{arith}
use borrow.Author.Rules.{rules}
use Rattle.patterns.specs.declared.Refusal.TheVariants.{LineForm}
use Rattle.digraph6_reading.proofs.LinesRead.{line_refused, unmarked, marked-some, marked}
use Rattle.digraph6_reading.proofs.read_line.Goals as goal

pub returns-then-byte_at-ne38 : goal.returns-then-byte_at-ne38
returns-then-byte_at-ne38 c = line_refused LineForm _ (unmarked c.args.line.now (λ e. c.if-byte_at-ne38.true (c.byte_at.ensures ∙ e)))

pub slice_bounds-read_sized-count : goal.slice_bounds-read_sized-count
slice_bounds-read_sized-count c = marked-some c.args.line.now _ (omega arith) (sym c.byte_at.ensures ∙ c.if-byte_at-ne38.false)

pub slice_bounds-read_sized-start : goal.slice_bounds-read_sized-start
slice_bounds-read_sized-start c = let h = slice_bounds-read_sized-count c in search rules

pub returns : goal.returns
returns c = marked c.args.line.now (sym c.byte_at.ensures ∙ c.if-byte_at-ne38.false) c.read_sized.ensures
