use mathlib.Core.Path.{sym}
use borrow.Author.Rules.{rules}
use Rattle.std.proofs.lemmas.Result.{err_from_is_err_and}
use Rattle.line_theory.proofs.Sizes.{count-within}
use Rattle.digraph6_reading.proofs.LinesRead.{line_refused, size-refused, size-read}
use Rattle.digraph6_reading.proofs.read_sized.Goals as goal

pub slice_bounds-read_body-count : goal.slice_bounds-read_body-count
slice_bounds-read_body-count c = (count-within c.args.s.now (sym c.in_ok-size.ensures)).1

pub slice_bounds-read_body-start : goal.slice_bounds-read_body-start
slice_bounds-read_body-start c = let h = slice_bounds-read_body-count c in search rules

pub read_body-requires : goal.read_body-requires
read_body-requires c = ((count-within c.args.s.now (sym c.in_ok-size.ensures)).0, c.requires)

pub returns-in_err-size : goal.returns-in_err-size
returns-in_err-size c =
    let p = err_from_is_err_and c.from_residual.result c.from_residual.ensures.1 in
    rw (p.1, p.2) (line_refused _ _ (size-refused c.args.s.now c.in_err-size.ensures))

pub returns : goal.returns
returns c = size-read c.args.s.now c.in_ok-size.ensures c.read_body.ensures
