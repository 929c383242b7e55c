use mathlib.Core.Path.{◌≡◌, refl, sym}
use native.Mathlib.Omega.{arith}
use borrow.Author.Rules.{rules}
use lib.ListN.{length}
use lib.Seq.{length-take-le}
use Rattle.std.proofs.lemmas.Result.{err_from_is_err_and}
use Rattle.digraph6_entries.proofs.LinesIn.{line-in-refused, line-in-coded}
use Rattle.digraph6_entries.proofs.code_of_digraph6.Goals as goal

pub slice_bounds-table-end : goal.slice_bounds-table-end
slice_bounds-table-end c =
    let l : length c.read_line.new.table ≡ 200 = search rules in
    omega (arith, c.in_ok-n.ensures.room _ refl)

pub slice_bounds-code_of_map-end : goal.slice_bounds-code_of_map-end
slice_bounds-code_of_map-end c =
    let l : length c.read_line.new.table ≡ 200 = search rules in
    sym (length-take-le _ _ (omega (arith, c.in_ok-n.ensures.room _ refl)))

pub returns-in_err-n : goal.returns-in_err-n
returns-in_err-n c =
    let p = err_from_is_err_and c.from_residual.result c.from_residual.ensures.1 in
    rw (p.1, p.2) (line-in-refused c.args.line.now c.in_err-n.ensures refl c.args.out.now)

pub returns : goal.returns
returns c = line-in-coded c.args.line.now c.in_ok-n.ensures refl c.code_of_map.ensures
