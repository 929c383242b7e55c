use native.Mathlib.Omega.{arith}
use lib.ListN.{length-take}
use Rattle.std.proofs.lemmas.Result.{err_from_is_err_and}
use Rattle.acceptance.proofs.Acceptance.{shape-refused, shape-held, shape-within, shape-unordered, shape-accepted}
use Rattle.acceptance.proofs.accept_into.Goals as goal

pub returns-in_err-read : goal.returns-in_err-read
returns-in_err-read c =
    let k = c.read_code in
    let p = err_from_is_err_and c.from_residual.result c.from_residual.ensures.1 in
    rw (p.1, p.2) (shape-refused c.args.code.now k.result k.new.sizes k.new.trees k.ensures c.in_err-read.field-0.0 c.in_err-read.was)

-- the code has a shape
pub slice_bounds-canonical-end-3 : goal.slice_bounds-canonical-end-3
slice_bounds-canonical-end-3 c =
    let k = c.read_code in
    (shape-within c.args.code.now k.result k.new.sizes k.new.trees k.ensures c.in_ok-read.read c.in_ok-read.was).1

pub slice_bounds-canonical-end-4 : goal.slice_bounds-canonical-end-4
slice_bounds-canonical-end-4 c =
    let k = c.read_code in
    let w = shape-within c.args.code.now k.result k.new.sizes k.new.trees k.ensures c.in_ok-read.read c.in_ok-read.was in
    rw length-take (omega arith)

pub canonical-requires : goal.canonical-requires
canonical-requires c =
    let k = c.read_code in
    shape-held c.args.code.now k.result k.new.sizes k.new.trees k.ensures c.in_ok-read.read c.in_ok-read.was

pub returns-then-not-canonical : goal.returns-then-not-canonical
returns-then-not-canonical c =
    let k = c.read_code in
    shape-unordered c.args.code.now k.result k.new.sizes k.new.trees k.ensures c.in_ok-read.read c.in_ok-read.was c.canonical.result
    c.canonical.ensures c.if-not-canonical.true

pub returns : goal.returns
returns c =
    let k = c.read_code in
    shape-accepted c.args.code.now k.result k.new.sizes k.new.trees k.ensures c.in_ok-read.read c.in_ok-read.was c.canonical.result
    c.canonical.ensures c.if-not-canonical.false
