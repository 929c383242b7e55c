use Rattle.std.proofs.Common.{arith}
use Rattle.writing.proofs.Locating.{size-at, passed_none, next_fits, next-held, next-bound, passed-next}
use Rattle.writing.proofs.StoredSystem.beginning_of.Goals as goal

pub loop-size-init : goal.loop-size-init
loop-size-init c = passed_none c.args.self.held c.width.result c.width-2.result c.width.ensures c.width-2.ensures

pub overflow_add-to : goal.overflow_add-to
overflow_add-to c =
    let l = c.loop-size in
    let size = size-at c.args.position c.args.self.sizes.now l.size-index c.from.result c.loop-size-test.true c.from.ensures in
    omega (arith, size.1, next_fits c.args.self.held l.invariant size.0)

pub slice_bounds-component_width-end : goal.slice_bounds-component_width-end
slice_bounds-component_width-end c =
    let l = c.loop-size in
    let size = size-at c.args.position c.args.self.sizes.now l.size-index c.from.result c.loop-size-test.true c.from.ensures in
    rw size.1 (next_fits c.args.self.held l.invariant size.0)

pub component_width-start-requires : goal.component_width-start-requires
component_width-start-requires c =
    let l = c.loop-size in
    let size = size-at c.args.position c.args.self.sizes.now l.size-index c.from.result c.loop-size-test.true c.from.ensures in
    rw size.1 (next-held c.args.self.held l.invariant size.0)

pub overflow_add-start-in-loop-size : goal.overflow_add-start-in-loop-size
overflow_add-start-in-loop-size c =
    let l = c.loop-size in
    let size = size-at c.args.position c.args.self.sizes.now l.size-index c.from.result c.loop-size-test.true c.from.ensures in
    let more = c.component_width-start in
    omega (arith, next-bound c.args.self.held l.invariant size.0 more.result (rw size.1 at more.ensures))

pub loop-size-preserved : goal.loop-size-preserved
loop-size-preserved c =
    let l = c.loop-size in
    let size = size-at c.args.position c.args.self.sizes.now l.size-index c.from.result c.loop-size-test.true c.from.ensures in
    let more = c.component_width-start in
    rw size.1 (passed-next c.args.self.held l.invariant size.0 more.result (rw size.1 at more.ensures))
