use native.Mathlib.Omega.{arith}
use Rattle.multiples.proofs.LcmSteps.{climbing-start, climbing-room, climbing-next, climbing-end}
use Rattle.multiples.proofs.lcm.Goals as goal

pub loop-multiple-init : goal.loop-multiple-init
loop-multiple-init c = climbing-start c.requires

pub overflow_add-multiple : goal.overflow_add-multiple
overflow_add-multiple c = omega (arith, climbing-room c.requires c.loop-multiple.invariant c.loop-multiple-test.true, c.requires.fits)

pub loop-multiple-smaller : goal.loop-multiple-smaller
loop-multiple-smaller c = omega (arith, climbing-room c.requires c.loop-multiple.invariant c.loop-multiple-test.true, c.requires.first)

pub loop-multiple-preserved : goal.loop-multiple-preserved
loop-multiple-preserved c = climbing-next c.requires c.loop-multiple.invariant c.loop-multiple-test.true

pub returns : goal.returns
returns c = climbing-end c.requires c.loop-multiple.invariant c.loop-multiple-test.false
