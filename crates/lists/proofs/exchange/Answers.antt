use mathlib.Core.Path.{◌≡◌, ap, ◌∙◌}
use Prim.Native.Nat.{suc}
use native.Mathlib.Omega.{arith}
use Rattle.lists.specs.Blocks.{exchanged, reversed_between}
use Rattle.lists.proofs.Blocks.{three-reversals, exchanged-nothing}
use Rattle.lists.proofs.exchange.Goals as goal

pub returns-then-a-b : goal.returns-then-a-b
returns-then-a-b c =
    let a = c.args in
    exchanged-nothing a.s.now a.a a.b a.e (omega arith) (omega arith) (omega arith)

pub returns-then-e-b-eq1 : goal.returns-then-e-b-eq1
returns-then-e-b-eq1 c =
    let a = c.args in
    let e : suc a.b ≡ a.e = omega arith in
    c.shift.ensures ∙ ap (λ k. exchanged a.a a.b k a.s.now) e

pub returns : goal.returns
returns c =
    let a = c.args in
    c.reverse-3.ensures
    ∙ ap (reversed_between a.a a.e) (c.reverse-2.ensures ∙ ap (reversed_between a.b a.e) c.reverse.ensures)
    ∙ three-reversals a.s.now a.a a.b a.e (omega arith) (omega arith) (omega arith)
