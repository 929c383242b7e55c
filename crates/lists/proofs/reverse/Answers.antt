use mathlib.Core.Path.{◌≡◌, ap, sym, ◌∙◌}
use Prim.Native.Nat.{◌+◌, ◌-◌}
use native.Mathlib.Omega.{arith}
use lib.ListN.{take, drop}
use mathlib.Core.List.{reverse, ◌++◌}
use lib.Seq.{slice, drop-drop}
use Rattle.std.proofs.lemmas.List.{drop-take}
use Rattle.lists.proofs.reverse.Goals as goal

pub returns : goal.returns
returns c =
    let a = c.args in
    let e : a.a + (a.b - a.a) ≡ a.b = omega arith in
    let m = drop-take a.a (a.b - a.a) a.s.now in
    rw (c.reverse.ensures.after, sym m, e) (ap (λ r. take a.a a.s.now ++ (reverse (slice a.a a.b a.s.now) ++ r)) (drop-drop (a.b - a.a) a.a a.s.now ∙ ap (λ k. drop k a.s.now) e))
