use mathlib.Core.Path.{◌≡◌, sym, ◌∙◌}
use mathlib.Core.List.{List}
use Prim.Native.Nat.{ℕ}
use native.Mathlib.Omega.{arith}
use lib.ListN.{length, get_or, drop}
use Rattle.bumping.proofs.Advancing.{front_fits, front_length, ahead-some, ahead-fits, ahead-sum, ahead-length, ahead-up, ahead-side, ahead-out, ahead-node}
use Rattle.bumping.proofs.Advancing.{advance-none, advance-some}
use Rattle.bumping.proofs.advance.Goals as goal

pub bounds-sizes-0 : goal.bounds-sizes-0
bounds-sizes-0 c = ahead-some c.requires.holds

pub slice_bounds-successor-end : goal.slice_bounds-successor-end
slice_bounds-successor-end c = ahead-fits c.requires.holds

pub slice_bounds-successor-end-2 : goal.slice_bounds-successor-end-2
slice_bounds-successor-end-2 c = sym (ahead-length c.requires)

pub slice_bounds-successor-end-3 : goal.slice_bounds-successor-end-3
slice_bounds-successor-end-3 c = let w = c.requires in omega (arith, ahead-fits w.holds, w.work.up_room)

pub slice_bounds-successor-end-4 : goal.slice_bounds-successor-end-4
slice_bounds-successor-end-4 c = sym (ahead-up c.requires)

pub slice_bounds-successor-end-5 : goal.slice_bounds-successor-end-5
slice_bounds-successor-end-5 c = let w = c.requires in omega (arith, ahead-fits w.holds, w.work.side_room)

pub slice_bounds-successor-end-6 : goal.slice_bounds-successor-end-6
slice_bounds-successor-end-6 c = sym (ahead-side c.requires)

pub slice_bounds-successor-end-7 : goal.slice_bounds-successor-end-7
slice_bounds-successor-end-7 c = let w = c.requires in omega (arith, ahead-fits w.holds, w.work.out_room)

pub slice_bounds-successor-end-8 : goal.slice_bounds-successor-end-8
slice_bounds-successor-end-8 c = sym (ahead-out c.requires)

pub successor-requires : goal.successor-requires
successor-requires c =
    let w = c.requires in
    let n = sym (ahead-length w) in
    (ahead-node w, ahead-out w ∙ n, ahead-up w ∙ n, ahead-side w ∙ n)

pub returns-then-not-successor : goal.returns-then-not-successor
returns-then-not-successor c = advance-none c.requires c.successor.result _ c.successor.ensures c.if-not-successor.true

pub slice_bounds-fill_right-end : goal.slice_bounds-fill_right-end
slice_bounds-fill_right-end c =
    let size : ℕ = get_or c.args.sizes.now 0 0 in
    let found : List ℕ = c.successor.new.out in
    let behind : List ℕ = drop (size) c.args.out.now in
    let whole : length (found) ≡ size = c.successor.auto.out ∙ ahead-out c.requires in
    front_fits size found behind whole

pub slice_bounds-fill_right-end-2 : goal.slice_bounds-fill_right-end-2
slice_bounds-fill_right-end-2 c =
    let size : ℕ = get_or c.args.sizes.now 0 0 in
    let found : List ℕ = c.successor.new.out in
    let behind : List ℕ = drop (size) c.args.out.now in
    let whole : length (found) ≡ size = c.successor.auto.out ∙ ahead-out c.requires in
    front_length size found behind whole

pub fill_right-requires : goal.fill_right-requires
fill_right-requires c = ahead-sum c.requires.holds

pub returns : goal.returns
returns c =
    advance-some c.requires c.successor.result _ c.successor.ensures c.if-not-successor.false _ _ c.fill_right.ensures
