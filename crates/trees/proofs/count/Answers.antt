use Rattle.std.proofs.lemmas.Iterator.Consumers.{count_from_yields_List, YieldsList-from_first}
use Rattle.std.proofs.Common.{◌≡◌, ◌-◌, refl, inl, length, ap, arith, take, drop}
use Rattle.trees.specs.Codes.{codes}
use Rattle.trees.proofs.FirstPoints.{leading-within, behind-points, count-behind, count-within}
use Rattle.trees.proofs.count.Goals as goal

pub slice_bounds-new-count : goal.slice_bounds-new-count
slice_bounds-new-count c =
    let h = c.requires in
    leading-within c.args.s.now h.trees c.leading-points.result h.is (c.leading-points.ensures h.trees h.is)

pub slice_bounds-new-start : goal.slice_bounds-new-start
slice_bounds-new-start c =
    let h = c.requires in
    leading-within c.args.s.now h.trees c.leading-points.result h.is (c.leading-points.ensures h.trees h.is)

pub new-requires : goal.new-requires
new-requires c =
    let h = c.requires in
    let k = c.leading-points.result in
    record { trees = drop k h.trees; is = behind-points c.args.s.now h.trees k h.is (c.leading-points.ensures h.trees h.is) }

pub count-requires-clause-fits : goal.count-requires-clause-fits
count-requires-clause-fits c =
    let h = c.requires in
    let q = count-behind c.args.s.now h.trees c.leading-points.result h.is (c.leading-points.ensures h.trees h.is) in
    let n = count-within c.args.s.now h.trees c.leading-points.result h.is (c.leading-points.ensures h.trees h.is) in
    let e = ap (λ x. length (codes x)) c.new.ensures in
    inl (omega arith)

pub overflow_add-result : goal.overflow_add-result
overflow_add-result c =
    let h = c.requires in
    let q = count-behind c.args.s.now h.trees c.leading-points.result h.is (c.leading-points.ensures h.trees h.is) in
    let n = count-within c.args.s.now h.trees c.leading-points.result h.is (c.leading-points.ensures h.trees h.is) in
    let r : c.count.result ≡ length (codes c.new.result.rest.now) = count_from_yields_List c.new.result c.count.result c.count.ensures.ran (YieldsList-from_first (λ x. x.now) (λ s. codes s.rest.now) (codes c.new.result.rest.now) refl) in
    let e = ap (λ x. length (codes x)) c.new.ensures in
    omega arith

pub returns : goal.returns
returns c =
    λ d e.
    let r : c.count.result ≡ length (codes c.new.result.rest.now) = count_from_yields_List c.new.result c.count.result c.count.ensures.ran (YieldsList-from_first (λ x. x.now) (λ s. codes s.rest.now) (codes c.new.result.rest.now) refl) in
    let q = count-behind c.args.s.now d c.leading-points.result e (c.leading-points.ensures d e) in
    let f = ap (λ x. length (codes x)) c.new.ensures in
    omega arith

pub returns-then-points-s : goal.returns-then-points-s
unfolding codes
returns-then-points-s c =
    λ d e.
    let s = c.args.s.now in
    let k = c.leading-points.result in
    let q = count-behind s d k e (c.leading-points.ensures d e) in
    let z : length s - k ≡ 0 = omega arith in
    let n : length (codes (take (length s - k) (drop k s))) ≡ 0 = ap (λ m. length (codes (take m (drop k s)))) z in
    omega arith
