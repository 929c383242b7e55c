use mathlib.Core.Path.{◌≡◌, sym, ◌∙◌}
use mathlib.Core.Bool.{true}
use native.Mathlib.Omega.{arith}
use Rattle.lists.specs.Select.{each}
use Rattle.patterns.specs.Digraph6.{in_format}
use Rattle.digraph6_reading.proofs.SizeForms.{digits_of, sized-short, digits-length, sized-form, sized-read}
use Rattle.digraph6_reading.proofs.sizes.sized.Goals as goal

-- the digits are bytes of the format
pub returns-then-s-end : goal.returns-then-s-end
returns-then-s-end c = sized-short c.args.s.now c.args.j c.args.k c.requires.1 (omega arith)

pub returns-then-not-in_format : goal.returns-then-not-in_format
returns-then-not-in_format c =
    sized-form c.args.s.now c.args.j c.args.k (omega arith) (sym c.in_format.ensures ∙ c.if-not-in_format.true)

pub value-points-requires : goal.value-points-requires
value-points-requires c =
    let digits-pass : let a = c.args in each in_format (digits_of a.j a.k a.s.now) ≡ true = sym c.in_format.ensures ∙ c.if-not-in_format.false in
    (digits-pass, omega (arith, digits-length c.args.s.now c.args.j c.args.k (omega arith), c.requires.2))

pub returns : goal.returns
returns c =
    let digits-pass : let a = c.args in each in_format (digits_of a.j a.k a.s.now) ≡ true = sym c.in_format.ensures ∙ c.if-not-in_format.false in
    sized-read c.args.s.now c.args.j c.args.k (omega arith) digits-pass c.value-points.ensures
