use mathlib.Core.Path.{sym, ◌∙◌}
use Rattle.digraph6_reading.proofs.SizeForms.{one-byte-form, four-byte-form, eight-byte-form}
use Rattle.digraph6_reading.proofs.sizes.read_size.Goals as goal

pub returns-then-byte_at-ne126 : goal.returns-then-byte_at-ne126
returns-then-byte_at-ne126 c = c.sized.ensures ∙ one-byte-form c.args.s.now (λ e. c.if-byte_at-ne126.true (c.byte_at.ensures ∙ e))

pub returns-then-byte_at-ne126-2 : goal.returns-then-byte_at-ne126-2
returns-then-byte_at-ne126-2 c =
    c.sized-then-byte_at-ne126-2.ensures
    ∙ four-byte-form c.args.s.now (sym c.byte_at.ensures ∙ c.if-byte_at-ne126.false) (λ e. c.if-byte_at-ne126-2.true (c.byte_at-2.ensures ∙ e))

pub returns : goal.returns
returns c =
    c.sized-2.ensures
    ∙ eight-byte-form c.args.s.now (sym c.byte_at.ensures ∙ c.if-byte_at-ne126.false) (sym c.byte_at-2.ensures ∙ c.if-byte_at-ne126-2.false)
