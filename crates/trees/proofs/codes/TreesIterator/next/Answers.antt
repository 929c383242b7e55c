use Rattle.std.proofs.Common.{◌≡◌, ◌∷◌, ap, ap₂, sym, ◌∙◌, length, rules}
use Rattle.trees.specs.Codes.{codes}
use Rattle.trees.proofs.TreeCodes.{first-of, none-left}
use Rattle.trees.proofs.codes.TreesIterator.next.Goals as goal

pub split_at-requires : goal.split_at-requires
split_at-requires c =
    let i = c.in_ok-size.ensures.item in
    (first-of c.args.self.now.rest.now c.in_ok-size.field-0.now i.3.0 (i.3.1 0) c.args.self.now.whole).fits

pub invariant_of-self : goal.invariant_of-self
invariant_of-self c =
    let i = c.in_ok-size.ensures.item in
    let f = first-of c.args.self.now.rest.now c.in_ok-size.field-0.now i.3.0 (i.3.1 0) c.args.self.now.whole in
    record { whole = rw c.split_at.ensures.back f.behind }

pub returns-clause-steps : goal.returns-clause-steps
returns-clause-steps c =
    let i = c.in_ok-size.ensures.item in
    let f = first-of c.args.self.now.rest.now c.in_ok-size.field-0.now i.3.0 (i.3.1 0) c.args.self.now.whole in
    f.split ∙ sym (ap₂ (λ x y. x ∷ codes y) c.split_at.ensures.front c.split_at.ensures.back)

pub returns-clause-goes : goal.returns-clause-goes
returns-clause-goes c =
    let i = c.in_ok-size.ensures.item in
    let f = first-of c.args.self.now.rest.now c.in_ok-size.field-0.now i.3.0 (i.3.1 0) c.args.self.now.whole in
    let e : codes c.args.self.now.rest.now ≡ c.split_at.result.0.now ∷ codes c.split_at.result.1.now =
    f.split ∙ sym (ap₂ (λ x y. x ∷ codes y) c.split_at.ensures.front c.split_at.ensures.back) in
    let n = ap length e in
    search rules

pub returns-in_err-size-clause-steps : goal.returns-in_err-size-clause-steps
returns-in_err-size-clause-steps c =
    let n = none-left c.args.self.now.rest.now c.in_err-size.ensures.item.3 in
    rw c.from_residual.ensures (n, n)
