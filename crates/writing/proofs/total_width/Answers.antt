use Rattle.std.proofs.Common.{List, ℕ, length, refl, rules, length-append}
use Rattle.std.proofs.lemmas.List.Recursion.{is_sum_by}
use Rattle.patterns.specs.Written.{write_number, bytes}
use Rattle.writing.proofs.total_width.Goals as goal

pub returns : goal.returns
returns c =
    let widths = is_sum_by (λ (s : List ℕ). length (bytes s)) (λ x. length (write_number x)) refl (λ x s. length-append (write_number x) (bytes s)) c.args.s.now in
    rw widths (search rules)
