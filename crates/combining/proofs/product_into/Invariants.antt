use Rattle.combining.proofs.Pairing.{Pairing}
use Rattle.combining.proofs.product_into.Given as goal

abbrev pub invariant-loop-i : goal.invariant-loop-i
invariant-loop-i l = Pairing l.f l.g l.initial.out l.out l.i
