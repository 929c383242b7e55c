use Rattle.digraph6_writing.proofs.Arcs.{Writing}
use Rattle.digraph6_writing.proofs.write_body.Given as goal

abbrev pub invariant-loop-i : goal.invariant-loop-i
invariant-loop-i l = Writing l.f l.body l.i
