use lib.ListN.{take}
use Rattle.patterns.specs.System.{System}
use Rattle.memory.specs.Memory.{Holds}
use Rattle.paging.proofs.Paged.{Writing}
use Rattle.paging.proofs.bytes.write_page.Given as goal

abbrev pub invariant-loop-i : goal.invariant-loop-i
invariant-loop-i l = (S : System) → Holds S (take l.m l.initial.sizes) l.initial.trees → Writing S l.wanted l.initial.out l.sizes l.k l.trees l.out l.at l.i
