use lib.ListN.{take}
use Rattle.patterns.specs.System.{System}
use Rattle.memory.specs.Memory.{Holds}
use Rattle.paging.proofs.Paged.{Measured}
use Rattle.paging.proofs.length.page_length.Given as goal

abbrev pub invariant-loop : goal.invariant-loop
invariant-loop l = (S : System) → Holds S (take l.m l.initial.sizes) l.initial.trees → Measured S l.wanted l.sizes l.k l.trees l.bytes l.counter
