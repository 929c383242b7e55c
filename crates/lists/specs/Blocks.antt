-- What the functions of this crate mean: the answer of a comparison, and two neighbouring blocks exchanged.
use Rattle.std.specs.Prelude.{List, ◌++◌, reverse, take, drop}
use Prim.Native.Nat.{ℕ, Ordering}
use Rattle.std.proofs.Math.Seq.{slice}
use Rattle.std.specs.declared.cmp.Ordering as cmp
use Rattle.std.specs.declared.cmp.Ordering.TheVariants.{Less, Equal, Greater}

-- each answer's meaning
abbrev pub ordering_of : cmp.Ordering → Ordering
ordering_of Less = Ordering.lt
ordering_of Equal = Ordering.eq
ordering_of Greater = Ordering.gt

-- the block from b to e, then the block from a to b; all else as it was
abbrev pub exchanged : {A : Type 0} → ℕ → ℕ → ℕ → List A → List A
exchanged a b e l = take a l ++ (slice b e l ++ (slice a b l ++ drop e l))

-- the entries from a up to b in reverse order
abbrev pub reversed_between : {A : Type 0} → ℕ → ℕ → List A → List A
reversed_between a b l = take a l ++ (reverse (slice a b l) ++ drop b l)
