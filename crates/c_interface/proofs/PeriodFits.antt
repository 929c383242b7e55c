-- The period of a map of at most 120 points fits: it is at most 5,354,228,880.
use mathlib.Core.Path.{refl}
use mathlib.Core.List.{List}
use Prim.Native.Nat.{ℕ}
use native.Mathlib.Omega.{arith}
use lib.ListN.{length}
use Rattle.patterns.specs.declared.Refusal.TheVariants.{Count, Image, TooManyPoints}
use Rattle.patterns.specs.Table.{image}
use Rattle.patterns.specs.Replies.{length_is}
use Rattle.patterns.specs.Entry.{answer}
use Rattle.patterns.specs.Period.{period_of}
use Rattle.tables.proofs.SmallTables.{small_cases}
use Rattle.map_theory.proofs.Isomorphisms.{table_below}
use Rattle.period_theory.proofs.LandauBound.{period-below}
use Rattle.c_interface.proofs.Fitting.{Fits, refused-fits}

pub period-fits : (f : List ℕ) → Fits (answer (period_of f) length_is)
unfolding period_of
period-fits f =
    small_cases f
    (λ h e. rw e (refused-fits Count))
    (λ h k e. rw e (refused-fits TooManyPoints))
    (λ h t e. rw e (refused-fits Image))
    (λ h t e. rw e (record { sfits = omega (arith, period-below (length f) (image f) (table_below (length f) f refl t) h) }))
