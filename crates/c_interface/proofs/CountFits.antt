-- The number of tables with a code fits: it is at most 15!.
use mathlib.Core.Path.{◌≡◌, refl}
use mathlib.Core.Bool.{true}
use mathlib.Core.List.{List}
use Prim.Native.Nat.{ℕ}
use native.Mathlib.Omega.{arith}
use lib.Dec.{ltb}
use borrow.Author.Tests.{ltb-false}
use Rattle.lists.proofs.Tests.{by-test}
use Rattle.patterns.specs.declared.Refusal.TheVariants.{Uncounted}
use Rattle.patterns.specs.System.{System, weight, canonical}
use Rattle.patterns.specs.Reading.{Result, done, fault, and_then, accepted}
use Rattle.patterns.specs.Replies.{length_is}
use Rattle.patterns.specs.Entry.{answer}
use Rattle.patterns.specs.TableCount.{tables_counted, table_count}
use Rattle.form_theory.proofs.WrittenBack.{accepted-canonical}
use Rattle.counting_theory.proofs.SmallSymmetries.{small-tables}
use Rattle.c_interface.proofs.Fitting.{Fits, refused-fits}

system-fits : (S : System) → canonical S ≡ true → Fits (answer (tables_counted S) length_is)
unfolding tables_counted
system-fits S e =
    by-test (ltb 15 (weight S))
    (λ t. rw t (refused-fits Uncounted))
    (λ t. rw t (record { sfits = omega (arith, small-tables S e (ltb-false 15 (weight S) t)) }))

pub count_fits : (b : List ℕ) → Fits (answer (table_count b) length_is)
unfolding table_count
count_fits b = of (accepted b) (λ S e. (accepted-canonical b S e).0)
  where
    of : (o : Result System) → ((S : System) → o ≡ done S → canonical S ≡ true) → Fits (answer (and_then o tables_counted) length_is)
    of (done S) h = system-fits S (h S refl)
    of (fault c) h = refused-fits c
