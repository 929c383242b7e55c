-- Codes that some call wrote, and the tables that "code of a map" gives a code for.
use mathlib.Core.Path.{◌≡◌, ap, sym, ◌∙◌}
use mathlib.Core.List.{List}
use Prim.Native.Nat.{ℕ}
use lib.Dec.{ltb}
use lib.ListN.{length, take}
use borrow.Author.Tests.{ltb-false}
use Rattle.lists.proofs.Tests.{by-test, clash}
use Rattle.patterns.specs.declared.Refusal.TheVariants.{Count, Image}
use Rattle.patterns.specs.System.{System}
use Rattle.patterns.specs.Written.{written}
use Rattle.patterns.specs.Reading.{done, accepted}
use Rattle.patterns.specs.Table.{is_table, system_of_table}
use Rattle.patterns.specs.Replies.{length_is}
use Rattle.patterns.specs.Entry.{Outcome, gives, fails, Replied, checked_table, code_of_map}
use Rattle.patterns.proofs.Outcomes.{result-written}
use Rattle.tables.specs.Tables.{Table}
use Rattle.arithmetic_theory.proofs.CodeLaws.{table-accepted}

-- some call that found o wrote c: a code, a map or a line
pub record Wrote (o : Outcome ℕ) (c : List ℕ) : Type 0 where
  pub before : List ℕ
  pub after : List ℕ
  pub bytes : ℕ
  pub replied : Replied o before (length_is bytes) after
  pub code_is : take bytes after ≡ c

pub wrote-gives : (o : Outcome ℕ) {c : List ℕ} → Wrote o c → o ≡ gives c
wrote-gives o w = let r = result-written o w.replied in r.1 ∙ ap gives (sym r.3 ∙ w.code_is)

-- the code of a map is given only for a table of at most 200 points,
pub map-given : (f a : List ℕ) → code_of_map f ≡ gives a → Table f × (a ≡ written (system_of_table f))
unfolding code_of_map checked_table
map-given f a e =
    by-test (ltb 200 (length f))
    (λ t. let z : fails Count ≡ gives a = sym (rw t) ∙ e in clash cc)
    (λ t.
    by-test (is_table f)
    (λ u.
    let z : gives (written (system_of_table f)) ≡ gives a = sym (rw (t, u)) ∙ e in
    let y : a ≡ written (system_of_table f) = cc in
    (record { table = u; small = ltb-false 200 (length f) t }, y))
    (λ u. let z : fails Image ≡ gives a = sym (rw (t, u)) ∙ e in clash cc))

-- and read back it is that of the map
pub given-system : (f b : List ℕ) (S : System) → code_of_map f ≡ gives b → accepted b ≡ done S → S ≡ system_of_table f
given-system f b S e a =
    let t = map-given f b e in
    let z : done S ≡ done (system_of_table f) = sym a ∙ ap accepted t.1 ∙ table-accepted f t.0.table t.0.small in
    cc
