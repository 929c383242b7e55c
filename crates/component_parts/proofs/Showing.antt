-- What a reply of the component reader says of the code, and of the part of the code that it shows.
use denote.Ref.{Bor}
use Rattle.std.specs.Prelude.{Result as Reply, Ok}
use mathlib.Core.Path.{◌≡◌, refl, ap, sym, ◌∙◌}
use mathlib.Core.List.{List}
use Prim.Native.Nat.{ℕ, ◌≤◌, ◌<◌}
use lib.ListN.{length, get_or}
use Rattle.lists.proofs.Tests.{clash}
use Rattle.patterns.specs.declared.Refusal.{Refusal}
use Rattle.patterns.specs.declared.reply.Stretch.{Stretch}
use Rattle.patterns.specs.System.{System}
use Rattle.patterns.specs.Reading.{Result, done, fault, accepted}
use Rattle.patterns.specs.Replies.{number_of, PartAnswer, part_refused, part_answer}
use Rattle.patterns.specs.Entry.{Part, component_of, component_in, part_answered}
use Rattle.form_theory.proofs.Bounds.{below_at}
use Rattle.form_theory.proofs.ComponentStands.{stands, stands-within, answer-part}

-- the code's own fault comes first
pub code-fault : (b : List ℕ) (i : ℕ) (c : Refusal) → accepted b ≡ fault c → part_refused (number_of c) ≡ part_answered (component_of b i)
unfolding component_of
code-fault b i c e = rw e

-- a code that is accepted as S
pub code_holds : (b : List ℕ) (i : ℕ) (S : System) → accepted b ≡ done S → (a : PartAnswer) → a ≡ part_answered (component_in S i) → a ≡ part_answered (component_of b i)
unfolding component_of
code_holds b i S e a p = rw e p

pub answer-refused : (o : Result Part) (n : ℕ) → part_refused n ≡ part_answered o → (c : Refusal) × (o ≡ fault c)
answer-refused (done part) n e = clash cc
answer-refused (fault c) n e = (c, refl)

-- From the reply to what is shown.
module _ (code : Bor (List ℕ)) (i : ℕ) {r : Reply Stretch Refusal} (a : part_answer r ≡ part_answered (component_of code.now i)) where
  module _ (shows : Stretch) (e : r ≡ Ok shows) where
    found : component_of code.now i ≡ done (record { start = shows.start; end = shows.end; turns = shows.turns })
    found = answer-part (component_of code.now i) shows.start shows.end shows.turns (sym (ap part_answer e) ∙ a)

    pub part-within : ((j : ℕ) → j < length code.now → get_or code.now j 0 < 256) → (shows.start < shows.end) × (shows.end ≤ length code.now)
    part-within h = stands-within (below_at 256 code.now h) (stands code.now i _ found)
