-- The text that a state stands for.
use Rattle.std.specs.Prelude.{List, [], ℕ, take}
use Rattle.lists.specs.Select.{from}
use Rattle.patterns.specs.System.{System, weight, codes, compare_system}
use Rattle.patterns.specs.Reading.{Result, done, fault, accepted}
use Rattle.patterns.specs.ListingText.{bad_count, listing_text, lines_after}
use Rattle.lister.specs.declared.Phase.{Phase}
use Rattle.lister.specs.declared.Phase.TheVariants.{Bad, Header, Line, Total, Done}
use Rattle.lister.specs.declared.State.{State}

abbrev onward : Result System → List System
onward (done S) = from compare_system S (codes (weight S))
onward (fault c) = []

-- the codes from the written code b on
unfoldable pub codes_from : List ℕ → List System
codes_from b = onward (accepted b)

-- what is still to come in a phase, where b is the code that the state holds
abbrev pub text_at : Phase → List ℕ → List ℕ
text_at Bad b = bad_count
text_at (Header n) b = listing_text n
text_at (Line p) b = lines_after p (codes_from b)
text_at (Total p) b = lines_after p []
text_at Done b = []

abbrev pub remaining : State → List ℕ
remaining s = text_at s.phase (take s.len s.code)
