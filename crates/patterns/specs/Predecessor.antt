-- Entry "one back": document 02, paper 3.
use Rattle.std.specs.Prelude.{List, ℕ}
use Rattle.std.proofs.Math.Option.{Option, none, some}
use Rattle.lists.specs.Select.{previous}
use Rattle.patterns.specs.System.{System, weight, codes, compare_system}
use Rattle.patterns.specs.Written.{written}
use Rattle.patterns.specs.Reading.{accepted}
use Rattle.patterns.specs.Entry.{Outcome, gives, begins, outcome}

-- "the predecessor, or "first" for the first code of its count": a code of the list to write, or the beginning of the list
abbrev pub foregoing : Option System → Outcome ℕ
foregoing (some S) = gives (written S)
foregoing none = begins

-- the code that stands before in the list of all codes of as many points
unfoldable pub predecessor_of : List ℕ → Outcome ℕ
unfolding accepted codes compare_system written
predecessor_of b = outcome (accepted b) (λ S. foregoing (previous compare_system S (codes (weight S))))
