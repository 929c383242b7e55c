-- Which of two codes comes first [document 02, paper 11]. These definitions move to crate patterns with that paper; no promise cites them yet.
use Rattle.std.specs.Prelude.{◌≡◌, List}
use Prim.Native.Nat.{ℕ, Ordering, compare}
use Rattle.lists.specs.Order.{then}
use Rattle.lists.specs.Select.{place}
use Rattle.patterns.specs.System.{System, weight, codes, compare_system}
use Rattle.patterns.specs.Reading.{Result, and_then, mapped, accepted}
use Rattle.patterns.specs.Entry.{gives, successor_of}

-- the place in the list of all codes of as many points
unfoldable pub list_place : System → ℕ
unfolding codes compare_system
list_place S = place compare_system S (codes (weight S))

-- "Codes of different counts go by count", those of equal counts by their place in the list
unfoldable pub compare_listed : System → System → Ordering
unfolding list_place
compare_listed S R =
    let places = compare (list_place S) (list_place R) in
    then (compare (weight S) (weight R)) places

-- Entry "which comes first": "checks run over the first code, then the second"
unfoldable pub compare_of : List ℕ → List ℕ → Result Ordering
unfolding accepted compare_listed
compare_of a b = and_then (accepted a) (λ S. mapped (compare_listed S) (accepted b))

-- "one or more successor calls lead from the first to the second"
pub data Leads : List ℕ → List ℕ → Type 0 where
  one_call : {a b : List ℕ} → successor_of a ≡ gives b → Leads a b
  more_calls : {a b d : List ℕ} → successor_of a ≡ gives b → Leads b d → Leads a d
