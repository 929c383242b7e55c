-- The written code with copies written once: document 02, paper 13. These definitions move to crate patterns with that paper; no promise cites them yet.
-- Here the form of document 01, with each copy written out, keeps its names `written` and `accepted`.
use Rattle.std.specs.Prelude.{cond, ◌&&◌, ◌||◌, List, [], ◌∷◌, ℕ, zero, suc, ◌-◌, ◌*◌, ◌/◌, ltb, eqb, length, drop}
use Rattle.lists.specs.Select.{gather, total}
use Rattle.patterns.specs.declared.Refusal.TheVariants.{Count, Truncated, Sizes, NotCanonical, Trailing}
use Rattle.patterns.specs.Component.{points}
use Rattle.patterns.specs.System.{System, weight}
use Rattle.patterns.specs.Written.{component_numbers, bytes, written}
use Rattle.patterns.specs.Reading.{Result, done, fault, and_then, mapped, cut, accepted}
use Rattle.patterns.specs.Entry.{Outcome, gives, outcome}
use Rattle.form_theory.specs.ReadComponent.{read_component}
use Rattle.group_theory.specs.Groups.{Group, copies_of, expand, groups, rising}

-- the number of copies, then the component
abbrev pub group_numbers : Group → List ℕ
group_numbers g = g.copies ∷ component_numbers g.component

-- "n, the number of groups, and for each group the number of copies, then one component" [document 02, paper 13]
unfoldable pub grouped_numbers : System → List ℕ
unfolding groups
grouped_numbers S = weight S ∷ length (groups S) ∷ gather group_numbers (groups S)

unfoldable pub grouped_code : System → List ℕ
unfolding grouped_numbers
grouped_code S = bytes (grouped_numbers S)

-- m groups, from the points left of n, and no points left after the last. Copies are held against the points left; k and the trees along the cycle against the
-- points left divided by the copies, rounded down: each point read takes as many from the points left as there are copies, and (left - q * x) / q is left / q - x.
unfoldable pub read_groups : ℕ → ℕ → List ℕ → Result (List Group)
unfolding read_component
read_groups zero left s = cond (eqb left 0) (done []) (fault Sizes)
read_groups (suc m) left [] = fault Truncated
read_groups (suc m) left (q ∷ s) =
    let more = and_then (read_component (left / q) s) (λ c. mapped (copies_of q c ∷◌) (read_groups m (left - q * points c) (drop (suc (points c)) s))) in
    cond (eqb q 0 || ltb left q) (fault Sizes) more

-- how many numbers the groups take: the copies, k, and one for each point
abbrev pub groups_length : List Group → ℕ
groups_length G = total (λ g. suc (suc (points g.component))) G

-- what is left to check of groups that have been read, with the numbers after them: 7, then 6
unfoldable pub finished_groups : List Group → List ℕ → Result (List Group)
unfolding rising
finished_groups G [] =
    let tested = rising [] G in
    cond tested (done G) (fault NotCanonical)
finished_groups G (x ∷ rest) = fault Trailing

-- the number m of groups and then the groups, for n points
unfoldable pub read_grouped_body : ℕ → List ℕ → Result (List Group)
unfolding read_groups finished_groups
read_grouped_body n [] = fault Truncated
read_grouped_body n (m ∷ s) =
    let more = and_then (read_groups m n s) (λ G. finished_groups G (drop (groups_length G) s)) in
    cond (ltb n m || (eqb m 0 && ltb 0 n)) (fault Sizes) more

unfoldable pub read_grouped : List ℕ → Result (List Group)
unfolding read_grouped_body
read_grouped [] = fault Truncated
read_grouped (n ∷ s) =
    let more = read_grouped_body n s in
    cond (ltb 200 n) (fault Count) more

-- A code is cut into numbers, the numbers are read as groups, and each copy is written out.
unfoldable pub grouped_accepted : List ℕ → Result System
unfolding cut read_grouped
grouped_accepted b = mapped expand (and_then (cut b) read_grouped)

-- The converters [document 02, paper 13: "a pair of converters, inverse to each other, each checking the form that it reads"].

-- from the form with each copy written out
unfoldable pub grouped_of : List ℕ → Outcome ℕ
unfolding accepted grouped_code
grouped_of b = outcome (accepted b) (λ S. gives (grouped_code S))

-- and back to it
unfoldable pub expanded_of : List ℕ → Outcome ℕ
unfolding grouped_accepted written
expanded_of b = outcome (grouped_accepted b) (λ S. gives (written S))
