-- The order of systems by count and place in the list: it is that of size lists and components, and linear among canonical systems.
use mathlib.Core.Path.{◌≡◌, ap, sym, ◌∙◌}
use mathlib.Core.Logic.{◌⊎◌, inl, inr}
use mathlib.Core.List.{List, [], ◌∷◌}
use mathlib.Core.Bool.{true}
use Prim.Native.Nat.{Ordering}
use Prim.Native.Nat.{ℕ, compare, ◌≤◌}
use native.Mathlib.Omega.{arith}
use Rattle.lists.specs.Order.{then, lex}
use Rattle.lists.proofs.Tests.{◌∈◌, either}
use Rattle.lists.proofs.Comparison.{opposite, then-eq, then-is-eq, then-is-lt, compare_self, eq-of-compare, lt-of-compare, lt-not-eq, eq-not-gt}
use Rattle.lists.proofs.Lex.{lex-compare-lawful}
use Rattle.lists.proofs.Members.{lawful-decides, in_head, in_list, in-append-cases, in-cons-cases}
use Rattle.lists.proofs.Rising.{rising-head, rising-right, rising-between}
use Rattle.lists.proofs.RisingPlaces.{rising-places}
use Rattle.patterns.specs.System.{System, weight, canonical, compare_codes}
use Rattle.patterns.specs.Page.{later}
use Rattle.patterns.proofs.Trees.{compare_system-lawful}
use Rattle.system_theory.proofs.Codes.{codes-self, codes-turned, codes-rise, codes-complete}
use Rattle.system_theory.proofs.Successors.{list-cut}
use Rattle.order_theory.specs.ListOrder.{list_place, compare_listed}

-- the numbers that are compared
abbrev list_key : System → List ℕ
list_key S = weight S ∷ list_place S ∷ []

listed-key : (S R : System) → compare_listed S R ≡ lex compare (list_key S) (list_key R)
unfolding compare_listed
listed-key S R = ap (then (compare (weight S) (weight R))) (sym (then-eq (compare (list_place S) (list_place R))))

pub listed-self : (S : System) → compare_listed S S ≡ Ordering.eq
listed-self S = listed-key S S ∙ lex-compare-lawful.self (list_key S)

pub listed-turned : (S R : System) → compare_listed R S ≡ opposite (compare_listed S R)
listed-turned S R = listed-key R S ∙ lex-compare-lawful.turned (list_key S) (list_key R) ∙ ap opposite (sym (listed-key S R))

pub listed-chain : (S R T : System) → compare_listed S R ≡ Ordering.lt → compare_listed R T ≡ Ordering.lt → compare_listed S T ≡ Ordering.lt
listed-chain S R T h k =
    listed-key S T ∙ lex-compare-lawful.chain (list_key S) (list_key R) (list_key T) (sym (listed-key S R) ∙ h) (sym (listed-key R T) ∙ k)

-- For equal counts the places compare as size lists and then components do, which is found from the two codes alone.
pub listed-local : (S R : System) → canonical S ≡ true → canonical R ≡ true → weight R ≡ weight S → compare_listed S R ≡ compare_codes S R
unfolding compare_listed list_place
listed-local S R c d e =
    rw (e, compare_self (weight S))
    (rising-places (lawful-decides compare_system-lawful) codes-self codes-turned (codes-rise (weight S)) (codes-complete S c) (rw e at (codes-complete R d)))

-- a code of as many points comes before S, is S, or comes after it
pub listed-cases : (S R : System) → canonical S ≡ true → canonical R ≡ true → weight R ≡ weight S
    → (compare_codes R S ≡ Ordering.lt) ⊎ ((R ≡ S) ⊎ (R ∈ later S))
listed-cases S R c d e =
    let cut = list-cut S c in
    let rise = rw cut.1 at (codes-rise (weight S)) in
    either (in-append-cases cut.0 (in_list cut.1 (rw e at (codes-complete R d))))
    (λ m. inl (rising-between cut.0 rise m in_head))
    (λ m. inr (in-cons-cases m))

-- what comes after S is greater
pub later-greater : (S R : System) → canonical S ≡ true → R ∈ later S → compare_codes S R ≡ Ordering.lt
later-greater S R c m =
    let cut = list-cut S c in
    rising-head (rising-right cut.0 (S ∷ later S) (rw cut.1 at (codes-rise (weight S)))) m

-- systems that compare as equal have as many points
listed-weights : (S R : System) → compare_listed S R ≡ Ordering.eq → weight R ≡ weight S
unfolding compare_listed
listed-weights S R h = sym (eq-of-compare (weight S) (weight R) (then-is-eq (compare (weight S) (weight R)) (compare (list_place S) (list_place R)) h).0)

-- canonical systems that compare as equal are equal
pub listed-equal : (S R : System) → canonical S ≡ true → canonical R ≡ true → compare_listed S R ≡ Ordering.eq → S ≡ R
listed-equal S R c d h =
    let w = listed-weights S R h in
    let same : compare_codes S R ≡ Ordering.eq = sym (listed-local S R c d w) ∙ h in
    either (listed-cases S R c d w)
    (λ l. eq-not-gt same (codes-turned R S ∙ ap opposite l))
    (λ k. either k sym (λ m. lt-not-eq (later-greater S R c m) same))

-- what comes first has no more points
pub listed-lighter : (S R : System) → compare_listed S R ≡ Ordering.lt → weight S ≤ weight R
unfolding compare_listed
listed-lighter S R h =
    either (then-is-lt (compare (weight S) (weight R)) (compare (list_place S) (list_place R)) h)
    (λ l. omega (arith, lt-of-compare (weight S) (weight R) l))
    (λ k. omega (arith, eq-of-compare (weight S) (weight R) k.0))
