-- Entry "the system that runs longest", computed: codes that have the greatest period and codes that do not, and the order of the checks.
use Rattle.std.specs.Prelude.{Ok, Err}
use mathlib.Core.Path.{◌≡◌, refl, sym}
use mathlib.Core.Bool.{true≢false}
use mathlib.Core.List.{List, [], ◌∷◌, ◌++◌, map}
use Prim.Native.Nat.{ℕ, ◌<◌}
use native.Mathlib.Omega.{arith}
use lib.Dec.{ltb}
use lib.IntN.{pos, neg_ℤ}
use lib.ListN.{replicate}
use borrow.Author.Tests.{ltb-true}
use Rattle.lists.specs.Select.{range}
use Rattle.lists.proofs.Tests.{clash, each_member}
use Rattle.lists.proofs.Members.{in-range}
use Rattle.patterns.specs.declared.Refusal.TheVariants.{Count, Room, TooManyPoints}
use Rattle.patterns.specs.Census.{greatest}
use Rattle.patterns.specs.Generation.{cycle}
use Rattle.patterns.specs.System.{System, canonical}
use Rattle.patterns.specs.Written.{written}
use Rattle.patterns.specs.Table.{image}
use Rattle.patterns.specs.MapOf.{map_of}
use Rattle.patterns.specs.Reading.{done, fault}
use Rattle.patterns.specs.Replies.{greatest_is, greatest_refused, greatest_answer}
use Rattle.patterns.specs.Isomorphism.{tables}
use Rattle.patterns.specs.Period.{period}
use Rattle.patterns.specs.GreatestPeriod.{GreatestPeriod, checked_request, GreatestReplied, request_refused, found}
use Rattle.patterns.specs.SignedReplies.{GreatestReported}

-- cycles of these lengths, one after another
abbrev cycles : List ℕ → System
cycles lengths = map cycle lengths

-- document 02, paper 9: codes of 5, 7 and 0 points with the periods 6, 12 and 1
pub periods-reached :
    (period 5 (image (map_of (cycles (2 ∷ 3 ∷ [])))) ≡ 6)
    × (period 7 (image (map_of (cycles (3 ∷ 4 ∷ [])))) ≡ 12)
    × (period 0 (image (map_of (cycles []))) ≡ 1)
unfolding period map_of
periods-reached = (refl, refl, refl)

-- the greatest periods of up to 3 points, by all tables: none exceeds 1, 1, 2, 3, and each number is reached
pub small-greatest : map (λ n. greatest (map (λ f. period n (image f)) (tables n n))) (0 ∷ 1 ∷ 2 ∷ 3 ∷ []) ≡ 1 ∷ 1 ∷ 2 ∷ 3 ∷ []
unfolding period
small-greatest = refl

-- no points have one map, whose period is 1
pub none-greatest : GreatestPeriod 0 [] 1
unfolding period canonical map_of
none-greatest = record { valid = refl; points_are = refl; reached = refl; greatest = λ f inside. omega arith }

-- What no answer can be: a cycle of all 5 points, since cycles of 2 and 3 wait longer;
pub five-not-greatest : {p : ℕ} → GreatestPeriod 5 (cycles (5 ∷ [])) p → ⊥
unfolding period map_of
five-not-greatest g =
    let map = image (1 ∷ 0 ∷ 3 ∷ 4 ∷ 2 ∷ []) in
    let inside : (x : ℕ) → x < 5 → map x < 5 =
    λ x h. ltb-true (map x) 5 (each_member (λ x. ltb (map x) 5) {l = range 0 5} refl (in-range 0 5 {x = x} (omega arith) (omega arith))) in
    omega (arith, g.greatest map inside, g.reached)

-- these cycles with another number; one point too few; and the components out of order.
pub six-not-five : GreatestPeriod 5 (cycles (2 ∷ 3 ∷ [])) 5 → ⊥
unfolding period map_of
six-not-five g = let z : ◌≡◌ {A = ℕ} 6 5 = g.reached in omega arith

pub fixed-point-missing : {p : ℕ} → GreatestPeriod 6 (cycles (2 ∷ 3 ∷ [])) p → ⊥
fixed-point-missing g = let z : ◌≡◌ {A = ℕ} 5 6 = g.points_are in omega arith

pub out_of_order : {p : ℕ} → GreatestPeriod 5 (cycles (3 ∷ 2 ∷ [])) p → ⊥
unfolding canonical
out_of_order g = true≢false (sym g.valid)

-- a code of 5 points fills the first 9 of 1,000 places
pub five-replied : GreatestPeriod 5 (cycles (2 ∷ 3 ∷ [])) 6
    → GreatestReplied 5 (replicate 1000 7) (greatest_is 9 6) ((5 ∷ 2 ∷ 2 ∷ 1 ∷ 1 ∷ 3 ∷ 1 ∷ 1 ∷ 1 ∷ []) ++ replicate 991 7)
unfolding checked_request written
five-replied g = found refl g

-- The checks in their order: 1 and 13 whatever the buffer, 8 for 999 bytes even of no points, where a code has 2 bytes.
pub requests-checked :
    map (λ n. checked_request n []) (201 ∷ 200 ∷ 121 ∷ 120 ∷ 0 ∷ []) ≡ fault Count ∷ fault TooManyPoints ∷ fault TooManyPoints ∷ fault Room ∷ fault Room ∷ []
unfolding checked_request
requests-checked = refl

pub roomy-requests : map (λ n. checked_request n (replicate 1000 7)) (201 ∷ 121 ∷ 120 ∷ 0 ∷ []) ≡ fault Count ∷ fault TooManyPoints ∷ done 120 ∷ done 0 ∷ []
unfolding checked_request
roomy-requests = refl

pub nearly-roomy : map (λ n. checked_request n (replicate 999 7)) (201 ∷ 121 ∷ 120 ∷ 0 ∷ []) ≡ fault Count ∷ fault TooManyPoints ∷ fault Room ∷ fault Room ∷ []
unfolding checked_request
nearly-roomy = refl

-- a refusal keeps the output, and where there is one nothing is written
pub refusal-keeps : {c : ℕ} {after : List ℕ} → GreatestReplied 121 (7 ∷ []) (greatest_refused c) after → after ≡ 7 ∷ []
refusal-keeps (request_refused e) = refl

pub refused-unwritten : {k p : ℕ} {after : List ℕ} → GreatestReplied 121 (7 ∷ []) (greatest_is k p) after → ⊥
unfolding checked_request
refused-unwritten (found e g) = clash cc

-- and a request that passes its checks is refused for nothing
pub passed-unrefused : {c : ℕ} {after : List ℕ} → GreatestReplied 5 (replicate 1000 7) (greatest_refused c) after → ⊥
unfolding checked_request
passed-unrefused (request_refused e) = clash cc

-- what each case of the reply says
pub greatest-replies : (greatest_answer (Ok (record { length = 9; period = 6 })) ≡ greatest_is 9 6) × (greatest_answer (Err TooManyPoints) ≡ greatest_refused 13)
greatest-replies = (refl, refl)

-- and its two numbers for C: the length and the period, or the refusal in both
pub five-reported : GreatestPeriod 5 (cycles (2 ∷ 3 ∷ [])) 6
    → GreatestReported 5 (replicate 1000 7) (pos 9) (pos 6) ((5 ∷ 2 ∷ 2 ∷ 1 ∷ 1 ∷ 3 ∷ 1 ∷ 1 ∷ 1 ∷ []) ++ replicate 991 7)
five-reported g = record { reply = greatest_is 9 6; length_told = refl; period_told = refl; replied = five-replied g }

pub refusal-reported : GreatestReported 121 (7 ∷ []) (neg_ℤ (pos 13)) (neg_ℤ (pos 13)) (7 ∷ [])
unfolding checked_request
refusal-reported = record { reply = greatest_refused 13; length_told = refl; period_told = refl; replied = request_refused {c = TooManyPoints} refl }
