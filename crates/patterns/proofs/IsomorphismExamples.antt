-- Entry "renaming between two maps": isomorphisms in the direction of document 01, "none", and the first table's fault before the second's. What the
-- relation leaves open is shown of whatever it allows.
use mathlib.Core.Path.{◌≡◌, refl}
use mathlib.Core.Bool.{false}
use mathlib.Core.List.{List, [], ◌∷◌}
use Prim.Native.Nat.{ℕ, zero, suc}
use native.Mathlib.Omega.{arith}
use lib.ListN.{length, replicate}
use Rattle.patterns.specs.declared.Refusal.{Refusal}
use Rattle.patterns.specs.declared.Refusal.TheVariants.{Count, Image}
use Rattle.patterns.specs.Reading.{done, fault}
use Rattle.patterns.specs.Table.{image}
use Rattle.patterns.specs.Isomorphism.{Isomorphism, is_isomorphism, isomorphisms}
use Rattle.patterns.specs.Entry.{Outcome, gives, lacks, fails, checked_table}
use Rattle.patterns.specs.Replies.{length_is, refused}
use Rattle.patterns.specs.Entry.{IsomorphismFound, first_refused, second_refused, found, lengths_differ, not_found, IsomorphismReplied}
use Rattle.patterns.proofs.Bridges.{isomorphism-test}

-- The only renaming of 0 0 1 to 2 1 1 is 1 2 0, and 2 0 1, its inverse, is the one back.
pub renaming-direction :
    (isomorphisms (0 ∷ 0 ∷ 1 ∷ []) (2 ∷ 1 ∷ 1 ∷ []) ≡ (1 ∷ 2 ∷ 0 ∷ []) ∷ []) × (isomorphisms (2 ∷ 1 ∷ 1 ∷ []) (0 ∷ 0 ∷ 1 ∷ []) ≡ (2 ∷ 0 ∷ 1 ∷ []) ∷ [])
unfolding isomorphisms
renaming-direction = (refl, refl)

-- a cycle is renamed to itself in as many ways as it has points; the identity has all permutations; no points have one renaming
pub renamings-counted :
    (isomorphisms (1 ∷ 2 ∷ 0 ∷ []) (1 ∷ 2 ∷ 0 ∷ []) ≡ (0 ∷ 1 ∷ 2 ∷ []) ∷ (1 ∷ 2 ∷ 0 ∷ []) ∷ (2 ∷ 0 ∷ 1 ∷ []) ∷ [])
    × (length (isomorphisms (0 ∷ 1 ∷ 2 ∷ []) (0 ∷ 1 ∷ 2 ∷ [])) ≡ 6)
    × (isomorphisms [] [] ≡ [] ∷ [])
unfolding isomorphisms
renamings-counted = (refl, refl, refl)

-- no renamings of 0 0 to itself: one of three bytes, one that has a point twice, one that follows no arrows
pub no-renamings :
    (is_isomorphism 2 (0 ∷ 0 ∷ []) (0 ∷ 0 ∷ []) (0 ∷ 1 ∷ 7 ∷ []) ≡ false)
    × (is_isomorphism 2 (0 ∷ 0 ∷ []) (0 ∷ 0 ∷ []) (0 ∷ 0 ∷ []) ≡ false)
    × (is_isomorphism 2 (0 ∷ 0 ∷ []) (0 ∷ 0 ∷ []) (1 ∷ 0 ∷ []) ≡ false)
unfolding is_isomorphism
no-renamings = (refl, refl, refl)

-- 1 2 0 is a renaming of 0 0 1 to 2 1 1
renaming : Isomorphism 3 (0 ∷ 0 ∷ 1 ∷ []) (2 ∷ 1 ∷ 1 ∷ []) (1 ∷ 2 ∷ 0 ∷ [])
unfolding is_isomorphism
renaming = (isomorphism-test 3 (0 ∷ 0 ∷ 1 ∷ []) (2 ∷ 1 ∷ 1 ∷ []) (1 ∷ 2 ∷ 0 ∷ [])).1 refl

-- so the entry may write it, here into a buffer with a place left,
pub renaming-replied : IsomorphismReplied (0 ∷ 0 ∷ 1 ∷ []) (2 ∷ 1 ∷ 1 ∷ []) (7 ∷ 7 ∷ 7 ∷ 7 ∷ []) (length_is 3) (1 ∷ 2 ∷ 0 ∷ 7 ∷ [])
unfolding checked_table
renaming-replied = record { found = gives (1 ∷ 2 ∷ 0 ∷ []); is_found = found refl refl refl renaming; replied = record { reply = refl; output = refl } }

-- and may not answer "none".
pub renaming-not-none : IsomorphismFound (0 ∷ 0 ∷ 1 ∷ []) (2 ∷ 1 ∷ 1 ∷ []) lacks → ⊥
renaming-not-none (lengths_differ a b d) = d refl
renaming-not-none (not_found a b e lack) = lack (1 ∷ 2 ∷ 0 ∷ []) renaming

-- Whatever is written is a renaming.
pub written-is-renaming : (f g r : List ℕ) → IsomorphismFound f g (gives r) → Isomorphism (length f) f g r
written-is-renaming f g r (found a b e i) = i

-- "None" is an answer where there is no renaming, here of two fixed points to a cycle of two;
pub fixed-points-none : IsomorphismFound (0 ∷ 1 ∷ []) (1 ∷ 0 ∷ []) lacks
unfolding checked_table
fixed-points-none = not_found refl refl refl (λ r i. moves (image r 0) (i.follows 0 (omega arith)))
  where
    moves : (a : ℕ) → a ≡ image (1 ∷ 0 ∷ []) a → ⊥
    moves zero e = omega arith
    moves (suc zero) e = omega arith
    moves (suc (suc a)) e = omega arith

-- tables of different lengths have no other answer.
pub lengths-differ-none : (f g : List ℕ) (o : Outcome ℕ) → checked_table f ≡ done f → checked_table g ≡ done g → (length f ≡ length g → ⊥)
    → IsomorphismFound f g o → o ≡ lacks
lengths-differ-none f g o a b d (first_refused e) = cc
lengths-differ-none f g o a b d (second_refused h e) = cc
lengths-differ-none f g o a b d (found h k e i) = absurd (d e)
lengths-differ-none f g o a b d (lengths_differ h k e) = refl
lengths-differ-none f g o a b d (not_found h k e lack) = refl

pub one-point-and-two : (o : Outcome ℕ) → IsomorphismFound (0 ∷ []) (0 ∷ 1 ∷ []) o → o ≡ lacks
unfolding checked_table
one-point-and-two o h = lengths-differ-none (0 ∷ []) (0 ∷ 1 ∷ []) o refl refl (λ e. omega arith) h

-- A fault of the first table decides,
pub first-table-decides : (f g : List ℕ) (c : Refusal) (o : Outcome ℕ) → checked_table f ≡ fault c → IsomorphismFound f g o → o ≡ fails c
first-table-decides f g c o h (first_refused e) = cc
first-table-decides f g c o h (second_refused a e) = cc
first-table-decides f g c o h (found a b e i) = cc
first-table-decides f g c o h (lengths_differ a b d) = cc
first-table-decides f g c o h (not_found a b e lack) = cc

-- and where it has none a fault of the second.
pub second-table-decides : (f g : List ℕ) (c : Refusal) (o : Outcome ℕ) → checked_table f ≡ done f → checked_table g ≡ fault c → IsomorphismFound f g o → o ≡ fails c
second-table-decides f g c o k h (first_refused e) = cc
second-table-decides f g c o k h (second_refused a e) = cc
second-table-decides f g c o k h (found a b e i) = cc
second-table-decides f g c o k h (lengths_differ a b d) = cc
second-table-decides f g c o k h (not_found a b e lack) = cc

-- faults in both tables, 2 in the first and 1 in the second, and the other way round
pub both-refused :
    ((o : Outcome ℕ) → IsomorphismFound (1 ∷ []) (replicate 201 0) o → o ≡ fails Image) × ((o : Outcome ℕ) → IsomorphismFound (replicate 201 0) (1 ∷ []) o → o ≡ fails Count)
unfolding checked_table
both-refused = (
  λ o h. first-table-decides (1 ∷ []) (replicate 201 0) Image o refl h,
  λ o h. first-table-decides (replicate 201 0) (1 ∷ []) Count o refl h,
)

-- a fault in one, which is answered so with the buffer kept
pub one-refused :
    IsomorphismReplied (1 ∷ []) (0 ∷ []) (7 ∷ []) (refused 2) (7 ∷ []) × IsomorphismReplied (0 ∷ []) (replicate 201 0) (7 ∷ []) (refused 1) (7 ∷ [])
unfolding checked_table
one-refused = (
  record { found = fails Image; is_found = first_refused refl; replied = record { reply = refl; output = refl } },
  record { found = fails Count; is_found = second_refused refl refl; replied = record { reply = refl; output = refl } },
)
