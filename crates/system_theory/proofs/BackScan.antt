-- The step back as a scan from the right, the form that a program follows: the rightmost component that can fall, the rightmost number that can fall.
-- R stands to the left of it, and p to the left of R; the default q is not read.
use mathlib.Core.Path.{◌≡◌}
use mathlib.Core.List.{List, [], ◌∷◌, ◌++◌, map}
use mathlib.Core.Option.{none, some}
use Prim.Native.Nat.{ℕ}
use lib.ListN.{length}
use Rattle.lists.specs.Select.{left_of}
use Rattle.patterns.specs.Component.{Component, points}
use Rattle.patterns.specs.System.{System}
use Rattle.system_theory.specs.StepBack.{lower_sizes, previous_sizes, lower, lasts, fall, step_back_of}

-- no component can fall, so far from the right
pub fall-pass : (p c : Component) (S : System) → fall c S ≡ none → lower p c ≡ none → fall p (c ∷ S) ≡ none
unfolding fall
fall-pass p c S e f = rw (e, f)

-- c is the rightmost component that can fall
pub fall-here : (p c d : Component) (S : System) → fall c S ≡ none → lower p c ≡ some d → fall p (c ∷ S) ≡ some (d ∷ lasts (map points S))
unfolding fall
fall-here p c d S e f = rw (e, f)

-- and what stands to the left of it stays
pub fall-at : (q p : Component) (R : System) (c d : Component) (S : System) → fall c S ≡ none → lower (left_of q p R (length R)) c ≡ some d
    → fall p (R ++ (c ∷ S)) ≡ some (R ++ (d ∷ lasts (map points S)))
unfolding fall
fall-at q p [] c d S e f = fall-here p c d S e f
fall-at q p (b ∷ R) c d S e f = rw (fall-at q b R c d S e f)

-- the same for the size list before
pub previous_sizes-pass : (a s : ℕ) (l : List ℕ) → previous_sizes s l ≡ none → lower_sizes a s l ≡ none → previous_sizes a (s ∷ l) ≡ none
unfolding previous_sizes
previous_sizes-pass a s l e f = rw (e, f)

pub previous_sizes-at : (q a : ℕ) (R : List ℕ) (s : ℕ) (l m : List ℕ) → previous_sizes s l ≡ none → lower_sizes (left_of q a R (length R)) s l ≡ some m
    → previous_sizes a (R ++ (s ∷ l)) ≡ some (R ++ m)
unfolding previous_sizes
previous_sizes-at q a [] s l m e f = rw (e, f)
previous_sizes-at q a (b ∷ R) s l m e f = rw (previous_sizes-at q b R s l m e f)

-- the step back, by what the scan found
pub step_back_of-fall : (S T : System) → fall [] S ≡ some T → step_back_of S ≡ some T
unfolding step_back_of
step_back_of-fall S T e = rw e

pub step_back_of-sizes : (S : System) (l : List ℕ) → fall [] S ≡ none → previous_sizes 1 (map points S) ≡ some l → step_back_of S ≡ some (lasts l)
unfolding step_back_of
step_back_of-sizes S l e f = rw (e, f)

pub step_back_of-none : (S : System) → fall [] S ≡ none → previous_sizes 1 (map points S) ≡ none → step_back_of S ≡ none
unfolding step_back_of
step_back_of-none S e f = rw (e, f)
