-- The step as a scan from the right, the form that a program follows: the rightmost component with a successor, the last two sizes.
use mathlib.Core.Path.{◌≡◌, refl, ap, ◌∙◌}
use mathlib.Core.List.{List, [], ◌∷◌, ◌++◌, map}
use mathlib.Core.Option
use mathlib.Core.Option.{none, some}
use Prim.Native.Nat.{ℕ, suc, ◌+◌}
use Rattle.patterns.specs.Component.{Component, points}
use Rattle.patterns.specs.System.{System}
use Rattle.component_theory.specs.Successor.{successor}
use Rattle.system_theory.specs.Step.{least_sizes, next_sizes, cycle, fills, bump, step}

-- no component has a successor, so far from the right
pub bump-pass : (c : Component) (S : System) → bump S ≡ none → successor c ≡ none → bump (c ∷ S) ≡ none
unfolding bump
bump-pass c S e f = rw (e, f)

-- c is the rightmost component with a successor
pub bump-here : (c d : Component) (S : System) → bump S ≡ none → successor c ≡ some d → bump (c ∷ S) ≡ some (d ∷ fills d (map points S))
unfolding bump
bump-here c d S e f = rw (e, f)

-- what stands to the left of it stays
pub bump-left : (R S T : System) → bump S ≡ some T → bump (R ++ S) ≡ some (R ++ T)
unfolding bump
bump-left [] S T e = e
bump-left (c ∷ R) S T e = rw (bump-left R S T e)

pub bump_at : (R : System) (c d : Component) (S : System) → bump S ≡ none → successor c ≡ some d
    → bump (R ++ (c ∷ S)) ≡ some (R ++ (d ∷ fills d (map points S)))
bump_at R c d S e f = bump-left R (c ∷ S) (d ∷ fills d (map points S)) (bump-here c d S e f)

-- what stands to the left of the last two sizes stays
next_sizes-left : (c : ℕ) (l : List ℕ) (a b : ℕ) → next_sizes (c ∷ (l ++ (a ∷ b ∷ []))) ≡ Option.map (c ∷◌) (next_sizes (l ++ (a ∷ b ∷ [])))
unfolding next_sizes
next_sizes-left c [] a b = refl
next_sizes-left c (d ∷ []) a b = refl
next_sizes-left c (d ∷ e ∷ l) a b = refl

-- the last two sizes give way to the least list of their sum from the first of them + 1 on
pub next_sizes-at : (l : List ℕ) (a b : ℕ) → next_sizes (l ++ (a ∷ b ∷ [])) ≡ some (l ++ least_sizes (a + b) (suc a) (a + b))
unfolding next_sizes
next_sizes-at [] a b = refl
next_sizes-at (c ∷ l) a b = next_sizes-left c l a b ∙ ap (Option.map (c ∷◌)) (next_sizes-at l a b)

-- the step, by what the scan found
pub step-bump : (S T : System) → bump S ≡ some T → step S ≡ some T
unfolding step
step-bump S T e = rw e

pub step-sizes : (S : System) (l : List ℕ) → bump S ≡ none → next_sizes (map points S) ≡ some l → step S ≡ some (map cycle l)
unfolding step
step-sizes S l e f = rw (e, f)

pub step-none : (S : System) → bump S ≡ none → next_sizes (map points S) ≡ none → step S ≡ none
unfolding step
step-none S e f = rw (e, f)
