-- Symmetries, computed.
use mathlib.Core.Path.{◌≡◌, refl}
use mathlib.Core.List.{[], ◌∷◌, map}
use Rattle.patterns.specs.System.{codes}
use Rattle.counting_theory.specs.Symmetries.{symmetries}

-- each of them with the number of tables of document 02, paper 7, is 6, that is, 3!
pub symmetries-of-three : map symmetries (codes 3) ≡ 6 ∷ 2 ∷ 1 ∷ 3 ∷ 1 ∷ 2 ∷ 1 ∷ []
unfolding symmetries codes
symmetries-of-three = refl
