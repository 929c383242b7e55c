-- Equal components of a system taken together: document 02, paper 13.
use Rattle.std.specs.Prelude.{Bool, true, cond, not, ◌&&◌, List, [], ◌∷◌, ℕ, suc, replicate}
use Rattle.lists.specs.Order.{at_most, same}
use Rattle.lists.specs.Select.{gather}
use Rattle.patterns.specs.Component.{Component, compare_component, valid_component}
use Rattle.patterns.specs.System.{System, compare_generated}

-- a number of copies and the component that they are copies of [document 02, paper 13: a group]
pub record Group : Type 0 where
  pub copies : ℕ
  pub component : Component

-- the group of q copies of c
abbrev pub copies_of : ℕ → Component → Group
copies_of q c = record { copies = q; component = c }

-- each copy written out
abbrev pub expand : List Group → System
expand G = gather (λ g. replicate g.copies g.component) G

-- a component in front of groups: one copy more in the first group, where it equals that group's component, else a group of its own
unfoldable pub joined : Component → List Group → List Group
unfolding compare_component
joined c [] = copies_of 1 c ∷ []
joined c (g ∷ G) = cond (same compare_component c g.component) (copies_of (suc g.copies) g.component ∷ G) (copies_of 1 c ∷ g ∷ G)

-- the groups of a system: equal neighbours together
unfoldable pub groups : System → List Group
unfolding joined
groups [] = []
groups (c ∷ S) = joined c (groups S)

-- "groups rise strictly" [document 02, paper 13]: every component is valid and comes after that of the group to its left, where p stands to the left of all
unfoldable pub rising : Component → List Group → Bool
unfolding valid_component compare_generated
rising p [] = true
rising p (g ∷ G) =
    let after = not (at_most compare_generated g.component p) in
    let later = rising g.component G in
    valid_component g.component && after && later
