-- Components, that is, connected functional digraphs: document 004, Definition 2.
use Rattle.std.specs.Prelude.{Bool, true, false, cond, ◌&&◌, List, [], ◌∷◌, ◌++◌, length}
use Prim.Native.Nat.{ℕ, zero, suc, Ordering}
use Rattle.lists.specs.Order.{lex, at_most, same}
use Rattle.lists.specs.Select.{keep, each, gather, total}
use Rattle.patterns.specs.Tree.{Tree, size, code, compare_tree, valid_tree}

-- the trees along the cycle
abbrev pub Component : Type 0
Component = List Tree

-- the number of points
abbrev pub points : Component → ℕ
points c = total size c

-- the codes of its trees, one after another
abbrev pub flat : Component → List ℕ
flat c = gather code c

-- lexicographically, tree by tree
unfoldable pub compare_component : Component → Component → Ordering
unfolding compare_tree
compare_component c d = lex compare_tree c d

-- the first tree goes to the end
abbrev pub turn : {A : Type 0} → List A → List A
turn [] = []
turn (t ∷ ts) = ts ++ (t ∷ [])

-- c, turned once, .., k lists in all
abbrev pub first_rotations : {A : Type 0} → ℕ → List A → List (List A)
first_rotations zero c = []
first_rotations (suc k) c = c ∷ first_rotations k (turn c)

abbrev pub rotations : {A : Type 0} → List A → List (List A)
rotations c = first_rotations (length c) c

-- how many of its rotations equal a component [document 02, paper 6: turns]
unfoldable pub rotation_symmetry : Component → ℕ
unfolding compare_component
rotation_symmetry c = length (keep (same compare_component c) (rotations c))

-- the lesser of two, the first where they are equal
unfoldable pub lesser : Component → Component → Component
unfolding compare_component
lesser c d = cond (at_most compare_component c d) c d

-- the least of c and the others
unfoldable pub least : Component → List Component → Component
unfolding lesser
least c [] = c
least c (d ∷ ds) = least (lesser c d) ds

-- Definition 2: the code of a component is the least rotation
unfoldable pub least_rotation : Component → Component
unfolding least
least_rotation c = least c (rotations c)

abbrev pub nonempty : {A : Type 0} → List A → Bool
nonempty [] = false
nonempty (x ∷ l) = true

-- a valid code: it has a tree, every tree is valid, and no rotation is less
unfoldable pub valid_component : Component → Bool
unfolding compare_component valid_tree
valid_component c = nonempty c && each valid_tree c && each (at_most compare_component c) (rotations c)
