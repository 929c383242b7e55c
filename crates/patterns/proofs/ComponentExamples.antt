-- Entry "component reader", computed: where a component's bytes begin and end in the code, and how many of its rotations equal it.
use Rattle.std.specs.Prelude.{Ok, Err}
use mathlib.Core.Path.{◌≡◌, refl}
use mathlib.Core.List.{List, [], ◌∷◌}
use Prim.Native.Nat.{ℕ}
use lib.ListN.{replicate}
use Rattle.patterns.specs.declared.Refusal.TheVariants.{NotCanonical, Position}
use Rattle.patterns.specs.Tree.{point, merge}
use Rattle.patterns.specs.Component.{rotation_symmetry}
use Rattle.patterns.specs.Reading.{fault}
use Rattle.patterns.specs.Replies.{length_is, refused, part_is, part_refused, part_answer}
use Rattle.patterns.specs.Entry.{component_of, part_answered}
use Rattle.patterns.specs.SignedReplies.{component_start, component_end, component_turns}

-- (1), (2 1) and (1)(2 1), of 2, 3 and 4 bytes: each begins with its k where the one before it ends, and the last ends with the code
abbrev small : List ℕ
small = 6 ∷ 3 ∷ 1 ∷ 1 ∷ 1 ∷ 2 ∷ 1 ∷ 2 ∷ 1 ∷ 2 ∷ 1 ∷ []

pub components-begin-and-end :
    (part_answered (component_of small 0) ≡ part_is 2 4 1)
    × (part_answered (component_of small 1) ≡ part_is 4 7 1)
    × (part_answered (component_of small 2) ≡ part_is 7 11 1)
    × (component_of small 3 ≡ fault Position)
unfolding component_of
components-begin-and-end = (refl, refl, refl, refl)

-- a number of two bytes before them: 130 points, a tree of 1 and a tree of 129, whose first number has two bytes too
pub after-two-bytes :
    (part_answered (component_of (130 ∷ 1 ∷ 2 ∷ 1 ∷ 1 ∷ 1 ∷ 129 ∷ 1 ∷ replicate 128 1) 0) ≡ part_is 3 5 1)
    × (part_answered (component_of (130 ∷ 1 ∷ 2 ∷ 1 ∷ 1 ∷ 1 ∷ 129 ∷ 1 ∷ replicate 128 1) 1) ≡ part_is 5 136 1)
unfolding component_of
after-two-bytes = (refl, refl)

-- two numbers of two bytes: 130 points in as many components
pub after-four-bytes : part_answered (component_of (130 ∷ 1 ∷ 130 ∷ 1 ∷ replicate 260 1) 129) ≡ part_is 262 264 1
unfolding component_of
after-four-bytes = refl

-- Document 02, paper 6: (1)(1)(1) has 3 turns and (1)(2 1) has 1.
pub turns-of-the-paper : (rotation_symmetry (point ∷ point ∷ point ∷ []) ≡ 3) × (rotation_symmetry (point ∷ merge point point ∷ []) ≡ 1)
unfolding rotation_symmetry
turns-of-the-paper = (refl, refl)

-- each component has its own: (1), (1)(1)(1), (1)(1)(2 1) and (1)(2 1)(1)(2 1), of 14 points
abbrev various : List ℕ
various = 14 ∷ 4 ∷ 1 ∷ 1 ∷ 3 ∷ 1 ∷ 1 ∷ 1 ∷ 3 ∷ 1 ∷ 1 ∷ 2 ∷ 1 ∷ 4 ∷ 1 ∷ 2 ∷ 1 ∷ 1 ∷ 2 ∷ 1 ∷ []

pub turns-of-each :
    (part_answered (component_of various 0) ≡ part_is 2 4 1)
    × (part_answered (component_of various 1) ≡ part_is 4 8 3)
    × (part_answered (component_of various 2) ≡ part_is 8 13 1)
    × (part_answered (component_of various 3) ≡ part_is 13 20 2)
unfolding component_of
turns-of-each = (refl, refl, refl, refl)

-- each number stands in its place: in the running reply, and told alone to callers in C
pub numbers-in-place :
    (part_answer (Ok (record { start = 4; end = 8; turns = 3 })) ≡ part_is 4 8 3)
    × (part_answer (Err Position) ≡ part_refused 9)
    × (component_start various 1 ≡ length_is 4)
    × (component_end various 1 ≡ length_is 8)
    × (component_turns various 1 ≡ length_is 3)
    × (component_turns various 4 ≡ refused 9)
unfolding component_of
numbers-in-place = (refl, refl, refl, refl, refl, refl)

-- 9 for a position past the last, also where there is none, and only for a code
pub position-refused :
    (component_of (0 ∷ 0 ∷ []) 0 ≡ fault Position)
    × (part_answered (component_of (0 ∷ 0 ∷ []) 0) ≡ part_refused 9)
    × (part_answered (component_of (3 ∷ []) 9) ≡ part_refused 3)
    × (component_of (3 ∷ 1 ∷ 2 ∷ 2 ∷ 1 ∷ 1 ∷ []) 1 ≡ fault NotCanonical)
unfolding component_of
position-refused = (refl, refl, refl, refl)
