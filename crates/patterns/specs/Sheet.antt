-- The starred cases of document 01, "Sheet of examples", as one table. proofs/Sheet.antt shows that they hold for the definitions.
use Rattle.std.specs.Prelude.{◌≡◌, List, [], ◌∷◌, ℕ}
use Rattle.patterns.specs.Isomorphism.{isomorphisms}
use Rattle.patterns.specs.Replies.{refused}
use Rattle.patterns.specs.Entry.{gives, ends, accept_of, code_of_map, successor_of}

pub data Example : Type 0 where
  table_has_code : List ℕ → List ℕ → Example
  has_successor : List ℕ → List ℕ → Example
  no_successor : List ℕ → Example
  isomorphisms_of : List ℕ → List ℕ → List (List ℕ) → Example
  refused_with : ℕ → List ℕ → Example

-- what an example claims; that an isomorphism is the one there is, or that there is none, is claimed over all tables
unfoldable pub Claim : Example → Type 0
Claim (table_has_code f b) = code_of_map f ≡ gives b
Claim (has_successor b d) = successor_of b ≡ gives d
Claim (no_successor b) = successor_of b ≡ ends
Claim (isomorphisms_of f g rs) = isomorphisms f g ≡ rs
Claim (refused_with k b) = accept_of b ≡ refused k

unfoldable pub AllHold : List Example → Type 0
unfolding Claim
AllHold [] = Unit {0}
AllHold (e ∷ es) = Claim e × AllHold es

unfoldable pub sheet : List Example
sheet =
    table_has_code [] (0 ∷ 0 ∷ [])
    ∷ no_successor (0 ∷ 0 ∷ [])
    ∷ table_has_code (1 ∷ 2 ∷ 0 ∷ []) (3 ∷ 1 ∷ 3 ∷ 1 ∷ 1 ∷ 1 ∷ [])
    ∷ table_has_code (0 ∷ 0 ∷ 0 ∷ []) (3 ∷ 1 ∷ 1 ∷ 3 ∷ 1 ∷ 1 ∷ [])
    ∷ table_has_code (0 ∷ 0 ∷ 1 ∷ []) (3 ∷ 1 ∷ 1 ∷ 3 ∷ 2 ∷ 1 ∷ [])
    ∷ has_successor (8 ∷ 3 ∷ 2 ∷ 1 ∷ 1 ∷ 1 ∷ 3 ∷ 2 ∷ 1 ∷ 2 ∷ 1 ∷ 2 ∷ 1 ∷ []) (8 ∷ 3 ∷ 2 ∷ 1 ∷ 1 ∷ 1 ∷ 3 ∷ 1 ∷ 1 ∷ 1 ∷ 3 ∷ 1 ∷ 1 ∷ [])
    ∷ isomorphisms_of (0 ∷ 0 ∷ []) (1 ∷ 1 ∷ []) ((1 ∷ 0 ∷ []) ∷ [])
    ∷ isomorphisms_of (0 ∷ 1 ∷ []) (1 ∷ 0 ∷ []) []
    ∷ refused_with 6 (3 ∷ 1 ∷ 2 ∷ 2 ∷ 1 ∷ 1 ∷ [])
    ∷ refused_with 6 (4 ∷ 1 ∷ 1 ∷ 4 ∷ 2 ∷ 1 ∷ 1 ∷ [])
    ∷ refused_with 6 (3 ∷ 2 ∷ 2 ∷ 1 ∷ 1 ∷ 1 ∷ 1 ∷ [])
    ∷ refused_with 3 []
    ∷ refused_with 3 (128 ∷ [])
    ∷ refused_with 4 (129 ∷ 0 ∷ [])
    ∷ refused_with 4 (128 ∷ 128 ∷ [])
    ∷ refused_with 5 (0 ∷ 1 ∷ [])
    ∷ refused_with 5 (1 ∷ 0 ∷ [])
    ∷ refused_with 7 (1 ∷ 1 ∷ 1 ∷ 1 ∷ 9 ∷ [])
    ∷ []
