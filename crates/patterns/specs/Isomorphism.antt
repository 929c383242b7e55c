-- Isomorphisms [document 01: renamings]: document 01, "Refusing".
use Rattle.std.specs.Prelude.{◌≡◌, Bool, ◌&&◌, List, [], ◌∷◌, map, ℕ, zero, suc, ◌<◌, eqb, length}
use Rattle.lists.specs.Select.{keep, each, gather, range, times}
use Rattle.patterns.specs.Table.{image}

-- r is a table of n bytes in which every point stands once, and following the first map and then r equals r and then the second
pub record Isomorphism (n : ℕ) (f g r : List ℕ) : Type 0 where
  pub points : length r ≡ n
  pub once : (x : ℕ) → x < n → times x r ≡ 1
  pub follows : (x : ℕ) → x < n → image r (image f x) ≡ image g (image r x)

-- the same as a test
unfoldable pub is_isomorphism : ℕ → List ℕ → List ℕ → List ℕ → Bool
is_isomorphism n f g r =
    eqb (length r) n && each (λ x. eqb (times x r) 1) (range 0 n) && each (λ x. eqb (image r (image f x)) (image g (image r x))) (range 0 n)

-- all tables of k bytes below n
abbrev pub tables : ℕ → ℕ → List (List ℕ)
tables zero n = [] ∷ []
tables (suc k) n = gather (λ y. map (y ∷◌) (tables k n)) (range 0 n)

-- every isomorphism there is between two tables of equal length
unfoldable pub isomorphisms : List ℕ → List ℕ → List (List ℕ)
unfolding is_isomorphism
isomorphisms f g = keep (is_isomorphism (length f) f g) (tables (length f) (length f))
