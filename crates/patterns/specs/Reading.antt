-- Reading a written code, with the causes of refusal in the order of checks that document 01, "Refusing", sets.
use Rattle.std.specs.Prelude.{cond, ◌&&◌, ◌||◌, List, [], ◌∷◌, ℕ, zero, suc, ◌+◌, ◌-◌, ◌*◌, ltb, leb, eqb, length, drop}
use Rattle.patterns.specs.declared.Refusal.{Refusal}
use Rattle.patterns.specs.declared.Refusal.TheVariants.{Count, Truncated, NumberForm, Sizes, NotCanonical, Trailing}
use Rattle.patterns.specs.Tree.{Tree, size, graft}
use Rattle.patterns.specs.Component.{points}
use Rattle.patterns.specs.System.{System, weight, canonical}

-- something read, or the cause of a refusal
pub data Result (A : Type 0) : Type 0 where
  done : A → Result A
  fault : Refusal → Result A

abbrev pub and_then : {A B : Type 0} → Result A → (A → Result B) → Result B
and_then (done x) f = f x
and_then (fault c) f = fault c

abbrev pub mapped : {A B : Type 0} → (A → B) → Result A → Result B
mapped f r = and_then r (λ x. done (f x))

-- "cut into numbers, left to right, the first 3 or 4 deciding"
unfoldable pub cut : List ℕ → Result (List ℕ)
cut [] = done []
cut (x ∷ []) = cond (ltb x 128) (done (x ∷ [])) (fault Truncated)
cut (x ∷ y ∷ l) =
    let short = mapped (x ∷◌) (cut (y ∷ l)) in
    let long = mapped ((x - 128 + y * 128) ∷◌) (cut l) in
    cond (ltb x 128) short (cond (eqb y 0 || leb 128 y) (fault NumberForm) long)

-- A tree within a limit of points, and the branches that make up so many points. A tree takes as many numbers as it has points, so what follows
-- it is the rest after that many. The first argument bounds the depth of calls; 2 · limit + 1 and 2 · left + 2 are always enough.
unfoldable mutual
  pub read_tree : ℕ → ℕ → List ℕ → Result Tree
  read_tree zero limit s = fault Sizes
  read_tree (suc f) limit [] = fault Truncated
  read_tree (suc f) limit (x ∷ s) =
      let tree = mapped graft (read_branches f (x - 1) s) in
      cond (eqb x 0 || ltb limit x) (fault Sizes) tree

  pub read_branches : ℕ → ℕ → List ℕ → Result (List Tree)
  read_branches zero left s = fault Sizes
  read_branches (suc f) left s =
      let more = and_then (read_tree f left s) (λ t. mapped (t ∷◌) (read_branches f (left - size t) (drop (size t) s))) in
      cond (eqb left 0) (done []) more

-- k trees along a cycle, from the points left of n
unfoldable pub read_trees : ℕ → ℕ → List ℕ → Result (List Tree)
unfolding read_tree
read_trees zero left s = done []
read_trees (suc k) left s = and_then (read_tree (suc (left + left)) left s) (λ t. mapped (t ∷◌) (read_trees k (left - size t) (drop (size t) s)))

-- m components, from the points left of n, and no points left after the last
unfoldable pub read_components : ℕ → ℕ → List ℕ → Result System
unfolding read_trees
read_components zero left s = cond (eqb left 0) (done []) (fault Sizes)
read_components (suc m) left [] = fault Truncated
read_components (suc m) left (k ∷ s) =
    let more = and_then (read_trees k left s) (λ c. mapped (c ∷◌) (read_components m (left - points c) (drop (points c) s))) in
    cond (eqb k 0 || ltb left k) (fault Sizes) more

-- what is left to check of a system that has been read, with the numbers after it: 7, then 6
unfoldable pub finished : System → List ℕ → Result System
unfolding canonical
finished S [] =
    let tested = canonical S in
    cond tested (done S) (fault NotCanonical)
finished S (x ∷ rest) = fault Trailing

-- the number m of components and then the components, for n points
unfoldable pub read_body : ℕ → List ℕ → Result System
unfolding read_components finished
read_body n [] = fault Truncated
read_body n (m ∷ s) =
    let more = and_then (read_components m n s) (λ S. finished S (drop (length S + weight S) s)) in
    cond (ltb n m || (eqb m 0 && ltb 0 n)) (fault Sizes) more

unfoldable pub read_system : List ℕ → Result System
unfolding read_body
read_system [] = fault Truncated
read_system (n ∷ s) =
    let more = read_body n s in
    cond (ltb 200 n) (fault Count) more

-- A written code is cut into numbers, and then the numbers are read.
unfoldable pub accepted : List ℕ → Result System
unfolding cut read_system
accepted b = and_then (cut b) read_system
