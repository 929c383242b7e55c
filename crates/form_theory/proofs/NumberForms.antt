-- Refusal 4, the form of a number: the numbers that were cut never have it, so it comes from the cut alone; and no byte that follows mends it.
use mathlib.Core.Path.{◌≡◌, ap, ◌∙◌, subst}
use mathlib.Core.Bool.{◌&&◌, ◌||◌}
use mathlib.Core.List.{List, [], ◌∷◌, ◌++◌}
use Prim.Native.Nat.{ℕ, zero, suc, ◌+◌, ◌-◌}
use native.Mathlib.Omega.{arith}
use lib.Dec.{ltb, eqb}
use lib.ListN.{length, drop}
use Rattle.lists.proofs.Tests.{choose-case, clash}
use Rattle.patterns.specs.declared.Refusal.{Refusal}
use Rattle.patterns.specs.declared.Refusal.TheVariants.{Truncated}
use Rattle.patterns.specs.Tree.{size, graft}
use Rattle.patterns.specs.Component.{points}
use Rattle.patterns.specs.System.{System, weight, canonical}
use Rattle.patterns.specs.Reading.{Result, done, fault, and_then, mapped, cut, read_tree, read_branches, read_trees, read_components, finished, read_body, read_system, accepted}
use Rattle.patterns.specs.Replies.{number_of}
use Rattle.patterns.specs.OnePass.{Scan, going, stopped, scan, scan_end}
use Rattle.form_theory.proofs.OnePass.{stopped-stays, one-pass, accepted-in-one-pass}

-- not refused with 4
abbrev Formed : {A : Type 0} → Result A → Type 0
Formed (done x) = Unit {0}
Formed (fault c) = number_of c ≡ 4 → ⊥

formed-then : {A B : Type 0} (r : Result A) (f : A → Result B) → Formed r → ((x : A) → Formed (f x)) → Formed (and_then r f)
formed-then (done x) f g h = h x
formed-then (fault c) f g h = g

formed-mapped : {A B : Type 0} (r : Result A) (f : A → B) → Formed r → Formed (mapped f r)
formed-mapped r f g = formed-then r (λ x. done (f x)) g (λ x. tt)

mutual
  unfolding read_tree

  tree-formed : (f limit : ℕ) (s : List ℕ) → Formed (read_tree f limit s)
  tree-formed zero limit s = λ e. omega arith
  tree-formed (suc f) limit [] = λ e. omega arith
  tree-formed (suc f) limit (x ∷ s) =
      choose-case Formed (eqb x 0 || ltb limit x) (λ t e. omega arith) (λ t. formed-mapped (read_branches f (x - 1) s) graft (branches-formed f (x - 1) s))

  branches-formed : (f left : ℕ) (s : List ℕ) → Formed (read_branches f left s)
  branches-formed zero left s = λ e. omega arith
  branches-formed (suc f) left s =
      choose-case Formed (eqb left 0) (λ t. tt) (λ t.
      formed-then (read_tree f left s) _ (tree-formed f left s) (λ u.
      formed-mapped (read_branches f (left - size u) (drop (size u) s)) (u ∷◌) (branches-formed f (left - size u) (drop (size u) s))))

trees-formed : (k left : ℕ) (s : List ℕ) → Formed (read_trees k left s)
unfolding read_trees
trees-formed zero left s = tt
trees-formed (suc k) left s =
    formed-then (read_tree (suc (left + left)) left s) _ (tree-formed (suc (left + left)) left s) (λ t.
    formed-mapped (read_trees k (left - size t) (drop (size t) s)) (t ∷◌) (trees-formed k (left - size t) (drop (size t) s)))

components-formed : (m left : ℕ) (s : List ℕ) → Formed (read_components m left s)
unfolding read_components
components-formed zero left s = choose-case Formed (eqb left 0) (λ t. tt) (λ t e. omega arith)
components-formed (suc m) left [] = λ e. omega arith
components-formed (suc m) left (k ∷ s) =
    choose-case Formed (eqb k 0 || ltb left k) (λ t e. omega arith) (λ t.
    formed-then (read_trees k left s) _ (trees-formed k left s) (λ c.
    formed-mapped (read_components m (left - points c) (drop (points c) s)) (c ∷◌) (components-formed m (left - points c) (drop (points c) s))))

finished-formed : (S : System) (l : List ℕ) → Formed (finished S l)
unfolding finished
finished-formed S [] = choose-case Formed (canonical S) (λ t. tt) (λ t e. omega arith)
finished-formed S (x ∷ l) = λ e. omega arith

body-formed : (n : ℕ) (s : List ℕ) → Formed (read_body n s)
unfolding read_body
body-formed n [] = λ e. omega arith
body-formed n (m ∷ s) =
    choose-case Formed (ltb n m || (eqb m 0 && ltb 0 n)) (λ t e. omega arith) (λ t.
    formed-then (read_components m n s) _ (components-formed m n s) (λ S. finished-formed S (drop (length S + weight S) s)))

system-formed : (xs : List ℕ) → Formed (read_system xs)
unfolding read_system
system-formed [] = λ e. omega arith
system-formed (n ∷ s) = choose-case Formed (ltb 200 n) (λ t e. omega arith) (λ t. body-formed n s)

module _ (c : Refusal) (four : number_of c ≡ 4) where
  -- so it comes from the cut
  form-cut : (b : List ℕ) → accepted b ≡ fault c → cut b ≡ fault c
  unfolding accepted
  form-cut b = of (cut b)
    where
      of : (r : Result (List ℕ)) → and_then r read_system ≡ fault c → r ≡ fault c
      of (done xs) e = absurd ((subst Formed e (system-formed xs)) four)
      of (fault d) e = let f : d ≡ c = cc in ap fault f

  -- and then the pass has stopped
  form-stopped : (b : List ℕ) → cut b ≡ fault c → scan b ≡ stopped c
  form-stopped b e = of (scan b) (one-pass b ∙ e)
    where
      of : (s : Scan) → scan_end s ≡ fault c → s ≡ stopped c
      of (going xs zero v) e = clash cc
      of (going xs (suc p) v) e = let t : Truncated ≡ c = cc in absurd (subst (λ d. number_of d ≡ 4 → ⊥) t (λ f. omega arith) four)
      of (stopped d) e = cc

  -- Bytes that are refused with 4 are refused with it whatever follows them.
  pub form-stays : (b l : List ℕ) → accepted b ≡ fault c → accepted (b ++ l) ≡ fault c
  form-stays b l e =
      accepted-in-one-pass (b ++ l) ∙ ap (λ s. and_then (scan_end s) read_system) (stopped-stays b l c (form-stopped b (form-cut b e)))
