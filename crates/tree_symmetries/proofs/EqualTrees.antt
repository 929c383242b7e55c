-- Counting the trees of a row that equal a given one.
use mathlib.Core.Path.{◌≡◌, refl, ap, sym, ◌∙◌}
use mathlib.Core.Bool.{true, false, cond}
use mathlib.Core.List.{List, [], ◌∷◌, ◌++◌}
use Prim.Native.Nat.{ℕ, ◌+◌, ◌≤◌, compare}
use native.Mathlib.Omega.{arith}
use lib.ListN.{length, length-append}
use Rattle.lists.specs.Order.{lex, same}
use Rattle.patterns.specs.Tree.{Tree, code, compare_tree}
use Rattle.patterns.specs.Component.{Component}
use Rattle.counting_theory.specs.Symmetries.{copies}
use Rattle.counting_theory.proofs.Arrangements.{copies-snoc}

-- n of the trees `ahead` equal the tree whose code the bytes are
pub record EqualAhead (tree : List ℕ) (n : ℕ) (ahead rest : Component) : Type 0 where
  pub fewer : n ≤ length ahead
  pub count : (t : Tree) → tree ≡ code t → n ≡ copies compare_tree t ahead

pub none_ahead : (tree : List ℕ) (rest : Component) → EqualAhead tree 0 [] rest
none_ahead tree rest = record { fewer = omega arith; count = λ t e. refl }

-- trees are equal where their codes are
same-tree : (t u : Tree) → same compare_tree t u ≡ same (lex compare) (code t) (code u)
unfolding compare_tree
same-tree t u = refl

module _ {tree : List ℕ} {n : ℕ} {ahead rest : Component} (w : EqualAhead tree n ahead rest) (u : Tree) (later : Component) where
  told : (t : Tree) → tree ≡ code t → same compare_tree t u ≡ same (lex compare) tree (code u)
  told t e = same-tree t u ∙ ap (λ l. same (lex compare) l (code u)) (sym e)

  -- m of them with u
  counted : {m : ℕ} → m ≤ n + 1 → ((t : Tree) → tree ≡ code t → m ≡ n + cond {A = ℕ} (same compare_tree t u) 1 0) → EqualAhead tree m (ahead ++ (u ∷ [])) later
  counted h f = record {
    fewer = omega (arith, w.fewer, length-append ahead (u ∷ []));
    count = λ t e. omega (arith, w.count t e, f t e, copies-snoc compare_tree t ahead u);
  }

  pub one_more : same (lex compare) tree (code u) ≡ true → EqualAhead tree (n + 1) (ahead ++ (u ∷ [])) later
  one_more h = counted (omega arith) (λ t e. rw (told t e ∙ h))

  pub no_more : same (lex compare) tree (code u) ≡ false → EqualAhead tree n (ahead ++ (u ∷ [])) later
  no_more h = counted (omega arith) (λ t e. rw (told t e ∙ h) (omega arith))
