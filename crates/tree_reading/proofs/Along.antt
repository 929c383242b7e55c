-- Trees one after another, read up to a place; and one component.
use Rattle.std.specs.Prelude.{Result as Read, Ok, Err}
use mathlib.Core.Path.{◌≡◌, refl, ap, sym, ◌∙◌}
use mathlib.Core.List.{List, [], ◌∷◌, ◌++◌, append-nil}
use Prim.Native.Nat.{ℕ, suc, ◌+◌, ◌-◌, ◌≤◌, ◌<◌}
use native.Mathlib.Nat.{sub-zero}
use native.Mathlib.Omega.{arith}
use lib.ListN.{length, drop, get_or, drop_of_length-le}
use lib.Seq.{drop-drop}
use borrow.Author.Tests.{lt-ltb, le-ltb, ne_eqb}
use Rattle.lists.proofs.Tests.{clash}
use Rattle.lists.proofs.Places.{drop-one}
use Rattle.patterns.specs.declared.Refusal.{Refusal}
use Rattle.patterns.specs.declared.Refusal.TheVariants.{Truncated, Sizes}
use Rattle.patterns.specs.Tree.{Tree, size}
use Rattle.patterns.specs.Component.{points}
use Rattle.patterns.specs.Reading.{Result, done, fault, mapped, read_tree, read_trees}
use Rattle.patterns.proofs.Trees.{points-append}
use Rattle.form_theory.specs.ReadComponent.{read_component}
use Rattle.tree_reading.specs.Walking.{walked, walked_all}
use Rattle.form_theory.proofs.Results.{mapped-none, mapped-more}
use Rattle.form_theory.proofs.ReadFrom.{tree-read}

-- i of k trees have been read, from place `at` to place `next`, and `rest` points are left.
pub record Along (s : List ℕ) (at k left next rest i : ℕ) : Type 0 where
  pub turn : i ≤ k
  pub had : List Tree
  pub place : next ≡ at + points had
  pub points_left : rest + points had ≡ left
  pub further : read_trees k left (drop at s) ≡ mapped (had ++◌) (read_trees (k - i) rest (drop next s))

pub along-start : (s : List ℕ) (at k left : ℕ) → Along s at k left at left 0
along-start s at k left =
    record {
      turn = omega arith;
      had = [];
      place = omega arith;
      points_left = omega arith;
      further = rw sub-zero (mapped-none (read_trees k left (drop at s)));
    }

-- what a reply says of the result
pub tree_of : (at next : ℕ) (o : Result Tree) → walked at o ≡ Ok next → (t : Tree) × (o ≡ done t) × (next ≡ at + size t)
tree_of at next (done t) e = (t, refl, cc)
tree_of at next (fault c) e = clash cc

pub tree-fault : (at : ℕ) (c : Refusal) (o : Result Tree) → walked at o ≡ Err c → o ≡ fault c
tree-fault at c (done t) e = clash cc
tree-fault at c (fault d) e = ap fault cc

module _ {s : List ℕ} {at k left next rest i : ℕ} (w : Along s at k left next rest i) where
  turns : i < k → k - i ≡ suc (k - (i + 1))
  turns h = omega arith

  along-tree : (t : Tree) (end : ℕ) → read_tree (suc (rest + rest)) rest (drop next s) ≡ done t → end ≡ next + size t → i < k
      → Along s at k left end (rest - (end - next)) (i + 1)
  unfolding read_trees
  along-tree t end g z h =
      let m = (tree-read (suc (rest + rest)) rest (drop next s) t g).1 in
      let d : end - next ≡ size t = omega arith in
      let q = points-append w.had (t ∷ []) in
      record {
        turn = omega arith;
        had = w.had ++ (t ∷ []);
        place = omega (arith, w.place);
        points_left = omega (arith, w.points_left);
        further =
            w.further
            ∙ rw (turns h, g, drop-drop (size t) next s, d, z)
            (mapped-more w.had t (read_trees (k - (i + 1)) (rest - size t) (drop (next + size t) s)));
      }

  module _ (r : Read ℕ Refusal) (tree : (f : ℕ) → rest + rest < f → r ≡ walked next (read_tree f rest (drop next s))) (h : i < k) where
    here : walked next (read_tree (suc (rest + rest)) rest (drop next s)) ≡ r
    here = sym (tree (suc (rest + rest)) (omega arith))

    -- one more tree
    pub along-next : (end : ℕ) → r ≡ Ok end → Along s at k left end (rest - (end - next)) (i + 1)
    along-next end e =
        let g = tree_of next end (read_tree (suc (rest + rest)) rest (drop next s)) (here ∙ e) in
        along-tree g.0 end g.1 g.2 h

    -- a tree that is refused
    pub along-refused : (c : Refusal) → r ≡ Err c → Err c ≡ walked_all at (read_trees k left (drop at s))
    unfolding read_trees
    along-refused c e =
        let g = tree-fault next c (read_tree (suc (rest + rest)) rest (drop next s)) (here ∙ e) in
        rw (w.further, turns h, g)

  -- no tree is left to read
  pub along-end : k ≤ i → Ok next ≡ walked_all at (read_trees k left (drop at s))
  unfolding read_trees
  along-end h =
      let z : k - i ≡ 0 = omega arith in
      let n : next ≡ at + points w.had = w.place in
      rw (w.further, z, append-nil w.had) (ap Ok n)

-- One component, by the number of its trees.
module _ (s : List ℕ) (at left : ℕ) where
  pub component-ended : length s ≤ at → Err Truncated ≡ walked_all (at + 1) (read_component left (drop at s))
  unfolding read_component
  component-ended h = rw (drop_of_length-le s {i = at} h)

  pub component-empty : at < length s → get_or s at 0 ≡ 0 → Err Sizes ≡ walked_all (at + 1) (read_component left (drop at s))
  unfolding read_component
  component-empty h e = rw (drop-one 0 s at h, e)

  pub component-large : at < length s → 0 < get_or s at 0 → left < get_or s at 0 → Err Sizes ≡ walked_all (at + 1) (read_component left (drop at s))
  unfolding read_component
  component-large h p e = rw (drop-one 0 s at h, ne_eqb (get_or s at 0) 0 (λ z. omega arith), lt-ltb left (get_or s at 0) e)

  pub component-trees : at < length s → 0 < get_or s at 0 → get_or s at 0 ≤ left
      → walked_all (at + 1) (read_trees (get_or s at 0) left (drop (at + 1) s)) ≡ walked_all (at + 1) (read_component left (drop at s))
  unfolding read_component
  component-trees h p e = rw (drop-one 0 s at h, ne_eqb (get_or s at 0) 0 (λ z. omega arith), le-ltb left (get_or s at 0) e)
