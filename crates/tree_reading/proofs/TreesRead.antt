-- The readers of trees and of branches, by what stands at a place.
use Rattle.std.specs.Prelude.{Result as Read, Ok, Err}
use mathlib.Core.Path.{◌≡◌, refl, ap, sym, ◌∙◌}
use mathlib.Core.List.{List, ◌∷◌}
use Prim.Native.Nat.{ℕ, zero, suc, ◌+◌, ◌-◌, ◌≤◌, ◌<◌}
use native.Mathlib.Omega.{arith}
use lib.ListN.{length, drop, get_or, drop_of_length-le}
use lib.Seq.{drop-drop}
use borrow.Author.Tests.{lt-ltb, le-ltb, eq-eqb, ne_eqb}
use Rattle.lists.proofs.Tests.{clash}
use Rattle.lists.proofs.Places.{drop-one}
use Rattle.patterns.specs.declared.Refusal.{Refusal}
use Rattle.patterns.specs.declared.Refusal.TheVariants.{Truncated, Sizes}
use Rattle.patterns.specs.Tree.{Tree, size, graft}
use Rattle.patterns.specs.Component.{points}
use Rattle.patterns.specs.Reading.{Result, done, fault, and_then, mapped, read_tree, read_branches}
use Rattle.patterns.proofs.Trees.{size-positive, size-graft}
use Rattle.tree_reading.specs.Walking.{walked, walked_all}
use Rattle.form_theory.proofs.ReadFrom.{tree-read}

-- A tree, by its first number.
module _ (s : List ℕ) (at limit : ℕ) where
  pub tree-ended : (f : ℕ) → limit + limit < f → length s ≤ at → Err Truncated ≡ walked at (read_tree f limit (drop at s))
  unfolding read_tree
  tree-ended zero h e = absurd (omega arith)
  tree-ended (suc f) h e = rw (drop_of_length-le s {i = at} e)

  pub tree-empty : (f : ℕ) → limit + limit < f → at < length s → get_or s at 0 ≡ 0 → Err Sizes ≡ walked at (read_tree f limit (drop at s))
  unfolding read_tree
  tree-empty zero h k e = absurd (omega arith)
  tree-empty (suc f) h k e = rw (drop-one 0 s at k, e)

  pub tree-large : (f : ℕ) → limit + limit < f → at < length s → 0 < get_or s at 0 → limit < get_or s at 0 → Err Sizes ≡ walked at (read_tree f limit (drop at s))
  unfolding read_tree
  tree-large zero h k p e = absurd (omega arith)
  tree-large (suc f) h k p e = rw (drop-one 0 s at k, ne_eqb (get_or s at 0) 0 (λ z. omega arith), lt-ltb limit (get_or s at 0) e)

  -- as many points as the number says: the root and its branches
  pub tree-branches : (f : ℕ) (r : Read ℕ Refusal) → limit + limit < f → at < length s → 0 < get_or s at 0 → get_or s at 0 ≤ limit
      → ((g : ℕ) → get_or s at 0 - 1 + (get_or s at 0 - 1) + 1 < g → r ≡ walked_all (at + 1) (read_branches g (get_or s at 0 - 1) (drop (at + 1) s)))
      → r ≡ walked at (read_tree f limit (drop at s))
  unfolding read_tree
  tree-branches zero r h k p e w = absurd (omega arith)
  tree-branches (suc f) r h k p e w =
      w f (omega arith)
      ∙ rw (drop-one 0 s at k, ne_eqb (get_or s at 0) 0 (λ z. omega arith), le-ltb limit (get_or s at 0) e)
      (grafted (read_branches f (get_or s at 0 - 1) (drop (at + 1) s)))
    where
      grafted : (o : Result (List Tree)) → walked_all (at + 1) o ≡ walked at (mapped graft o)
      grafted (done bs) = let e : at + 1 + points bs ≡ at + size (graft bs) = omega (arith, size-graft bs) in ap Ok e
      grafted (fault c) = refl

  -- the place after a tree
  pub tree-past : (next : ℕ) → walked at (read_tree (suc (limit + limit)) limit (drop at s)) ≡ Ok next → (at < next) × (next - at ≤ limit)
  tree-past next e = of (read_tree (suc (limit + limit)) limit (drop at s)) refl e
    where
      of : (o : Result Tree) → read_tree (suc (limit + limit)) limit (drop at s) ≡ o → walked at o ≡ Ok next → (at < next) × (next - at ≤ limit)
      of (done t) p q =
          let z : at + size t ≡ next = cc in
          let g = tree-read (suc (limit + limit)) limit (drop at s) t p in
          (omega (arith, size-positive t), omega (arith, g.1))
      of (fault c) p q = clash cc

-- Branches, by the first of them.
module _ (s : List ℕ) (at left : ℕ) where
  pub branches-none : (f : ℕ) → left + left + 1 < f → left ≡ 0 → Ok at ≡ walked_all at (read_branches f left (drop at s))
  unfolding read_branches
  branches-none zero h e = absurd (omega arith)
  branches-none (suc f) h e = rw (eq-eqb left 0 e) (let z : at ≡ at + 0 = omega arith in ap Ok z)

  module _ (r : Read ℕ Refusal) (first : (f : ℕ) → left + left < f → r ≡ walked at (read_tree f left (drop at s))) where
    pub branches-refused : (f : ℕ) (c : Refusal) → left + left + 1 < f → 0 < left → r ≡ Err c → Err c ≡ walked_all at (read_branches f left (drop at s))
    unfolding read_branches
    branches-refused zero c h p e = absurd (omega arith)
    branches-refused (suc f) c h p e = rw (ne_eqb left 0 (λ z. omega arith)) (of (read_tree f left (drop at s)) _ (sym e ∙ first f (omega arith)))
      where
        of : (o : Result Tree) (g : Tree → Result (List Tree)) → Err c ≡ walked at o → Err c ≡ walked_all at (and_then o g)
        of (done t) g q = clash cc
        of (fault d) g q = q

    pub branches-next : (f : ℕ) (next : ℕ) (a : Read ℕ Refusal) → left + left + 1 < f → 0 < left → r ≡ Ok next
        → ((g : ℕ) → left - (next - at) + (left - (next - at)) + 1 < g → a ≡ walked_all next (read_branches g (left - (next - at)) (drop next s)))
        → a ≡ walked_all at (read_branches f left (drop at s))
    unfolding read_branches
    branches-next zero next a h p e w = absurd (omega arith)
    branches-next (suc f) next a h p e w =
        let q = tree-past s at left next (sym (first (suc (left + left)) (omega arith)) ∙ e) in
        w f (omega arith) ∙ rw (ne_eqb left 0 (λ z. omega arith)) (of (read_tree f left (drop at s)) (sym e ∙ first f (omega arith)))
      where
        joined : (t : Tree) (o : Result (List Tree)) → walked_all (at + size t) o ≡ walked_all at (mapped (t ∷◌) o)
        joined t (done bs) = let e : at + size t + points bs ≡ at + (size t + points bs) = omega arith in ap Ok e
        joined t (fault c) = refl

        of : (o : Result Tree) → Ok next ≡ walked at o
            → walked_all next (read_branches f (left - (next - at)) (drop next s))
            ≡ walked_all at (and_then o (λ t. mapped (t ∷◌) (read_branches f (left - size t) (drop (size t) (drop at s)))))
        of (done t) q =
            let z : next ≡ at + size t = cc in
            let d : next - at ≡ size t = omega arith in
            rw (drop-drop, d, z) (joined t (read_branches f (left - size t) (drop (at + size t) s)))
        of (fault d) q = clash cc

-- a tree of one point
pub tree-leaf : (s : List ℕ) (at limit : ℕ) (f : ℕ) → limit + limit < f → at < length s → get_or s at 0 ≤ limit → get_or s at 0 ≡ 1
    → Ok (at + 1) ≡ walked at (read_tree f limit (drop at s))
tree-leaf s at limit f h k e one =
    tree-branches s at limit f (Ok (at + 1)) h k (omega arith) e (λ g b. branches-none s (at + 1) (get_or s at 0 - 1) g b (omega arith))
