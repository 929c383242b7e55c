-- What the tests of a left and of a right merge of two neighbours say of the child at its place.
use mathlib.Core.Path.{◌≡◌, refl, ap, ap₂, sym, ◌∙◌, subst}
use mathlib.Core.Bool.{Bool, true, false, not, cond, ◌&&◌}
use mathlib.Core.List.{List, [], ◌∷◌, ◌++◌}
use Prim.Native.Nat.{ℕ, suc, ◌+◌, ◌-◌, ◌≤◌, compare}
use native.Mathlib.Omega.{arith}
use lib.ListN.{length, get_or, take, drop, replicate, length-append}
use Rattle.lists.specs.Order.{lex, at_most}
use Rattle.lists.specs.Select.{first}
use Rattle.lists.proofs.Tests.{no_both}
use Rattle.patterns.specs.Tree.{point, merge, code, compare_tree, last_at_most}
use Rattle.patterns.specs.Component.{Component, flat}
use Rattle.patterns.proofs.Trees.{flat-injective}
use Rattle.trees.specs.Beginnings.{last_start}
use Rattle.trees.proofs.Walks.{last_start-within}
use Rattle.component_theory.proofs.Keys.{is_least}
use Rattle.component_theory.specs.ChildPlaces.{child_at}
use Rattle.component_theory.proofs.ChildPlaces.{child_at-left, child_at-right}
use Rattle.children.specs.Candidates.{Gave, HeldCandidate}
use Rattle.trees.proofs.Merging.{that-size, this-stretch, that-stretch, last-stretch, last-branch-at_most}

-- a candidate that passes is given
pub gave-candidate : (b : Bool) (d : Component) (r : Bool) (x : List ℕ) → r ≡ b → (b ≡ true → x ≡ flat d) → Gave (first (cond b (d ∷ []) [])) r x
gave-candidate true d r x e f = (e, f refl)
gave-candidate false d r x e f = e

module _ {s : List ℕ} {i : ℕ} {out : List ℕ} (p : HeldCandidate s i out) where
  abbrev pub whole : Component
  whole = replicate i point ++ (p.pair.this ∷ p.pair.that ∷ p.pair.after)

  abbrev pub left_merge : Component
  left_merge = replicate i point ++ (merge p.pair.this p.pair.that ∷ p.pair.after)

  abbrev pub right_merge : Component
  right_merge = replicate i point ++ (merge p.pair.that p.pair.this ∷ p.pair.after)

  -- the stretches of the two trees, and of the last branch of the second
  abbrev pub this_part : List ℕ
  this_part = take (i + get_or s i 0 - i) (drop i s)

  abbrev pub that_part : List ℕ
  that_part = let j = i + get_or s i 0 in take (j + get_or s j 0 - j) (drop j s)

  abbrev pub last_part : ℕ → List ℕ
  last_part k = let j = i + get_or s i 0 in take (j + get_or s j 0 - (j + k)) (drop (j + k) s)

  pub trees_are : (c : Component) → s ≡ flat c → whole ≡ c
  trees_are c e = flat-injective whole c (sym p.pair.is ∙ e)

  this-is : this_part ≡ code p.pair.this
  this-is = this-stretch s i p.pair.this p.pair.that p.pair.after p.pair.is

  pub that-is : that_part ≡ code p.pair.that
  that-is = that-stretch s i p.pair.this p.pair.that p.pair.after p.pair.is

  in_order : at_most (lex compare) this_part that_part ≡ at_most compare_tree p.pair.this p.pair.that
  unfolding compare_tree
  in_order = ap₂ (at_most (lex compare)) this-is that-is

  turned-order : at_most (lex compare) that_part this_part ≡ at_most compare_tree p.pair.that p.pair.this
  unfolding compare_tree
  turned-order = ap₂ (at_most (lex compare)) that-is this-is

  last-order : (k : ℕ) → k ≡ last_start p.pair.that → at_most (lex compare) (last_part k) this_part ≡ last_at_most p.pair.that p.pair.this
  last-order k e =
      ap₂ (at_most (lex compare)) (ap last_part e ∙ last-stretch s i p.pair.this p.pair.that p.pair.after p.pair.is) this-is
      ∙ last-branch-at_most p.pair.that p.pair.this

  pub last_within : (k : ℕ) → k ≡ last_start p.pair.that → k ≤ get_or s (i + get_or s i 0) 0
  last_within k e = omega (arith, last_start-within p.pair.that, that-size s i p.pair.this p.pair.that p.pair.after p.pair.is)

  two : length whole ≡ suc (length whole - 1)
  two = omega (arith, length-append (replicate i point) (p.pair.this ∷ p.pair.that ∷ p.pair.after))

  module _ (c : Component) (e : s ≡ flat c) where
    left-gave : (b : Bool) → (at_most compare_tree p.pair.this p.pair.that && is_least left_merge) ≡ b
        → (r : Bool) (x : List ℕ) → r ≡ b → (b ≡ true → x ≡ flat left_merge) → Gave (first (child_at c i)) r x
    left-gave b h r x f g =
        subst (λ l. Gave (first l) r x)
        (sym (ap (λ k. child_at k i) (sym (trees_are c e))
        ∙ child_at-left whole p.valid (length whole - 1) two i p.pair.this p.pair.that p.pair.after refl
        ∙ ap (λ q. cond q (left_merge ∷ []) []) h))
        (gave-candidate b left_merge r x f g)

    -- the first tree is greater: the left merge is no child
    pub left-refused : at_most (lex compare) this_part that_part ≡ false → (x : List ℕ) → Gave (first (child_at c i)) false x
    left-refused h x = left-gave false (ap (λ b. b && is_least left_merge) (sym in_order ∙ h)) false x refl (λ q. no_both q refl)

    -- otherwise it is one if no rotation of it is less
    pub left-tested : at_most (lex compare) this_part that_part ≡ true → (r : Bool) (x : List ℕ) → r ≡ is_least left_merge → x ≡ flat left_merge
        → Gave (first (child_at c i)) r x
    left-tested h r x f g = left-gave (is_least left_merge) (ap (λ b. b && is_least left_merge) (sym in_order ∙ h)) r x f (λ q. g)

    module _ (n : ℕ) (l : length c ≡ suc n) where
      right-gave : (b : Bool) → (not (at_most compare_tree p.pair.that p.pair.this) && last_at_most p.pair.that p.pair.this && is_least right_merge) ≡ b
          → (r : Bool) (x : List ℕ) → r ≡ b → (b ≡ true → x ≡ flat right_merge) → Gave (first (child_at c (n + i))) r x
      right-gave b h r x f g =
          subst (λ m. Gave (first m) r x)
          (sym (ap (λ k. child_at k (n + i)) (sym (trees_are c e))
          ∙ child_at-right whole p.valid n (ap length (trees_are c e) ∙ l) i p.pair.this p.pair.that p.pair.after refl
          ∙ ap (λ q. cond q (right_merge ∷ []) []) h))
          (gave-candidate b right_merge r x f g)

      -- the second tree is not greater: the right merge is no child, or the left merge too
      pub right-refused : at_most (lex compare) that_part this_part ≡ true → (x : List ℕ) → Gave (first (child_at c (n + i))) false x
      right-refused h x =
          right-gave false (ap (λ b. not b && last_at_most p.pair.that p.pair.this && is_least right_merge) (sym turned-order ∙ h)) false x refl (λ q. no_both q refl)

      module _ (h : at_most (lex compare) that_part this_part ≡ false) (k : ℕ) (at : k ≡ last_start p.pair.that) where
        -- the last branch of the second is greater than the first: the right merge is no valid tree
        pub right-unsorted : at_most (lex compare) (last_part k) this_part ≡ false → (x : List ℕ) → Gave (first (child_at c (n + i))) false x
        right-unsorted f x =
            right-gave false
            (ap₂ (λ a b. not a && b && is_least right_merge) (sym turned-order ∙ h) (sym (last-order k at) ∙ f))
            false x refl (λ q. no_both q refl)

        -- otherwise it is a child if no rotation of it is less
        pub right-tested : at_most (lex compare) (last_part k) this_part ≡ true → (r : Bool) (x : List ℕ) → r ≡ is_least right_merge → x ≡ flat right_merge
            → Gave (first (child_at c (n + i))) r x
        right-tested f r x g m =
            right-gave (is_least right_merge)
            (ap₂ (λ a b. not a && b && is_least right_merge) (sym turned-order ∙ h) (sym (last-order k at) ∙ f))
            r x g (λ q. m)
