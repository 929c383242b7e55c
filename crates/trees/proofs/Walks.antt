-- Walking through bytes tree by tree: along the trees of a component, and inside a tree along its branches. Each walk is a record of what stands
-- behind and what stands ahead, with laws for its start, a step, and its end.
use mathlib.Core.Path.{◌≡◌, refl, ap, sym, ◌∙◌, subst}
use mathlib.Core.Bool.{true, false}
use mathlib.Core.List.{List, [], ◌∷◌, ◌++◌, append_assoc, append-nil}
use Prim.Native.Nat.{ℕ, zero, suc, ◌+◌, ◌-◌, ◌≤◌, ◌<◌, compare}
use native.Mathlib.Omega.{arith}
use lib.ListN.{length, get_or, take, drop, replicate, length-append}
use lib.Seq.{take_at, drop_at, get_or_at}
use Rattle.lists.specs.Order.{lex, at_most}
use Rattle.lists.proofs.Tests.{is_false, no_both}
use Rattle.patterns.specs.Tree.{Tree, point, merge, size, below, code, graft_on, compare_tree, last_at_most, valid_tree}
use Rattle.patterns.specs.Component.{Component, points, flat}
use Rattle.patterns.proofs.Trees.{size-positive, length-below, length-code, length-flat, points-append, flat_append, code-injective, flat-injective, valid-merge}
use Rattle.memory.specs.Memory.{Held}
use Rattle.trees.specs.Beginnings.{last_start}

-- the tree that begins at a place: its size is the number there, and its code the stretch of so many bytes
pub record Next (s : List ℕ) (at : ℕ) (rest : Component) : Type 0 where
  pub tree : Tree
  pub later : Component
  pub is : rest ≡ tree ∷ later
  pub number : get_or s at 0 ≡ size tree
  pub positive : 0 < size tree
  pub fits : at + size tree ≤ length s
  pub stretch : take (size tree) (drop at s) ≡ code tree

pub next-tree : (s front : List ℕ) (at : ℕ) (rest : Component) → s ≡ front ++ flat rest → length front ≡ at → at < length s → Next s at rest
next-tree s front at [] e h k = absurd (omega (arith, ap length e, length-append front (flat [])))
next-tree s front at (t ∷ later) e h k =
    let d : drop at s ≡ code t ++ flat later = ap (drop at) e ∙ drop_at front (code t ++ flat later) at h in
    record {
      tree = t;
      later = later;
      is = refl;
      number = ap (λ l. get_or l at 0) e ∙ get_or_at front (size t) (below t ++ flat later) 0 at h;
      positive = size-positive t;
      fits = omega (arith, ap length e, length-append front (code t ++ flat later), length-append (code t) (flat later), length-code t);
      stretch = ap (take (size t)) d ∙ take_at (code t) (flat later) (size t) (length-code t);
    }

-- the same stretch, by its two ends
pub next-stretch : {s : List ℕ} {at : ℕ} {rest : Component} (n : Next s at rest) → take (at + get_or s at 0 - at) (drop at s) ≡ code n.tree
next-stretch {s} {at} n =
    let q : at + get_or s at 0 - at ≡ size n.tree = omega (arith, n.number) in
    ap (λ k. take k (drop at s)) q ∙ n.stretch

-- points are ones
pub flat-points : (i : ℕ) (c : Component) → flat (replicate i point ++ c) ≡ replicate i 1 ++ flat c
flat-points zero c = refl
flat-points (suc i) c = ap (λ l. 1 ∷ l) (flat-points i c)

-- no bytes, no trees
pub no-trees : (c : Component) → points c ≡ 0 → c ≡ []
no-trees [] h = refl
no-trees (t ∷ c) h = absurd (omega (arith, size-positive t))

-- Along the trees of a component: `ahead` are the trees before the place, `rest` those from there on, and P holds of them.
pub record Along (s : List ℕ) (at : ℕ) (P : Component → Component → Type 0) : Type 0 where
  pub ahead : Component
  pub rest : Component
  pub cut : s ≡ flat (ahead ++ rest)
  pub place : at ≡ points ahead
  pub kept : P ahead rest

pub along-start : {s : List ℕ} (h : Held s) (P : Component → Component → Type 0) → P [] h.trees → Along s 0 P
along-start h P p = record { ahead = []; rest = h.trees; cut = h.is; place = refl; kept = p }

module _ {s : List ℕ} {at : ℕ} {P : Component → Component → Type 0} (w : Along s at P) where
  pub along-parts : s ≡ flat w.ahead ++ flat w.rest
  along-parts = w.cut ∙ flat_append w.ahead w.rest

  pub along-length : length s ≡ at + points w.rest
  along-length = omega (arith, ap length w.cut, length-flat (w.ahead ++ w.rest), points-append w.ahead w.rest, w.place)

  pub along-next : at < length s → Next s at w.rest
  along-next h = next-tree s (flat w.ahead) at w.rest along-parts (length-flat w.ahead ∙ sym w.place) h

  -- all trees, before the place and from there on
  pub along-whole : (c : Component) → s ≡ flat c → w.ahead ++ w.rest ≡ c
  along-whole c e = flat-injective (w.ahead ++ w.rest) c (sym w.cut ∙ e)

  -- one tree further
  pub along-step : (n : Next s at w.rest) (Q : Component → Component → Type 0) → Q (w.ahead ++ (n.tree ∷ [])) n.later → Along s (at + get_or s at 0) Q
  along-step n Q q = record {
    ahead = w.ahead ++ (n.tree ∷ []);
    rest = n.later;
    cut = w.cut ∙ ap (λ l. flat (w.ahead ++ l)) n.is ∙ sym (ap flat (append_assoc w.ahead (n.tree ∷ []) n.later));
    place = omega (arith, w.place, n.number, points-append w.ahead (n.tree ∷ []));
    kept = q;
  }

  -- at the end P holds of the whole component
  pub along-end : length s ≤ at → (c : Component) → s ≡ flat c → P c []
  along-end h c e =
      let r : w.rest ≡ [] = no-trees w.rest (omega (arith, along-length)) in
      let q : w.ahead ≡ c = sym (append-nil w.ahead) ∙ ap (λ l. w.ahead ++ l) (sym r) ∙ along-whole c e in
      subst (λ a. P a []) q (subst (λ l. P w.ahead l) r w.kept)

-- Inside a tree along its branches: `had` is the tree with the branches before the place alone, `rest` are the branches from there on.
pub below-graft_on : (t : Tree) (us : Component) → below (graft_on t us) ≡ below t ++ flat us
below-graft_on t [] = sym (append-nil (below t))
below-graft_on t (u ∷ us) = below-graft_on (merge t u) us ∙ append_assoc (below t) (code u) (flat us)

pub graft_on-valid : (t : Tree) (us : Component) → valid_tree (graft_on t us) ≡ true → valid_tree t ≡ true
graft_on-valid t [] e = e
graft_on-valid t (u ∷ us) e = (valid-merge t u (graft_on-valid (merge t u) us e)).0

pub record Inside (s : List ℕ) (last at : ℕ) (P : Tree → Type 0) : Type 0 where
  pub had : Tree
  pub rest : Component
  pub cut : s ≡ code (graft_on had rest)
  pub place : at ≡ size had
  pub from : last ≡ last_start had
  pub kept : P had

module _ {s : List ℕ} {last at : ℕ} {P : Tree → Type 0} (w : Inside s last at P) where
  pub inside-parts : s ≡ (size (graft_on w.had w.rest) ∷ below w.had) ++ flat w.rest
  inside-parts = w.cut ∙ ap (λ l. size (graft_on w.had w.rest) ∷ l) (below-graft_on w.had w.rest)

  pub inside-length : length s ≡ at + points w.rest
  inside-length =
      omega (arith, ap length inside-parts, length-append (below w.had) (flat w.rest), length-below w.had, length-flat w.rest, w.place)

  pub inside-next : at < length s → Next s at w.rest
  inside-next h =
      next-tree s (size (graft_on w.had w.rest) ∷ below w.had) at w.rest inside-parts (length-below w.had ∙ sym w.place) h

  pub inside-whole : (t : Tree) → s ≡ code t → graft_on w.had w.rest ≡ t
  inside-whole t e = code-injective (graft_on w.had w.rest) t (sym w.cut ∙ e)

  -- one branch further
  pub inside-step : (n : Next s at w.rest) (Q : Tree → Type 0) → Q (merge w.had n.tree) → Inside s at (at + get_or s at 0) Q
  inside-step n Q q = record {
    had = merge w.had n.tree;
    rest = n.later;
    cut = w.cut ∙ ap (λ l. code (graft_on w.had l)) n.is;
    place = omega (arith, w.place, n.number);
    from = w.place;
    kept = q;
  }

  -- at the end the branches had are all
  pub inside-end : length s ≤ at → (t : Tree) → s ≡ code t → w.had ≡ t
  inside-end h t e =
      let r : w.rest ≡ [] = no-trees w.rest (omega (arith, inside-length)) in
      ap (graft_on w.had) (sym r) ∙ inside-whole t e

-- the last branch had is the stretch before the place
pub last-stretch : (s : List ℕ) (last at : ℕ) (had : Tree) (rest : Component) (u : Tree) → s ≡ code (graft_on had rest) → at ≡ size had → last ≡ last_start had
    → at_most (lex compare) (take (at - last) (drop last s)) (code u) ≡ last_at_most had u
unfolding last_at_most compare_tree
last-stretch s last at point rest u e h k =
    let q : at - last ≡ 0 = omega arith in
    ap (λ n. at_most (lex compare) (take n (drop last s)) (code u)) q
last-stretch s last at (merge t v) rest u e h k =
    let n = size (graft_on (merge t v) rest) in
    let parts : s ≡ (n ∷ below t) ++ (code v ++ flat rest) =
    e ∙ ap (λ l. n ∷ l) (below-graft_on (merge t v) rest ∙ append_assoc (below t) (code v) (flat rest)) in
    let d : drop last s ≡ code v ++ flat rest =
    ap (drop last) parts ∙ drop_at (n ∷ below t) (code v ++ flat rest) last (length-below t ∙ sym k) in
    let q : take (at - last) (drop last s) ≡ code v =
    ap (take (at - last)) d ∙ take_at (code v) (flat rest) (at - last) (omega (arith, length-code v)) in
    ap (λ l. at_most (lex compare) l (code u)) q

-- Valid trees: the walk stops where a branch is invalid or less than the one before it.
pub last_start-within : (t : Tree) → last_start t ≤ size t
last_start-within point = omega arith
last_start-within (merge t u) = omega arith

pub merge-invalid : (t u : Tree) → valid_tree u ≡ false → valid_tree (merge t u) ≡ false
merge-invalid t u e = is_false (valid_tree (merge t u)) (λ v. no_both (valid-merge t u v).1 e)

pub merge-unordered : (t u : Tree) → last_at_most t u ≡ false → valid_tree (merge t u) ≡ false
merge-unordered t u e = is_false (valid_tree (merge t u)) (λ v. no_both (valid-merge t u v).2 e)

module _ {s : List ℕ} {last at : ℕ} {P : Tree → Type 0} (w : Inside s last at P) where
  pub inside-last : last ≤ at
  inside-last = omega (arith, last_start-within w.had, w.place, w.from)

  -- comparing the branch before the place with the branch at it
  pub inside-order : (n : Next s at w.rest)
      → at_most (lex compare) (take (at - last) (drop last s)) (take (at + get_or s at 0 - at) (drop at s)) ≡ last_at_most w.had n.tree
  inside-order n =
      ap (at_most (lex compare) (take (at - last) (drop last s))) (next-stretch n)
      ∙ last-stretch s last at w.had w.rest n.tree w.cut w.place w.from

  -- with the branch at the place the tree is invalid
  pub inside-fails : (n : Next s at w.rest) → valid_tree (merge w.had n.tree) ≡ false → (t : Tree) → s ≡ code t → false ≡ valid_tree t
  inside-fails n f t e =
      let q : graft_on (merge w.had n.tree) n.later ≡ t = ap (graft_on w.had) (sym n.is) ∙ inside-whole w t e in
      sym (is_false (valid_tree t) (λ v. no_both (graft_on-valid (merge w.had n.tree) n.later (ap valid_tree q ∙ v)) f))
