-- A step up in memory: the leftmost tree of more than one point begins at the number of leading points; subtracting the size of its last branch from its
-- first number leaves its two parts one after the other, and they are exchanged where the second is the lesser.
use mathlib.Core.Path.{◌≡◌, refl, ap, ap₂, sym, ◌∙◌}
use mathlib.Core.Bool.{true, false}
use mathlib.Core.List.{List, [], ◌∷◌, ◌++◌, append_assoc}
use Prim.Native.Nat.{ℕ, ◌+◌, ◌-◌, ◌≤◌, ◌<◌, compare}
use native.Mathlib.Omega.{arith}
use lib.ListN.{length, get_or, set, take, drop, replicate, length-append, length-replicate}
use lib.Seq.{take_at, drop_at, get_or_at, set_at}
use Rattle.lists.specs.Order.{lex, at_most}
use Rattle.lists.specs.Select.{place}
use Rattle.lists.specs.Blocks.{exchanged}
use Rattle.lists.proofs.Blocks.{exchanged-parts}
use Rattle.patterns.specs.Tree.{Tree, point, merge, size, below, code, compare_tree}
use Rattle.patterns.specs.Component.{Component, points, flat, compare_component}
use Rattle.patterns.specs.Generation.{has_parent, parent, candidates}
use Rattle.patterns.proofs.Trees.{size-positive, length-below, length-code, length-flat}
use Rattle.trees.specs.Beginnings.{leading_points}
use Rattle.trees.proofs.Walks.{flat-points}
use Rattle.components.specs.Climbs.{Climbed}
use Rattle.std.proofs.Common.{Some}
use Rattle.component_theory.proofs.Lemma8.{lead-has_parent, parent-lead}
use Rattle.component_theory.proofs.Keys.{ordered-kept, key_left, key_right}

-- only points: no parent
pub climbed-root : (s : List ℕ) (h : ℕ) (c : Component) → s ≡ flat c → h ≡ leading_points c → length s ≤ h → has_parent c ≡ false
climbed-root s h c e q k = only c (omega (arith, ap length e, length-flat c))
  where
    only : (c : Component) → points c ≤ leading_points c → has_parent c ≡ false
    only [] i = refl
    only (point ∷ c) i = only c (omega arith)
    only (merge t u ∷ c) i = absurd (omega (arith, size-positive t))

-- c begins with h points, and then comes `merge left right`
pub record Led (c : Component) (h : ℕ) : Type 0 where
  pub left : Tree
  pub right : Tree
  pub rest : Component
  pub trees : c ≡ replicate h point ++ (merge left right ∷ rest)

led : (c : Component) → leading_points c < points c → Led c (leading_points c)
led [] i = absurd (omega arith)
led (point ∷ c) i =
    let v = led c (omega arith) in
    record { left = v.left; right = v.right; rest = v.rest; trees = ap (λ k. point ∷ k) v.trees }
led (merge t u ∷ c) i = record { left = t; right = u; rest = c; trees = refl }

pub led-at : (s : List ℕ) (h : ℕ) (c : Component) → s ≡ flat c → h ≡ leading_points c → h < length s → Led c h
led-at s h c e q k = rw q (led c (omega (arith, ap length e, length-flat c)))

-- the merged tree at h has its last branch b bytes further: both parts have points, and both stand within the bytes
pub record Cut (s : List ℕ) (h b : ℕ) : Type 0 where
  pub left_some : 0 < b
  pub right_some : 0 < get_or s (h + b) 0
  pub number : get_or s h 0 ≡ b + get_or s (h + b) 0
  pub fits : h + get_or s h 0 ≤ length s

-- leading points are leading ones
abbrev ones : ℕ → List ℕ
ones h = replicate h 1

length-ones : (h : ℕ) → length (ones h) ≡ h
length-ones h = length-replicate h 1

module _ {s : List ℕ} {h : ℕ} {c : Component} (v : Led c h) (e : s ≡ flat c) where
  abbrev t : Tree
  t = v.left

  abbrev u : Tree
  u = v.right

  abbrev r : Component
  r = v.rest

  whole : s ≡ ones h ++ (code (merge t u) ++ flat r)
  whole = e ∙ ap flat v.trees ∙ flat-points h (merge t u ∷ r)

  parts : s ≡ (ones h ++ ((size t + size u) ∷ below t)) ++ (code u ++ flat r)
  parts =
      whole
      ∙ ap (λ l. ones h ++ ((size t + size u) ∷ l)) (append_assoc (below t) (code u) (flat r))
      ∙ sym (append_assoc (ones h) ((size t + size u) ∷ below t) (code u ++ flat r))

  pub led-number : get_or s h 0 ≡ size t + size u
  led-number = ap (λ l. get_or l h 0) whole ∙ get_or_at (ones h) (size t + size u) (below (merge t u) ++ flat r) 0 h (length-ones h)

  pub led-fits : h + get_or s h 0 ≤ length s
  led-fits =
      omega (
        arith,
        led-number,
        ap length whole,
        length-append (ones h) (code (merge t u) ++ flat r),
        length-append (code (merge t u)) (flat r),
        length-code (merge t u),
        length-ones h,
      )

  pub led-stretch : take (h + get_or s h 0 - h) (drop h s) ≡ code (merge t u)
  led-stretch =
      let k : h + get_or s h 0 - h ≡ size (merge t u) = omega (arith, led-number) in
      ap₂ take k (ap (drop h) whole ∙ drop_at (ones h) (code (merge t u) ++ flat r) h (length-ones h))
      ∙ take_at (code (merge t u)) (flat r) (size (merge t u)) (length-code (merge t u))

  front_length : (n : ℕ) → length (ones h ++ (n ∷ below t)) ≡ h + size t
  front_length n = omega (arith, length-append (ones h) (n ∷ below t), length-ones h, length-below t)

  module _ {b : ℕ} (q : b ≡ size t) where
    pub led-second : get_or s (h + b) 0 ≡ size u
    led-second =
        ap (λ l. get_or l (h + b) 0) parts
        ∙ get_or_at (ones h ++ ((size t + size u) ∷ below t)) (size u) (below u ++ flat r) 0 (h + b) (front_length (size t + size u) ∙ ap (λ k. h + k) (sym q))

    pub led-cut : Cut s h b
    led-cut =
        let t_some = size-positive t in
        let u-some = size-positive u in
        record {
          left_some = omega (arith, q);
          right_some = omega (arith, led-second);
          number = omega (arith, led-number, led-second, q);
          fits = led-fits;
        }

    -- both parts, one after the other
    unmerged : set s h (get_or s h 0 - get_or s (h + b) 0) ≡ ones h ++ (code t ++ (code u ++ flat r))
    unmerged =
        let n : get_or s h 0 - get_or s (h + b) 0 ≡ size t = omega (arith, led-number, led-second) in
        ap₂ (λ l k. set l h k) whole n
        ∙ set_at (ones h) (size t + size u) (below (merge t u) ++ flat r) (size t) h (length-ones h)
        ∙ ap (λ l. ones h ++ (size t ∷ l)) (append_assoc (below t) (code u) (flat r))

    -- the bytes after the subtraction
    abbrev after : List ℕ
    after = set s h (get_or s h 0 - get_or s (h + b) 0)

    at_left : drop h after ≡ code t ++ (code u ++ flat r)
    at_left = ap (drop h) unmerged ∙ drop_at (ones h) (code t ++ (code u ++ flat r)) h (length-ones h)

    regrouped : after ≡ (ones h ++ code t) ++ (code u ++ flat r)
    regrouped = unmerged ∙ sym (append_assoc (ones h) (code t) (code u ++ flat r))

    left-length : length (ones h ++ code t) ≡ h + b
    left-length = front_length (size t) ∙ ap (λ k. h + k) (sym q)

    at_right : drop (h + b) after ≡ code u ++ flat r
    at_right = ap (drop (h + b)) regrouped ∙ drop_at (ones h ++ code t) (code u ++ flat r) (h + b) left-length

    -- comparing the two parts is comparing the two trees
    pub led-order : at_most (lex compare) (take (h + b - h) (drop h after)) (take (h + get_or s h 0 - (h + b)) (drop (h + b) after)) ≡ at_most compare_tree t u
    unfolding compare_tree
    led-order =
        let one : take (h + b - h) (drop h after) ≡ code t =
        ap (take (h + b - h)) at_left ∙ take_at (code t) (code u ++ flat r) (h + b - h) (omega (arith, length-code t)) in
        let two : take (h + get_or s h 0 - (h + b)) (drop (h + b) after) ≡ code u =
        ap (take (h + get_or s h 0 - (h + b))) at_right
        ∙ take_at (code u) (flat r) (h + get_or s h 0 - (h + b)) (omega (arith, length-code u, led-number)) in
        ap₂ (at_most (lex compare)) one two

    has : has_parent c ≡ true
    has = ap has_parent v.trees ∙ lead-has_parent h t u r

    -- the parts in order: a left merge
    pub climbed-left : at_most compare_tree t u ≡ true → Climbed c (Some h) after
    climbed-left k =
        let p : parent c ≡ replicate h point ++ (t ∷ u ∷ r) =
        ap parent v.trees ∙ parent-lead h t u r ∙ ap (λ l. replicate h point ++ l) (ordered-kept t u r k) in (
          has,
          unmerged ∙ sym (flat-points h (t ∷ u ∷ r)) ∙ sym (ap flat p),
          sym (ap (λ d. place compare_component d (candidates (parent d))) v.trees ∙ key_left h t u r k),
        )

    -- the blocks of the two parts change places
    swapped : exchanged h (h + b) (h + get_or s h 0) after ≡ ones h ++ (code u ++ (code t ++ flat r))
    swapped =
        let e = h + get_or s h 0 in
        ap (λ l. exchanged h (h + b) e l) unmerged
        ∙ exchanged-parts (ones h) (code t) (code u) (flat r) h (h + b) e (length-ones h) (omega (arith, length-code t))
        (omega (arith, length-code u, led-number))

    -- the second part is the lesser: a right merge
    pub climbed-right : {k : ℕ} → at_most compare_tree t u ≡ false → k ≡ length c → Climbed c (Some (k + h)) (exchanged h (h + b) (h + get_or s h 0) after)
    climbed-right {k} f g =
        let p : parent c ≡ replicate h point ++ (u ∷ t ∷ r) =
        ap parent v.trees ∙ parent-lead h t u r ∙ rw f in (
          has,
          swapped ∙ sym (flat-points h (u ∷ t ∷ r)) ∙ sym (ap flat p),
          ap (λ n. n + h) (g ∙ ap length v.trees)
              ∙ sym (ap (λ d. place compare_component d (candidates (parent d))) v.trees ∙ key_right h t u r f),
        )
