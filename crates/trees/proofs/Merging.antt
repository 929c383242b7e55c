-- Two neighbouring trees behind i points, in memory: where they stand, and what their merges are.
use mathlib.Core.Path.{◌≡◌, refl, ap, ap₂, sym, ◌∙◌}
use mathlib.Core.List.{List, ◌∷◌, ◌++◌, append_assoc}
use Prim.Native.Nat.{ℕ, ◌+◌, ◌-◌, ◌≤◌, ◌<◌, compare}
use native.Mathlib.Omega.{arith}
use lib.ListN.{length, get_or, set, take, drop, replicate, length-append, length-drop, length-replicate}
use lib.Seq.{take_at, drop_at, get_or_at, set_at, drop-append-add, drop-append-le}
use Rattle.lists.specs.Order.{lex, at_most}
use Rattle.lists.specs.Blocks.{exchanged}
use Rattle.lists.proofs.Blocks.{exchanged-parts}
use Rattle.patterns.specs.Tree.{Tree, point, merge, size, below, code, compare_tree, last_at_most}
use Rattle.patterns.specs.Component.{Component, flat}
use Rattle.patterns.proofs.Trees.{size-positive, length-below, length-code}
use Rattle.trees.specs.Beginnings.{last_start}
use Rattle.trees.proofs.Walks.{flat-points, last_start-within}
use Rattle.trees.specs.HeldNeighbours.{HeldNeighbours}

module _ (s : List ℕ) (i : ℕ) (t u : Tree) (c : Component) (is : s ≡ flat (replicate i point ++ (t ∷ u ∷ c))) where
  abbrev front : List ℕ
  front = replicate i 1

  ones : length front ≡ i
  ones = length-replicate i 1

  parts : s ≡ front ++ (code t ++ (code u ++ flat c))
  parts = is ∙ flat-points i (t ∷ u ∷ c)

  this-before : s ≡ (front ++ code t) ++ (code u ++ flat c)
  this-before = parts ∙ sym (append_assoc (front) (code t) (code u ++ flat c))

  this-length : length (front ++ code t) ≡ i + size t
  this-length = omega (arith, length-append (front) (code t), length-code t, ones)

  -- the first number of the first tree, and of the second
  pub this-size : get_or s i 0 ≡ size t
  this-size = ap (λ l. get_or l i 0) parts ∙ get_or_at (front) (size t) (below t ++ (code u ++ flat c)) 0 i ones

  pub that-size : get_or s (i + get_or s i 0) 0 ≡ size u
  that-size =
      ap₂ (λ l k. get_or l (i + k) 0) this-before this-size
      ∙ get_or_at (front ++ code t) (size u) (below u ++ flat c) 0 (i + size t) this-length

  -- both trees stand in s
  pub pair_fits : (0 < size t) × (0 < size u) × (i + size t + size u ≤ length s)
  pair_fits = (
    size-positive t,
    size-positive u,
    omega (arith, ap length this-before, length-append (front ++ code t) (code u ++ flat c), this-length, length-append (code u) (flat c), length-code u),
  )

  -- each tree is a stretch of s
  pub this-stretch : take (i + get_or s i 0 - i) (drop i s) ≡ code t
  this-stretch =
      let n : i + get_or s i 0 - i ≡ size t = omega (arith, this-size) in
      ap₂ (λ k l. take k (drop i l)) n parts
      ∙ ap (take (size t)) (drop_at front (code t ++ (code u ++ flat c)) i ones)
      ∙ take_at (code t) (code u ++ flat c) (size t) (length-code t)

  pub that-stretch : let j = i + get_or s i 0 in take (j + get_or s j 0 - j) (drop j s) ≡ code u
  that-stretch =
      let j = i + get_or s i 0 in
      let n : j + get_or s j 0 - j ≡ size u = omega (arith, that-size) in
      let m : length (front ++ code t) ≡ j = omega (arith, this-length, this-size) in
      ap₂ (λ k l. take k (drop j l)) n this-before
      ∙ ap (take (size u)) (drop_at (front ++ code t) (code u ++ flat c) j m)
      ∙ take_at (code u) (flat c) (size u) (length-code u)

  -- the left merge changes the first number of the first tree
  pub merged-left : set s i (get_or s i 0 + get_or s (i + get_or s i 0) 0) ≡ flat (replicate i point ++ (merge t u ∷ c))
  merged-left =
      let v = size t + size u in
      ap₂ (λ l k. set l i k) parts (ap₂ ◌+◌ this-size that-size)
      ∙ set_at front (size t) (below t ++ (code u ++ flat c)) v i ones
      ∙ ap (λ l. front ++ (v ∷ l)) (sym (append_assoc (below t) (code u) (flat c)))
      ∙ sym (flat-points i (merge t u ∷ c))

  -- the two trees exchanged
  pub pair-exchanged : let j = i + get_or s i 0 in exchanged i j (j + get_or s j 0) s ≡ front ++ (code u ++ (code t ++ flat c))
  pair-exchanged =
      let j = i + get_or s i 0 in
      let e = j + get_or s j 0 in
      ap (λ l. exchanged i j e l) parts
      ∙ exchanged-parts front (code t) (code u) (flat c) i j e ones (omega (arith, length-code t, this-size)) (omega (arith, length-code u, that-size))

  -- the right merge exchanges the two and changes the first number
  pub merged-right : let j = i + get_or s i 0 in set (exchanged i j (j + get_or s j 0) s) i (get_or s j 0 + get_or s i 0) ≡ flat (replicate i point ++ (merge u t ∷ c))
  merged-right =
      let v = size u + size t in
      ap₂ (λ l k. set l i k) pair-exchanged (ap₂ ◌+◌ that-size this-size)
      ∙ set_at front (size u) (below u ++ (code t ++ flat c)) v i ones
      ∙ ap (λ l. front ++ (v ∷ l)) (sym (append_assoc (below u) (code t) (flat c)))
      ∙ sym (flat-points i (merge u t ∷ c))

  -- the last branch of the second, if it has one, is the end of its stretch
  pub last-stretch : let j = i + get_or s i 0 in let l = j + last_start u in take (j + get_or s j 0 - l) (drop l s) ≡ drop (last_start u) (code u)
  last-stretch =
      let j = i + get_or s i 0 in
      let k = last_start u in
      let h : k ≤ length (code u) = omega (arith, last_start-within u, length-code u) in
      let m : length (front ++ code t) ≡ j = omega (arith, this-length, this-size) in
      let n : length (drop k (code u)) ≡ j + get_or s j 0 - (j + k) = omega (arith, that-size, length-code u, length-drop k (code u)) in
      ap (take (j + get_or s j 0 - (j + k)))
      (ap (drop (j + k)) this-before
      ∙ ap (λ q. drop (q + k) ((front ++ code t) ++ (code u ++ flat c))) (sym m)
      ∙ drop-append-add (front ++ code t) (code u ++ flat c) k
      ∙ drop-append-le k (code u) (flat c) h)
      ∙ take_at (drop k (code u)) (flat c) (j + get_or s j 0 - (j + k)) n

-- the last branch of a tree is the end of its code: nothing where it has none
pub last-branch-at_most : (u t : Tree) → at_most (lex compare) (drop (last_start u) (code u)) (code t) ≡ last_at_most u t
unfolding last_at_most compare_tree
last-branch-at_most point t = refl
last-branch-at_most (merge x v) t =
    ap (λ l. at_most (lex compare) l (code t)) (drop_at ((size x + size v) ∷ below x) (code v) (size x) (length-below x))

-- the two trees of a pair have points, and stand within the bytes
pub record Reach (s : List ℕ) (i : ℕ) (out : List ℕ) : Type 0 where
  pub this_some : 0 < get_or s i 0
  pub that_some : 0 < get_or s (i + get_or s i 0) 0
  pub within : i + get_or s i 0 + get_or s (i + get_or s i 0) 0 ≤ length s
  pub small : length s ≤ 200
  pub room : length out ≡ length s

pub reach : {s : List ℕ} {i : ℕ} {out : List ℕ} → HeldNeighbours s i out → Reach s i out
reach {s} {i} p =
    let n = this-size s i p.this p.that p.after p.is in
    let m = that-size s i p.this p.that p.after p.is in
    let f = pair_fits s i p.this p.that p.after p.is in
    record { this_some = omega arith; that_some = omega arith; within = omega arith; small = p.small; room = p.room }
