-- Finding the least rotation: comparing two rotations of a list in three pieces, and the walk over the places where trees begin.
use mathlib.Core.Path.{◌≡◌, refl, ap, ap₂, sym, ◌∙◌}
use mathlib.Core.Bool.{Bool, true, false}
use mathlib.Core.List.{List, [], ◌∷◌, ◌++◌, append_assoc, append-nil, head-eq_of_cons-eq}
use Prim.Native.Nat.{Ordering}
use Prim.Native.Nat.{ℕ, ◌+◌, ◌-◌, ◌≤◌, ◌<◌, compare}
use native.Mathlib.Omega.{arith}
use lib.Dec.{is_le, ltb}
use lib.ListN.{length, get_or, take, drop, length-drop, take-append-drop}
use lib.Seq.{take_all, drop-drop, take-append-add, length-take-le, take_at, drop_at}
use borrow.Author.Tests.{ltb-true, ltb-false}
use Rattle.std.specs.Ordering.{MatchOrdering, is_le as at_most_equal}
use Rattle.std.specs.declared.cmp.Ordering as cmp
use Rattle.std.specs.declared.cmp.Ordering.TheVariants.{Less, Equal, Greater}
use Rattle.lists.specs.Blocks.{ordering_of}
use Rattle.lists.specs.Order.{lex, then, at_most}
use Rattle.lists.specs.Select.{each}
use Rattle.lists.proofs.Lex.{lex-append}
use Rattle.lists.proofs.Tests.{by-test, either, each_member}
use Rattle.lists.proofs.Members.{in_list}
use Rattle.lists.proofs.Comparison.{then-assoc, at_most-self, at_most-turned, at_most-trans}
use Rattle.patterns.specs.Tree.{Tree, size}
use Rattle.patterns.specs.Component.{Component, points, flat, compare_component, rotations, nonempty}
use Rattle.patterns.proofs.Trees.{size-positive, length-flat, flat_append, points-append, compare_component-lawful, compare_component-flat}
use Rattle.patterns.proofs.Rotations.{cuts, rotation-append}
use Rattle.trees.proofs.Walks.{Along, Next, along-step, along-end, no-trees}
use Rattle.rotation.specs.LeastStart.{LeastStart}

-- an answer, and another one where it is equal
pub chained : (o r : cmp.Ordering) (w : Ordering) → MatchOrdering o (r ≡ Less) (ordering_of r ≡ w) (r ≡ Greater) → ordering_of r ≡ then (ordering_of o) w
chained Less r w h = ap ordering_of h
chained Equal r w h = h
chained Greater r w h = ap ordering_of h

pub is_le-ordering_of : (r : cmp.Ordering) → at_most_equal r ≡ is_le (ordering_of r)
is_le-ordering_of Less = refl
is_le-ordering_of Equal = refl
is_le-ordering_of Greater = refl

-- a part of a list, and what follows it
drop-part : {A : Type 0} (s : List A) (a e : ℕ) → a ≤ e → drop a s ≡ take (e - a) (drop a s) ++ drop e s
drop-part s a e h =
    let q : a + (e - a) ≡ e = omega arith in
    sym (take-append-drop (e - a) (drop a s)) ∙ ap (λ r. take (e - a) (drop a s) ++ r) (drop-drop (e - a) a s ∙ ap (λ k. drop k s) q)

take_part : {A : Type 0} (s : List A) (d b : ℕ) → d ≤ b → d ≤ length s → take b s ≡ take d s ++ take (b - d) (drop d s)
take_part s d b h k =
    let q : b ≡ length (take d s) + (b - d) = omega (arith, length-take-le d s k) in
    ap₂ take q (sym (take-append-drop d s)) ∙ take-append-add (take d s) (drop d s) (b - d)

drop-whole : {A : Type 0} (s : List A) (e : ℕ) → drop e s ≡ take (length s - e) (drop e s)
drop-whole s e = sym (take_all (length s - e) (drop e s) (omega (arith, length-drop e s)))

module _ (s : List ℕ) (a b : ℕ) (h : a ≤ b) (k : b ≤ length s) where
  abbrev n : ℕ
  n = length s

  abbrev d : ℕ
  d = b - a

  abbrev e : ℕ
  e = n - d

  -- two rotations in three pieces
  pieces : lex compare (drop a s ++ take a s) (drop b s ++ take b s)
      ≡ then (lex compare (take (e - a) (drop a s)) (take (n - b) (drop b s)))
      (then (lex compare (take (n - e) (drop e s)) (take d s)) (lex compare (take a s) (take (b - d) (drop d s))))
  pieces =
      let A1 : List ℕ = take (e - a) (drop a s) in
      let A2 : List ℕ = take (n - e) (drop e s) in
      let A3 : List ℕ = take a s in
      let B1 : List ℕ = take (n - b) (drop b s) in
      let B2 : List ℕ = take d s in
      let B3 : List ℕ = take (b - d) (drop d s) in
      let one : drop a s ++ A3 ≡ A1 ++ (A2 ++ A3) =
      ap (λ l. l ++ A3) (drop-part s a e (omega arith) ∙ ap (λ l. A1 ++ l) (drop-whole s e)) ∙ append_assoc A1 A2 A3 in
      let two : drop b s ++ take b s ≡ B1 ++ (B2 ++ B3) = ap₂ ◌++◌ (drop-whole s b) (take_part s d b (omega arith) (omega arith)) in
      ap₂ (lex compare) one two
      ∙ lex-append compare A1 B1 (A2 ++ A3) (B2 ++ B3)
      (length-take-le (e - a) (drop a s) (omega (arith, length-drop a s)) ∙ piece ∙ sym (length-take-le (n - b) (drop b s) (omega (arith, length-drop b s))))
      ∙ ap (then (lex compare A1 B1))
      (lex-append compare A2 B2 A3 B3
      (length-take-le (n - e) (drop e s) (omega (arith, length-drop e s)) ∙ piece₂ ∙ sym (length-take-le d s (omega arith))))
    where
      piece : e - a ≡ n - b
      piece = omega arith

      piece₂ : n - e ≡ d
      piece₂ = omega arith

  abbrev whole : Bool
  whole = at_most (lex compare) (drop a s ++ take a s) (drop b s ++ take b s)

  abbrev pub one : Ordering
  one = lex compare (take (e - a) (drop a s)) (take (n - b) (drop b s))

  abbrev pub two : Ordering
  two = lex compare (take (n - e) (drop e s)) (take d s)

  abbrev pub three : Ordering
  three = lex compare (take a s) (take (b - d) (drop d s))

  -- the three pieces, compared one after another
  pub between : is_le (then (then one two) three) ≡ whole
  between = ap is_le (then-assoc one two three ∙ sym pieces)

-- the bytes turned to begin at a place where a tree begins are those of the trees turned
turned-flat : (s : List ℕ) (p : ℕ) (x y : Component) → s ≡ flat (x ++ y) → p ≡ points x → drop p s ++ take p s ≡ flat (y ++ x)
turned-flat s p x y q h =
    let w : s ≡ flat x ++ flat y = q ∙ flat_append x y in
    let m : length (flat x) ≡ p = length-flat x ∙ sym h in
    ap₂ ◌++◌ (ap (drop p) w ∙ drop_at (flat x) (flat y) p m) (ap (take p) w ∙ take_at (flat x) (flat y) p m) ∙ sym (flat_append y x)

-- the only cut whose first part ends within a tree's points ends before that tree
cut-here : (a u v : Component) (t : Tree) (l : Component) → a ++ (t ∷ l) ≡ u ++ v → points a ≤ points u → points u < points a + size t
    → (u ≡ a) × (v ≡ t ∷ l)
cut-here a u v t l q h k =
    either (cuts a (t ∷ l) u v q)
    (λ r. after r.0 r.1 r.2)
    (λ r.
    let z : r.0 ≡ [] = no-trees r.0 (omega (arith, ap points r.1, points-append u r.0)) in
    (sym (r.1 ∙ ap (λ m. u ++ m) z ∙ append-nil u), r.2 ∙ ap (λ m. m ++ (t ∷ l)) z))
  where
    after : (m : Component) → u ≡ a ++ m → t ∷ l ≡ m ++ v → (u ≡ a) × (v ≡ t ∷ l)
    after [] e g = (e ∙ append-nil a, sym g)
    after (x ∷ m) e g =
        absurd (omega (arith, ap points e, points-append a (x ∷ m), ap points g, points-append (x ∷ m) v, ap size (head-eq_of_cons-eq g)))

-- of the rotations that begin before the place, none is less than that which begins at `best`
pub record Best (best : ℕ) (a r : Component) : Type 0 where
  pub front : Component
  pub back : Component
  pub cut : a ++ r ≡ front ++ back
  pub place : best ≡ points front
  pub within : best ≤ points a
  pub least : (u v : Component) → a ++ r ≡ u ++ v → points u < points a → at_most compare_component (back ++ front) (v ++ u) ≡ true

pub best-start : (c : Component) → Best 0 [] c
best-start c =
    record { front = []; back = c; cut = refl; place = refl; within = omega arith; least = λ u v q h. absurd (omega arith) }

-- of all rotations none is less
best-first : (c : Component) {best : ℕ} (k : Best best c []) → at_most compare_component (k.back ++ k.front) (c ++ []) ≡ true
best-first [] k =
    let e : k.back ++ k.front ≡ [] =
    no-trees (k.back ++ k.front) (omega (arith, points-append k.back k.front, ap points k.cut, points-append k.front k.back)) in
    ap (λ l. at_most compare_component l []) e ∙ at_most-self compare_component-lawful []
best-first (t ∷ c) k = k.least [] (t ∷ c) (append-nil (t ∷ c)) (omega (arith, size-positive t))

best-of-all : {c : Component} {best : ℕ} (k : Best best c []) (u v : Component) → c ≡ u ++ v → at_most compare_component (k.back ++ k.front) (v ++ u) ≡ true
best-of-all {c} k u [] e = ap (at_most compare_component (k.back ++ k.front)) (sym (append-nil u) ∙ sym e ∙ sym (append-nil c)) ∙ best-first c k
best-of-all {c} k u (t ∷ v) e = k.least u (t ∷ v) (append-nil c ∙ e) (omega (arith, ap points e, points-append u (t ∷ v), size-positive t))

module _ {s : List ℕ} {at best : ℕ} (w : Along s at (Best best)) where
  pub best-within : best ≤ at
  best-within = omega (arith, w.kept.within, w.place)

  -- comparing the bytes is comparing the trees
  compared : at_most (lex compare) (drop best s ++ take best s) (drop at s ++ take at s)
      ≡ at_most compare_component (w.kept.back ++ w.kept.front) (w.rest ++ w.ahead)
  compared =
      let k = w.kept in
      ap is_le
      (ap₂ (lex compare)
      (turned-flat s best k.front k.back (w.cut ∙ ap flat k.cut) k.place)
      (turned-flat s at w.ahead w.rest w.cut w.place)
      ∙ sym (compare_component-flat (k.back ++ k.front) (w.rest ++ w.ahead)))

  module _ (n : Next s at w.rest) where
    whole_is : (w.ahead ++ (n.tree ∷ [])) ++ n.later ≡ w.ahead ++ w.rest
    whole_is = append_assoc w.ahead (n.tree ∷ []) n.later ∙ ap (λ l. w.ahead ++ l) (sym n.is)

    -- a rotation that is at most all before and at most this one
    extended : (c : Component) → ((u v : Component) → w.ahead ++ w.rest ≡ u ++ v → points u < points w.ahead → at_most compare_component c (v ++ u) ≡ true)
        → at_most compare_component c (w.rest ++ w.ahead) ≡ true
        → (u v : Component) → (w.ahead ++ (n.tree ∷ [])) ++ n.later ≡ u ++ v → points u < points (w.ahead ++ (n.tree ∷ []))
        → at_most compare_component c (v ++ u) ≡ true
    extended c before here u v q h =
        by-test (ltb (points u) (points w.ahead))
        (λ t. before u v (sym whole_is ∙ q) (ltb-true (points u) (points w.ahead) t))
        (λ t.
        let r = cut-here w.ahead u v n.tree n.later (sym (append_assoc w.ahead (n.tree ∷ []) n.later) ∙ q)
        (ltb-false (points u) (points w.ahead) t) (omega (arith, points-append w.ahead (n.tree ∷ []))) in
        ap (at_most compare_component c) (ap₂ ◌++◌ (r.1 ∙ sym n.is) r.0) ∙ here)

    -- the best so far stays the best
    pub best-kept : at_most (lex compare) (drop best s ++ take best s) (drop at s ++ take at s) ≡ true → Along s (at + get_or s at 0) (Best best)
    best-kept t =
        let k = w.kept in
        along-step w n (Best best)
        record {
          front = k.front;
          back = k.back;
          cut = whole_is ∙ k.cut;
          place = k.place;
          within = omega (arith, k.within, points-append w.ahead (n.tree ∷ []));
          least = extended (k.back ++ k.front) k.least (sym compared ∙ t);
        }

    -- this one is better
    pub best-moved : at_most (lex compare) (drop best s ++ take best s) (drop at s ++ take at s) ≡ false → Along s (at + get_or s at 0) (Best at)
    best-moved t =
        let k = w.kept in
        let better : at_most compare_component (w.rest ++ w.ahead) (k.back ++ k.front) ≡ true =
        at_most-turned compare_component-lawful (k.back ++ k.front) (w.rest ++ w.ahead) (sym compared ∙ t) in
        along-step w n (Best at)
        record {
          front = w.ahead;
          back = w.rest;
          cut = whole_is;
          place = w.place;
          within = omega (arith, w.place, points-append w.ahead (n.tree ∷ []));
          least = extended (w.rest ++ w.ahead)
              (λ u v q h. at_most-trans compare_component-lawful (w.rest ++ w.ahead) (k.back ++ k.front) (v ++ u) better (k.least u v q h))
              (at_most-self compare_component-lawful (w.rest ++ w.ahead));
        }

  -- the best of all
  pub best-end : length s ≤ at → (c : Component) → s ≡ flat c → LeastStart c best
  best-end h c q =
      let k = along-end w h c q in
      record {
        front = k.front;
        back = k.back;
        cut = sym (append-nil c) ∙ k.cut;
        place = k.place;
        least = best-of-all k;
      }

-- a component of which no rotation is less is best as it is
least-of-all : (c : Component) → each (at_most compare_component c) (rotations c) ≡ true → (u v : Component) → c ≡ u ++ v
    → at_most compare_component (c ++ []) (v ++ u) ≡ true
least-of-all [] t u v q =
    let z : v ++ u ≡ [] = no-trees (v ++ u) (omega (arith, points-append v u, ap points q, points-append u v)) in
    ap (at_most compare_component []) z ∙ at_most-self compare_component-lawful []
least-of-all (x ∷ c) t u v q =
    ap (λ l. at_most compare_component l (v ++ u)) (append-nil (x ∷ c))
    ∙ each_member (at_most compare_component (x ∷ c)) t (in_list (ap rotations (sym q)) (rotation-append u v (ap nonempty (sym q))))

pub least-already : (c : Component) → each (at_most compare_component c) (rotations c) ≡ true → LeastStart c 0
least-already c t = record { front = []; back = c; cut = refl; place = refl; least = least-of-all c t }
