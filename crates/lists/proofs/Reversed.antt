-- A list reversed: it has the same entries, mapped and gathered lists are reversed piece by piece, and what follows an entry in it is what stands before it in the list.
use mathlib.Core.Path.{◌≡◌, refl, ap, sym, ◌∙◌, subst}
use mathlib.Core.List.{List, [], ◌∷◌, ◌++◌, map, map-append, reverse, reverse-cons, reverse-append, reverse-reverse, append_assoc, append-nil}
use mathlib.Core.Bool.{cond}
use mathlib.Core.Option
use mathlib.Core.Option.{Option, none, some}
use Prim.Native.Nat.{Ordering}
use Rattle.lists.specs.Order.{same}
use Rattle.lists.specs.Select.{gather, first, from, otherwise}
use Rattle.lists.proofs.Tests.{◌∈◌, by-test, either, no_both}
use Rattle.lists.proofs.Members.{Decides, NoDup, empty, one, in_head, in_moved, in_list, in-single, in-cons-cases, in_append_left, in_append_right, not-in-nil, nodup_append, nodup-single, gather_append}
use Rattle.lists.proofs.Places.{first-split, from-split}
use Rattle.lists.proofs.Follow.{Within, first_map, first-append, first_some, first-gather, in_within, within-some, within-last, within-map, within-append-left, within-gather, within-unique}

module _ {A : Type 0} where
  pub in-reverse : (l : List A) {x : A} → x ∈ l → x ∈ reverse l
  in-reverse [] m = not-in-nil m
  in-reverse (y ∷ l) m =
      in_list (sym (reverse-cons y l))
      (either (in-cons-cases m)
      (λ e. in_append_right (reverse l) (in_moved (sym e) in_head))
      (λ k. in_append_left (y ∷ []) (in-reverse l k)))

  pub of_reverse : (l : List A) {x : A} → x ∈ reverse l → x ∈ l
  of_reverse l m = in_list (reverse-reverse l) (in-reverse (reverse l) m)

  pub nodup_reverse : {l : List A} → NoDup l → NoDup (reverse l)
  nodup_reverse empty = empty
  nodup_reverse (one {x} {l} h d) =
      rw (reverse-cons x l) (nodup_append (nodup_reverse d) (nodup-single x) (λ y i k. h (of_reverse l (in_moved (in-single k) i))))

  -- cut at an entry, the two parts change places
  pub reverse-cut : (a : List A) (x : A) (b : List A) → reverse (a ++ (x ∷ b)) ≡ reverse b ++ (x ∷ reverse a)
  reverse-cut a x b =
      reverse-append a (x ∷ b) ∙ ap (λ l. l ++ reverse a) (reverse-cons x b) ∙ append_assoc (reverse b) (x ∷ []) (reverse a)

  -- what follows x in the list reversed is the last of what stands before it
  pub within-reverse : (a : List A) {x : A} (b : List A) {l : List A} → l ≡ a ++ (x ∷ b) → Within x (reverse l) (first (reverse a))
  within-reverse a {x} b e = record { before = reverse b; after = reverse a; cut = ap reverse e ∙ reverse-cut a x b; follows = refl }

  -- neighbours, reversed
  pub reverse-neighbours : {x y : A} {l : List A} → Within x l (some y) → Within y (reverse l) (some x)
  reverse-neighbours {x} {y} {l} i =
      let s = within-some i in
      let a = s.0 in
      let b = s.1 in
      let e : reverse (a ++ (x ∷ [])) ≡ x ∷ reverse a = reverse-append a (x ∷ []) in
      subst (λ r. Within y (reverse l) r) (ap first e) (within-reverse (a ++ (x ∷ [])) b (s.2 ∙ sym (append_assoc a (x ∷ []) (y ∷ b))))

  pub of-reverse-neighbours : {x y : A} (l : List A) → Within x (reverse l) (some y) → Within y l (some x)
  of-reverse-neighbours {x} {y} l i = subst (λ m. Within y m (some x)) (reverse-reverse l) (reverse-neighbours i)

  -- what nothing follows is the last
  pub last_within : {x : A} {l : List A} → Within x l none → first (reverse l) ≡ some x
  last_within {x} i = let s = within-last i in ap (λ k. first (reverse k)) s.1 ∙ ap first (reverse-append s.0 (x ∷ []))

  -- nothing follows the first in the list reversed, and only that
  pub reverse-first : {x : A} (l : List A) → first l ≡ some x → Within x (reverse l) none
  reverse-first l e = let s = first_some l e in within-reverse [] s.0 s.1

  pub of-reverse-first : {x : A} (l : List A) → Within x (reverse l) none → first l ≡ some x
  of-reverse-first l i = ap first (sym (reverse-reverse l)) ∙ last_within i

  -- the last of a list that is cut at x: the last of what stands after x, or x
  last-cut : (a : List A) (x : A) (b : List A) → first (reverse (a ++ (x ∷ b))) ≡ otherwise (first (reverse b)) (some x)
  last-cut a x b = ap first (reverse-cut a x b) ∙ first-append (reverse b) (x ∷ reverse a)

  -- what follows y in the list reversed does not depend on what stands before an x that stands before y
  within-reverse-after : (x : A) {y : A} {b : List A} → y ∈ b → (r : Option A) × ((a : List A) → Within y (reverse (a ++ (x ∷ b))) r)
  within-reverse-after x {y} {b} m =
      let i = in_within (in-reverse b m) in
      let r : Option A = otherwise i.0 (some x) in
      (r, λ a. subst (λ l. Within y l r) (sym (reverse-cut a x b)) (within-append-left (x ∷ reverse a) i.1))

  module _ {c : A → A → Ordering} (w : Decides c) where
    -- the list, cut at a member, and the list from it on
    from_cut : {x : A} {l : List A} → x ∈ l → (a : List A) × (b : List A) × (l ≡ a ++ (x ∷ b)) × (from c x l ≡ x ∷ b)
    from_cut {x} m = let s = first-split w m in (s.0, s.1, s.2, ap (from c x) s.2 ∙ from-split w s.0 x s.1 s.3)

    -- the list from a member on ends as the whole does
    pub last-from : {x : A} {l : List A} → x ∈ l → first (reverse (from c x l)) ≡ first (reverse l)
    last-from {x} {l} m =
        let s = from_cut m in
        ap (λ k. first (reverse k)) s.3 ∙ last-cut [] x s.1 ∙ sym (last-cut s.0 x s.1) ∙ ap (λ k. first (reverse k)) (sym s.2)

    -- in the list from x on, reversed, things follow as in the whole reversed, and nothing follows x
    pub within-reverse-from : {x y : A} {l : List A} {r : Option A} → NoDup l → x ∈ l → y ∈ from c x l → Within y (reverse l) r
        → Within y (reverse (from c x l)) (cond (same c x y) none r)
    within-reverse-from {x} {y} {l} {r} d m k i =
        let s = from_cut m in
        let a = s.0 in
        let b = s.1 in
        subst (λ z. Within y (reverse z) (cond (same c x y) none r)) (sym s.3)
        (by-test (same c x y)
        (λ t. rw (t, ← w.sound x y t) (within-reverse [] b refl))
        (λ t.
        let v = within-reverse-after x (either (in-cons-cases (in_list s.3 k)) (λ e. no_both (ap (same c x) e ∙ w.self x) t) (λ j. j)) in
        let e : v.0 ≡ r = within-unique (nodup_reverse d) (subst (λ z. Within y (reverse z) v.0) (sym s.2) (v.1 a)) i in
        rw t (subst (λ z. Within y (reverse (x ∷ b)) z) e (v.1 []))))

module _ {A B : Type 0} where
  reverse-map : (f : A → B) (l : List A) → reverse (map f l) ≡ map f (reverse l)
  reverse-map f [] = refl
  reverse-map f (x ∷ l) =
      reverse-cons (f x) (map f l)
      ∙ ap (λ k. k ++ (f x ∷ [])) (reverse-map f l)
      ∙ sym (map-append f (reverse l) (x ∷ []))
      ∙ ap (map f) (sym (reverse-cons x l))

  pub last-map : (f : A → B) (l : List A) → first (reverse (map f l)) ≡ Option.map f (first (reverse l))
  last-map f l = ap first (reverse-map f l) ∙ first_map f (reverse l)

  pub within-reverse-map : (f : A → B) {x : A} (l : List A) {r : Option A} → Within x (reverse l) r → Within (f x) (reverse (map f l)) (Option.map f r)
  within-reverse-map f {x} l {r} i = subst (λ k. Within (f x) k (Option.map f r)) (sym (reverse-map f l)) (within-map f i)

  pub reverse-gather : (f : A → List B) (l : List A) → reverse (gather f l) ≡ gather (λ x. reverse (f x)) (reverse l)
  reverse-gather f [] = refl
  reverse-gather f (x ∷ l) =
      reverse-append (f x) (gather f l)
      ∙ ap (λ k. k ++ reverse (f x)) (reverse-gather f l)
      ∙ ap (λ k. gather (λ y. reverse (f y)) (reverse l) ++ k) (sym (append-nil (reverse (f x))))
      ∙ sym (gather_append (λ y. reverse (f y)) (reverse l) (x ∷ []))
      ∙ ap (gather (λ y. reverse (f y))) (sym (reverse-cons x l))

  -- where no piece is empty, the gathered list ends as its last piece does
  pub last-gather : (f : A → List B) (end : A → B) (l : List A) → ((z : A) → z ∈ l → first (reverse (f z)) ≡ some (end z))
      → first (reverse (gather f l)) ≡ Option.map end (first (reverse l))
  last-gather f end l h = ap first (reverse-gather f l) ∙ first-gather (λ z. reverse (f z)) end (reverse l) (λ z m. h z (of_reverse l m))

  -- in the piece of x: what follows there, or after its first entry the end of the piece that stands before
  pub within-reverse-gather : (f : A → List B) (end : A → B) {x : A} {l : List A} {q : Option A} {y : B} {r : Option B}
      → ((z : A) → z ∈ l → first (reverse (f z)) ≡ some (end z)) → Within x (reverse l) q → Within y (reverse (f x)) r
      → Within y (reverse (gather f l)) (otherwise r (Option.map end q))
  within-reverse-gather f end {l} {q} {y} {r} h i j =
      subst (λ k. Within y k (otherwise r (Option.map end q))) (sym (reverse-gather f l))
      (within-gather (λ z. reverse (f z)) end (λ z m. h z (of_reverse l m)) i j)
