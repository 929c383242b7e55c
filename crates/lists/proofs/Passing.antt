-- The entries that pass, each once, by their places: an entry is listed at place k exactly if it passes and first stands at k.
use mathlib.Core.Path.{◌≡◌, refl, ap, ap₂, sym, ◌∙◌}
use mathlib.Core.Bool.{Bool, true, not, cond, ◌&&◌}
use mathlib.Core.Logic.{◌⊎◌, inl, inr}
use mathlib.Core.List.{List, [], ◌∷◌, ◌++◌, append_assoc, reverse}
use Prim.Native.Nat.{ℕ, suc, ◌+◌, ◌-◌, ◌≤◌, ◌<◌, Ordering}
use native.Mathlib.Omega.{arith}
use lib.Dec.{eqb}
use borrow.Author.Tests.{eq-eqb, ne_eqb, eqb-true}
use lib.ListN.{length, get_or, length-append}
use lib.Seq.{get_or-append_seam}
use Rattle.lists.specs.Order.{same}
use Rattle.lists.specs.Select.{keep, gather, range, some_of, place, new_at, once, first, next}
use Rattle.lists.proofs.Tests.{◌∈◌, by-test, either, no_both, and-true, is_false, some-append, some-member, some-true}
use Rattle.lists.proofs.Members.{Decides, in_head, in_tail, in_moved, keep_all, of-keep, of-once, of-gather, of_range, gather_append, in-single, not-in-nil}
use Rattle.lists.proofs.Places.{first-split, place-split, place-index, next-split, range-append}
use Rattle.lists.proofs.Gathering.{keep_same}
use Rattle.lists.proofs.Reversed.{of_reverse, reverse-cut}

module _ {A : Type 0} where
  -- two tests one after the other are one test
  pub keep-keep : (p q r : A → Bool) (l : List A) → ((x : A) → x ∈ l → r x ≡ (p x && q x)) → keep q (keep p l) ≡ keep r l
  keep-keep p q r [] h = refl
  keep-keep p q r (x ∷ l) h =
      let e = h x in_head in
      let rest = keep-keep p q r l (λ y m. h y (in_tail m)) in
      by-test (p x)
      (λ t. by-test (q x)
      (λ u. rw (t, u, e, t, u) (ap (λ k. x ∷ k) rest))
      (λ u. rw (t, u, e, t, u) rest))
      (λ t. rw (t, e, t) rest)

module _ {A : Type 0} {c : A → A → Ordering} (w : Decides c) (p : A → Bool) (d : A) where
  -- what stands in a has its place in a
  place-within : (a b : List A) {x : A} → x ∈ a → place c x (a ++ b) < length a
  place-within a b {x} m =
      let s = first-split w m in
      let e : a ++ b ≡ s.0 ++ (x ∷ (s.1 ++ b)) = ap (λ k. k ++ b) s.2 ∙ append_assoc s.0 (x ∷ s.1) b in
      omega (arith, ap (place c x) e, place-split w s.0 x (s.1 ++ b) s.3, ap length s.2, length-append s.0 (x ∷ s.1))

  turned : (x y : A) → same c x y ≡ same c y x
  turned x y =
      by-test (same c y x)
      (λ t. ap (λ k. same c k y) (sym (w.sound y x t)) ∙ w.self y ∙ sym t)
      (λ t. is_false (same c x y) (λ u. no_both (ap (λ k. same c k x) (sym (w.sound x y u)) ∙ w.self x) t) ∙ sym t)

  -- y is none of a and not x
  abbrev fresh : List A → A → Bool
  fresh a y = not (some_of (same c y) a)

  fresh-snoc : (a : List A) (x y : A) → fresh (a ++ (x ∷ [])) y ≡ (not (same c x y) && fresh a y)
  fresh-snoc a x y =
      ap not (some-append (same c y) a (x ∷ [])) ∙
      by-test (some_of (same c y) a)
      (λ t. by-test (same c x y) (λ u. rw (t, u)) (λ u. rw (t, u)))
      (λ t. by-test (same c x y) (λ u. rw (t, sym (turned x y), u)) (λ u. rw (t, sym (turned x y), u)))

  -- whether the entry after a is new
  new-here : (a : List A) (x : A) (l : List A) → new_at c p d (a ++ (x ∷ l)) (length a) ≡ cond (p x && fresh a x) (x ∷ []) []
  unfolding new_at
  new-here a x l =
      rw (get_or-append_seam a x l d)
      (ap (λ b. cond (p x && b) (x ∷ []) [])
      (by-test (some_of (same c x) a)
      (λ t.
      let s = some-member (same c x) a t in
      let m : x ∈ a = in_moved (sym (w.sound x s.0 s.2)) s.1 in
      let h = place-within a (x ∷ l) m in
      ne_eqb (place c x (a ++ (x ∷ l))) (length a) (λ e. omega arith) ∙ sym (ap not t))
      (λ t.
      eq-eqb (place c x (a ++ (x ∷ l))) (length a)
      (place-split w a x l (λ m. no_both (some-true (same c x) m (w.self x)) t))
      ∙ sym (ap not t))))

  once-here : (a : List A) (x : A) (l : List A)
      → keep (fresh a) (once c (keep p (x ∷ l))) ≡ cond (p x && fresh a x) (x ∷ []) [] ++ keep (fresh (a ++ (x ∷ []))) (once c (keep p l))
  once-here a x l =
      let O = once c (keep p l) in
      by-test (p x)
      (λ t.
      let rest = keep-keep (λ y. not (same c x y)) (fresh a) (fresh (a ++ (x ∷ []))) O (λ y m. fresh-snoc a x y) in
      by-test (some_of (same c x) a)
      (λ u. rw (t, u) rest)
      (λ u. rw (t, u) (ap (λ k. x ∷ k) rest)))
      (λ t. rw t (keep_same (fresh a) (fresh (a ++ (x ∷ []))) O
      (λ y m.
      let q = (of-keep p l (of-once c (keep p l) m)).1 in
      let n = is_false (same c x y) (λ u. no_both q (sym (ap p (w.sound x y u)) ∙ t)) in
      sym (fresh-snoc a x y ∙ ap (λ b. not b && fresh a y) n))))

  once-from : (a l : List A) → keep (fresh a) (once c (keep p l)) ≡ gather (new_at c p d (a ++ l)) (range (length a) (length l))
  once-from a [] = refl
  once-from a (x ∷ l) =
      let e : length (a ++ (x ∷ [])) ≡ suc (length a) = omega (arith, length-append a (x ∷ [])) in
      once-here a x l
      ∙ ap₂ ◌++◌ (sym (new-here a x l))
      (once-from (a ++ (x ∷ [])) l ∙ ap₂ (λ k n. gather (new_at c p d k) (range n (length l))) (append_assoc a (x ∷ []) l) e)

  -- the entries that pass, each once, are those that are new at their places
  pub once-keep : (l : List A) → once c (keep p l) ≡ gather (new_at c p d l) (range 0 (length l))
  once-keep l = sym (keep_all (fresh []) (once c (keep p l)) (λ x m. refl)) ∙ once-from [] l

  -- what is new at k first stands there and passes
  pub of-new_at : (l : List A) (k : ℕ) {x : A} → x ∈ new_at c p d l k → (place c x l ≡ k) × (p x ≡ true) × (get_or l k d ≡ x)
  unfolding new_at
  of-new_at l k {x} m =
      let y = get_or l k d in
      by-test (p y && eqb (place c y l) k)
      (λ t.
      let h = and-true (p y) (eqb (place c y l) k) t in
      let q : x ≡ y = in-single (rw t at m) in
      (ap (λ z. place c z l) q ∙ eqb-true (place c y l) k h.1, ap p q ∙ h.0, sym q))
      (λ t. not-in-nil (rw t at m))

  pub new_at-place : {x : A} {l : List A} → x ∈ l → p x ≡ true → new_at c p d l (place c x l) ≡ x ∷ []
  unfolding new_at
  new_at-place {x} {l} m e =
      let q = (place-index w d m).1 in
      rw (q, e, eq-eqb (place c x l) (place c x l) refl)

  -- Around x: what is new at earlier places, x, and what is new at later ones.
  module _ {x : A} {l : List A} (m : x ∈ l) (e : p x ≡ true) where
    abbrev earlier : List A
    earlier = gather (new_at c p d l) (range 0 (place c x l))

    abbrev later : List A
    later = gather (new_at c p d l) (range (suc (place c x l)) (length l - suc (place c x l)))

    once-cut : once c (keep p l) ≡ earlier ++ (x ∷ later)
    once-cut =
        let k = place c x l in
        let h = (place-index w d m).0 in
        let N : length l ≡ k + suc (length l - suc k) = omega arith in
        let Z : 0 + k ≡ k = omega arith in
        once-keep l ∙ ap (λ n. gather (new_at c p d l) (range 0 n)) N
        ∙ ap (gather (new_at c p d l)) (range-append 0 k (suc (length l - suc k)))
        ∙ gather_append (new_at c p d l) (range 0 k) (range (0 + k) (suc (length l - suc k)))
        ∙ ap (λ n. earlier ++ gather (new_at c p d l) (range n (suc (length l - suc k)))) Z
        ∙ ap (λ b. earlier ++ (b ++ later)) (new_at-place m e)

    -- x is new at its place only
    not-in-range : (a k : ℕ) → (a + k ≤ place c x l) ⊎ (place c x l < a) → x ∈ gather (new_at c p d l) (range a k) → ⊥
    not-in-range a k o i =
        let r = of-gather (new_at c p d l) (range a k) i in
        let b = of_range a k r.1 in
        let q = (of-new_at l r.0 r.2).0 in
        either o (λ f. omega (arith, b.1)) (λ f. omega (arith, b.0))

    -- what follows x: the first that is new at a later place
    pub once-next : next c x (once c (keep p l)) ≡ first later
    once-next = ap (next c x) once-cut ∙ next-split w earlier x later (not-in-range 0 (place c x l) (inl (omega arith)))

    -- what stands before x: the last that is new at an earlier place
    pub once-previous : next c x (reverse (once c (keep p l))) ≡ first (reverse earlier)
    once-previous =
        ap (λ k. next c x (reverse k)) once-cut
        ∙ ap (next c x) (reverse-cut earlier x later)
        ∙ next-split w (reverse later) x (reverse earlier)
        (λ i. not-in-range (suc (place c x l)) (length l - suc (place c x l)) (inr (omega arith)) (of_reverse later i))
