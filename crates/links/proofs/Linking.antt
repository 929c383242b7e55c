-- Linking the points that hang at a point, from the least point of the table on.
use mathlib.Core.Path.{◌≡◌, ap, sym, ◌∙◌}
use mathlib.Core.Bool.{true, false}
use mathlib.Core.List.{List, ◌++◌}
use Prim.Native.Nat.{ℕ, zero, suc, ◌+◌, ◌≤◌, ◌<◌}
use native.Mathlib.Omega.{arith}
use native.Mathlib.Numerals.{add-one}
use lib.Dec.{eqb, ltb}
use borrow.Author.Tests.{eq-eqb, ne_eqb, eqb-true, eqb-false, ltb-true, ltb-false}
use lib.ListN.{length, get_or, take, set, replicate, length-append, length-set, length-replicate, get_or-replicate}
use lib.Seq.{take_at, get_or-set_same, get_or-set_other}
use Rattle.lists.proofs.Tests.{by-test, no_both}
use Rattle.patterns.specs.Table.{image, is_table, on_cycle, hangs_at}
use Rattle.cycles.specs.Marks.{Marked}
use Rattle.links.specs.Links.{last_below, Links}
use Rattle.cycles.proofs.Marks.{inside, marks-off, marks-on}

module _ (f : List ℕ) (x : ℕ) where
  pub last-skip : (y : ℕ) → hangs_at (length f) (image f) x y ≡ false → last_below f x (suc y) ≡ last_below f x y
  unfolding last_below
  last-skip y e = rw e

  pub last-take : (y : ℕ) → hangs_at (length f) (image f) x y ≡ true → last_below f x (suc y) ≡ suc y
  unfolding last_below
  last-take y e = rw e

  pub last-bound : (k : ℕ) → last_below f x k ≤ k
  unfolding last_below
  last-bound zero = omega arith
  last-bound (suc k) =
      by-test (hangs_at (length f) (image f) x k)
      (λ t. omega (arith, last-take k t))
      (λ t. omega (arith, last-skip k t, last-bound k))

  -- a link leads to a point that hangs at x
  pub last-hangs : (k z : ℕ) → last_below f x k ≡ z + 1 → hangs_at (length f) (image f) x z ≡ true
  unfolding last_below
  last-hangs zero z e = absurd (omega arith)
  last-hangs (suc k) z e =
      by-test (hangs_at (length f) (image f) x k)
      (λ t. let q : k ≡ z = omega (arith, last-take k t) in rw q at t)
      (λ t. last-hangs k z (sym (last-skip k t) ∙ e))

-- a point hangs at its image, unless it is on a cycle, and nowhere else
hangs-image : (f : List ℕ) (x y : ℕ) → hangs_at (length f) (image f) x y ≡ true → image f y ≡ x
unfolding hangs_at
hangs-image f x y t =
    by-test (eqb (image f y) x)
    (λ e. eqb-true (image f y) x e)
    (λ e. no_both t (rw e))

hangs-off : (f : List ℕ) (x y : ℕ) → on_cycle (length f) (image f) y ≡ true → hangs_at (length f) (image f) x y ≡ false
unfolding hangs_at
hangs-off f x y t = by-test (eqb (image f y) x) (λ e. rw (e, t)) (λ e. rw e)

hangs-elsewhere : (f : List ℕ) (x y : ℕ) → (image f y ≡ x → ⊥) → hangs_at (length f) (image f) x y ≡ false
unfolding hangs_at
hangs-elsewhere f x y h = rw (ne_eqb (image f y) x h)

hangs-here : (f : List ℕ) (x y : ℕ) → image f y ≡ x → on_cycle (length f) (image f) y ≡ false → hangs_at (length f) (image f) x y ≡ true
unfolding hangs_at
hangs-here f x y e t = rw (eq-eqb (image f y) x e, t)

-- no point is linked yet
pub links-none : {f last before : List ℕ} → last ≡ replicate (length f) 0 → length before ≡ length f → Links f 0 last before
unfolding last_below
links-none {f} e h =
    record {
      last_room = ap length e ∙ length-replicate (length f) 0;
      before_room = h;
      last_are = λ x b. ap (λ l. get_or l x 0) e ∙ get_or-replicate (length f) x 0 0 b;
      before_are = λ x y b t. absurd (omega arith);
    }

module _ {f marks : List ℕ} (m : Marked f marks) {y : ℕ} {last before : List ℕ} (h : y < length f) (l : Links f y last before) where
  -- y is on a cycle
  pub links-skip : (get_or marks y 0 ≡ 0 → ⊥) → Links f (y + 1) last before
  links-skip e =
      let on = marks-on m h e in
      rw add-one
      (record {
        last_room = l.last_room;
        before_room = l.before_room;
        last_are = λ x b. l.last_are x b ∙ sym (last-skip f x y (hangs-off f x y on));
        before_are = λ x z b t. by-test (ltb z y)
            (λ s. l.before_are x z (ltb-true z y s) t)
            (λ s. let q : z ≡ y = let k = ltb-false z y s in omega arith in no_both (rw q at t) (hangs-off f x y on));
      })

  -- y hangs at its image
  pub links-take : is_table f ≡ true → get_or marks y 0 ≡ 0
      → Links f (y + 1) (set last (image f y) (y + 1)) (set before y (get_or last (image f y) 0))
  links-take table e =
      let off = marks-off m h e in
      let p = image f y in
      let b : p < length f = inside f table y h in
      rw add-one
      (record {
        last_room = length-set last p (suc y) ∙ l.last_room;
        before_room = length-set before y (get_or last p 0) ∙ l.before_room;
        last_are = λ x c. by-test (eqb x p)
            (λ t. let q = eqb-true x p t in
            ap (λ i. get_or (set last p (suc y)) i 0) q ∙ get_or-set_same last p (suc y) 0 (omega (arith, l.last_room))
            ∙ sym (last-take f x y (hangs-here f x y (sym q) off)))
            (λ t. let q = eqb-false x p t in
            get_or-set_other last p x (suc y) 0 q ∙ l.last_are x c ∙ sym (last-skip f x y (hangs-elsewhere f x y (λ r. q (sym r)))));
        before_are = λ x z c t. by-test (eqb z y)
            (λ s. let q = eqb-true z y s in
            let r : p ≡ x = hangs-image f x y (rw q at t) in
            ap (λ i. get_or (set before y (get_or last p 0)) i 0) q ∙ get_or-set_same before y (get_or last p 0) 0 (omega (arith, l.before_room))
            ∙ l.last_are p b ∙ ap (λ i. last_below f i y) r ∙ ap (last_below f x) (sym q))
            (λ s. let q = eqb-false z y s in
            get_or-set_other before y z (get_or last p 0) 0 q ∙ l.before_are x z (omega arith) t);
      })

-- links written into the first places of two arrays
module _ {f last before : List ℕ} (l : Links f (length f) last before) (d e : List ℕ) where
  pub last_within : length f ≤ length (last ++ d)
  last_within = rw length-append (omega (arith, l.last_room))

  pub before-within : length f ≤ length (before ++ e)
  before-within = rw length-append (omega (arith, l.before_room))

  pub links-back : Links f (length f) (take (length f) (last ++ d)) (take (length f) (before ++ e))
  links-back = rw (take_at last d (length f) l.last_room, take_at before e (length f) l.before_room) l
