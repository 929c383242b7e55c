-- Plants: their sizes and branches, where their arrows go, and which of their points go to a given point.
use mathlib.Core.Path.{◌≡◌, refl, ap, ap₂, sym, ◌∙◌}
use mathlib.Core.List.{[], ◌∷◌, ◌++◌, map, map-append, append-nil}
use Prim.Native.Nat.{ℕ, suc, ◌<◌}
use native.Mathlib.Omega.{arith}
use lib.Dec.{eqb}
use borrow.Author.Tests.{eq-eqb, ne_eqb}
use lib.ListN.{length, length-append}
use Rattle.lists.specs.Select.{keep}
use Rattle.lists.proofs.Tests.{◌∈◌, either}
use Rattle.lists.proofs.Members.{NoDup, in_head, in_tail, in_moved, in-cons-cases, in-single, in_append_left, in_append_right, in-append-cases, not-in-nil, nodup-head, nodup-left, nodup-right, nodup-apart, keep_append, keep-none}
use Rattle.patterns.specs.Tree.{size, branches}
use Rattle.patterns.proofs.Trees.{size-positive}
use Rattle.map_theory.proofs.Pictures.{Plant, tip, join, shape, root, inner, labels, boughs, Arrows, arrows_tip, arrows_join}
use Rattle.map_theory.proofs.Cycles.{Reaches, arrives, reaches_step}

-- a plant has as many labels as its shape has points
pub length-inner : (t : Plant) → suc (length (inner t)) ≡ size (shape t)
length-inner (tip x) = refl
length-inner (join t u) = omega (arith, length-append (inner t) (root u ∷ inner u), length-inner t, length-inner u)

-- the shapes of the branches are the branches of the shape
pub shape-boughs : (t : Plant) → map shape (boughs t) ≡ branches (shape t)
shape-boughs (tip x) = refl
shape-boughs (join t u) = map-append shape (boughs t) (u ∷ []) ∙ ap (λ l. l ++ (shape u ∷ [])) (shape-boughs t)

-- a branch is smaller
pub bough-size : (t : Plant) {u : Plant} → u ∈ boughs t → size (shape u) < size (shape t)
bough-size (tip x) m = not-in-nil m
bough-size (join t v) {u} m =
    either (in-append-cases (boughs t) m)
    (λ i. omega (arith, bough-size t i))
    (λ i. omega (arith, ap (λ p. size (shape p)) (in-single i), size-positive (shape t)))

-- its labels are labels of the plant, not at the root
pub bough-inner : (t : Plant) {u : Plant} {x : ℕ} → u ∈ boughs t → x ∈ labels u → x ∈ inner t
bough-inner (tip x) m k = not-in-nil m
bough-inner (join t v) {u} {x} m k =
    either (in-append-cases (boughs t) m)
    (λ i. in_append_left (labels v) (bough-inner t i k))
    (λ i. in_append_right (inner t) (rw (in-single i) at k))

-- and every label but the root is one of a branch
pub inner-bough : (t : Plant) {x : ℕ} → x ∈ inner t → (u : Plant) × (u ∈ boughs t) × (x ∈ labels u)
inner-bough (tip y) m = not-in-nil m
inner-bough (join t v) m =
    either (in-append-cases (inner t) m)
    (λ i. let r = inner-bough t i in (r.0, in_append_left (v ∷ []) r.1, r.2))
    (λ i. (v, in_append_right (boughs t) in_head, i))

pub bough-nodup : (t : Plant) {u : Plant} → u ∈ boughs t → NoDup (labels t) → NoDup (labels u)
bough-nodup (tip x) m d = not-in-nil m
bough-nodup (join t v) m d =
    either (in-append-cases (boughs t) m)
    (λ i. bough-nodup t i (nodup-left (labels t) (labels v) d))
    (λ i. rw (in-single i) (nodup-right (labels t) (labels v) d))

module _ {f : ℕ → ℕ} where
  pub bough-arrows : {t u : Plant} → u ∈ boughs t → Arrows f t → Arrows f u
  bough-arrows m arrows_tip = not-in-nil m
  bough-arrows m (arrows_join {t = t} {u = v} a b e) =
      either (in-append-cases (boughs t) m)
      (λ i. bough-arrows i a)
      (λ i. rw (in-single i) b)

  -- the arrows of a plant stay in it
  pub inner-image : {t : Plant} {y : ℕ} → Arrows f t → y ∈ inner t → f y ∈ labels t
  inner-image arrows_tip m = not-in-nil m
  inner-image (arrows_join {t = t} {u = u} a b e) m =
      either (in-append-cases (inner t) m)
      (λ i. in_append_left (labels u) (inner-image a i))
      (λ i. either (in-cons-cases i)
      (λ q. in_moved (sym (ap f q ∙ e)) in_head)
      (λ j. in_append_right (labels t) (inner-image b j)))

  -- and lead to its root
  pub inner-reaches : {t : Plant} {y : ℕ} → Arrows f t → y ∈ inner t → Reaches f y (root t)
  inner-reaches arrows_tip m = not-in-nil m
  inner-reaches (arrows_join {t = t} {u = u} a b e) m =
      either (in-append-cases (inner t) m)
      (λ i. inner-reaches a i)
      (λ i. either (in-cons-cases i)
      (λ q. arrives (ap f q ∙ e))
      (λ j. reaches_step (inner-reaches b j) e))

  -- a label of no plant t has no arrow of t to it
  pub keep-outside : {t : Plant} → Arrows f t → (x : ℕ) → (x ∈ labels t → ⊥) → keep (λ y. eqb (f y) x) (inner t) ≡ []
  keep-outside {t} a x h = keep-none (λ y. eqb (f y) x) (inner t) (λ y m. ne_eqb (f y) x (λ e. h (in_moved e (inner-image a m))))

  -- what goes to the root: the roots of the branches, in their order
  pub keep-root : {t : Plant} → Arrows f t → NoDup (labels t) → keep (λ y. eqb (f y) (root t)) (inner t) ≡ map root (boughs t)
  keep-root arrows_tip d = refl
  keep-root (arrows_join {t = t} {u = u} a b e) d =
      keep_append (λ y. eqb (f y) (root t)) (inner t) (labels u)
      ∙ ap₂ ◌++◌ (keep-root a (nodup-left (labels t) (labels u) d))
      (rw (eq-eqb (f (root u)) (root t) e) (ap (λ l. root u ∷ l) (keep-outside b (root t) (λ m. nodup-apart (labels t) d in_head m))))
      ∙ sym (map-append root (boughs t) (u ∷ []))

  -- what goes to a label of a branch belongs to that branch
  pub keep-bough : {t v : Plant} → Arrows f t → NoDup (labels t) → v ∈ boughs t → (x : ℕ) → x ∈ labels v
      → keep (λ y. eqb (f y) x) (inner t) ≡ keep (λ y. eqb (f y) x) (inner v)
  keep-bough arrows_tip d m x k = not-in-nil m
  keep-bough {v = v} (arrows_join {t = t} {u = u} a b e) d m x k =
      either (in-append-cases (boughs t) m)
      (λ i.
      let h = bough-inner t i k in
      let c = nodup-left (labels t) (labels u) d in
      keep_append (λ y. eqb (f y) x) (inner t) (labels u)
      ∙ ap₂ ◌++◌ (keep-bough a c i x k)
      (rw (ne_eqb (f (root u)) x (λ q. nodup-head c (in_moved (sym (sym e ∙ q)) h))) (keep-outside b x (λ j. nodup-apart (labels t) d (in_tail h) j)))
      ∙ append-nil (keep (λ y. eqb (f y) x) (inner v)))
      (λ i.
      let p : v ≡ u = in-single i in
      let h : x ∈ labels u = rw p at k in
      keep_append (λ y. eqb (f y) x) (inner t) (labels u)
      ∙ ap₂ ◌++◌ (keep-outside a x (λ j. nodup-apart (labels t) d j h))
      (rw (ne_eqb (f (root u)) x (λ q. nodup-apart (labels t) d (in_moved (sym e ∙ q) in_head) h)) (ap (λ w. keep (λ y. eqb (f y) x) (inner w)) (sym p))))
