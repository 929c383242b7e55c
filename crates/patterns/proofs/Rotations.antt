-- Rotations of a list, the least rotation of a component, and what it means that a component is valid.
use mathlib.Core.Path.{◌≡◌, refl, ap, ap₂, sym, ◌∙◌}
use mathlib.Core.Logic.{◌⊎◌, inl, inr}
use mathlib.Core.Bool.{true, ◌&&◌, true≢false}
use mathlib.Core.List.Memᴰ
use mathlib.Core.List.{List, [], ◌∷◌, ◌++◌, append_assoc, append-nil, head-eq_of_cons-eq, tail-eq_of_cons-eq}
use Prim.Native.Nat.{ℕ, zero, suc, ◌≤◌, ◌<◌}
use native.Mathlib.Omega.{arith}
use lib.ListN.{length, length-append}
use Rattle.lists.specs.Order.{at_most}
use Rattle.lists.specs.Select.{each}
use Rattle.lists.proofs.Tests.{◌∈◌, by-test, either, and-true, true-and, each-true, each_member}
use Rattle.lists.proofs.Comparison.{at_most-self, at_most-trans, at_most-anti, at_most-turned}
use Rattle.lists.proofs.Permute.{Perm, perm_append_comm, perm-path, perm-trans, perm-length, perm-each-same}
use Rattle.lists.proofs.Members.{in_head, in_tail, in_list, in_moved, not-in-nil, in-cons-cases}
use Rattle.patterns.specs.Tree.{valid_tree}
use Rattle.patterns.specs.Component.{Component, compare_component, first_rotations, rotations, lesser, least, least_rotation, nonempty, points, valid_component}
use Rattle.patterns.proofs.Trees.{size-positive, compare_component-lawful}

-- two ways to cut a list: one cut is not after the other
pub cuts : {A : Type 0} (a b p q : List A) → a ++ b ≡ p ++ q → ((m : List A) × (p ≡ a ++ m) × (b ≡ m ++ q)) ⊎ ((m : List A) × (a ≡ p ++ m) × (q ≡ m ++ b))
cuts [] b p q e = inl (p, refl, e)
cuts (x ∷ a) b [] q e = inr (x ∷ a, refl, sym e)
cuts (x ∷ a) b (y ∷ p) q e =
    let h = head-eq_of_cons-eq e in
    either (cuts a b p q (tail-eq_of_cons-eq e))
    (λ r. inl (r.0, ap₂ ◌∷◌ (sym h) r.1, r.2))
    (λ r. inr (r.0, ap₂ ◌∷◌ h r.1, r.2))

-- r is c cut in two, the second part first
pub record Rotated {A : Type 0} (c r : List A) : Type 0 where
  pub front : List A
  pub back : List A
  pub cut : c ≡ front ++ back
  pub joined : r ≡ back ++ front

module _ {A : Type 0} where
  pub rotated-self : (c : List A) → Rotated c c
  rotated-self c = record { front = []; back = c; cut = refl; joined = sym (append-nil c) }

  pub rotated-append : (a b : List A) → Rotated (a ++ b) (b ++ a)
  rotated-append a b = record { front = a; back = b; cut = refl; joined = refl }

  pub rotated-sym : {c r : List A} → Rotated c r → Rotated r c
  rotated-sym h = record { front = h.back; back = h.front; cut = h.joined; joined = h.cut }

  pub rotated-trans : {c d r : List A} → Rotated c d → Rotated d r → Rotated c r
  rotated-trans h k =
      let a = h.front in let b = h.back in let p = k.front in let q = k.back in
      either (cuts b a p q (sym h.joined ∙ k.cut))
      (λ m. record {
        front = m.0;
        back = q ++ b;
        cut = h.cut ∙ ap (λ l. l ++ b) m.2 ∙ append_assoc m.0 q b;
        joined = k.joined ∙ ap (λ l. q ++ l) m.1 ∙ sym (append_assoc q b m.0);
      })
      (λ m. record {
        front = a ++ p;
        back = m.0;
        cut = h.cut ∙ ap (λ l. a ++ l) m.1 ∙ sym (append_assoc a p m.0);
        joined = k.joined ∙ ap (λ l. l ++ p) m.2 ∙ append_assoc m.0 a p;
      })

  pub rotated-perm : {c r : List A} → Rotated c r → Perm r c
  rotated-perm h = perm-trans (perm-path h.joined) (perm-trans (perm_append_comm h.back h.front) (perm-path (sym h.cut)))

  pub rotated-nonempty : {c r : List A} → Rotated c r → nonempty c ≡ true → nonempty r ≡ true
  rotated-nonempty {c = []} h e = absurd (true≢false (sym e))
  rotated-nonempty {c = x ∷ c} {r = []} h e = absurd (omega (arith, perm-length (rotated-perm h)))
  rotated-nonempty {c = x ∷ c} {r = y ∷ r} h e = refl

  first-split : (a b : List A) (x : A) (k : ℕ) → length a < k → ((x ∷ b) ++ a) ∈ first_rotations k (a ++ (x ∷ b))
  first-split [] b x zero h = absurd (omega arith)
  first-split [] b x (suc k) h = Memᴰ.head (append-nil (x ∷ b))
  first-split (y ∷ a) b x zero h = absurd (omega arith)
  first-split (y ∷ a) b x (suc k) h =
      in_tail
      (in_moved (ap (λ l. x ∷ l) (append_assoc b (y ∷ []) a))
      (in_list (ap (first_rotations k) (sym (append_assoc a (x ∷ b) (y ∷ []))))
      (first-split a (b ++ (y ∷ [])) x k (omega arith))))

  -- the rotations of a list are its cuts, the second part first
  pub rotation-of-split : (a b : List A) (x : A) → ((x ∷ b) ++ a) ∈ rotations (a ++ (x ∷ b))
  rotation-of-split a b x = first-split a b x (length (a ++ (x ∷ b))) (omega (arith, length-append a (x ∷ b)))

  pub rotation-self : (c : List A) → nonempty c ≡ true → c ∈ rotations c
  rotation-self [] e = absurd (true≢false (sym e))
  rotation-self (x ∷ c) e = in_head

  pub rotation-append : (a b : List A) → nonempty (a ++ b) ≡ true → (b ++ a) ∈ rotations (a ++ b)
  rotation-append a [] e = rw (append-nil a) (rotation-self a (ap nonempty (sym (append-nil a)) ∙ e))
  rotation-append a (x ∷ b) e = rotation-of-split a b x

  pub rotation-of-rotated : {c r : List A} → Rotated c r → nonempty c ≡ true → r ∈ rotations c
  rotation-of-rotated h e =
      in_moved (sym h.joined) (in_list (ap rotations (sym h.cut)) (rotation-append h.front h.back (ap nonempty (sym h.cut) ∙ e)))

  first-rotated : (a b : List A) (k : ℕ) {r : List A} → k ≤ length b → r ∈ first_rotations k (b ++ a) → Rotated (a ++ b) r
  first-rotated a b zero h m = not-in-nil m
  first-rotated a [] (suc k) h m = absurd (omega arith)
  first-rotated a (x ∷ b) (suc k) {r} h m =
      either (in-cons-cases m)
      (λ q. record { front = a; back = x ∷ b; cut = refl; joined = q })
      (λ i.
      let s = first-rotated (a ++ (x ∷ [])) b k {r = r} (omega arith) (in_list (ap (first_rotations k) (append_assoc b a (x ∷ []))) i) in
      record { front = s.front; back = s.back; cut = sym (append_assoc a (x ∷ []) b) ∙ s.cut; joined = s.joined })

  pub rotated-of-rotation : {c r : List A} → r ∈ rotations c → Rotated c r
  rotated-of-rotation {c} {r} m = first-rotated [] c (length c) (omega arith) (in_list (ap (first_rotations (length c)) (sym (append-nil c))) m)

  pub split-of-rotation : {c r : List A} → r ∈ rotations c → (a : List A) × (b : List A) × (c ≡ a ++ b) × (r ≡ b ++ a)
  split-of-rotation m = let h = rotated-of-rotation m in (h.front, h.back, h.cut, h.joined)

-- The least rotation.

-- the lesser of two is one of them, and is at most the other
lesser-cases : (c d : Component)
    → ((lesser c d ≡ c) × (at_most compare_component c d ≡ true)) ⊎ ((lesser c d ≡ d) × (at_most compare_component d c ≡ true))
unfolding lesser
lesser-cases c d =
    by-test (at_most compare_component c d)
    (λ e. inl (rw (e, lesser), e))
    (λ e. inr (rw (e, lesser), at_most-turned compare_component-lawful c d e))

pub least-member : (c : Component) (ds : List Component) → least c ds ∈ (c ∷ ds)
unfolding least
least-member c [] = in_head
least-member c (d ∷ ds) =
    either (in-cons-cases (least-member (lesser c d) ds))
    (λ q. either (lesser-cases c d) (λ r. Memᴰ.head (q ∙ r.0)) (λ r. in_tail (Memᴰ.head (q ∙ r.0))))
    (λ i. in_tail (in_tail i))

lesser-left : (c d : Component) → at_most compare_component (lesser c d) c ≡ true
lesser-left c d =
    either (lesser-cases c d)
    (λ r. rw r.0 (at_most-self compare_component-lawful c))
    (λ r. rw r.0 r.1)

lesser-right : (c d : Component) → at_most compare_component (lesser c d) d ≡ true
lesser-right c d =
    either (lesser-cases c d)
    (λ r. rw r.0 r.1)
    (λ r. rw r.0 (at_most-self compare_component-lawful d))

pub least-least : (c : Component) (ds : List Component) {r : Component} → r ∈ (c ∷ ds) → at_most compare_component (least c ds) r ≡ true
unfolding least
least-least c [] {r} m =
    either (in-cons-cases m)
    (λ q. ap (at_most compare_component c) q ∙ at_most-self compare_component-lawful c)
    (λ i. not-in-nil i)
least-least c (d ∷ ds) {r} m =
    let e = lesser c d in
    let f = least-least e ds {r = e} in_head in
    either (in-cons-cases m)
    (λ q. at_most-trans compare_component-lawful (least e ds) e r f (ap (at_most compare_component e) q ∙ lesser-left c d))
    (λ i. either (in-cons-cases i)
    (λ q. at_most-trans compare_component-lawful (least e ds) e r f (ap (at_most compare_component e) q ∙ lesser-right c d))
    (λ j. least-least e ds (in_tail j)))

-- the least rotation is a rotation
pub least_rotation-rotated : (c : Component) → Rotated c (least_rotation c)
unfolding least_rotation
least_rotation-rotated c =
    either (in-cons-cases (least-member c (rotations c)))
    (λ q. rw q (rotated-self c))
    (λ m. rotated-of-rotation m)

pub least_rotation-rotation : (c : Component) → nonempty c ≡ true → least_rotation c ∈ rotations c
least_rotation-rotation c e = rotation-of-rotated (least_rotation-rotated c) e

-- and no rotation is less
pub least_rotation-least : (c : Component) {r : Component} → r ∈ rotations c → at_most compare_component (least_rotation c) r ≡ true
unfolding least_rotation
least_rotation-least c m = least-least c (rotations c) (in_tail m)

pub least_rotation-at_most : {c r : Component} → Rotated c r → at_most compare_component (least_rotation c) r ≡ true
unfolding least_rotation compare_component
least_rotation-at_most {c = []} {r = []} h = refl
least_rotation-at_most {c = []} {r = x ∷ r} h = refl
least_rotation-at_most {c = x ∷ c} h = least_rotation-least (x ∷ c) (rotation-of-rotated h refl)

-- all rotations of a component have the same least rotation
pub least_rotation-same : {c d : Component} → Rotated c d → least_rotation c ≡ least_rotation d
least_rotation-same {c} {d} h =
    at_most-anti compare_component-lawful (least_rotation c) (least_rotation d)
    (least_rotation-at_most (rotated-trans h (least_rotation-rotated d)))
    (least_rotation-at_most (rotated-trans (rotated-sym h) (least_rotation-rotated c)))

pub least_rotation-append : (a b : Component) → least_rotation (b ++ a) ≡ least_rotation (a ++ b)
least_rotation-append a b = least_rotation-same (rotated-append b a)

-- Valid components.

-- what the test says: there is a tree, every tree is valid, and no cut with its parts exchanged is less
pub valid-parts : (c : Component) → valid_component c ≡ true
    → (nonempty c ≡ true) × (each valid_tree c ≡ true) × ((a b : Component) → c ≡ a ++ b → at_most compare_component c (b ++ a) ≡ true)
unfolding valid_component
valid-parts c e =
    let h = and-true (nonempty c && each valid_tree c) (each (at_most compare_component c) (rotations c)) e in
    let k = and-true (nonempty c) (each valid_tree c) h.0 in
    (k.0, k.1, λ a b q. each_member (at_most compare_component c) h.1 (in_list (ap rotations (sym q)) (rotation-append a b (ap nonempty (sym q) ∙ k.0))))

pub valid-from : (c : Component) → nonempty c ≡ true → each valid_tree c ≡ true
    → ((a b : Component) → c ≡ a ++ b → at_most compare_component c (b ++ a) ≡ true) → valid_component c ≡ true
unfolding valid_component
valid-from c e f h =
    true-and (true-and e f)
    (each-true (at_most compare_component c) (rotations c)
    (λ r m. let s = rotated-of-rotation m in ap (at_most compare_component c) s.joined ∙ h s.front s.back s.cut))

pub valid-nonempty : (c : Component) → valid_component c ≡ true → nonempty c ≡ true
valid-nonempty c e = (valid-parts c e).0

-- a valid component has a point
pub points-positive : (c : Component) → valid_component c ≡ true → 0 < points c
points-positive [] v = absurd (true≢false (sym (valid-nonempty [] v)))
points-positive (t ∷ c) v = omega (arith, size-positive t)

pub valid-trees : (c : Component) → valid_component c ≡ true → each valid_tree c ≡ true
valid-trees c e = (valid-parts c e).1

pub valid-rotated : {c r : Component} → valid_component c ≡ true → Rotated c r → at_most compare_component c r ≡ true
valid-rotated {c} e h = ap (at_most compare_component c) h.joined ∙ (valid-parts c e).2 h.front h.back h.cut

-- the least rotation of valid trees is valid
pub least_rotation-valid : (c : Component) → nonempty c ≡ true → each valid_tree c ≡ true → valid_component (least_rotation c) ≡ true
least_rotation-valid c e f =
    let h = least_rotation-rotated c in
    valid-from (least_rotation c) (rotated-nonempty h e) (perm-each-same valid_tree (rotated-perm h) ∙ f)
    (λ a b q. least_rotation-at_most (rotated-trans h (record { front = a; back = b; cut = q; joined = refl })))

-- a valid component is its own least rotation
pub valid-least_rotation : (c : Component) → valid_component c ≡ true → least_rotation c ≡ c
valid-least_rotation c e =
    at_most-anti compare_component-lawful (least_rotation c) c
    (least_rotation-at_most (rotated-self c))
    (valid-rotated e (least_rotation-rotated c))
