-- Inserting a plant among sorted ones, as blocks of trees and labels: the walk to its place, and the exchange that brings it there.
use mathlib.Core.Path.{◌≡◌, refl, ap, sym, subst, ◌∙◌}
use mathlib.Core.Bool.{Bool, true, false}
use mathlib.Core.List.{List, [], ◌∷◌, ◌++◌, map, append_assoc, append-nil}
use Prim.Native.Nat.{ℕ, ◌+◌, ◌-◌, ◌≤◌, compare}
use native.Mathlib.Omega.{arith}
use lib.ListN.{length, get_or, take, drop}
use Rattle.lists.specs.Order.{lex, at_most}
use Rattle.lists.specs.Sort.{insert}
use Rattle.lists.specs.Blocks.{exchanged}
use Rattle.lists.proofs.Tests.{by-test}
use Rattle.patterns.specs.Tree.{Tree, size, code, compare_tree}
use Rattle.patterns.specs.Component.{Component, points, flat}
use Rattle.patterns.proofs.Trees.{points-append, length-flat, length-code}
use Rattle.trees.proofs.Walks.{Along, Next, along-step, along-whole, along-end, along-length}
use Rattle.memory.specs.Memory.{Stands}
use Rattle.map_theory.specs.Plants.{Plant, shape, compare_plant}
use Rattle.arrangement.specs.Arrangement.{Planted, points_before}
use Rattle.memory.proofs.Standing.{stands-left, stands-right, stands-path, stands_at, stands-part}
use Rattle.arrangement.proofs.Planting.{points-plants, flat-plants, planted-exchanged, planted-stands}

pub before-stop : (t u : Tree) (us : Component) → at_most compare_tree t u ≡ true → points_before t (u ∷ us) ≡ 0
unfolding points_before
before-stop t u us e = rw e

pub before-pass : (t u : Tree) (us : Component) → at_most compare_tree t u ≡ false → points_before t (u ∷ us) ≡ size u + points_before t us
unfolding points_before
before-pass t u us e = rw e

pub before-none : (t : Tree) → points_before t [] ≡ 0
unfolding points_before
before-none t = refl

-- what `tree` holds exceeds all trees up to the place
abbrev pub Exceeds : List ℕ → Component → Component → Type 0
Exceeds tree a r = (t : Tree) → tree ≡ code t → points_before t (a ++ r) ≡ points a + points_before t r

pub exceeds-start : (tree : List ℕ) (c : Component) → Exceeds tree [] c
exceeds-start tree c t e = omega arith

code-order : (tree : List ℕ) (t u : Tree) (b : Bool) → tree ≡ code t → at_most (lex compare) tree (code u) ≡ b → at_most compare_tree t u ≡ b
unfolding compare_tree
code-order tree t u b e h = ap (λ l. at_most (lex compare) l (code u)) (sym e) ∙ h

module _ {siblings : List ℕ} {at : ℕ} {tree : List ℕ} (w : Along siblings at (Exceeds tree)) where
  -- it does not exceed the tree at the place
  pub exceeds-stop : (n : Next siblings at w.rest) → at_most (lex compare) tree (code n.tree) ≡ true
      → (t : Tree) (c : Component) → tree ≡ code t → siblings ≡ flat c → at ≡ points_before t c
  exceeds-stop n h t c e g =
      omega (
        arith,
        w.kept t e,
        ap (points_before t) n.is,
        before-stop t n.tree n.later (code-order tree t n.tree true e h),
        ap (points_before t) (along-whole w c g),
        w.place,
      )

  -- it exceeds that tree too
  pub exceeds-step : (n : Next siblings at w.rest) → at_most (lex compare) tree (code n.tree) ≡ false → Along siblings (at + get_or siblings at 0) (Exceeds tree)
  exceeds-step n h =
      along-step w n (Exceeds tree)
      (λ t e.
      let q : (w.ahead ++ (n.tree ∷ [])) ++ n.later ≡ w.ahead ++ w.rest =
      append_assoc w.ahead (n.tree ∷ []) n.later ∙ ap (λ l. w.ahead ++ l) (sym n.is) in
      omega (
        arith,
        ap (points_before t) q,
        w.kept t e,
        ap (points_before t) n.is,
        before-pass t n.tree n.later (code-order tree t n.tree false e h),
        points-append w.ahead (n.tree ∷ []),
      ))

  -- it exceeds them all
  pub exceeds-end : length siblings ≤ at → (t : Tree) (c : Component) → tree ≡ code t → siblings ≡ flat c → at ≡ points_before t c
  exceeds-end h t c e g =
      omega (
        arith,
        along-end w h c g t e,
        before-none t,
        ap (points_before t) (append-nil c),
        ap length g,
        length-flat c,
        along-length w,
      )

-- the plants before the place of v, and those from there on
pub record InsertedAt (v : Plant) (us : List Plant) : Type 0 where
  pub front : List Plant
  pub back : List Plant
  pub cut : us ≡ front ++ back
  pub joined : insert compare_plant v us ≡ front ++ (v ∷ back)
  pub place : points_before (shape v) (map shape us) ≡ points (map shape front)

pub insert-at : (v : Plant) (us : List Plant) → InsertedAt v us
insert-at v [] = record { front = []; back = []; cut = refl; joined = refl; place = before-none (shape v) }
insert-at v (u ∷ us) =
    by-test (at_most compare_plant v u)
    (λ t. record { front = []; back = u ∷ us; cut = refl; joined = rw t; place = before-stop (shape v) (shape u) (map shape us) t })
    (λ t.
    let r = insert-at v us in
    record {
      front = u ∷ r.front;
      back = r.back;
      cut = ap (λ l. u ∷ l) r.cut;
      joined = rw t (ap (λ l. u ∷ l) r.joined);
      place = before-pass (shape v) (shape u) (map shape us) t ∙ ap (λ k. size (shape u) + k) r.place;
    })

-- the exchange brings v to its place
pub planted-inserted : (us : List Plant) (v : Plant) {start p end next : ℕ} {d e trees labels : List ℕ} → next ≤ length d → next ≤ length e
    → p ≡ start + points_before (shape v) (map shape us) → end ≡ start + points (map shape us)
    → Planted (us ++ (v ∷ [])) start d e next trees labels
    → Planted (insert compare_plant v us) start d e next (exchanged p end next trees) (exchanged p end next labels)
planted-inserted us v {start} {p} {end} {next} {d} {e} {trees} {labels} h k q m pl =
    let r = insert-at v us in
    let a = r.front in
    let b = r.back in
    let s : us ++ (v ∷ []) ≡ a ++ (b ++ (v ∷ [])) = ap (λ l. l ++ (v ∷ [])) r.cut ∙ append_assoc a b (v ∷ []) in
    let w = planted-exchanged a b (v ∷ []) {mid = p} {end = end} h k (omega (arith, r.place)) (omega (arith, r.place, ap (λ l. points (map shape l)) r.cut, points-plants a b))
    (subst (λ l. Planted l start d e next trees labels) s pl) in
    subst (λ l. Planted l start d e next (exchanged p end next trees) (exchanged p end next labels)) (sym r.joined) w

-- where the plants stand: those before the last one, and the last one
pub planted-siblings : (us : List Plant) (v : Plant) {start end next : ℕ} {d e trees labels : List ℕ} → next ≤ length d → end ≡ start + points (map shape us)
    → Planted (us ++ (v ∷ [])) start d e next trees labels
    → (take (end - start) (drop start trees) ≡ flat (map shape us)) × (take (next - end) (drop end trees) ≡ code (shape v))
planted-siblings us v {start} {end} {next} {d} {e} {trees} h m p =
    let n : next ≡ start + (points (map shape us) + points (map shape (v ∷ []))) = omega (arith, p.ends, points-plants us (v ∷ [])) in
    let s : Stands (flat (map shape us) ++ (code (shape v) ++ [])) start trees =
    stands-path (flat-plants us (v ∷ [])) (planted-stands (omega arith) p) in (
      stands-part end (omega (arith, length-flat (map shape us))) (stands-left (code (shape v) ++ []) s),
      stands-part next (omega (arith, length-code (shape v)))
          (stands-left [] (stands_at (omega (arith, length-flat (map shape us))) (stands-right (flat (map shape us)) s))),
    )
