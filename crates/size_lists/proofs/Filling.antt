-- Components written one after another to the right of a component: cycles, or that component again; and the first system.
use mathlib.Core.Path.{◌≡◌, refl, ap, ap₂, sym, ◌∙◌}
use mathlib.Core.List.{List, [], ◌∷◌, ◌++◌, map, append_assoc, append-nil}
use mathlib.Core.Option.{some}
use Prim.Native.Nat.{ℕ, zero, suc, ◌+◌, ◌-◌, ◌≤◌, ◌<◌}
use native.Mathlib.Numerals.{add-one}
use native.Mathlib.Omega.{arith}
use lib.Dec.{eqb}
use lib.ListN.{length, take, drop, get_or, replicate, length-append, length-drop, length-replicate, replicate-append-replicate}
use lib.Seq.{take-suc, take_all, take_at, length-take-le}
use borrow.Author.Tests.{eq-eqb, eqb-true}
use Rattle.lists.specs.Select.{first, gather}
use Rattle.lists.proofs.Tests.{by-test}
use Rattle.lists.proofs.Permute.{total-append}
use Rattle.lists.proofs.Members.{gather_append}
use Rattle.patterns.specs.Tree.{point}
use Rattle.patterns.specs.Component.{Component, points, flat}
use Rattle.patterns.specs.System.{System, codes}
use Rattle.patterns.proofs.Trees.{length-flat}
use Rattle.component_theory.proofs.Generation.{cycle-points}
use Rattle.system_theory.specs.Step.{cycle, fill, fills}
use Rattle.memory.specs.Memory.{Holds}
use Rattle.size_lists.specs.SizesHeld.{sum, fill_trees}
use Rattle.system_theory.proofs.Firsts.{codes-first}

-- The first system.

fixed-sizes : (n : ℕ) → map points (replicate n (point ∷ [])) ≡ replicate n 1
fixed-sizes zero = refl
fixed-sizes (suc n) = ap (1 ∷◌) (fixed-sizes n)

fixed-trees : (n : ℕ) → gather flat (replicate n (point ∷ [])) ≡ replicate n 1
fixed-trees zero = refl
fixed-trees (suc n) = ap (1 ∷◌) (fixed-trees n)

-- n ones and n ones hold the first code of n points
pub first-held : (n : ℕ) (sizes trees : List ℕ) → sizes ≡ replicate n 1 → trees ≡ replicate n 1
    → (S : System) → first (codes n) ≡ some S → Holds S sizes trees
first-held n sizes trees p q S e =
    let f : replicate n (point ∷ []) ≡ S = let g = codes-first n in cc in
    record {
      points_are = p ∙ sym (fixed-sizes n) ∙ ap (map points) f;
      flat_is = q ∙ sym (fixed-trees n) ∙ ap (gather flat) f;
    }

-- Filling.

pub flat-cycle : (s : ℕ) → flat (cycle s) ≡ replicate s 1
flat-cycle zero = refl
flat-cycle (suc s) = ap (1 ∷◌) (flat-cycle s)

flat-fill : (d : Component) (s : ℕ) → flat (fill d s) ≡ fill_trees (flat d) s
flat-fill d s = rw (length-flat d) (by-test (eqb (points d) s) (λ e. rw e) (λ e. rw e (flat-cycle s)))

-- the trees of the first way to fill these sizes
pub flat-fills : (d : Component) (sizes : List ℕ) → gather flat (fills d sizes) ≡ gather (fill_trees (flat d)) sizes
flat-fills d [] = refl
flat-fills d (s ∷ sizes) = ap₂ ◌++◌ (flat-fill d s) (flat-fills d sizes)

fill-points : (d : Component) (s : ℕ) → points (fill d s) ≡ s
fill-points d s = by-test (eqb (points d) s) (λ e. rw e (eqb-true (points d) s e)) (λ e. rw e (cycle-points s))

-- it has these sizes
pub fills-points : (d : Component) (sizes : List ℕ) → map points (fills d sizes) ≡ sizes
fills-points d [] = refl
fills-points d (s ∷ sizes) = ap₂ ◌∷◌ (fill-points d s) (fills-points d sizes)

-- a component in front of what is filled in to the right of it is itself filled in
pub fill_here : (d : Component) (s : ℕ) (sizes : List ℕ) → points d ≡ s → d ∷ fills d sizes ≡ fills d (s ∷ sizes)
fill_here d s sizes e = rw (eq-eqb (points d) s e)

-- cycles have ones, whatever their sizes are
pub flat-cycles : (sizes : List ℕ) → gather flat (map cycle sizes) ≡ replicate (sum sizes) 1
flat-cycles [] = refl
flat-cycles (s ∷ sizes) = rw (flat-cycle s, flat-cycles sizes) (replicate-append-replicate s (sum sizes) 1)

pub length-fill : (d : List ℕ) (s : ℕ) → length (fill_trees d s) ≡ s
length-fill d s = by-test (eqb (length d) s) (λ e. rw e (eqb-true (length d) s e)) (λ e. rw e (length-replicate s 1))

-- Sizes up to a place.

pub sum-next : (l : List ℕ) (i : ℕ) → i < length l → sum (take (i + 1) l) ≡ sum (take i l) + get_or l i 0
sum-next l i h = rw (add-one i, take-suc l i 0 h) (omega (arith, total-append (λ s. s) (take i l) (get_or l i 0 ∷ [])))

pub sum-part : (l : List ℕ) (i : ℕ) → sum (take i l) ≤ sum l
sum-part [] zero = omega arith
sum-part [] (suc i) = omega arith
sum-part (x ∷ l) zero = omega arith
sum-part (x ∷ l) (suc i) = omega (arith, sum-part l i)

-- The first i of the sizes are filled, each size s with the trees that f gives for it, up to the place `at` of the trees.
pub record Filling (f : ℕ → List ℕ) (sizes trees : List ℕ) (i at : ℕ) : Type 0 where
  pub within : i ≤ length sizes
  pub place : at ≡ sum (take i sizes)
  pub room : sum sizes ≡ length trees
  pub had : take at trees ≡ gather f (take i sizes)
  pub long : (s : ℕ) → length (f s) ≡ s

pub filling-start : {f : ℕ → List ℕ} → ((s : ℕ) → length (f s) ≡ s) → (sizes trees : List ℕ) → sum sizes ≡ length trees → Filling f sizes trees 0 0
filling-start g sizes trees h = record { within = omega arith; place = refl; room = h; had = refl; long = g }

module _ {f : ℕ → List ℕ} {sizes trees : List ℕ} {i at : ℕ} (w : Filling f sizes trees i at) where
  -- the next component lies within the trees
  pub filling-fits : i < length sizes → at + get_or sizes i 0 ≤ length trees
  filling-fits h = omega (arith, w.place, w.room, sum-next sizes i h, sum-part sizes (i + 1))

  -- one component more
  pub filling-next : (k : ℕ) (part : List ℕ) → i < length sizes → k ≡ at + get_or sizes i 0 → part ≡ f (length (take (k - at) (drop at trees)))
      → Filling f sizes (take at trees ++ (part ++ drop (k - at) (drop at trees))) (i + 1) k
  filling-next k part h e p =
      let fits = filling-fits h in
      let len : length (take (k - at) (drop at trees)) ≡ k - at = length-take-le (k - at) (drop at trees) (omega (arith, length-drop at trees)) in
      let n : length part ≡ k - at = ap length p ∙ w.long (length (take (k - at) (drop at trees))) ∙ len in
      let front : length (take at trees) ≡ at = length-take-le at trees (omega arith) in
      let q : k - at ≡ get_or sizes i 0 = omega arith in
      let joined : length (take at trees ++ part) ≡ k = omega (arith, length-append (take at trees) part) in
      record {
        within = omega arith;
        place = omega (arith, w.place, sum-next sizes i h);
        room = w.room ∙ simp (length-append, length-drop) (omega arith);
        long = w.long;
        had =
            ap (take k) (sym (append_assoc (take at trees) part (drop (k - at) (drop at trees))))
            ∙ take_at (take at trees ++ part) (drop (k - at) (drop at trees)) k joined
            ∙ ap₂ ◌++◌ w.had (p ∙ ap f (len ∙ q))
            ∙ rw (add-one i, take-suc sizes i 0 h, gather_append f (take i sizes) (get_or sizes i 0 ∷ []), append-nil);
      }

  -- all are filled
  pub filling-end : length sizes ≤ i → trees ≡ gather f sizes
  filling-end h =
      let e : take i sizes ≡ sizes = take_all i sizes h in
      let n : length trees ≤ at = omega (arith, w.room, w.place, ap sum e) in
      sym (take_all at trees n) ∙ w.had ∙ ap (gather f) e
