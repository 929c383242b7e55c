-- The components of a system in memory, by their places.
use mathlib.Core.Path.{◌≡◌, refl, ap, ap₂, sym, ◌∙◌}
use mathlib.Core.List.{List, [], ◌∷◌, ◌++◌, map, append-nil, head-eq_of_cons-eq, tail-eq_of_cons-eq}
use Prim.Native.Nat.{ℕ, suc, ◌+◌, ◌-◌, ◌≤◌, ◌<◌}
use native.Mathlib.Numerals.{add-one}
use native.Mathlib.Omega.{arith}
use lib.ListN.{length, take, drop, get_or, length-append, length-map, take-append-drop, get_or-map}
use lib.Seq.{take-suc, drop-cons, take_at, drop_at}
use Rattle.lists.specs.Select.{gather}
use Rattle.lists.proofs.Permute.{total-append}
use Rattle.lists.proofs.Members.{gather_append}
use Rattle.patterns.specs.Component.{Component, points, flat}
use Rattle.patterns.specs.System.{System, weight}
use Rattle.patterns.proofs.Trees.{length-flat, flat-injective}
use Rattle.memory.specs.Memory.{Holds}

-- as many bytes as points
pub length-trees : (S : System) → length (gather flat S) ≡ weight S
length-trees [] = refl
length-trees (c ∷ S) = omega (arith, length-append (flat c) (gather flat S), length-flat c, length-trees S)

-- component i is the next after the first i
pub first_next : (S : System) (i : ℕ) → i < length S → take (i + 1) S ≡ take i S ++ (get_or S i [] ∷ [])
first_next S i h = ap (λ k. take k S) (add-one i) ∙ take-suc S i [] h

pub take_next : {B : Type 0} (f : Component → List B) (S : System) (i : ℕ) → i < length S → gather f (take (i + 1) S) ≡ gather f (take i S) ++ f (get_or S i [])
take_next f S i h = rw (first_next S i h) (gather_append f (take i S) (get_or S i [] ∷ []) ∙ ap (gather f (take i S) ++◌) (append-nil (f (get_or S i []))))

pub weight-next : (S : System) (i : ℕ) → i < length S → weight (take (i + 1) S) ≡ weight (take i S) + points (get_or S i [])
weight-next S i h = rw (first_next S i h) (omega (arith, total-append points (take i S) (get_or S i [] ∷ [])))

-- the trees up to place i, and from there on
pub trees-cut : (S : System) (i : ℕ) → gather flat S ≡ gather flat (take i S) ++ gather flat (drop i S)
trees-cut S i = ap (gather flat) (sym (take-append-drop i S)) ∙ gather_append flat (take i S) (drop i S)

pub weight-cut : (S : System) (i : ℕ) → weight S ≡ weight (take i S) + weight (drop i S)
weight-cut S i = ap weight (sym (take-append-drop i S)) ∙ total-append points (take i S) (drop i S)

pub front-trees : (S : System) (i : ℕ) → take (weight (take i S)) (gather flat S) ≡ gather flat (take i S)
front-trees S i =
    ap (take (weight (take i S))) (trees-cut S i)
    ∙ take_at (gather flat (take i S)) (gather flat (drop i S)) (weight (take i S)) (length-trees (take i S))

pub rest-trees : (S : System) (i : ℕ) → drop (weight (take i S)) (gather flat S) ≡ gather flat (drop i S)
rest-trees S i =
    ap (drop (weight (take i S))) (trees-cut S i)
    ∙ drop_at (gather flat (take i S)) (gather flat (drop i S)) (weight (take i S)) (length-trees (take i S))

-- the trees of component i
pub part-flat : (S : System) (i k : ℕ) → i < length S → k ≡ points (get_or S i []) → take k (drop (weight (take i S)) (gather flat S)) ≡ flat (get_or S i [])
part-flat S i k h e =
    ap (take k) (rest-trees S i ∙ ap (gather flat) (drop-cons S i [] h))
    ∙ take_at (flat (get_or S i [])) (gather flat (drop (suc i) S)) k (length-flat (get_or S i []) ∙ sym e)

pub part-fits : (S : System) (i : ℕ) → i < length S → weight (take i S) + points (get_or S i []) ≤ weight S
part-fits S i h = omega (arith, weight-next S i h, weight-cut S (i + 1))

-- Of a system in memory.
module _ {S : System} {sizes trees : List ℕ} (h : Holds S sizes trees) where
  pub held-count : length sizes ≡ length S
  held-count = ap length h.points_are ∙ length-map S points

  pub held-points : length trees ≡ weight S
  held-points = ap length h.flat_is ∙ length-trees S

  pub held-size : (i : ℕ) → get_or sizes i 0 ≡ points (get_or S i [])
  held-size i = ap (λ l. get_or l i 0) h.points_are ∙ get_or-map points S i []

  -- component i ends within the trees
  pub held_fits : (i from : ℕ) → i < length sizes → from ≡ weight (take i S) → from + get_or sizes i 0 ≤ length trees
  held_fits i from k e = omega (arith, held-count, held-points, held-size i, part-fits S i (omega (arith, held-count)))

  -- its trees
  pub held-part : (i from to : ℕ) → i < length sizes → from ≡ weight (take i S) → to ≡ from + get_or sizes i 0 → take (to - from) (drop from trees) ≡ flat (get_or S i [])
  held-part i from to k e f =
      let g : to - from ≡ points (get_or S i []) = omega (arith, held-size i) in
      rw (e, h.flat_is) (part-flat S i (to - weight (take i S)) (omega (arith, held-count)) (omega arith))

  pub held_next : (i from to : ℕ) → i < length sizes → from ≡ weight (take i S) → to ≡ from + get_or sizes i 0 → to ≡ weight (take (i + 1) S)
  held_next i from to k e f = omega (arith, held-count, held-size i, weight-next S i (omega (arith, held-count)))

-- sizes and trees hold one system
pub trees-unique : (S T : System) → map points S ≡ map points T → gather flat S ≡ gather flat T → S ≡ T
trees-unique [] [] p q = refl
trees-unique [] (d ∷ T) p q = absurd (omega (arith, ap length p))
trees-unique (c ∷ S) [] p q = absurd (omega (arith, ap length p))
trees-unique (c ∷ S) (d ∷ T) p q =
    let k : length (flat d) ≡ points c = length-flat d ∙ sym (head-eq_of_cons-eq p) in
    let front : flat c ≡ flat d =
    sym (take_at (flat c) (gather flat S) (points c) (length-flat c)) ∙ ap (take (points c)) q ∙ take_at (flat d) (gather flat T) (points c) k in
    let rest : gather flat S ≡ gather flat T =
    sym (drop_at (flat c) (gather flat S) (points c) (length-flat c)) ∙ ap (drop (points c)) q ∙ drop_at (flat d) (gather flat T) (points c) k in
    ap₂ ◌∷◌ (flat-injective c d front) (trees-unique S T (tail-eq_of_cons-eq p) rest)

pub held-unique : {S T : System} {sizes trees : List ℕ} → Holds S sizes trees → Holds T sizes trees → S ≡ T
held-unique {S} {T} h k = trees-unique S T (sym h.points_are ∙ k.points_are) (sym h.flat_is ∙ k.flat_is)
