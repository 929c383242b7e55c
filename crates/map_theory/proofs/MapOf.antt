-- The map of a system: the points 0, 1 and on, in written order, are a picture of it with the system as its shapes.
use mathlib.Core.Path.{◌≡◌, refl, ap, ap₂, sym, ◌∙◌}
use mathlib.Core.List.{List, [], ◌∷◌, ◌++◌, map, map-append, append_assoc, head-eq_of_cons-eq, tail-eq_of_cons-eq}
use mathlib.Core.Bool.{true}
use Prim.Native.Nat.{ℕ, suc, ◌+◌, ◌≤◌, ◌<◌}
use native.Mathlib.Omega.{arith}
use lib.Dec.{ltb}
use borrow.Author.Tests.{lt-ltb}
use lib.ListN.{length, length-append, length-map}
use lib.Seq.{get_or_at}
use Rattle.lists.specs.Select.{gather, range}
use Rattle.lists.proofs.Tests.{◌∈◌, either, each-true}
use Rattle.lists.proofs.Permute.{perm-path}
use Rattle.lists.proofs.Members.{in-cons-cases, in-append-cases, not-in-nil}
use Rattle.lists.proofs.Places.{range_length, range-append}
use Rattle.patterns.specs.Tree.{Tree, point, merge, size}
use Rattle.patterns.specs.Component.{Component, points, turn}
use Rattle.patterns.specs.System.{System, weight}
use Rattle.patterns.specs.MapOf.{inner_images, cycle_images, images_from, map_of}
use Rattle.patterns.specs.Table.{image, is_table}
use Rattle.lists.proofs.Gathering.{append-same-length}
use Rattle.map_theory.proofs.Pictures.{Plant, tip, join, shape, root, labels, Arrows, arrows_tip, arrows_join, all_labels, shapes, Picture}

-- from place p on, the table r reads xs
pub record Reads (r : List ℕ) (p : ℕ) (xs : List ℕ) : Type 0 where
  pub reads : map (image r) (range p (length xs)) ≡ xs

-- a table reads itself
pub reads_self : (r : List ℕ) → Reads r 0 r
reads_self r = record { reads = from r 0 [] refl }
  where
    from : (l : List ℕ) (p : ℕ) (a : List ℕ) → length a ≡ p → map (image (a ++ l)) (range p (length l)) ≡ l
    from [] p a e = refl
    from (x ∷ l) p a e =
        ap₂ ◌∷◌ (get_or_at a x l 0 p e)
        (ap (λ b. map (image b) (range (suc p) (length l))) (sym (append_assoc a (x ∷ []) l))
        ∙ from l (suc p) (a ++ (x ∷ [])) (omega (arith, length-append a (x ∷ []))))

module _ {r : List ℕ} {p : ℕ} where
  pub reads-head : {x : ℕ} {xs : List ℕ} → Reads r p (x ∷ xs) → image r p ≡ x
  reads-head h = head-eq_of_cons-eq h.reads

  pub reads-tail : {x : ℕ} {xs : List ℕ} → Reads r p (x ∷ xs) → Reads r (suc p) xs
  reads-tail h = record { reads = tail-eq_of_cons-eq h.reads }

  reads_both : (xs ys : List ℕ) → Reads r p (xs ++ ys)
      → (map (image r) (range p (length xs)) ≡ xs) × (map (image r) (range (p + length xs) (length ys)) ≡ ys)
  reads_both xs ys h =
      let e : map (image r) (range p (length xs)) ++ map (image r) (range (p + length xs) (length ys)) ≡ xs ++ ys =
      sym (map-append (image r) (range p (length xs)) (range (p + length xs) (length ys)))
      ∙ ap (map (image r)) (sym (range-append p (length xs) (length ys)))
      ∙ ap (λ k. map (image r) (range p k)) (sym (length-append xs ys))
      ∙ h.reads in
      append-same-length (map (image r) (range p (length xs))) xs
      (map (image r) (range (p + length xs) (length ys))) ys (omega (arith, length-map (range p (length xs)) (image r), range_length p (length xs))) e

  -- reading splits over ++
  pub reads-left : {xs : List ℕ} (ys : List ℕ) → Reads r p (xs ++ ys) → Reads r p xs
  reads-left {xs} ys h = record { reads = (reads_both xs ys h).0 }

  pub reads-right : (xs : List ℕ) {ys : List ℕ} (q : ℕ) → p + length xs ≡ q → Reads r p (xs ++ ys) → Reads r q ys
  reads-right xs {ys} q e h = record { reads = ap (λ k. map (image r) (range k (length ys))) (sym e) ∙ (reads_both xs ys h).1 }

-- the tree with the points p, p + 1 and on, in written order
abbrev pub numbered : ℕ → Tree → Plant
numbered p point = tip p
numbered p (merge t u) = join (numbered p t) (numbered (p + size t) u)

abbrev pub numbered_cycle : ℕ → Component → List Plant
numbered_cycle p [] = []
numbered_cycle p (t ∷ c) = numbered p t ∷ numbered_cycle (p + size t) c

abbrev pub numbered_system : ℕ → System → List (List Plant)
numbered_system p [] = []
numbered_system p (c ∷ S) = numbered_cycle p c ∷ numbered_system (p + points c) S

pub numbered-shape : (p : ℕ) (t : Tree) → shape (numbered p t) ≡ t
numbered-shape p point = refl
numbered-shape p (merge t u) = ap₂ merge (numbered-shape p t) (numbered-shape (p + size t) u)

pub numbered-root : (p : ℕ) (t : Tree) → root (numbered p t) ≡ p
numbered-root p point = refl
numbered-root p (merge t u) = numbered-root p t

pub numbered-labels : (p : ℕ) (t : Tree) → labels (numbered p t) ≡ range p (size t)
numbered-labels p point = refl
numbered-labels p (merge t u) =
    ap₂ ◌++◌ (numbered-labels p t) (numbered-labels (p + size t) u) ∙ sym (range-append p (size t) (size u))

pub numbered_cycle-shape : (p : ℕ) (c : Component) → map shape (numbered_cycle p c) ≡ c
numbered_cycle-shape p [] = refl
numbered_cycle-shape p (t ∷ c) = ap₂ ◌∷◌ (numbered-shape p t) (numbered_cycle-shape (p + size t) c)

pub numbered_cycle-labels : (p : ℕ) (c : Component) → gather labels (numbered_cycle p c) ≡ range p (points c)
numbered_cycle-labels p [] = refl
numbered_cycle-labels p (t ∷ c) =
    ap₂ ◌++◌ (numbered-labels p t) (numbered_cycle-labels (p + size t) c) ∙ sym (range-append p (size t) (points c))

pub numbered_system-shapes : (p : ℕ) (S : System) → shapes (numbered_system p S) ≡ S
numbered_system-shapes p [] = refl
numbered_system-shapes p (c ∷ S) = ap₂ ◌∷◌ (numbered_cycle-shape p c) (numbered_system-shapes (p + points c) S)

pub numbered_system-labels : (p : ℕ) (S : System) → all_labels (numbered_system p S) ≡ range p (weight S)
numbered_system-labels p [] = refl
numbered_system-labels p (c ∷ S) =
    ap₂ ◌++◌ (numbered_cycle-labels p c) (numbered_system-labels (p + points c) S) ∙ sym (range-append p (points c) (weight S))

-- every point has one image
pub length-inner_images : (p : ℕ) (t : Tree) → suc (length (inner_images p t)) ≡ size t
length-inner_images p point = refl
length-inner_images p (merge t u) =
    omega (
      arith,
      length-append (inner_images p t) (p ∷ inner_images (p + size t) u),
      length-inner_images p t,
      length-inner_images (p + size t) u,
    )

pub length-cycle_images : (first p : ℕ) (c : Component) → length (cycle_images first p c) ≡ points c
length-cycle_images first p [] = refl
length-cycle_images first p (t ∷ []) = omega (arith, length-inner_images p t)
length-cycle_images first p (t ∷ u ∷ c) =
    omega (
      arith,
      length-append (inner_images p t) (cycle_images first (p + size t) (u ∷ c)),
      length-inner_images p t,
      length-cycle_images first (p + size t) (u ∷ c),
    )

pub length-images_from : (p : ℕ) (S : System) → length (images_from p S) ≡ weight S
length-images_from p [] = refl
length-images_from p (c ∷ S) =
    omega (arith, length-append (cycle_images p p c) (images_from (p + points c) S), length-cycle_images p p c, length-images_from (p + points c) S)

-- the map of a system has as many points as the system
pub length-map_of : (S : System) → length (map_of S) ≡ weight S
unfolding map_of
length-map_of S = length-images_from 0 S

module _ (r : List ℕ) where
  -- the arrows inside a tree
  numbered-arrows : (p : ℕ) (t : Tree) → Reads r (suc p) (inner_images p t) → Arrows (image r) (numbered p t)
  numbered-arrows p point h = arrows_tip
  numbered-arrows p (merge t u) h =
      let q = p + size t in
      let k = reads-right (inner_images p t) q (omega (arith, length-inner_images p t)) h in
      arrows_join (numbered-arrows p t (reads-left (p ∷ inner_images q u) h)) (numbered-arrows q u (reads-tail k))
      (ap (image r) (numbered-root q u) ∙ reads-head k ∙ sym (numbered-root p t))

  -- the trees of a cycle
  cycle-arrows : (first p : ℕ) (c : Component) → Reads r p (cycle_images first p c) → (t : Plant) → t ∈ numbered_cycle p c → Arrows (image r) t
  cycle-arrows first p [] h t m = not-in-nil m
  cycle-arrows first p (u ∷ []) h t m =
      either (in-cons-cases m) (λ e. rw e (numbered-arrows p u (reads-tail h))) (λ k. not-in-nil k)
  cycle-arrows first p (u ∷ v ∷ c) h t m =
      let k = reads-tail h in
      either (in-cons-cases m)
      (λ e. rw e (numbered-arrows p u (reads-left (cycle_images first (p + size u) (v ∷ c)) k)))
      (λ i. cycle-arrows first (p + size u) (v ∷ c) (reads-right (inner_images p u) (p + size u) (omega (arith, length-inner_images p u)) k) t i)

  -- the roots of a cycle
  cycle-roots : (first p : ℕ) (t : Tree) (c : Component) → Reads r p (cycle_images first p (t ∷ c))
      → map (image r) (map root (numbered_cycle p (t ∷ c))) ≡ map root (numbered_cycle (p + size t) c) ++ (first ∷ [])
  cycle-roots first p t [] h = ap (λ x. x ∷ []) (ap (image r) (numbered-root p t) ∙ reads-head h)
  cycle-roots first p t (u ∷ c) h =
      let q = p + size t in
      ap₂ ◌∷◌ (ap (image r) (numbered-root p t) ∙ reads-head h ∙ sym (numbered-root q u))
      (cycle-roots first q u c (reads-right (inner_images p t) q (omega (arith, length-inner_images p t)) (reads-tail h)))

  system-arrows : (p : ℕ) (S : System) → Reads r p (images_from p S) → (d : List Plant) → d ∈ numbered_system p S
      → ((t : Plant) → t ∈ d → Arrows (image r) t) × (map (image r) (map root d) ≡ turn (map root d))
  system-arrows p [] h d m = not-in-nil m
  system-arrows p (c ∷ S) h d m =
      let here = reads-left (images_from (p + points c) S) h in
      either (in-cons-cases m)
      (λ e. rw e (cycle-arrows p p c here, whole c here))
      (λ i. system-arrows (p + points c) S (reads-right (cycle_images p p c) (p + points c) (omega (arith, length-cycle_images p p c)) h) d i)
    where
      whole : (c : Component) → Reads r p (cycle_images p p c) → map (image r) (map root (numbered_cycle p c)) ≡ turn (map root (numbered_cycle p c))
      whole [] h = refl
      whole (t ∷ c) h = cycle-roots p p t c h ∙ ap (λ x. map root (numbered_cycle (p + size t) c) ++ (x ∷ [])) (sym (numbered-root p t))

-- the places in written order are a picture of the map of S, and its shapes are S
pub map_of-picture : (S : System) → Picture (weight S) (image (map_of S)) (numbered_system 0 S)
unfolding map_of
map_of-picture S =
    let h = system-arrows (map_of S) 0 S (reads_self (map_of S)) in
    record {
      points = perm-path (numbered_system-labels 0 S);
      arrows = λ c t m k. (h c m).0 t k;
      cycles = λ c m. (h c m).1;
    }

inner_below : (p : ℕ) (t : Tree) {y : ℕ} → y ∈ inner_images p t → y < p + size t
inner_below p point m = not-in-nil m
inner_below p (merge t u) m =
    either (in-append-cases (inner_images p t) m)
    (λ i. omega (arith, inner_below p t i))
    (λ i. either (in-cons-cases i)
    (λ e. omega (arith, length-inner_images p t))
    (λ j. omega (arith, inner_below (p + size t) u j)))

cycle-below : (first p : ℕ) (c : Component) {y : ℕ} → first ≤ p → y ∈ cycle_images first p c → y < p + points c
cycle-below first p [] h m = not-in-nil m
cycle-below first p (t ∷ []) h m =
    either (in-cons-cases m)
    (λ e. omega (arith, length-inner_images p t))
    (λ i. omega (arith, inner_below p t i))
cycle-below first p (t ∷ u ∷ c) h m =
    either (in-cons-cases m)
    (λ e. omega (arith, length-inner_images p u))
    (λ i. either (in-append-cases (inner_images p t) i)
    (λ j. omega (arith, inner_below p t j))
    (λ j. omega (arith, cycle-below first (p + size t) (u ∷ c) (omega arith) j)))

images-below : (p : ℕ) (S : System) {y : ℕ} → y ∈ images_from p S → y < p + weight S
images-below p [] m = not-in-nil m
images-below p (c ∷ S) m =
    either (in-append-cases (cycle_images p p c) m)
    (λ i. omega (arith, cycle-below p p c (omega arith) i))
    (λ i. omega (arith, images-below (p + points c) S i))

-- the map of a system is a table
pub map_of-table : (S : System) → is_table (map_of S) ≡ true
unfolding map_of
map_of-table S =
    each-true (λ y. ltb y (length (map_of S))) (map_of S)
    (λ y m. lt-ltb y (length (map_of S)) (omega (arith, images-below 0 S m, length-images_from 0 S)))
