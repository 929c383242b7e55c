-- Writing the images of the points of a code: branch by branch of a tree, tree by tree of a cycle, component by component.
use mathlib.Core.Path.{◌≡◌, refl, ap, ap₂, sym, ◌∙◌}
use mathlib.Core.List.{List, [], ◌∷◌, ◌++◌, append_assoc, append-nil}
use Prim.Native.Nat.{ℕ, ◌+◌, ◌≤◌, ◌<◌}
use native.Mathlib.Omega.{arith}
use lib.ListN.{length, get_or, set, length-append, length-set}
use Rattle.patterns.specs.Tree.{Tree, point, merge, size, code, branches}
use Rattle.patterns.specs.Component.{points, flat}
use Rattle.patterns.specs.MapOf.{inner_images}
use Rattle.patterns.proofs.Trees.{size-positive, points-append, flat_append, length-code, length-flat, code-branches, size-branches}
use Rattle.written.specs.Putting.{placed}
use Rattle.written.proofs.Placing.{placed-length, placed-none, placed_one, placed-more}
use Rattle.memory.specs.Memory.{Stands}
use Rattle.mapping.specs.Images.{TreeStands}
use Rattle.memory.proofs.Standing.{stands-left, stands-right, stands-head, stands-path, stands_at, stands-fits}
use Rattle.map_theory.proofs.MapOf.{length-inner_images}

-- a list that goes on with another stands in two steps
pub placed-join : (p q : ℕ) (a b d e : List ℕ) → q ≡ p + length a → p + length a ≤ length d → e ≡ placed p a d → placed q b e ≡ placed p (a ++ b) d
placed-join p q a b d e h k s = rw (h, s) (placed-more p a b d k)

-- one entry, and a list behind it
pub placed-entry : (p x : ℕ) (l d : List ℕ) → p < length d → placed (p + 1) l (set d p x) ≡ placed p (x ∷ l) d
placed-entry p x l d h = placed-join p (p + 1) (x ∷ []) l d (set d p x) refl (omega arith) (placed_one d p x h)

-- the images of the points of branches of point p, the first of them being point q
abbrev pub sibling_images : ℕ → ℕ → List Tree → List ℕ
sibling_images p q [] = []
sibling_images p q (u ∷ us) = (p ∷ inner_images q u) ++ sibling_images p (q + size u) us

pub row_images-append : (p q : ℕ) (a b : List Tree) → sibling_images p q (a ++ b) ≡ sibling_images p q a ++ sibling_images p (q + points a) b
row_images-append p q [] b = let e : q + 0 ≡ q = omega arith in rw e
row_images-append p q (u ∷ a) b =
    let e : q + size u + points a ≡ q + (size u + points a) = omega arith in
    ap (λ r. (p ∷ inner_images q u) ++ r) (row_images-append p (q + size u) a b ∙ rw e)
    ∙ sym (append_assoc (p ∷ inner_images q u) (sibling_images p (q + size u) a) (sibling_images p (q + (size u + points a)) b))

pub length-row_images : (p q : ℕ) (us : List Tree) → length (sibling_images p q us) ≡ points us
length-row_images p q [] = refl
length-row_images p q (u ∷ us) =
    omega (arith, length-append (p ∷ inner_images q u) (sibling_images p (q + size u) us), length-inner_images q u, length-row_images p (q + size u) us)

-- the images of the points of a tree but its root are those of its branches
pub inner-siblings : (p : ℕ) (t : Tree) → inner_images p t ≡ sibling_images p (p + 1) (branches t)
inner-siblings p point = refl
inner-siblings p (merge t u) =
    let e : p + 1 + points (branches t) ≡ p + size t = omega (arith, size-branches t) in
    ap₂ ◌++◌ (inner-siblings p t) (sym (append-nil (p ∷ inner_images (p + size t) u)) ∙ rw (← e))
    ∙ sym (row_images-append p (p + 1) (branches t) (u ∷ []))

-- the branches had of the tree t at p have their images, and the others rest are next, from q on
pub record Imaging (t : Tree) (p q : ℕ) (out₀ out : List ℕ) : Type 0 where
  pub had : List Tree
  pub rest : List Tree
  pub split : branches t ≡ had ++ rest
  pub place : q ≡ p + 1 + points had
  pub output : out ≡ placed (p + 1) (sibling_images p (p + 1) had) out₀

pub imaging-start : (t : Tree) (p : ℕ) (out : List ℕ) → Imaging t p (p + 1) out out
imaging-start t p out =
    record { had = []; rest = branches t; split = refl; place = omega arith; output = sym (placed-none (p + 1) out) }

-- before the end there is a next branch
pub some-rest : (t : Tree) (p q : ℕ) (had rest : List Tree) → branches t ≡ had ++ rest → q ≡ p + 1 + points had → q < p + size t
    → (u : Tree) × (us : List Tree) × (rest ≡ u ∷ us)
some-rest t p q had [] s e h = absurd (omega (arith, size-branches t, ap points s, points-append had []))
some-rest t p q had (u ∷ us) s e h = (u, us, refl)

module _ {t : Tree} {p q : ℕ} {out₀ out : List ℕ} (i : Imaging t p q out₀ out) (h : q < p + size t) where
  abbrev pub next_branch : Tree
  next_branch = (some-rest t p q i.had i.rest i.split i.place h).0

  -- it stands at q
  pub branch-stands : {trees : List ℕ} → Stands (code t) p trees → Stands (code next_branch) q trees
  branch-stands s =
      let r = some-rest t p q i.had i.rest i.split i.place h in
      let e : code t ≡ (size t ∷ flat i.had) ++ (code next_branch ++ flat r.1) =
      code-branches t ∙ ap (λ l. size t ∷ flat l) (i.split ∙ ap (λ l. i.had ++ l) r.2) ∙ ap (λ l. size t ∷ l) (flat_append i.had (next_branch ∷ r.1)) in
      stands_at (omega (arith, i.place, length-flat i.had))
      (stands-left (flat r.1) (stands-right (size t ∷ flat i.had) (stands-path e s)))

  pub imaging-next : (q' : ℕ) (out' : List ℕ) → p + size t ≤ length out₀ → q' ≡ q + size next_branch
      → out' ≡ placed (q + 1) (inner_images q next_branch) (set out q p) → Imaging t p q' out₀ out'
  imaging-next q' out' fits e o =
      let r = some-rest t p q i.had i.rest i.split i.place h in
      let u = next_branch in
      let n : p + 1 + length (sibling_images p (p + 1) i.had) ≡ q = omega (arith, i.place, length-row_images p (p + 1) i.had) in
      let k : length out ≡ length out₀ = ap length i.output ∙ placed-length (p + 1) (sibling_images p (p + 1) i.had) out₀ (omega arith) in
      let done : sibling_images p (p + 1) (i.had ++ (u ∷ [])) ≡ sibling_images p (p + 1) i.had ++ (p ∷ inner_images q u) =
      row_images-append p (p + 1) i.had (u ∷ []) ∙ ap (λ l. sibling_images p (p + 1) i.had ++ l) (rw (← i.place) (append-nil (p ∷ inner_images q u))) in
      record {
        had = i.had ++ (u ∷ []);
        rest = r.1;
        split = i.split ∙ ap (λ l. i.had ++ l) r.2 ∙ sym (append_assoc i.had (u ∷ []) r.1);
        place = omega (arith, i.place, points-append i.had (u ∷ []));
        output =
            o ∙ placed-entry q p (inner_images q u) out (omega arith)
            ∙ placed-join (p + 1) q (sibling_images p (p + 1) i.had) (p ∷ inner_images q u) out₀ out (sym n) (omega arith) i.output
            ∙ ap (λ l. placed (p + 1) l out₀) (sym done);
      }

-- at the end all branches have their images
pub imaging-end : {t : Tree} {p q : ℕ} {out₀ out : List ℕ} → Imaging t p q out₀ out → p + size t ≤ q → out ≡ placed (p + 1) (inner_images p t) out₀
imaging-end {t} {p} {q} {out₀} {out} i h = i.output ∙ ap (λ l. placed (p + 1) l out₀) (ap (sibling_images p (p + 1)) (all i.rest i.split) ∙ sym (inner-siblings p t))
  where
    all : (rest : List Tree) → branches t ≡ i.had ++ rest → i.had ≡ branches t
    all [] s = sym (s ∙ append-nil i.had)
    all (u ∷ us) s = absurd (omega (arith, i.place, size-branches t, size-positive u, ap points s, points-append i.had (u ∷ us)))

-- the tree at p has a point, and ends within the trees
pub record Bounds (trees : List ℕ) (p : ℕ) : Type 0 where
  pub small : length trees ≤ 200
  pub positive : 0 < get_or trees p 0
  pub fits : p + get_or trees p 0 ≤ length trees

pub tree-bounds : (t : Tree) {trees : List ℕ} {p : ℕ} → length trees ≤ 200 → Stands (code t) p trees → Bounds trees p
tree-bounds t {trees} {p} h s =
    record {
      small = h;
      positive = omega (arith, stands-head s, size-positive t);
      fits = omega (arith, stands-head s, stands-fits s, length-code t);
    }

pub asked-bounds : {trees out : List ℕ} {p : ℕ} → TreeStands trees p out → Bounds trees p
asked-bounds a = tree-bounds a.tree a.room.small a.stands

module _ {trees out₀ out : List ℕ} {p q : ℕ} (a : TreeStands trees p out₀) (same : length out ≡ length out₀)
    (inv : (t : Tree) → Stands (code t) p trees → Imaging t p q out₀ out) (h : q < p + get_or trees p 0) where
  inside : (t : Tree) → Stands (code t) p trees → q < p + size t
  inside t s = omega (arith, stands-head s)

  -- the branch at q may be asked for
  pub asked-branch : (x : ℕ) → TreeStands trees q (set out q x)
  asked-branch x =
      let i = inv a.tree a.stands in
      let k = inside a.tree a.stands in
      record {
        tree = next_branch i k;
        stands = branch-stands i k a.stands;
        room = record { same = length-set out q x ∙ same ∙ a.room.same; small = a.room.small };
      }

  pub asked-later : p < q
  asked-later = let i = inv a.tree a.stands in omega (arith, i.place)

  -- after the branch at q the next one follows
  pub images-next : (out' : List ℕ) → ((u : Tree) → Stands (code u) q trees → out' ≡ placed (q + 1) (inner_images q u) (set out q p))
      → (t : Tree) → Stands (code t) p trees → Imaging t p (q + get_or trees q 0) out₀ out'
  images-next out' wrote t s =
      let i = inv t s in
      let k = inside t s in
      let b = branch-stands i k s in
      imaging-next i k (q + get_or trees q 0) out'
      (omega (arith, stands-fits s, length-code t, a.room.same))
      (ap (λ m. q + m) (stands-head b))
      (wrote (next_branch i k) b)
