-- Writing the images of the points of a code, tree by tree of a cycle and component by component.
use mathlib.Core.Path.{◌≡◌, refl, ap, sym, ◌∙◌}
use mathlib.Core.Bool.{cond}
use mathlib.Core.List.{List, [], ◌∷◌, ◌++◌, append_assoc, append-nil}
use Prim.Native.Nat.{ℕ, ◌+◌, ◌≤◌, ◌<◌}
use native.Mathlib.Omega.{arith}
use lib.Dec.{ltb}
use lib.ListN.{length, get_or, set, length-append, length-set}
use borrow.Author.Tests.{lt-ltb, le-ltb}
use Rattle.lists.proofs.Tests.{by-test}
use Rattle.patterns.specs.Tree.{Tree, size, code}
use Rattle.patterns.specs.Component.{Component, points, flat}
use Rattle.patterns.specs.MapOf.{inner_images, cycle_images}
use Rattle.patterns.proofs.Trees.{size-positive, points-append, flat_append, length-flat}
use Rattle.written.specs.Putting.{placed}
use Rattle.written.proofs.Placing.{placed-length, placed-none}
use Rattle.memory.specs.Memory.{Stands}
use Rattle.mapping.specs.Images.{TreeStands, ComponentStands}
use Rattle.memory.proofs.Standing.{stands-left, stands-right, stands-head, stands-fits, stands-path, stands_at}
use Rattle.map_theory.proofs.MapOf.{length-inner_images}
use Rattle.mapping.proofs.Imaging.{placed-join, placed-entry, Bounds, tree-bounds}

-- the image of the root before q, in a component from start to end
abbrev pub root_image : ℕ → ℕ → ℕ → ℕ
root_image start end q = cond (ltb q end) q start

pub root_image-bound : (start end q m : ℕ) → start ≤ m → q ≤ m → root_image start end q ≤ m
root_image-bound start end q m h k = by-test (ltb q end) (λ t. rw t k) (λ t. rw t h)

-- the images of the points of a cycle, one tree and then the others
pub cycle_images-cons : (start end p : ℕ) (t : Tree) (c : Component) → end ≡ p + points (t ∷ c)
    → cycle_images start p (t ∷ c) ≡ (root_image start end (p + size t) ∷ inner_images p t) ++ cycle_images start (p + size t) c
cycle_images-cons start end p t [] e =
    rw (le-ltb (p + size t) end (omega arith)) (ap (λ l. start ∷ l) (sym (append-nil (inner_images p t))))
cycle_images-cons start end p t (u ∷ c) e = rw (lt-ltb (p + size t) end (omega (arith, size-positive u)))

-- the trees had of the component c have their images, and the others rest are next, from p on
pub record Rounding (c : Component) (start end p : ℕ) (out₀ out : List ℕ) : Type 0 where
  pub had : Component
  pub rest : Component
  pub split : c ≡ had ++ rest
  pub place : p ≡ start + points had
  pub done : List ℕ
  pub count : length done ≡ points had
  pub images : cycle_images start start c ≡ done ++ cycle_images start p rest
  pub output : out ≡ placed start done out₀

pub rounding-start : (c : Component) (start end : ℕ) (out : List ℕ) → Rounding c start end start out out
rounding-start c start end out =
    record {
      had = [];
      rest = c;
      split = refl;
      place = omega arith;
      done = [];
      count = refl;
      images = refl;
      output = sym (placed-none start out);
    }

-- before the end there is a next tree
pub some-tree : (c : Component) (start p end : ℕ) (had rest : Component) → c ≡ had ++ rest → p ≡ start + points had → end ≡ start + points c → p < end
    → (t : Tree) × (ts : Component) × (rest ≡ t ∷ ts)
some-tree c start p end had [] s e g h = absurd (omega (arith, ap points s, points-append had []))
some-tree c start p end had (t ∷ ts) s e g h = (t, ts, refl)

module _ {c : Component} {start end p : ℕ} {out₀ out : List ℕ} (r : Rounding c start end p out₀ out) (g : end ≡ start + points c) (h : p < end) where
  abbrev pub next_tree : Tree
  next_tree = (some-tree c start p end r.had r.rest r.split r.place g h).0

  abbrev later_trees : Component
  later_trees = (some-tree c start p end r.had r.rest r.split r.place g h).1

  whole : c ≡ r.had ++ (next_tree ∷ later_trees)
  whole = r.split ∙ ap (λ l. r.had ++ l) (some-tree c start p end r.had r.rest r.split r.place g h).2

  -- it stands at p
  pub tree-stands : {trees : List ℕ} → Stands (flat c) start trees → Stands (code next_tree) p trees
  tree-stands s =
      stands_at (omega (arith, r.place, length-flat r.had))
      (stands-left (flat later_trees) (stands-right (flat r.had) (stands-path (ap flat whole ∙ flat_append r.had (next_tree ∷ later_trees)) s)))

  pub rounding-next : (q : ℕ) (out' : List ℕ) → end ≤ length out₀ → q ≡ p + size next_tree
      → out' ≡ placed (p + 1) (inner_images p next_tree) (set out p (root_image start end q)) → Rounding c start end q out₀ out'
  rounding-next q out' fits e o =
      let t = next_tree in
      let x = root_image start end q in
      let new : List ℕ = x ∷ inner_images p t in
      let n : points c ≡ points r.had + (size t + points later_trees) = ap points whole ∙ points-append r.had (t ∷ later_trees) in
      let k : length out ≡ length out₀ = ap length r.output ∙ placed-length start r.done out₀ (omega (arith, r.count)) in
      record {
        had = r.had ++ (t ∷ []);
        rest = later_trees;
        split = whole ∙ sym (append_assoc r.had (t ∷ []) later_trees);
        place = omega (arith, r.place, points-append r.had (t ∷ []));
        done = r.done ++ new;
        count = omega (arith, length-append r.done new, length-inner_images p t, r.count, points-append r.had (t ∷ []));
        images =
            r.images
            ∙ ap (λ l. r.done ++ cycle_images start p l) (some-tree c start p end r.had r.rest r.split r.place g h).2
            ∙ ap (λ l. r.done ++ l) (cycle_images-cons start end p t later_trees (omega (arith, r.place)) ∙ rw (← e))
            ∙ sym (append_assoc r.done new (cycle_images start q later_trees));
        output =
            o
            ∙ placed-entry p x (inner_images p t) out (omega arith)
            ∙ placed-join start p r.done new out₀ out (omega (arith, r.place, r.count)) (omega (arith, r.place, r.count)) r.output;
      }

-- at the end all trees have their images
pub rounding-end : {c : Component} {start end p : ℕ} {out₀ out : List ℕ} → Rounding c start end p out₀ out → end ≡ start + points c → end ≤ p
    → out ≡ placed start (cycle_images start start c) out₀
rounding-end {c} {start} {end} {p} {out₀} {out} r g h =
    r.output ∙ ap (λ l. placed start l out₀) (sym (r.images ∙ none r.rest r.split))
  where
    none : (rest : Component) → c ≡ r.had ++ rest → r.done ++ cycle_images start p rest ≡ r.done
    none [] s = append-nil r.done
    none (t ∷ ts) s = absurd (omega (arith, r.place, size-positive t, ap points s, points-append r.had (t ∷ ts)))

module _ {trees out₀ out : List ℕ} {start end p : ℕ} (a : ComponentStands trees start end out₀) (same : length out ≡ length out₀)
    (inv : (c : Component) → Stands (flat c) start trees → end ≡ start + points c → Rounding c start end p out₀ out) (h : p < end) where
  -- the tree at p may be asked for
  pub asked-tree : (x : ℕ) → TreeStands trees p (set out p x)
  asked-tree x =
      let r = inv a.component a.stands a.ends in
      record {
        tree = next_tree r a.ends h;
        stands = tree-stands r a.ends h a.stands;
        room = record { same = length-set out p x ∙ same ∙ a.room.same; small = a.room.small };
      }

  pub component-bounds : Bounds trees p
  component-bounds = let b = asked-tree 0 in tree-bounds b.tree b.room.small b.stands

  pub component-fits : end ≤ length out₀
  component-fits = omega (arith, stands-fits a.stands, length-flat a.component, a.ends, a.room.same)

  -- after the tree at p the next one follows
  pub trees-next : (x : ℕ) (out' : List ℕ) → x ≡ root_image start end (p + get_or trees p 0)
      → ((u : Tree) → Stands (code u) p trees → out' ≡ placed (p + 1) (inner_images p u) (set out p x))
      → (c : Component) → Stands (flat c) start trees → end ≡ start + points c → Rounding c start end (p + get_or trees p 0) out₀ out'
  trees-next x out' e wrote c s g =
      let r = inv c s g in
      let b = tree-stands r g h s in
      rounding-next r g h (p + get_or trees p 0) out' component-fits (ap (λ m. p + m) (stands-head b))
      (wrote (next_tree r g h) b ∙ ap (λ y. placed (p + 1) (inner_images p (next_tree r g h)) (set out p y)) e)
