-- Plants written one after another: blocks of trees and labels side by side, and the exchange of neighbouring blocks.
use mathlib.Core.Path.{◌≡◌, ap, ap₂, sym, subst, ◌∙◌}
use mathlib.Core.List.{List, [], ◌++◌, map, map-append, append_assoc}
use Prim.Native.Nat.{ℕ, ◌+◌, ◌≤◌}
use native.Mathlib.Omega.{arith}
use lib.ListN.{length, take, drop, length-append}
use lib.Seq.{take_at, drop_at, length-take-le}
use Rattle.lists.specs.Blocks.{exchanged}
use Rattle.lists.specs.Select.{gather}
use Rattle.lists.proofs.Members.{gather_append}
use Rattle.patterns.specs.Component.{points, flat}
use Rattle.patterns.proofs.Trees.{length-flat, points-append, flat_append}
use Rattle.written.specs.Putting.{placed}
use Rattle.written.proofs.Placing.{placed-length, placed-none, placed-more}
use Rattle.memory.specs.Memory.{Stands}
use Rattle.map_theory.specs.Plants.{Plant, shape, labels}
use Rattle.arrangement.specs.Arrangement.{Planted}
use Rattle.memory.proofs.Standing.{stands-placed}
use Rattle.map_theory.proofs.Shown.{length-labels}

-- the second and the third of four parts change places
pub exchanged-parts : {A : Type 0} (w x y z : List A) (a b e : ℕ) → length w ≡ a → a + length x ≡ b → b + length y ≡ e
    → exchanged a b e (w ++ (x ++ (y ++ z))) ≡ w ++ (y ++ (x ++ z))
exchanged-parts {A} w x y z a b e h k m =
    let l : List A = w ++ (x ++ (y ++ z)) in
    let wx : l ≡ (w ++ x) ++ (y ++ z) = sym (append_assoc w x (y ++ z)) in
    let wxy : l ≡ ((w ++ x) ++ y) ++ z = wx ∙ sym (append_assoc (w ++ x) y z) in
    let lx : length (w ++ x) ≡ b = omega (arith, length-append w x) in
    let ly : length ((w ++ x) ++ y) ≡ e = omega (arith, length-append (w ++ x) y) in
    let front : take a l ≡ w = take_at w (x ++ (y ++ z)) a h in
    let first : drop a (take b l) ≡ x = ap (λ t. drop a (take b t)) wx ∙ ap (drop a) (take_at (w ++ x) (y ++ z) b lx) ∙ drop_at w x a h in
    let second : drop b (take e l) ≡ y = ap (λ t. drop b (take e t)) wxy ∙ ap (drop b) (take_at ((w ++ x) ++ y) z e ly) ∙ drop_at (w ++ x) y b lx in
    let back : drop e l ≡ z = ap (drop e) wxy ∙ drop_at ((w ++ x) ++ y) z e ly in
    ap₂ (λ p q. p ++ q) front (ap₂ (λ p q. p ++ q) second (ap₂ (λ p q. p ++ q) first back))

-- the same inside a placed list
pub exchanged-placed : {A : Type 0} (p : ℕ) (x y z d : List A) (a b e : ℕ) → p + length (x ++ (y ++ z)) ≤ length d
    → p + length x ≡ a → a + length y ≡ b → b + length z ≡ e → exchanged a b e (placed p (x ++ (y ++ z)) d) ≡ placed p (x ++ (z ++ y)) d
exchanged-placed {A} p x y z d a b e fits h k m =
    let r : List A = drop (p + length (x ++ (y ++ z))) d in
    let q : p + length (x ++ (z ++ y)) ≡ p + length (x ++ (y ++ z)) =
    omega (arith, length-append x (z ++ y), length-append x (y ++ z), length-append z y, length-append y z) in
    let s : placed p (x ++ (y ++ z)) d ≡ (take p d ++ x) ++ (y ++ (z ++ r)) =
    ap (λ l. take p d ++ l) (append_assoc x (y ++ z) r ∙ ap (λ l. x ++ l) (append_assoc y z r)) ∙ sym (append_assoc (take p d) x (y ++ (z ++ r))) in
    let t : placed p (x ++ (z ++ y)) d ≡ (take p d ++ x) ++ (z ++ (y ++ r)) =
    ap (λ n. take p d ++ ((x ++ (z ++ y)) ++ drop n d)) q
    ∙ ap (λ l. take p d ++ l) (append_assoc x (z ++ y) r ∙ ap (λ l. x ++ l) (append_assoc z y r)) ∙ sym (append_assoc (take p d) x (z ++ (y ++ r))) in
    ap (exchanged a b e) s
    ∙ exchanged-parts (take p d ++ x) y z r a b e
    (omega (arith, length-append (take p d) x, length-take-le p d (omega arith))) k m
    ∙ sym t

-- the trees and the labels of plants one after another
pub flat-plants : (us vs : List Plant) → flat (map shape (us ++ vs)) ≡ flat (map shape us) ++ flat (map shape vs)
flat-plants us vs = ap flat (map-append shape us vs) ∙ flat_append (map shape us) (map shape vs)

pub points-plants : (us vs : List Plant) → points (map shape (us ++ vs)) ≡ points (map shape us) + points (map shape vs)
points-plants us vs = ap points (map-append shape us vs) ∙ points-append (map shape us) (map shape vs)

-- nothing was planted so far
pub planted-none : (at : ℕ) (d e : List ℕ) → Planted [] at d e at d e
planted-none at d e =
    record { ends = omega arith; trees_are = sym (placed-none at d); labels_are = sym (placed-none at e) }

module _ {us vs : List Plant} {at mid end : ℕ} {d e d' e' trees labelled : List ℕ} where
  -- what was planted next stands after what was planted before
  pub planted-then : at + points (map shape us) ≤ length d → at + points (map shape us) ≤ length e
      → Planted us at d e mid d' e' → Planted vs mid d' e' end trees labelled → Planted (us ++ vs) at d e end trees labelled
  planted-then h k p q =
      let n : mid ≡ at + length (flat (map shape us)) = omega (arith, p.ends, length-flat (map shape us)) in
      let m : mid ≡ at + length (gather labels us) = omega (arith, p.ends, length-labels us) in
      record {
        ends = omega (arith, p.ends, q.ends, points-plants us vs);
        trees_are =
            q.trees_are
            ∙ ap₂ (λ i l. placed i (flat (map shape vs)) l) n p.trees_are
            ∙ placed-more at (flat (map shape us)) (flat (map shape vs)) d (omega arith)
            ∙ ap (λ l. placed at l d) (sym (flat-plants us vs));
        labels_are =
            q.labels_are
            ∙ ap₂ (λ i l. placed i (gather labels vs) l) m p.labels_are
            ∙ placed-more at (gather labels us) (gather labels vs) e (omega arith)
            ∙ ap (λ l. placed at l e) (sym (gather_append labels us vs));
      }

-- where they stand
pub planted-stands : {us : List Plant} {at end : ℕ} {d e trees labelled : List ℕ} → at ≤ length d → Planted us at d e end trees labelled
    → Stands (flat (map shape us)) at trees
planted-stands {us} {at} {d = d} h p = subst (Stands (flat (map shape us)) at) (sym p.trees_are) (stands-placed (flat (map shape us)) at d h)

-- the lengths stay
pub planted-trees : {us : List Plant} {at end : ℕ} {d e trees labelled : List ℕ} → Planted us at d e end trees labelled → end ≤ length d
    → length trees ≡ length d
planted-trees {us} {at} {d = d} p h =
    ap length p.trees_are ∙ placed-length at (flat (map shape us)) d (omega (arith, p.ends, length-flat (map shape us)))

pub planted-labels : {us : List Plant} {at end : ℕ} {d e trees labelled : List ℕ} → Planted us at d e end trees labelled → end ≤ length e
    → length labelled ≡ length e
planted-labels {us} {at} {e = e} p h =
    ap length p.labels_are ∙ placed-length at (gather labels us) e (omega (arith, p.ends, length-labels us))

-- the last plants go before some of the others
pub planted-exchanged : (a b v : List Plant) {at mid end next : ℕ} {d e trees labelled : List ℕ} → next ≤ length d → next ≤ length e
    → at + points (map shape a) ≡ mid → mid + points (map shape b) ≡ end → Planted (a ++ (b ++ v)) at d e next trees labelled
    → Planted (a ++ (v ++ b)) at d e next (exchanged mid end next trees) (exchanged mid end next labelled)
planted-exchanged a b v {at} {mid} {end} {next} {d} {e} h k i j p =
    let n : next ≡ at + (points (map shape a) + (points (map shape b) + points (map shape v))) =
    omega (arith, p.ends, points-plants a (b ++ v), points-plants b v) in
    let fa = flat (map shape a) in
    let fb = flat (map shape b) in
    let fv = flat (map shape v) in
    let la = gather labels a in
    let lb = gather labels b in
    let lv = gather labels v in
    record {
      ends = omega (arith, points-plants a (v ++ b), points-plants v b);
      trees_are =
          ap (exchanged mid end next) (p.trees_are ∙ ap (λ l. placed at l d) (flat-plants a (b ++ v) ∙ ap (λ l. fa ++ l) (flat-plants b v)))
          ∙ exchanged-placed at fa fb fv d mid end next
          (omega (arith, length-append fa (fb ++ fv), length-append fb fv, length-flat (map shape a), length-flat (map shape b), length-flat (map shape v)))
          (omega (arith, length-flat (map shape a))) (omega (arith, length-flat (map shape b))) (omega (arith, length-flat (map shape v)))
          ∙ ap (λ l. placed at l d) (sym (flat-plants a (v ++ b) ∙ ap (λ l. fa ++ l) (flat-plants v b)));
      labels_are =
          ap (exchanged mid end next) (p.labels_are ∙ ap (λ l. placed at l e) (gather_append labels a (b ++ v) ∙ ap (λ l. la ++ l) (gather_append labels b v)))
          ∙ exchanged-placed at la lb lv e mid end next
          (omega (arith, length-append la (lb ++ lv), length-append lb lv, length-labels a, length-labels b, length-labels v))
          (omega (arith, length-labels a)) (omega (arith, length-labels b)) (omega (arith, length-labels v))
          ∙ ap (λ l. placed at l e) (sym (gather_append labels a (v ++ b) ∙ ap (λ l. la ++ l) (gather_append labels v b)));
    }
