-- Writing the map of a system, component by component.
use mathlib.Core.Path.{◌≡◌, refl, ap, sym, ◌∙◌}
use mathlib.Core.List.{List, [], ◌++◌, append_assoc, append-nil}
use Prim.Native.Nat.{ℕ, ◌+◌, ◌≤◌, ◌<◌}
use native.Mathlib.Omega.{arith}
use lib.ListN.{length, get_or, length-append}
use Rattle.patterns.specs.Component.{Component, points, flat}
use Rattle.patterns.specs.System.{System, weight}
use Rattle.patterns.specs.MapOf.{cycle_images, images_from, map_of}
use Rattle.written.specs.Putting.{placed}
use Rattle.written.proofs.Placing.{placed-none, placed-all}
use Rattle.memory.specs.Memory.{Holds, Stands}
use Rattle.mapping.specs.Images.{ComponentStands, MapAsked}
use Rattle.map_theory.proofs.MapOf.{length-cycle_images, length-images_from}
use Rattle.mapping.proofs.Imaging.{placed-join}
use Rattle.memory.proofs.Parts.{held-count, held-points}
use Rattle.memory.proofs.SystemWalks.{AlongSystem, NextComponent, system_start, system-next, system-end, system-step, component-stands, component-size, component-ends}

-- the components before the place start have their images
pub record Mapping (S : System) (i start : ℕ) (out₀ out : List ℕ) : Type 0 where
  pub along : AlongSystem S i start
  pub done : List ℕ
  pub count : length done ≡ start
  pub images : images_from 0 S ≡ done ++ images_from start along.rest
  pub output : out ≡ placed 0 done out₀

pub mapping-start : (S : System) (out : List ℕ) → Mapping S 0 0 out out
unfolding system_start
mapping-start S out = record { along = system_start S; done = []; count = refl; images = refl; output = sym (placed-none 0 out) }

pub mapping-next : {S : System} {i start : ℕ} {out₀ out : List ℕ} (m : Mapping S i start out₀ out) (n : NextComponent m.along) (end : ℕ) (out' : List ℕ)
    → weight S ≤ length out₀ → end ≡ start + points n.component
    → out' ≡ placed start (cycle_images start start n.component) out → Mapping S (i + 1) end out₀ out'
unfolding system-step
mapping-next {S} {i} {start} {out₀} {out} m n end out' fits e o =
    let new : List ℕ = cycle_images start start n.component in
    record {
      along = system-step m.along n end e;
      done = m.done ++ new;
      count = omega (arith, length-append m.done new, length-cycle_images start start n.component, m.count);
      images =
          m.images
          ∙ ap (λ l. m.done ++ images_from start l) n.is
          ∙ ap (λ k. m.done ++ (new ++ images_from k n.later)) (sym e)
          ∙ sym (append_assoc m.done new (images_from end n.later));
      output =
          o
          ∙ placed-join 0 start m.done new out₀ out (omega (arith, m.count)) (omega (arith, m.count, component-ends m.along n)) m.output;
    }

-- at the end the map is written
pub mapping-end : {S : System} {i start : ℕ} {out₀ out : List ℕ} → Mapping S i start out₀ out → length S ≤ i → length out₀ ≡ weight S → out ≡ map_of S
unfolding map_of
mapping-end {S} {i} {start} {out₀} {out} m h e =
    m.output
    ∙ ap (λ l. placed 0 l out₀) (sym (m.images ∙ ap (λ l. m.done ++ images_from start l) (system-end m.along h) ∙ append-nil m.done))
    ∙ placed-all (map_of S) out₀ (length-images_from 0 S ∙ sym e)

module _ {sizes trees out₀ out : List ℕ} {i start : ℕ} (a : MapAsked sizes trees out₀) (same : length out ≡ length out₀)
    (inv : (S : System) → Holds S sizes trees → Mapping S i start out₀ out) (h : i < length sizes) where
  next : (S : System) (k : Holds S sizes trees) → NextComponent (inv S k).along
  next S k = system-next (inv S k).along (omega (arith, held-count k))

  -- the component at start may be asked for
  pub asked-component : ComponentStands trees start (start + get_or sizes i 0) out
  asked-component =
      let k = a.held.holds in
      let w = (inv a.held.system k).along in
      let n = next a.held.system k in
      record {
        component = n.component;
        stands = component-stands w n k.flat_is;
        ends = ap (λ s. start + s) (component-size w n k.points_are);
        room = record { same = same ∙ a.room; small = omega (arith, held-points k, a.held.small) };
      }

  pub asked-end : start + get_or sizes i 0 ≤ 200
  asked-end =
      let k = a.held.holds in
      let w = (inv a.held.system k).along in
      let n = next a.held.system k in
      omega (arith, component-size w n k.points_are, component-ends w n, a.held.small)

  -- after the component at start the next one follows
  pub components-next : (out' : List ℕ)
      → ((c : Component) → Stands (flat c) start trees → start + get_or sizes i 0 ≡ start + points c → out' ≡ placed start (cycle_images start start c) out)
      → (S : System) → Holds S sizes trees → Mapping S (i + 1) (start + get_or sizes i 0) out₀ out'
  components-next out' wrote S k =
      let m = inv S k in
      let n = next S k in
      let q : start + get_or sizes i 0 ≡ start + points n.component = ap (λ s. start + s) (component-size m.along n k.points_are) in
      mapping-next m n (start + get_or sizes i 0) out' (omega (arith, held-points k, a.room)) q
      (wrote n.component (component-stands m.along n k.flat_is) q)

pub map-written : {sizes trees out₀ out : List ℕ} {i start : ℕ} → MapAsked sizes trees out₀
    → ((S : System) → Holds S sizes trees → Mapping S i start out₀ out) → length sizes ≤ i → (S : System) → Holds S sizes trees → out ≡ map_of S
map-written a inv h S k = mapping-end (inv S k) (omega (arith, held-count k)) (omega (arith, held-points k, a.room))
