-- Walking through a system component by component: those before the place, and those from there on.
use mathlib.Core.Path.{◌≡◌, refl, ap, sym, ◌∙◌}
use mathlib.Core.List.{List, [], ◌∷◌, ◌++◌, map, append_assoc, map-append}
use Prim.Native.Nat.{ℕ, ◌+◌, ◌-◌, ◌≤◌, ◌<◌}
use native.Mathlib.Omega.{arith}
use lib.ListN.{length, get_or, take, drop, length-append, length-map}
use lib.Seq.{get_or_at}
use Rattle.lists.specs.Select.{gather}
use Rattle.lists.proofs.Members.{gather_append}
use Rattle.lists.proofs.Permute.{total-append}
use Rattle.patterns.specs.Component.{Component, points, flat}
use Rattle.patterns.specs.System.{System, weight}
use Rattle.patterns.proofs.Trees.{length-flat}
use Rattle.memory.specs.Memory.{Stands}
use Rattle.memory.proofs.Parts.{length-trees}
use Rattle.memory.proofs.Standing.{stands-left, stands-right, stands-path, stands_at, stands_self, stands-part}

-- the first i components, up to the place start, and the others
pub record AlongSystem (S : System) (i start : ℕ) : Type 0 where
  pub had : System
  pub rest : System
  pub split : S ≡ had ++ rest
  pub index : length had ≡ i
  pub place : start ≡ weight had

unfoldable pub system_start : (S : System) → AlongSystem S 0 0
system_start S = record { had = []; rest = S; split = refl; index = refl; place = refl }

-- the component at the place, and those after it
pub record NextComponent {S : System} {i start : ℕ} (w : AlongSystem S i start) : Type 0 where
  pub component : Component
  pub later : System
  pub is : w.rest ≡ component ∷ later

module _ {S : System} {i start : ℕ} (w : AlongSystem S i start) where
  -- before the end there is one
  pub system-next : i < length S → NextComponent w
  system-next h = some w.rest refl
    where
      some : (R : System) → w.rest ≡ R → NextComponent w
      some [] e = absurd (omega (arith, ap length w.split, length-append w.had w.rest, ap length e, w.index))
      some (c ∷ R) e = record { component = c; later = R; is = e }

  -- at the end there is none
  pub system-end : length S ≤ i → w.rest ≡ []
  system-end h = none w.rest refl
    where
      none : (R : System) → w.rest ≡ R → R ≡ []
      none [] e = refl
      none (c ∷ R) e = absurd (omega (arith, ap length w.split, length-append w.had w.rest, ap length e, w.index))

  module _ (n : NextComponent w) where
    pub whole : S ≡ w.had ++ (n.component ∷ n.later)
    whole = w.split ∙ ap (λ l. w.had ++ l) n.is

    -- it stands at the place, and its size is known
    pub component-stands : {trees : List ℕ} → trees ≡ gather flat S → Stands (flat n.component) start trees
    component-stands {trees} e =
        stands_at (omega (arith, w.place, length-trees w.had))
        (stands-left (gather flat n.later) (stands-right (gather flat w.had)
        (stands-path (e ∙ ap (gather flat) whole ∙ gather_append flat w.had (n.component ∷ n.later)) (stands_self trees))))

    pub component-part : {trees : List ℕ} (end : ℕ) → trees ≡ gather flat S → end ≡ start + points n.component
        → take (end - start) (drop start trees) ≡ flat n.component
    component-part end e q = stands-part end (omega (arith, length-flat n.component)) (component-stands e)

    pub component-size : {sizes : List ℕ} → sizes ≡ map points S → get_or sizes i 0 ≡ points n.component
    component-size e =
        ap (λ l. get_or l i 0) (e ∙ ap (map points) whole ∙ map-append points w.had (n.component ∷ n.later))
        ∙ get_or_at (map points w.had) (points n.component) (map points n.later) 0 i (length-map w.had points ∙ w.index)

    pub component-ends : start + points n.component ≤ weight S
    component-ends = omega (arith, w.place, ap weight whole, total-append points w.had (n.component ∷ n.later))

    -- one component further
    unfoldable pub system-step : (end : ℕ) → end ≡ start + points n.component → AlongSystem S (i + 1) end
    system-step end e =
        record {
          had = w.had ++ (n.component ∷ []);
          rest = n.later;
          split = whole ∙ sym (append_assoc w.had (n.component ∷ []) n.later);
          index = omega (arith, length-append w.had (n.component ∷ []), w.index);
          place = omega (arith, w.place, total-append points w.had (n.component ∷ []));
        }
