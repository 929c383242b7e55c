-- Tables of one pattern, that is, with one system; and that the pattern of a sum or a product depends on the two patterns only, and not on their order.
use mathlib.Core.Path.{◌≡◌, refl, ap, ap₂, sym, ◌∙◌}
use mathlib.Core.Bool.{true}
use mathlib.Core.List.{List}
use Prim.Native.Nat.{ℕ}
use lib.ListN.{length}
use Rattle.patterns.specs.System.{weight}
use Rattle.patterns.specs.Table.{is_table, system_of_table}
use Rattle.patterns.specs.MapOf.{map_of}
use Rattle.map_theory.proofs.MapOf.{map_of-table}
use Rattle.map_theory.proofs.Theorems.{system-of-map, table-canonical, table-weight, isomorphic-same-system, same-system-isomorphic}
use Rattle.arithmetic_theory.proofs.Operation.{Operation}

-- two tables with one system
pub record SamePattern (f g : List ℕ) : Type 0 where
  pub first : is_table f ≡ true
  pub second : is_table g ≡ true
  pub systems : system_of_table f ≡ system_of_table g

-- they have equally many points
pub same_points : {f g : List ℕ} → SamePattern f g → length f ≡ length g
same_points {f} {g} p = sym (table-weight (length f) f refl p.first) ∙ ap weight p.systems ∙ table-weight (length g) g refl p.second

pub pattern-self : (f : List ℕ) → is_table f ≡ true → SamePattern f f
pattern-self f t = record { first = t; second = t; systems = refl }

-- a table and the map of its system
pub pattern-of-map : (f : List ℕ) → is_table f ≡ true → SamePattern (map_of (system_of_table f)) f
pattern-of-map f t =
    record { first = map_of-table (system_of_table f); second = t; systems = system-of-map (system_of_table f) (table-canonical (length f) f refl t) }

module _ {op : List ℕ → List ℕ → List ℕ} {count : ℕ → ℕ → ℕ} (o : Operation op count) where
  -- what is made of tables of one pattern has one pattern
  pub made_alike : {f f' g g' : List ℕ} → SamePattern f f' → SamePattern g g' → SamePattern (op f g) (op f' g')
  made_alike {f} {f'} {g} {g'} p q =
      let r = same-system-isomorphic (length f) f f' refl p.first (sym (same_points p)) p.second p.systems in
      let s = same-system-isomorphic (length g) g g' refl q.first (sym (same_points q)) q.second q.systems in
      let t = o.makes_table f g p.first q.first in
      let long : length (op f' g') ≡ length (op f g) = o.counts f' g' ∙ sym (ap₂ count (same_points p) (same_points q)) ∙ sym (o.counts f g) in
      let i = o.renames f g f' g' r.0 s.0 p.first q.first (sym (same_points p)) (sym (same_points q)) r.1 s.1 in
      record {
        first = t;
        second = o.makes_table f' g' p.second q.second;
        systems = isomorphic-same-system (length (op f g)) (op f g) (op f' g') (op r.0 s.0) refl t long i;
      }

  -- in whichever order
  pub made-in-turn : (f g : List ℕ) → is_table f ≡ true → is_table g ≡ true → SamePattern (op f g) (op g f)
  made-in-turn f g t u =
      let long : length (op g f) ≡ length (op f g) = o.counts g f ∙ o.counts_turned (length g) (length f) ∙ sym (o.counts f g) in
      let i = o.exchanges f g t u in
      record {
        first = o.makes_table f g t u;
        second = o.makes_table g f u t;
        systems = isomorphic-same-system (length (op f g)) (op f g) (op g f) i.0 refl (o.makes_table f g t u) long i.1;
      }
