-- Demand 3: one theorem about any list of calls of "first code" and "successor" over any lent buffers.
use mathlib.Core.Path.{◌≡◌, ap, sym, ◌∙◌}
use mathlib.Core.Bool.{true}
use mathlib.Core.List.{List}
use Prim.Native.Nat.{ℕ, ◌≤◌}
use native.Mathlib.Omega.{arith}
use lib.ListN.{length}
use borrow.Author.Tests.{le-ltb}
use Rattle.patterns.specs.System.{System, weight, canonical}
use Rattle.patterns.specs.Written.{written}
use Rattle.patterns.specs.MapOf.{map_of}
use Rattle.patterns.specs.Table.{system_of_table}
use Rattle.patterns.specs.Reading.{done}
use Rattle.patterns.specs.Entry.{checked_table, code_of_map}
use Rattle.patterns.specs.Calls.{Call, Calls, fresh, step_of, Enumeration}
use Rattle.form_theory.proofs.Runs.{calls-exist}
use Rattle.form_theory.proofs.Calls.{enumeration}
use Rattle.form_theory.proofs.WrittenBack.{written-equal}
use Rattle.map_theory.proofs.MapOf.{length-map_of, map_of-table}
use Rattle.map_theory.proofs.Theorems.{table-canonical, table-weight, system-of-map, isomorphic-same-system, same-system-isomorphic}
use Rattle.patterns.specs.Calls.{Map, code_of, Isomorphic}

module _ {n : ℕ} (small : n ≤ 200) where
  -- a map's table passes the checks
  map-checked : (f : Map n) → checked_table f.table ≡ done f.table
  unfolding checked_table
  map-checked f = rw (le-ltb 200 (length f.table) (omega (arith, f.points)), f.inside)

  -- the code of a map is the written form of its system
  pub code-written : (f : Map n) → code_of f ≡ written (system_of_table f.table)
  unfolding code_of_map
  code-written f = rw (map-checked f)

  map-canonical : (f : Map n) → canonical (system_of_table f.table) ≡ true
  map-canonical f = table-canonical n f.table f.points f.inside

  map-weight : (f : Map n) → weight (system_of_table f.table) ≡ n
  map-weight f = table-weight n f.table f.points f.inside

  -- the map of a canonical system
  abbrev mapped : (S : System) → weight S ≡ n → Map n
  mapped S w = record { table = map_of S; points = length-map_of S ∙ w; inside = map_of-table S }

  code_map : (S : System) → canonical S ≡ true → weight S ≡ n → (f : Map n) × (code_of f ≡ written S)
  code_map S c w = (mapped S w, code-written (mapped S w) ∙ ap written (system-of-map S c))

  one_code : (f g : Map n) → Isomorphic f g → code_of f ≡ code_of g
  one_code f g i =
      code-written f ∙ ap written (isomorphic-same-system n f.table g.table i.0 f.points f.inside g.points i.1) ∙ sym (code-written g)

  code-isomorphic : (f g : Map n) → code_of f ≡ code_of g → Isomorphic f g
  code-isomorphic f g e =
      same-system-isomorphic n f.table g.table f.points f.inside g.points g.inside
      (written-equal (system_of_table f.table) (system_of_table g.table) (map-canonical f) (map-canonical g)
      (omega (arith, map-weight f)) (omega (arith, map-weight g))
      (sym (code-written f) ∙ e ∙ code-written g))

  -- For every n up to 200, every list of lent buffers and every list of calls made with them: see `Enumeration`.
  pub demand-3 : {buffers : List (List ℕ)} {calls : List Call} → Calls n fresh buffers calls → Enumeration n buffers calls
  demand-3 made =
      enumeration small
      (λ f. (system_of_table f.table, map-canonical f, map-weight f, code-written f))
      code_map one_code code-isomorphic made

  -- and such calls exist for every list of buffers
  pub calls-made : (buffers : List (List ℕ)) → (calls : List Call) × Calls n fresh buffers calls
  calls-made buffers = calls-exist (step_of n) buffers fresh
