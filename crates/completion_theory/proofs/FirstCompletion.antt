-- The theorems on the first completion: it is the least table within all spans that has the system, there is none exactly where there is no such table, and the search
-- finds it.
use mathlib.Core.Path.{◌≡◌, refl, ap, sym, ◌∙◌}
use mathlib.Core.Bool.{true}
use mathlib.Core.List.{List, [], ◌∷◌, map}
use mathlib.Core.Option.{none, some}
use Prim.Native.Nat.{ℕ, ◌<◌, compare}
use native.Mathlib.Omega.{arith}
use lib.ListN.{length}
use Rattle.lists.specs.Order.{at_most, lex}
use Rattle.lists.specs.Select.{first, range}
use Rattle.lists.proofs.Tests.{◌∈◌, either}
use Rattle.lists.proofs.Comparison.{eq-at_most, lt-at_most}
use Rattle.lists.proofs.Lex.{lex-compare-lawful}
use Rattle.lists.proofs.Members.{in_head, in_list, in_moved, in-cons-cases, not-in-nil, in_map, of_map, nodup_range}
use Rattle.lists.proofs.Permute.{perm-sym}
use Rattle.lists.proofs.Places.{range_length}
use Rattle.lists.proofs.Gathering.{perm-nodup}
use Rattle.lists.proofs.Rising.{rising-head}
use Rattle.lists.proofs.Follow.{first-none, first_some}
use Rattle.patterns.specs.System.{System, weight, canonical}
use Rattle.patterns.specs.Table.{image, is_table, system_of_table}
use Rattle.patterns.specs.MapOf.{map_of}
use Rattle.patterns.specs.Isomorphism.{Isomorphism}
use Rattle.map_theory.proofs.MapOf.{length-map_of, map_of-table}
use Rattle.map_theory.proofs.Isomorphisms.{table_below, isomorphism-perm}
use Rattle.map_theory.proofs.Theorems.{table-weight, canonical-system-unique, isomorphic-to-map-of-system}
use Rattle.counting_theory.specs.Renaming.{renamed_table}
use Rattle.counting_theory.proofs.RenamedTables.{renamed-isomorphism, renamed-table, renamed-only}
use Rattle.completion_theory.specs.Completion.{within_spans, completions}
use Rattle.completion_theory.specs.Arrangement.{arrangements, searched}
use Rattle.completion_theory.proofs.Completions.{in-completions, of-completions, completions-rising}
use Rattle.completion_theory.proofs.FittingNames.{fits-within, within-fits}
use Rattle.completion_theory.proofs.MetArrangements.{arrangements-complete, arrangements-sound}
use Rattle.completion_theory.proofs.BestTables.{best-first}

first-of-nothing : {A : Type 0} (l : List A) → ((x : A) → x ∈ l → ⊥) → first l ≡ none
first-of-nothing [] h = refl
first-of-nothing (x ∷ l) h = absurd (h x in_head)

module _ (n : ℕ) (spans : List (List ℕ)) (S : System) where
  listed : (f : List ℕ) → length f ≡ n → is_table f ≡ true → within_spans spans f ≡ true → system_of_table f ≡ S → f ∈ completions n spans S
  listed f l t w e = in-completions n spans S (record { table = record { points = l; inside = t }; within = w; code = e })

  -- "none" exactly if no such table exists
  pub completion-none : ((f : List ℕ) → length f ≡ n → is_table f ≡ true → within_spans spans f ≡ true → system_of_table f ≡ S → ⊥)
      → first (completions n spans S) ≡ none
  completion-none h =
      first-of-nothing (completions n spans S)
      (λ f i. let c = of-completions n spans S i in h f c.table.points c.table.inside c.within c.code)

  pub no-completion : first (completions n spans S) ≡ none
      → (f : List ℕ) → length f ≡ n → is_table f ≡ true → within_spans spans f ≡ true → system_of_table f ≡ S → ⊥
  no-completion e f l t w c = not-in-nil (in_list (first-none (completions n spans S) e) (listed f l t w c))

  -- "a code of another count is none" needs no rule of its own
  pub other-count : (weight S ≡ n → ⊥) → first (completions n spans S) ≡ none
  other-count h = completion-none (λ f l t w c. h (ap weight (sym c) ∙ table-weight n f l t))

  pub one-exists : (f : List ℕ) → first (completions n spans S) ≡ some f
      → (length f ≡ n) × (is_table f ≡ true) × (within_spans spans f ≡ true) × (system_of_table f ≡ S)
  one-exists f e =
      let r = first_some (completions n spans S) e in
      let h = of-completions n spans S (in_list (sym r.1) in_head) in
      (h.table.points, h.table.inside, h.within, h.code)

  -- "the lexicographically first table"
  pub first-least : (f g : List ℕ) → first (completions n spans S) ≡ some f
      → length g ≡ n → is_table g ≡ true → within_spans spans g ≡ true → system_of_table g ≡ S → at_most (lex compare) f g ≡ true
  first-least f g e l t w c =
      let r = first_some (completions n spans S) e in
      either (in-cons-cases (in_list r.1 (listed g l t w c)))
      (λ q. eq-at_most lex-compare-lawful (sym q))
      (λ i. lt-at_most lex-compare-lawful f g (rising-head (rw r.1 at (completions-rising n spans S)) i))

  module _ (e : canonical S ≡ true) (s : weight S ≡ n) where
    points-of-map : length (map_of S) ≡ n
    points-of-map = length-map_of S ∙ s

    below : (x : ℕ) → x < n → image (map_of S) x < n
    below = table_below n (map_of S) points-of-map (map_of-table S)

    -- the tables that the search compares
    met : List (List ℕ)
    met = map (renamed_table n (map_of S)) (arrangements spans (map_of S) 0 n (range 0 n))

    met-completes : (f : List ℕ) → f ∈ met → f ∈ completions n spans S
    unfolding met
    met-completes f i =
        let r = of_map (renamed_table n (map_of S)) (arrangements spans (map_of S) 0 n (range 0 n)) i in
        let q = r.0 in
        let h = arrangements-sound spans (map_of S) n n 0 (range 0 n) (omega arith) (range_length 0 n) r.1 in
        let t = renamed-table (map_of S) h.0 below in
        let a = renamed-isomorphism (map_of S) h.0 in
        let w = fits-within spans (map_of S) t.points a below h.1 in
        let c = canonical-system-unique n S (renamed_table n (map_of S) q) q e s t.points a in
        in_moved (sym r.2) (in-completions n spans S (record { table = t; within = w; code = c }))

    completion-met : (f : List ℕ) → f ∈ completions n spans S → f ∈ met
    unfolding met
    completion-met f i =
        let h = of-completions n spans S i in
        let r = isomorphic-to-map-of-system n f h.table.points h.table.inside in
        let q = r.0 in
        let a : Isomorphism n (map_of S) f q = rw h.code at r.1 in
        let p = isomorphism-perm a in
        let k = arrangements-complete spans (map_of S) n n 0 q (range 0 n) (omega arith) (range_length 0 n) (perm-nodup (perm-sym p) (nodup_range 0 n)) p
        (λ x b. absurd (omega arith)) (within-fits spans (map_of S) h.table.points a h.within) in
        in_moved (sym (renamed-only (map_of S) p f h.table.points a)) (in_map (renamed_table n (map_of S)) k)

    pub search-finds : searched spans (map_of S) ≡ first (completions n spans S)
    unfolding searched met
    search-finds = rw points-of-map (best-first met (completions n spans S) (completions-rising n spans S) met-completes completion-met)
