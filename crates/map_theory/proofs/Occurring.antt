-- The cycle lengths that occur and the rows of the census: they rise; they are a census, and the only one whose lengths rise; at most 19 lengths occur among 200
-- points; and the rows can be read off the code, in which a cycle is a component and its length the number of trees.
use mathlib.Core.Path.{◌≡◌, refl, ap, ap₂, sym, ◌∙◌}
use mathlib.Core.List.{List, [], ◌∷◌, map, map-map, map-id, head-eq_of_cons-eq, tail-eq_of_cons-eq}
use mathlib.Core.Bool.{Bool, not}
use Prim.Native.Nat.{ℕ, ◌≤◌, ◌<◌, compare}
use native.Mathlib.Omega.{arith}
use lib.Dec.{eqb}
use borrow.Author.Tests.{eqb-true, eqb-false, ne_eqb}
use lib.ListN.{length, length-map}
use Rattle.lists.specs.Select.{total, range, times}
use Rattle.lists.proofs.Tests.{◌∈◌, by-test, not-of-true}
use Rattle.lists.proofs.Comparison.{compare-lawful, lt-not-eq}
use Rattle.lists.proofs.Permute.{Perm, perm-path, perm-trans, perm-length, perm-map}
use Rattle.lists.proofs.Members.{NoDup, in-range, in-keep, of-keep}
use Rattle.lists.proofs.Places.{times-out, times-in, in-of-times, times-nodup}
use Rattle.lists.proofs.Pigeon.{inside-rest}
use Rattle.lists.proofs.Rising.{Rising, rising-keep, rising-range, rising-nodup, rising-unique}
use Rattle.lists.proofs.Sorting.{sort-perm}
use Rattle.lists.proofs.Gathering.{map_same, keep_same, perm-times}
use Rattle.patterns.specs.System.{compare_generated}
use Rattle.patterns.specs.Table.{cycle_from, tree_at, component_at, leads_cycle, leaders, system_of}
use Rattle.patterns.specs.Census.{Row, cycle_lengths, cycles_of, occurring, census_rows}
use Rattle.patterns.proofs.Rotations.{rotated-perm, least_rotation-rotated}
use Rattle.map_theory.specs.UnorderedCensus.{IsCensus}
use Rattle.map_theory.proofs.Orbits.{orbit-length}
use Rattle.map_theory.proofs.Leaders.{cycle-period, leads-on_cycle}
use Rattle.map_theory.proofs.CensusTheory.{different-sum, of-cycle_lengths, cycle_lengths-positive, occurs, occurs-not, lengths-add-up, cycle-points-bound}

-- the lengths of rows
abbrev lengths_of : List Row → List ℕ
lengths_of rows = map (λ r. r.cycle_length) rows

-- rows are told by their lengths where each has the number that g gives
rows-read : (g : ℕ → ℕ) (rows : List Row) → map (λ r. r.cycles) rows ≡ map (λ r. g r.cycle_length) rows
    → rows ≡ map (λ l. record { cycle_length = l; cycles = g l }) (lengths_of rows)
rows-read g [] e = refl
rows-read g (r ∷ rows) e =
    ap₂ ◌∷◌ (ap (λ k. record { cycle_length = r.cycle_length; cycles = k }) (head-eq_of_cons-eq e)) (rows-read g rows (tail-eq_of_cons-eq e))

module _ (n : ℕ) (f : ℕ → ℕ) where
  abbrev occurs_at : ℕ → Bool
  occurs_at l = not (eqb (cycles_of n f l) 0)

  abbrev row : ℕ → Row
  row l = record { cycle_length = l; cycles = cycles_of n f l }

  -- what occurs is the length of a cycle
  pub of-occurring : (l : ℕ) → l ∈ occurring n f → l ∈ cycle_lengths n f
  unfolding occurring
  of-occurring l m =
      let e = eqb-false (cycles_of n f l) 0 (not-of-true (eqb (cycles_of n f l) 0) (of-keep occurs_at (range 1 n) m).1) in
      occurs n f l (omega arith)

  pub occurring-rises : Rising compare (occurring n f)
  unfolding occurring
  occurring-rises = rising-keep occurs_at (rising-range 1 n)

  occurring-nodup : NoDup (occurring n f)
  occurring-nodup = rising-nodup (λ x e. lt-not-eq e (compare-lawful.self x)) occurring-rises

  pub row-lengths : lengths_of (census_rows n f) ≡ occurring n f
  unfolding census_rows
  row-lengths = map-map (λ (r : Row). r.cycle_length) row (occurring n f) ∙ map-id (occurring n f)

  pub row_counts : map (λ r. r.cycles) (census_rows n f) ≡ map (cycles_of n f) (occurring n f)
  unfolding census_rows
  row_counts = map-map (λ (r : Row). r.cycles) row (occurring n f)

  -- the rows come by rising length
  pub rows-rise : Rising compare (lengths_of (census_rows n f))
  rows-rise = rw row-lengths occurring-rises

  -- the length of a cycle occurs
  pub in-occurring : (l : ℕ) → l ∈ cycle_lengths n f → l ∈ occurring n f
  unfolding occurring leaders
  in-occurring l m =
      let p = cycle_lengths-positive n f l m in
      let r = of-cycle_lengths n f m in
      let s = cycle-period n f r.0 (leads-on_cycle n f r.0 (of-keep (leads_cycle n f) (range 0 n) r.1).1) in
      let b : l ≤ n = omega (arith, r.2, ap length s.3, orbit-length f s.0 r.0, s.1) in
      in-keep occurs_at (in-range 1 n (omega arith) (omega arith)) (rw (ne_eqb (cycles_of n f l) 0 (λ e. occurs-not n f l e m)))

  -- the rows are a census
  pub rows-are-census : IsCensus n f (census_rows n f)
  unfolding census_rows
  rows-are-census = record {
    once = λ l. ap (times l) row-lengths ∙ by-test (eqb (cycles_of n f l) 0)
        (λ t. rw t (times-out l (occurring n f) (λ m. occurs-not n f l (eqb-true (cycles_of n f l) 0 t) (of-occurring l m))))
        (λ t. let b = eqb-false (cycles_of n f l) 0 t in rw t (times-nodup occurring-nodup (in-occurring l (occurs n f l (omega arith)))));
    counted = row_counts ∙ sym (map-map (λ (r : Row). cycles_of n f r.cycle_length) row (occurring n f));
  }

  -- and the only one by rising length
  pub census-only : (rows : List Row) → IsCensus n f rows → Rising compare (lengths_of rows) → rows ≡ census_rows n f
  unfolding census_rows
  census-only rows c rises =
      rows-read (cycles_of n f) rows c.counted ∙ ap (map row) (rising-unique compare-lawful rises occurring-rises here there)
    where
      here : (l : ℕ) → l ∈ lengths_of rows → l ∈ occurring n f
      here l m =
          by-test (eqb (cycles_of n f l) 0)
          (λ t. let e : times l (lengths_of rows) ≡ 0 = rw t at (c.once l) in let b = times-in m in absurd (omega arith))
          (λ t. let b = eqb-false (cycles_of n f l) 0 t in in-occurring l (occurs n f l (omega arith)))

      there : (l : ℕ) → l ∈ occurring n f → l ∈ lengths_of rows
      there l m =
          let t = ne_eqb (cycles_of n f l) 0 (λ e. occurs-not n f l e (of-occurring l m)) in
          let e : times l (lengths_of rows) ≡ 1 = rw t at (c.once l) in
          in-of-times l (lengths_of rows) (omega arith)

  pub occurring-positive : (l : ℕ) → l ∈ occurring n f → 0 < l
  occurring-positive l m = cycle_lengths-positive n f l (of-occurring l m)

  -- together they are not more than the points
  pub occurring-total : ((x : ℕ) → x < n → f x < n) → total (λ l. l) (occurring n f) ≤ n
  occurring-total inside =
      let r = inside-rest occurring-nodup of-occurring in
      omega (arith, r.1 (λ l. l), lengths-add-up n f inside, cycle-points-bound n f inside)

  -- at most 19 lengths occur among at most 200 points
  pub occurring-few : ((x : ℕ) → x < n → f x < n) → n ≤ 200 → length (occurring n f) ≤ 19
  occurring-few inside h = omega (arith, different-sum (occurring n f) occurring-nodup occurring-positive, occurring-total inside)

  pub census-fits : ((x : ℕ) → x < n → f x < n) → n ≤ 200 → length (census_rows n f) ≤ 19
  unfolding census_rows
  census-fits inside h = omega (arith, length-map (occurring n f) row, occurring-few inside h)

  -- a component has a tree for each point of its cycle
  trees-along : (x : ℕ) → length (component_at n f x) ≡ length (cycle_from n f x)
  unfolding component_at
  trees-along x = perm-length (rotated-perm (least_rotation-rotated (map (tree_at n f) (cycle_from n f x)))) ∙ length-map (cycle_from n f x) (tree_at n f)

  -- so the numbers of trees in the code are the cycle lengths
  pub trees-lengths : Perm (map length (system_of n f)) (cycle_lengths n f)
  unfolding system_of cycle_lengths
  trees-lengths =
      perm-trans (perm-map length (sort-perm compare_generated (map (component_at n f) (leaders n f))))
      (perm-path (map-map length (component_at n f) (leaders n f)
      ∙ map_same (λ x. length (component_at n f x)) (λ x. length (cycle_from n f x)) (leaders n f) (λ x m. trees-along x)))

  -- the cycles of length l are the components of l trees in the code
  pub cycles_of-system : (l : ℕ) → cycles_of n f l ≡ times l (map length (system_of n f))
  unfolding cycles_of
  cycles_of-system l = sym (perm-times trees-lengths l)

-- maps of equally many points whose code is the same have the same rows
pub same_rows : (n : ℕ) (f g : ℕ → ℕ) → system_of n f ≡ system_of n g → census_rows n f ≡ census_rows n g
unfolding census_rows occurring
same_rows n f g e =
    let same-cycles : (l : ℕ) → cycles_of n f l ≡ cycles_of n g l = λ l. cycles_of-system n f l ∙ ap (λ S. times l (map length S)) e ∙ sym (cycles_of-system n g l) in
    map_same (row n f) (row n g) (occurring n f) (λ l m. ap (λ k. record { cycle_length = l; cycles = k }) (same-cycles l))
    ∙ ap (map (row n g)) (keep_same (occurs_at n f) (occurs_at n g) (range 1 n) (λ l m. ap (λ k. not (eqb k 0)) (same-cycles l)))
