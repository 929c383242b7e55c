-- Counting the cycles by their length, leader by leader: each adds one at the length of its cycle.
use mathlib.Core.Path.{◌≡◌, refl, ap, sym, ◌∙◌}
use mathlib.Core.List.{List, [], ◌∷◌, ◌++◌, map, map-append, append-nil}
use mathlib.Core.Bool.{true, false, cond}
use Prim.Native.Nat.{ℕ, ◌+◌, ◌≤◌, ◌<◌, compare}
use native.Mathlib.Omega.{arith}
use native.Mathlib.Numerals.{add-one}
use lib.Dec.{eqb}
use borrow.Author.Tests.{eqb-true, eqb-false}
use lib.ListN.{length, get_or, set, replicate, length-set, length-append, length-replicate, get_or-replicate}
use lib.Seq.{get_or-set_same, get_or-set_other}
use Rattle.lists.specs.Order.{same}
use Rattle.lists.specs.Select.{keep, range, times}
use Rattle.lists.proofs.Tests.{by-test}
use Rattle.lists.proofs.Permute.{total-one, total_mono}
use Rattle.lists.proofs.Members.{keep_append}
use Rattle.lists.proofs.Places.{range_last, times-append}
use Rattle.patterns.specs.Table.{cycle_from, leads_cycle, leaders}
use Rattle.patterns.specs.Census.{cycle_lengths, cycles_of}
use Rattle.map_theory.proofs.Orbits.{orbit-length}
use Rattle.map_theory.proofs.Leaders.{cycle-period, leads-on_cycle}

-- a number stands at most as often as the list is long
times-length : (l : ℕ) (m : List ℕ) → times l m ≤ length m
times-length l m =
    let b = total_mono (λ y. cond (same compare l y) 1 0) (λ y. 1) m
    (λ y k. by-test (same compare l y) (λ t. rw t (omega arith)) (λ t. rw t (omega arith))) in
    omega (arith, total-one m)

module _ (n : ℕ) (f : ℕ → ℕ) where
  -- the lengths of the cycles that points below i lead
  unfoldable pub lengths_to : ℕ → List ℕ
  lengths_to i = map (λ x. length (cycle_from n f x)) (keep (leads_cycle n f) (range 0 i))

  lengths_to-start : lengths_to 0 ≡ []
  unfolding lengths_to
  lengths_to-start = refl

  -- one more point
  lengths_to-next : (i : ℕ) → lengths_to (i + 1) ≡ lengths_to i ++ map (λ x. length (cycle_from n f x)) (keep (leads_cycle n f) (i ∷ []))
  unfolding lengths_to
  lengths_to-next i =
      let e : 0 + i ≡ i = omega arith in
      rw (add-one i)
      (ap (λ l. map (λ x. length (cycle_from n f x)) (keep (leads_cycle n f) l)) (range_last 0 i ∙ ap (λ j. range 0 i ++ (j ∷ [])) e)
      ∙ ap (map (λ x. length (cycle_from n f x))) (keep_append (leads_cycle n f) (range 0 i) (i ∷ []))
      ∙ map-append (λ x. length (cycle_from n f x)) (keep (leads_cycle n f) (range 0 i)) (keep (leads_cycle n f) (i ∷ [])))

  lengths_to-led : (i : ℕ) → leads_cycle n f i ≡ true → lengths_to (i + 1) ≡ lengths_to i ++ (length (cycle_from n f i) ∷ [])
  lengths_to-led i t = rw t at (lengths_to-next i)

  lengths_to-passed : (i : ℕ) → leads_cycle n f i ≡ false → lengths_to (i + 1) ≡ lengths_to i
  lengths_to-passed i t = rw t at (lengths_to-next i) ∙ append-nil (lengths_to i)

  lengths_to-all : (l : ℕ) → times l (lengths_to n) ≡ cycles_of n f l
  unfolding lengths_to cycles_of cycle_lengths leaders
  lengths_to-all l = refl

  -- no cycle is longer than there are points
  pub led-bound : (x : ℕ) → leads_cycle n f x ≡ true → length (cycle_from n f x) ≤ n
  led-bound x t = let r = cycle-period n f x (leads-on_cycle n f x t) in rw r.3 (omega (arith, orbit-length f r.0 x, r.1))

-- the cycles that points below i lead are counted
pub record Counting (n : ℕ) (f : ℕ → ℕ) (counts : List ℕ) (i : ℕ) : Type 0 where
  pub size : length counts ≡ n + 1
  pub point : i ≤ n
  pub fewer : length (lengths_to n f i) ≤ i
  pub count : (l : ℕ) → l ≤ n → get_or counts l 0 ≡ times l (lengths_to n f i)

module _ (n : ℕ) (f : ℕ → ℕ) where
  pub counting-start : {counts : List ℕ} → counts ≡ replicate (n + 1) 0 → Counting n f counts 0
  counting-start e =
      record {
        size = ap length e ∙ length-replicate (n + 1) 0;
        point = omega arith;
        fewer = rw (lengths_to-start n f) (omega arith);
        count = λ l h. ap (λ s. get_or s l 0) e ∙ get_or-replicate (n + 1) l 0 0 (omega arith) ∙ sym (ap (times l) (lengths_to-start n f));
      }

  module _ {counts : List ℕ} {i : ℕ} (c : Counting n f counts i) where
    -- the length of a led cycle has a place, and its count does not exceed the number of points so far
    pub counting-place : leads_cycle n f i ≡ true → {k : ℕ} → k ≡ length (cycle_from n f i) → (k < length counts) × (get_or counts k 0 ≤ i)
    counting-place t {k} e =
        let b : k ≤ n = omega (arith, led-bound n f i t) in
        (omega (arith, c.size), omega (arith, c.count k b, times-length k (lengths_to n f i), c.fewer))

    -- a leader
    pub counting-led : i < n → leads_cycle n f i ≡ true → {k : ℕ} → k ≡ length (cycle_from n f i) → Counting n f (set counts k (get_or counts k 0 + 1)) (i + 1)
    counting-led h t {k} e =
        let v : ℕ = get_or counts k 0 + 1 in
        let next : lengths_to n f (i + 1) ≡ lengths_to n f i ++ (k ∷ []) = lengths_to-led n f i t ∙ ap (λ j. lengths_to n f i ++ (j ∷ [])) (sym e) in
        let more : (l : ℕ) → times l (lengths_to n f (i + 1)) ≡ times l (lengths_to n f i) + cond (eqb l k) 1 0 =
        λ l. let a = times-append l (lengths_to n f i) (k ∷ []) in ap (times l) next ∙ omega arith in
        record {
          size = length-set counts k v ∙ c.size;
          point = omega arith;
          fewer = rw next (rw length-append (omega (arith, c.fewer)));
          count = λ l d. by-test (eqb l k)
              (λ q. let s = eqb-true l k q in
              let one : ◌≡◌ {A = ℕ} (cond (eqb l k) 1 0) 1 = rw q in
              ap (λ j. get_or (set counts k v) j 0) s ∙ get_or-set_same counts k v 0 (counting-place t e).0
              ∙ omega (arith, one, more l, c.count l d, ap (λ j. get_or counts j 0) s))
              (λ q. let none : ◌≡◌ {A = ℕ} (cond (eqb l k) 1 0) 0 = rw q in
              get_or-set_other counts k l v 0 (eqb-false l k q) ∙ omega (arith, none, more l, c.count l d));
        }

    -- any other point
    pub counting-passed : i < n → leads_cycle n f i ≡ false → Counting n f counts (i + 1)
    counting-passed h t =
        let next = lengths_to-passed n f i t in
        record { size = c.size; point = omega arith; fewer = rw next (omega (arith, c.fewer)); count = λ l d. c.count l d ∙ sym (ap (times l) next) }

    pub counting-end : n ≤ i → (l : ℕ) → l ≤ n → get_or counts l 0 ≡ cycles_of n f l
    counting-end h l b =
        let e : i ≡ n = omega (arith, c.point) in
        c.count l b ∙ ap (λ j. times l (lengths_to n f j)) e ∙ lengths_to-all n f l
