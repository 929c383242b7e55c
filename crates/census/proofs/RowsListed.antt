-- Reading the rows off a tallies of counts, length by length: the lengths whose count is not 0 stand in the first places of one list, their counts
-- in the first places of the other.
use mathlib.Core.Path.{◌≡◌, refl, ap, sym, ◌∙◌}
use mathlib.Core.List.{List, [], ◌∷◌, ◌++◌, map, map-append, append-nil}
use mathlib.Core.Bool.{Bool, not}
use Prim.Native.Nat.{ℕ, suc, ◌+◌, ◌-◌, ◌≤◌, ◌<◌}
use native.Mathlib.Omega.{arith}
use native.Mathlib.Numerals.{add-one}
use lib.Dec.{eqb}
use borrow.Author.Tests.{eq-eqb, ne_eqb}
use lib.ListN.{length, get_or, set, drop, length-append, length-map, length-set}
use lib.Seq.{drop-cons, set_at, append_snoc}
use Rattle.lists.specs.Select.{keep, range}
use Rattle.lists.proofs.Tests.{◌∈◌}
use Rattle.lists.proofs.Members.{in-range, in-keep, keep_append, not-in-nil}
use Rattle.lists.proofs.Places.{range-append, range_last}
use Rattle.census.specs.Rows.{counted, RowsRoom, Listed}

member-length : {x : ℕ} (l : List ℕ) → x ∈ l → 0 < length l
member-length [] m = not-in-nil m
member-length (y ∷ l) m = omega arith

-- one more entry after a, which fills the first k places of d
put_next : (a d : List ℕ) (k v : ℕ) → k ≡ length a → k < length d → set (a ++ drop k d) k v ≡ (a ++ (v ∷ [])) ++ drop (k + 1) d
put_next a d k v e h =
    rw (add-one k, drop-cons d k 0)
    (set_at a (get_or d k 0) (drop (suc k) d) v k (sym e) ∙ sym (append_snoc a v (drop (suc k) d)))

module _ (tallies : List ℕ) where
  -- the count of l is not 0
  abbrev occurs : ℕ → Bool
  occurs l = not (eqb (get_or tallies l 0) 0)

  -- the lengths below l whose count is not 0
  unfoldable pub found : ℕ → List ℕ
  found l = keep occurs (range 1 (l - 1))

  found-start : found 1 ≡ []
  unfolding found
  found-start = refl

  found_all : found (length tallies) ≡ counted tallies
  unfolding found
  found_all = refl

  -- the numbers from 1 to l
  range-next : (l : ℕ) → 0 < l → range 1 (l + 1 - 1) ≡ range 1 (l - 1) ++ (l ∷ [])
  range-next l h =
      let a : l + 1 - 1 ≡ suc (l - 1) = omega arith in
      let b : 1 + (l - 1) ≡ l = omega arith in
      ap (range 1) a ∙ range_last 1 (l - 1) ∙ ap (λ k. range 1 (l - 1) ++ (k ∷ [])) b

  found-taken : (l : ℕ) → 0 < l → (get_or tallies l 0 ≡ 0 → ⊥) → found (l + 1) ≡ found l ++ (l ∷ [])
  unfolding found
  found-taken l h e =
      ap (keep occurs) (range-next l h) ∙ keep_append occurs (range 1 (l - 1)) (l ∷ []) ∙ ap (λ r. found l ++ r) (rw (ne_eqb (get_or tallies l 0) 0 e))

  found_passed : (l : ℕ) → 0 < l → get_or tallies l 0 ≡ 0 → found (l + 1) ≡ found l
  unfolding found
  found_passed l h e =
      ap (keep occurs) (range-next l h) ∙ keep_append occurs (range 1 (l - 1)) (l ∷ [])
      ∙ ap (λ r. found l ++ r) (rw (eq-eqb (get_or tallies l 0) 0 e)) ∙ append-nil (found l)

  -- there is room for one more
  found-room : (l : ℕ) → 0 < l → l < length tallies → (get_or tallies l 0 ≡ 0 → ⊥) → length (found l) < length (counted tallies)
  unfolding found
  found-room l h b e =
      let n : ℕ = length tallies - l in
      let a : length tallies - 1 ≡ (l - 1) + n = omega arith in
      let q : counted tallies ≡ found l ++ keep occurs (range (1 + (l - 1)) n) =
      ap (λ k. keep occurs (range 1 k)) a ∙ ap (keep occurs) (range-append 1 (l - 1) n) ∙ keep_append occurs (range 1 (l - 1)) (range (1 + (l - 1)) n) in
      let m = member-length (keep occurs (range (1 + (l - 1)) n))
      (in-keep occurs (in-range (1 + (l - 1)) n {x = l} (omega arith) (omega arith)) (rw (ne_eqb (get_or tallies l 0) 0 e))) in
      omega (arith, ap length q, length-append (found l) (keep occurs (range (1 + (l - 1)) n)))

-- the lengths below l are listed
pub record RowsSoFar (tallies lengths₀ counts₀ lengths counts : List ℕ) (rows l : ℕ) : Type 0 where
  pub begun : 0 < l
  pub within : l ≤ length tallies
  pub lengths_same : length lengths ≡ length lengths₀
  pub counts_same : length counts ≡ length counts₀
  pub many : rows ≡ length (found tallies l)
  pub lengths_are : lengths ≡ found tallies l ++ drop rows lengths₀
  pub counts_are : counts ≡ map (λ l. get_or tallies l 0) (found tallies l) ++ drop rows counts₀

module _ {tallies lengths₀ counts₀ : List ℕ} (room : RowsRoom tallies lengths₀ counts₀) where
  pub rows_start : RowsSoFar tallies lengths₀ counts₀ lengths₀ counts₀ 0 1
  rows_start =
      record {
        begun = omega arith;
        within = omega (arith, room.some);
        lengths_same = refl;
        counts_same = refl;
        many = sym (ap length (found-start tallies));
        lengths_are = sym (ap (λ r. r ++ lengths₀) (found-start tallies));
        counts_are = sym (ap (λ r. map (λ l. get_or tallies l 0) r ++ counts₀) (found-start tallies));
      }

  module _ {lengths counts : List ℕ} {rows l : ℕ} (c : RowsSoFar tallies lengths₀ counts₀ lengths counts rows l) (h : l < length tallies) where
    -- there is room for one more row
    pub rows-room : (get_or tallies l 0 ≡ 0 → ⊥) → (rows < length lengths) × (rows < length counts)
    rows-room e =
        let b = found-room tallies l c.begun h e in
        (omega (arith, c.many, c.lengths_same, room.lengths_room), omega (arith, c.many, c.counts_same, room.counts_room))

    pub rows_taken : (get_or tallies l 0 ≡ 0 → ⊥)
        → RowsSoFar tallies lengths₀ counts₀ (set lengths rows l) (set counts rows (get_or tallies l 0)) (rows + 1) (l + 1)
    rows_taken e =
        let b = rows-room e in
        let q = found-taken tallies l c.begun e in
        let v : ℕ = get_or tallies l 0 in
        let values : List ℕ = map (λ k. get_or tallies k 0) (found tallies l) in
        let count : rows ≡ length values = c.many ∙ sym (length-map (found tallies l) (λ k. get_or tallies k 0)) in
        record {
          begun = omega arith;
          within = omega arith;
          lengths_same = length-set lengths rows l ∙ c.lengths_same;
          counts_same = length-set counts rows v ∙ c.counts_same;
          many = omega (arith, c.many, ap length q, length-append (found tallies l) (l ∷ []));
          lengths_are = ap (λ s. set s rows l) c.lengths_are
              ∙ put_next (found tallies l) lengths₀ rows l c.many (omega (arith, c.lengths_same))
              ∙ ap (λ r. r ++ drop (rows + 1) lengths₀) (sym q);
          counts_are = ap (λ s. set s rows v) c.counts_are
              ∙ put_next values counts₀ rows v count (omega (arith, c.counts_same))
              ∙ ap (λ r. r ++ drop (rows + 1) counts₀) (sym (ap (map (λ k. get_or tallies k 0)) q ∙ map-append (λ k. get_or tallies k 0) (found tallies l) (l ∷ [])));
        }

    pub rows-passed : get_or tallies l 0 ≡ 0 → RowsSoFar tallies lengths₀ counts₀ lengths counts rows (l + 1)
    rows-passed e =
        let q = found_passed tallies l c.begun e in
        record {
          begun = omega arith;
          within = omega arith;
          lengths_same = c.lengths_same;
          counts_same = c.counts_same;
          many = c.many ∙ sym (ap length q);
          lengths_are = c.lengths_are ∙ ap (λ r. r ++ drop rows lengths₀) (sym q);
          counts_are = c.counts_are ∙ ap (λ r. map (λ k. get_or tallies k 0) r ++ drop rows counts₀) (sym q);
        }

-- all lengths are listed
pub rows_end : {tallies lengths₀ counts₀ lengths counts : List ℕ} {rows l : ℕ} → RowsSoFar tallies lengths₀ counts₀ lengths counts rows l → length tallies ≤ l
    → Listed tallies lengths₀ counts₀ rows lengths counts
rows_end {tallies} {lengths₀} {counts₀} {rows = rows} {l = l} c h =
    let e : l ≡ length tallies = omega (arith, c.within) in
    let q : found tallies l ≡ counted tallies = ap (found tallies) e ∙ found_all tallies in
    record {
      many = c.many ∙ ap length q;
      lengths_are = c.lengths_are ∙ ap (λ r. r ++ drop rows lengths₀) q;
      counts_are = c.counts_are ∙ ap (λ r. map (λ k. get_or tallies k 0) r ++ drop rows counts₀) q;
    }
