-- A lent slice of structs is filled with the rows of a census, one after another.
use mathlib.Core.Path.{◌≡◌, refl, ap, sym, ◌∙◌}
use mathlib.Core.List.{List, [], ◌∷◌, ◌++◌, map}
use Prim.Native.Nat.{ℕ, zero, suc, ◌+◌, ◌<◌}
use native.Mathlib.Omega.{arith}
use native.Mathlib.Numerals.{add-one}
use lib.ListN.{length, get_or, take, drop, set, length-map, length-set}
use lib.Seq.{take-suc, drop-cons, set_at, append_snoc, length-take-le}
use Rattle.patterns.specs.Census.{Row, rows_of}
use Rattle.patterns.specs.declared.reply.Row.{Row as Entry}
use Rattle.census.specs.declared.columns.Rows.{Rows}
use Rattle.patterns.specs.Replies.{row_of}
use Rattle.census.specs.Entries.{row_in}
use Rattle.map_theory.proofs.SideBySide.{rows-length, rows_append}

map-set : (l : List Entry) (i : ℕ) (e : Entry) → map row_of (set l i e) ≡ set (map row_of l) i (row_of e)
map-set [] i e = refl
map-set (x ∷ l) zero e = refl
map-set (x ∷ l) (suc i) e = ap (λ m. row_of x ∷ m) (map-set l i e)

-- the first i rows stand in the first places of what was ys, and the places behind are kept
pub record Filled (rows : Rows) (ys : List Entry) (i : ℕ) (zs : List Entry) : Type 0 where
  pub same : length zs ≡ length ys
  pub rows_are : map row_of zs ≡ rows_of (take i rows.lengths) (take i rows.counts) ++ drop i (map row_of ys)

module _ (rows : Rows) (ys : List Entry) where
  pub filled-start : Filled rows ys 0 ys
  filled-start = record { same = refl; rows_are = refl }

  module _ (lengths-all : length rows.lengths ≡ 19) (Counts-all : length rows.counts ≡ 19) (i : ℕ) (few : i < 19) where
    abbrev a : List ℕ
    a = take i rows.lengths

    abbrev b : List ℕ
    b = take i rows.counts

    front : (length a ≡ i) × (length b ≡ i)
    front = (length-take-le i rows.lengths (omega arith), length-take-le i rows.counts (omega arith))

    rows_next : rows_of (take (suc i) rows.lengths) (take (suc i) rows.counts) ≡ rows_of a b ++ (row_in rows i ∷ [])
    rows_next =
        rw (take-suc rows.lengths i 0 (omega arith), take-suc rows.counts i 0 (omega arith))
        (rows_append a b (get_or rows.lengths i 0 ∷ []) (get_or rows.counts i 0 ∷ []) (front.0 ∙ sym front.1))

    pub filled_next : {zs : List Entry} → Filled rows ys i zs → i < length ys → (e : Entry) → row_of e ≡ row_in rows i → Filled rows ys (i + 1) (set zs i e)
    filled_next {zs} f within e is =
        let behind = map row_of ys in
        let old = get_or behind i (row_in rows i) in
        let many : length (rows_of a b) ≡ i = rows-length a b (front.0 ∙ sym front.1) ∙ front.0 in
        let split = drop-cons behind i (row_in rows i) (omega (arith, length-map ys row_of)) in
        record {
          same = length-set zs i e ∙ f.same;
          rows_are =
              map-set zs i e
              ∙ ap (λ (r : Row). set (map row_of zs) i r) is
              ∙ ap (λ (l : List Row). set l i (row_in rows i)) (f.rows_are ∙ ap (λ (l : List Row). rows_of a b ++ l) split)
              ∙ set_at (rows_of a b) old (drop (suc i) behind) (row_in rows i) i many
              ∙ sym (append_snoc (rows_of a b) (row_in rows i) (drop (suc i) behind))
              ∙ ap (λ (l : List Row). l ++ drop (suc i) behind) (sym rows_next)
              ∙ ap (λ j. rows_of (take j rows.lengths) (take j rows.counts) ++ drop j behind) (sym (add-one i));
        }
