-- Writing the numbers of a list, each greater by the same, place after place: two lists written so side by side, and when all numbers are bytes.
use mathlib.Core.Path.{◌≡◌, refl, ap, sym, ◌∙◌}
use mathlib.Core.Bool.{true}
use mathlib.Core.List.{List, [], ◌∷◌, ◌++◌, map, map-append}
use Prim.Native.Nat.{ℕ, ◌+◌, ◌≤◌, ◌<◌}
use native.Mathlib.Numerals.{add-one}
use native.Mathlib.Omega.{arith}
use lib.ListN.{length, get_or, take, drop, set, length-map}
use lib.Seq.{take-suc, length-take-le}
use Rattle.patterns.specs.Table.{is_table}
use Rattle.patterns.specs.Arithmetic.{sum_table}
use Rattle.map_theory.proofs.Isomorphisms.{table_below}
use Rattle.arithmetic_theory.proofs.Sums.{sum-points}
use Rattle.written.specs.Putting.{placed}
use Rattle.combining.specs.Combining.{ShiftAsked}
use Rattle.written.proofs.Placing.{placed-length, placed_one, placed-more, placed-all}

-- the first j numbers of g, changed by h, stand in the output from `at` on
pub record Shifting (h : ℕ → ℕ) (g : List ℕ) (at : ℕ) (out₀ out : List ℕ) (j : ℕ) : Type 0 where
  pub within : j ≤ length g
  pub output : out ≡ placed at (map h (take j g)) out₀

module _ {h : ℕ → ℕ} {g : List ℕ} {at : ℕ} {out₀ out : List ℕ} {j : ℕ} (s : Shifting h g at out₀ out j) where
  count : length (map h (take j g)) ≡ j
  count = length-map (take j g) h ∙ length-take-le j g s.within

  pub shifting-length : at + length g ≤ length out₀ → length out ≡ length out₀
  shifting-length room = let k = s.within in ap length s.output ∙ placed-length at (map h (take j g)) out₀ (omega (arith, count))

  -- one number more
  pub shifting-next : at + length g ≤ length out₀ → j < length g → Shifting h g at out₀ (set out (at + j) (h (get_or g j 0))) (j + 1)
  shifting-next room k =
      let x = h (get_or g j 0) in
      let p : at + length (map h (take j g)) ≡ at + j = ap (λ n. at + n) count in
      let more : map h (take (j + 1) g) ≡ map h (take j g) ++ (x ∷ []) = rw (add-one j, take-suc g j 0 k) (map-append h (take j g) (get_or g j 0 ∷ [])) in
      record {
        within = omega arith;
        output =
            placed_one out (at + j) x (omega (arith, shifting-length room))
            ∙ rw (s.output, ← p) (placed-more at (map h (take j g)) (x ∷ []) out₀ (omega (arith, count)))
            ∙ ap (λ l. placed at l out₀) (sym more);
      }

-- the first list as it is, and behind it the second
pub sum-placed : (f g out : List ℕ) {first second : List ℕ} → length out ≡ length f + length g → first ≡ f
    → second ≡ placed (length f) (map (λ y. length f + y) g) (first ++ drop (length f) out) → second ≡ sum_table f g
sum-placed f g out {first} {second} room p q =
    let behind = map (λ y. length f + y) g in
    let start : length f ≡ 0 + length f = omega arith in
    q
    ∙ ap (λ l. placed (length f) behind (l ++ drop (length f) out)) p
    ∙ ap (λ n. placed n behind (f ++ drop n out)) start
    ∙ placed-more 0 f behind out (omega arith)
    ∙ placed-all (sum_table f g) out (sum-points f g ∙ sym room)

-- a table whose numbers, so much greater, are at most 200
pub shift-asked : (shift at : ℕ) (g out : List ℕ) → is_table g ≡ true → at + length g ≤ length out → shift + length g ≤ 200 → ShiftAsked shift g out at
shift-asked shift at g out t room small =
    record { room = room; bytes = λ j h. omega (arith, table_below (length g) g refl t j h) }
