-- Writing the table of pairs, point after point of the first table.
use mathlib.Core.Path.{◌≡◌, refl, ap, sym, ◌∙◌}
use mathlib.Core.List.{List, [], ◌∷◌, ◌++◌, map, append-nil}
use Prim.Native.Nat.{ℕ, ◌+◌, ◌*◌, ◌≤◌, ◌<◌}
use native.Mathlib.Numerals.{add-one}
use native.Mathlib.Nat.{mul-le-mul_right}
use native.Mathlib.Omega.{arith}
use lib.ListN.{length, get_or, take}
use lib.Seq.{take-suc, take_all, length-take-le}
use Rattle.lists.proofs.Members.{gather_append}
use Rattle.lists.proofs.EqualPieces.{piece-within}
use Rattle.patterns.specs.Arithmetic.{product_table}
use Rattle.map_theory.proofs.Isomorphisms.{table_below}
use Rattle.combining.specs.declared.Operation.TheVariants.{Product}
use Rattle.combining.specs.Combining.{CombineAsked}
use Rattle.written.specs.Putting.{placed}
use Rattle.written.proofs.Placing.{placed-length, placed-more, placed-all}
use Rattle.arithmetic_theory.proofs.Products.{product-points}

-- the pairs of an image are points of the result
pub image-pairs : {f g out : List ℕ} → CombineAsked Product f g out → {i : ℕ} → i < length f → get_or f i 0 * length g + length g ≤ 200
image-pairs {f} {g} a {i} h =
    let below = table_below (length f) f refl a.first i h in
    omega (arith, piece-within (length g) below, a.room, a.small)

-- the pairs of the first i points stand in the output
pub record Pairing (f g out₀ out : List ℕ) (i : ℕ) : Type 0 where
  pub within : i ≤ length f
  pub output : out ≡ placed 0 (product_table (take i f) g) out₀

module _ {f g out₀ out : List ℕ} {i : ℕ} (p : Pairing f g out₀ out i) (room : length out₀ ≡ length f * length g) where
  count : length (product_table (take i f) g) ≡ i * length g
  count = product-points (take i f) g ∙ ap (λ n. n * length g) (length-take-le i f p.within)

  pub pairing-length : length out ≡ length out₀
  pairing-length = ap length p.output ∙ placed-length 0 (product_table (take i f) g) out₀ (omega (arith, count, mul-le-mul_right (length g) p.within))

  -- there is room for the pairs of one point more
  pub pairs-fit : i < length f → i * length g + length g ≤ length out
  pairs-fit k = omega (arith, piece-within (length g) k, pairing-length)

  -- the pairs of point i, whose image is x
  pub pairing-next : i < length f → {out' : List ℕ} → out' ≡ placed (i * length g) (map (λ y. get_or f i 0 * length g + y) g) out → Pairing f g out₀ out' (i + 1)
  pairing-next k e =
      let done = product_table (take i f) g in
      let x = get_or f i 0 in
      let next = map (λ y. x * length g + y) g in
      let place : 0 + length done ≡ i * length g = omega (arith, count) in
      let more : product_table (take (i + 1) f) g ≡ done ++ next =
      rw (add-one i, take-suc f i 0 k) (gather_append (λ x. map (λ y. x * length g + y) g) (take i f) (x ∷ []) ∙ ap (λ r. done ++ r) (append-nil next)) in
      record {
        within = omega arith;
        output =
            e ∙ rw (p.output, ← place) (placed-more 0 done next out₀ (omega (arith, count, pairs-fit k, pairing-length)))
            ∙ ap (λ l. placed 0 l out₀) (sym more);
      }

  pub pairing-end : length f ≤ i → out ≡ product_table f g
  pairing-end k =
      p.output ∙ ap (λ l. placed 0 (product_table l g) out₀) (take_all i f k) ∙ placed-all (product_table f g) out₀ (product-points f g ∙ sym room)
