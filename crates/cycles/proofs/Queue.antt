-- The first places of a queue: what stands there when one more joins, and how many numbers stand there.
use mathlib.Core.Path.{◌≡◌, refl, ap, ap₂, sym, ◌∙◌}
use mathlib.Core.Bool.{true, false, ◌||◌}
use mathlib.Core.List.{List}
use Prim.Native.Nat.{ℕ, zero, suc, ◌+◌, ◌≤◌, ◌<◌}
use native.Mathlib.Numerals.{add-one}
use native.Mathlib.Omega.{arith}
use lib.Dec.{eqb, ltb}
use lib.ListN.{length, get_or, set}
use lib.Seq.{get_or-set_same, get_or-set_other}
use borrow.Author.Count.{below_more}
use borrow.Author.Tests.{eq-eqb, ne_eqb, ltb-true, ltb-false}
use Rattle.lists.proofs.Tests.{by-test}
use Rattle.cycles.specs.Pruning.{count_below}
use Rattle.cycles.specs.Queue.{among, Distinct}
use Rattle.cycles.proofs.CountBelow.{count-within, count_none, count_less, count-fewer}

-- what stands among the first places stands among more of them
pub among_later : (queue : List ℕ) (k m z : ℕ) → k ≤ m → among queue k z ≡ true → among queue m z ≡ true
among_later queue k zero z h e =
    let q : k ≡ 0 = omega arith in
    ap (λ j. among queue j z) (sym q) ∙ e
among_later queue k (suc m) z h e =
    by-test (ltb m k)
    (λ t.
    let q : suc m ≡ k = omega (arith, ltb-true m k t) in
    ap (λ j. among queue j z) q ∙ e)
    (λ t.
    let earlier : among queue m z ≡ true = among_later queue k m z (omega (arith, ltb-false m k t)) e in
    by-test (eqb (get_or queue m 0) z) (λ u. rw u) (λ u. rw u earlier))

module _ (queue : List ℕ) (len v : ℕ) where
  abbrev joined : List ℕ
  joined = set queue len v

  -- the places before stay
  pub among-kept : (k z : ℕ) → k ≤ len → among joined k z ≡ among queue k z
  among-kept zero z h = refl
  among-kept (suc k) z h =
      ap₂ (λ a b. eqb a z || b) (get_or-set_other queue len k v 0 (λ e. omega arith)) (among-kept k z (omega arith))

  pub among-joined : (z : ℕ) → len < length queue → among joined (len + 1) z ≡ (eqb v z || among queue len z)
  among-joined z h = rw (add-one len) (ap₂ (λ a b. eqb a z || b) (get_or-set_same queue len v 0 h) (among-kept len z (omega arith)))

  module _ {n : ℕ} (d : Distinct queue len n) where
    kept-points : (j : ℕ) → j < len → get_or joined j 0 < n
    kept-points j b = rw (get_or-set_other queue len j v 0 (λ e. omega arith)) (d.points j b)

    kept_fresh : (j : ℕ) → j < len → among joined j (get_or joined j 0) ≡ false
    kept_fresh j b =
        ap (among joined j) (get_or-set_other queue len j v 0 (λ e. omega arith))
        ∙ among-kept j (get_or queue j 0) (omega arith)
        ∙ d.fresh j b

    pub distinct-kept : Distinct joined len n
    distinct-kept = record { points = kept-points; fresh = kept_fresh }

    -- a number that does not stand there joins
    pub distinct-joined : len < length queue → v < n → among queue len v ≡ false → Distinct joined (len + 1) n
    distinct-joined h b new =
        let last : get_or joined len 0 ≡ v = get_or-set_same queue len v 0 h in
        record {
          points = below_more (λ j. get_or joined j 0 < n) len kept-points (rw last b);
          fresh = below_more (λ j. among joined j (get_or joined j 0) ≡ false) len kept_fresh
              (ap (among joined len) last ∙ among-kept len v (omega arith) ∙ new);
        }

-- as many numbers as places
pub distinct-count : (queue : List ℕ) (len n : ℕ) → Distinct queue len n → count_below (among queue len) n ≡ len
distinct-count queue zero n d = count_none (among queue 0) n (λ z b. refl)
distinct-count queue (suc k) n d =
    let v = get_or queue k 0 in
    let before : Distinct queue k n = record { points = λ j b. d.points j (omega arith); fresh = λ j b. d.fresh j (omega arith) } in
    count_less (among queue (suc k)) (among queue k) n (d.points k (omega arith))
    (ap (λ t. t || among queue k v) (eq-eqb v v refl))
    (d.fresh k (omega arith))
    (λ z b other. ap (λ t. t || among queue k z) (ne_eqb v z (λ e. other (sym e))))
    ∙ ap suc (distinct-count queue k n before)

-- at most n
pub distinct-within : (queue : List ℕ) (len n : ℕ) → Distinct queue len n → len ≤ n
distinct-within queue len n d = omega (arith, distinct-count queue len n d, count-within (among queue len) n)

-- where a number does not stand there yet there is room
pub distinct-room : (queue : List ℕ) (len n : ℕ) {y : ℕ} → Distinct queue len n → y < n → among queue len y ≡ false → len < n
distinct-room queue len n d b new = omega (arith, distinct-count queue len n d, count-fewer (among queue len) n b new)
