-- The multiples of a up to the first that b divides; and the least common multiple of a list, number after number.
use mathlib.Core.Path.{◌≡◌, refl, ap, sym, ◌∙◌}
use mathlib.Core.List.{List}
use Prim.Native.Nat.{ℕ, ◌+◌, ◌-◌, ◌%◌, ◌≤◌, ◌<◌, ◌∣◌}
use native.Mathlib.Nat.{dvd_refl, dvd-add, dvd-sub, le_of_dvd, dvd_of_mod-eq-zero, mod-eq-zero_of_dvd}
use native.Mathlib.Numerals.{add-one}
use native.Mathlib.Omega.{arith}
use lib.ListN.{length, get_or, take, drop, take-append-drop}
use lib.Seq.{take-suc, take_all}
use lib.Dec.{ltb, eqb}
use borrow.Author.Tests.{lt-ltb, ltb-true, eqb-true, eqb-false}
use Rattle.lists.specs.Select.{total}
use Rattle.lists.proofs.Tests.{◌∈◌, by-test, each-true, each_member}
use Rattle.lists.proofs.Members.{in_list, in_append_left}
use Rattle.period_theory.specs.Multiples.{lcm, lcm_from}
use Rattle.period_theory.proofs.CommonMultiples.{Positive, Inside, lcm-positive, lcm-left, lcm-right, lcm-divides, lcms-positive, lcms-common, lcms-inside, lcms-snoc}
use Rattle.period_theory.proofs.LandauBound.{lcm-below}
use Rattle.multiples.specs.FittingMultiples.{LcmAsked, LcmsAsked}

-- m is a multiple of a, not greater than the least common multiple with b
pub record Climbing (a b m : ℕ) : Type 0 where
  pub positive : 0 < m
  pub of_a : a ∣ m
  pub within : m ≤ lcm a b

module _ {a b : ℕ} (h : LcmAsked a b) where
  pub climbing-start : Climbing a b a
  climbing-start =
      record {
        positive = h.first;
        of_a = dvd_refl a;
        within = le_of_dvd (lcm-positive a b h.first h.second) (lcm-left a b h.first h.second);
      }

  module _ {m : ℕ} (c : Climbing a b m) where
    -- where b does not divide m, the next multiple is not too great
    pub climbing-room : (m % b ≡ 0 → ⊥) → m + a ≤ lcm a b
    climbing-room n =
        let other : m ≡ lcm a b → ⊥ = λ e. n (ap (λ k. k % b) e ∙ mod-eq-zero_of_dvd b (lcm-right a b h.first h.second)) in
        let less : m < lcm a b =
        by-test (eqb m (lcm a b)) (λ t. absurd (other (eqb-true m (lcm a b) t))) (λ t. let u = eqb-false m (lcm a b) t in omega (arith, c.within)) in
        let gap : a ≤ lcm a b - m = le_of_dvd (omega arith) (dvd-sub a (lcm-left a b h.first h.second) c.of_a) in
        omega arith

    pub climbing-next : (m % b ≡ 0 → ⊥) → Climbing a b (m + a)
    climbing-next n = record { positive = omega (arith, c.positive); of_a = dvd-add a c.of_a (dvd_refl a); within = climbing-room n }

    -- where b divides m, m is the least common multiple
    pub climbing-end : m % b ≡ 0 → m ≡ lcm a b
    climbing-end e =
        let least : lcm a b ≤ m = le_of_dvd c.positive (lcm-divides a b h.first h.second m c.of_a (dvd_of_mod-eq-zero b e)) in
        omega (arith, c.within)

-- m is the least common multiple of the first i numbers of s
pub record Gathered (s : List ℕ) (i m : ℕ) : Type 0 where
  pub within : i ≤ length s
  pub so_far : m ≡ lcm_from 1 (take i s)

pub gathered-start : (s : List ℕ) → Gathered s 0 1
unfolding lcm_from
gathered-start s = record { within = omega arith; so_far = refl }

-- positive numbers that add up to at most 120 have one that fits
pub few-asked : (s : List ℕ) → Positive s → total (λ x. x) s ≤ 120 → LcmsAsked s
few-asked s all h =
    record {
      positive = each-true (ltb 0) s (λ x m. lt-ltb 0 x (all x m));
      fits = let b = lcm-below s all h in omega arith;
    }

positives : {s : List ℕ} → LcmsAsked s → Positive s
positives a x m = ltb-true 0 x (each_member (ltb 0) a.positive m)

pub front-inside : (k : ℕ) (s : List ℕ) → Inside (take k s) s
front-inside k s x m = in_list (take-append-drop k s) (in_append_left (drop k s) m)

module _ {s : List ℕ} {i m : ℕ} (g : Gathered s i m) where
  -- with the next number
  one_more : i < length s → lcm m (get_or s i 0) ≡ lcm_from 1 (take (i + 1) s)
  one_more h = rw (g.so_far, add-one i, take-suc s i 0 h) (sym (lcms-snoc 1 (take i s) (get_or s i 0)))

  -- with any number of the list there is a least common multiple that fits
  pub gathered-asked : LcmsAsked s → (y : ℕ) → y ∈ s → LcmAsked m y
  gathered-asked a y e =
      let all = positives a in
      let front = front-inside i s in
      let some : 0 < m = rw g.so_far (lcms-positive (take i s) (λ x k. all x (front x k))) in
      let of_all : m ∣ lcm_from 1 s = rw g.so_far (lcms-inside front all) in
      record {
        first = some;
        second = all y e;
        fits = let d = le_of_dvd (lcms-positive s all) (lcm-divides m y some (all y e) (lcm_from 1 s) of_all (lcms-common s all y e)) in omega (arith, a.fits);
      }

  pub gathered_next : i < length s → {r : ℕ} → r ≡ lcm m (get_or s i 0) → Gathered s (i + 1) r
  gathered_next h e = record { within = omega arith; so_far = e ∙ one_more h }

  pub gathered-end : length s ≤ i → m ≡ lcm_from 1 s
  gathered-end h = g.so_far ∙ ap (lcm_from 1) (take_all i s h)
