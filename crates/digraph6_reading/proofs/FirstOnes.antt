-- The first bit that is 1 from a place on, byte after byte; where there is none, the padding is clear.
use mathlib.Core.Path.{◌≡◌, refl, ap, sym, ◌∙◌}
use mathlib.Core.Bool.{true}
use mathlib.Core.List.{List}
use Prim.Native.Nat.{ℕ, ◌+◌, ◌-◌, ◌*◌, ◌/◌, ◌%◌, ◌≤◌, ◌<◌}
use native.Mathlib.Omega.{arith}
use lib.Dec.{ltb, eqb}
use lib.ListN.{length, get_or, drop, length-drop}
use lib.Seq.{get_or-drop}
use borrow.Author.Tests.{ltb-true, ltb-false, eq-eqb, eqb-true}
use Rattle.lists.specs.Select.{each, gather}
use Rattle.lists.proofs.Tests.{by-test, same_tests, each-true, each_member, clash}
use Rattle.lists.proofs.Places.{in-index, index_of}
use Rattle.lists.proofs.EqualPieces.{piece-at}
use Rattle.patterns.specs.Digraph6.{in_format, bits_of}
use Rattle.line_theory.proofs.Packing.{unpacked-length}
use Rattle.digraph6_reading.specs.LineResults.{BitsAsked, FirstOne}

-- a bit by its byte and its place there
bit-of-byte : (body : List ℕ) (k i : ℕ) → k < length body → i < 6 → get_or (gather bits_of body) (k * 6 + i) 0 ≡ get_or (bits_of (get_or body k 0)) i 0
bit-of-byte body k i h l = piece-at bits_of 6 body (λ x m. refl) 0 0 k i h l

-- from p on the bits before place j of byte k are 0
pub record Searching (body : List ℕ) (p k j : ℕ) : Type 0 where
  pub from : p ≤ k * 6 + j
  pub within : k ≤ length body
  pub place : j ≤ 6
  pub zeros : (t : ℕ) → p ≤ t → t < k * 6 + j → get_or (gather bits_of body) t 0 ≡ 0

-- the byte at place k
pub byte-format : {body : List ℕ} {p k : ℕ} → BitsAsked body p → k < length body → in_format (get_or body k 0) ≡ true
byte-format {body} {p} {k} a h = each_member in_format a.format (in-index body k 0 h)

pub searching-start : {body : List ℕ} {p : ℕ} → BitsAsked body p → Searching body p (p / 6) (p % 6)
searching-start {body} {p} a =
    let h = a.from in
    record { from = omega arith; within = omega arith; place = omega arith; zeros = λ t l m. absurd (omega arith) }

module _ {body : List ℕ} {p k j : ℕ} (s : Searching body p k j) where
  module _ (h : k < length body) {i : ℕ} (w : FirstOne (bits_of (get_or body k 0)) j i) where
    -- as far as place i of this byte
    zeros-on : (t : ℕ) → p ≤ t → t < k * 6 + i → get_or (gather bits_of body) t 0 ≡ 0
    zeros-on t l m =
        let few : i ≤ 6 = w.within in
        by-test (ltb t (k * 6 + j))
        (λ e. s.zeros t l (ltb-true t (k * 6 + j) e))
        (λ e. let high : k * 6 + j ≤ t = ltb-false t (k * 6 + j) e in
        let u : k * 6 + (t - k * 6) ≡ t = omega arith in
        ap (λ q. get_or (gather bits_of body) q 0) (sym u)
        ∙ bit-of-byte body k (t - k * 6) h (omega arith)
        ∙ w.zeros (t - k * 6) (omega arith) (omega arith))

    pub searching-next : 6 ≤ i → Searching body p (k + 1) 0
    searching-next e =
        let f = s.from in
        let few : i ≤ 6 = w.within in
        let g = w.from in
        record { from = omega arith; within = omega arith; place = omega arith; zeros = λ t l m. zeros-on t l (omega arith) }

    pub searching-found : i < 6 → FirstOne (gather bits_of body) p (6 * k + i)
    searching-found e =
        let f = s.from in
        let g = w.from in
        let same : k * 6 + i ≡ 6 * k + i = omega arith in
        record {
          from = omega arith;
          within = omega (arith, unpacked-length body);
          zeros = λ t l m. zeros-on t l (omega arith);
          one = λ m. ap (λ q. get_or (gather bits_of body) q 0) (sym same) ∙ bit-of-byte body k i h e ∙ w.one e;
        }

  pub searching-end : p ≤ length body * 6 → length body ≤ k → FirstOne (gather bits_of body) p (6 * length body)
  searching-end a h =
      let w = s.within in
      record {
        from = omega arith;
        within = omega (arith, unpacked-length body);
        zeros = λ t l m. s.zeros t l (omega arith);
        one = λ m. absurd (omega (arith, unpacked-length body));
      }

-- a later place before it has the same first one
pub first-later : {bits : List ℕ} {p q : ℕ} → FirstOne bits p q → (r : ℕ) → p ≤ r → r ≤ q → FirstOne bits r q
first-later w r h k = record { from = k; within = w.within; zeros = λ i l m. w.zeros i (omega arith) m; one = w.one }

-- no bit from p on is 1
pub all-zero : {bits : List ℕ} {p q : ℕ} → p ≤ length bits → FirstOne bits p q → eqb q (length bits) ≡ each (eqb 0) (drop p bits)
all-zero {bits} {p} {q} h w =
    same_tests (eqb q (length bits)) (each (eqb 0) (drop p bits))
    (λ e. let at_end : q ≡ length bits = eqb-true q (length bits) e in
    each-true (eqb 0) (drop p bits) (λ x m.
    let i = index_of 0 m in
    let inside : i.0 < length (drop p bits) = i.1 in
    eq-eqb 0 x (sym (sym i.2 ∙ get_or-drop p bits i.0 0 ∙ w.zeros (p + i.0) (omega arith) (omega (arith, length-drop p bits))))))
    (λ e. by-test (ltb q (length bits))
    (λ t. let inside : q < length bits = ltb-true q (length bits) t in
    let f = w.from in
    let u : p + (q - p) ≡ q = omega arith in
    let zero-there : 0 ≡ get_or (drop p bits) (q - p) 0 = eqb-true 0 (get_or (drop p bits) (q - p) 0) (each_member (eqb 0) e (in-index (drop p bits) (q - p) 0 (omega (arith, length-drop p bits)))) in
    clash (zero-there ∙ get_or-drop p bits (q - p) 0 ∙ ap (λ i. get_or bits i 0) u ∙ w.one inside))
    (λ t. let k = w.within in eq-eqb q (length bits) (omega (arith, ltb-false q (length bits) t))))
