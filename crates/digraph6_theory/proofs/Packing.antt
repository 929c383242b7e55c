-- Six bits to a byte: what is packed is unpacked, and the other way round.
use mathlib.Core.Path.{◌≡◌, refl, ap, ap₂, sym, ◌∙◌}
use mathlib.Core.Bool.{true}
use mathlib.Core.List.{List, [], ◌∷◌, ◌++◌}
use Prim.Native.Nat.{ℕ, zero, suc, ◌+◌, ◌-◌, ◌*◌, ◌/◌, ◌%◌, ◌≤◌, ◌<◌}
use native.Mathlib.Omega.{arith}
use lib.Dec.{leb, eqb}
use lib.ListN.{length, get_or, drop, replicate, length-append, length-replicate}
use lib.Seq.{get_or-drop}
use borrow.Author.Tests.{le-leb, leb-true, eq-eqb, eqb-true}
use Rattle.lists.specs.Select.{each, gather, range}
use Rattle.lists.proofs.Tests.{and-true, true-and, each-cons, each-head, each_tail, each-true, each_member}
use Rattle.lists.proofs.Members.{in-range, of-replicate}
use Rattle.lists.proofs.EqualPieces.{pieces-length}
use Rattle.form_theory.proofs.Bounds.{all_below, below-head, below-tail}
use Rattle.digraph6_theory.specs.Digraph6.{sextet, packed, in_format, bits_of}

-- every place holds 0 or 1; a bit that is missing is 0
abbrev pub Bits : List ℕ → Type 0
Bits bits = (i : ℕ) → get_or bits i 0 < 2

pub bit_at : (bits : List ℕ) → all_below 2 bits ≡ true → Bits bits
bit_at [] e i = omega arith
bit_at (x ∷ l) e zero = below-head 2 x l e
bit_at (x ∷ l) e (suc i) = bit_at l (below-tail 2 x l e) i

bits_back : (a b c d e f : ℕ) (l : List ℕ) → a < 2 → b < 2 → c < 2 → d < 2 → e < 2 → f < 2
    → bits_of (63 + sextet (a ∷ b ∷ c ∷ d ∷ e ∷ f ∷ l)) ≡ a ∷ b ∷ c ∷ d ∷ e ∷ f ∷ []
bits_back a b c d e f l ha hb hc hd he hf =
    let s = 63 + (a * 32 + b * 16 + c * 8 + d * 4 + e * 2 + f) - 63 in
    let pa : s / 32 % 2 ≡ a = omega arith in
    let pb : s / 16 % 2 ≡ b = omega arith in
    let pc : s / 8 % 2 ≡ c = omega arith in
    let pd : s / 4 % 2 ≡ d = omega arith in
    let pe : s / 2 % 2 ≡ e = omega arith in
    let pf : s % 2 ≡ f = omega arith in
    rw (pa, pb, pc, pd, pe, pf)

pub in-format : (x : ℕ) → in_format x ≡ true → (63 ≤ x) × (x ≤ 126)
in-format x e =
    let h = and-true (leb 63 x) (leb x 126) e in
    (leb-true 63 x h.0, leb-true x 126 h.1)

pub format-in : (x : ℕ) → 63 ≤ x → x ≤ 126 → in_format x ≡ true
format-in x h k = true-and (le-leb 63 x h) (le-leb x 126 k)

byte-test : each (λ x. eqb (63 + sextet (bits_of x)) x) (range 63 64) ≡ true
byte-test = refl

byte-back : (x : ℕ) → in_format x ≡ true → 63 + sextet (bits_of x) ≡ x
byte-back x e =
    let f = in-format x e in
    eqb-true (63 + sextet (bits_of x)) x (each_member (λ x. eqb (63 + sextet (bits_of x)) x) byte-test (in-range 63 64 f.0 (omega (arith, f.1))))

pub packed-length : (k : ℕ) (bits : List ℕ) → length (packed k bits) ≡ k
packed-length zero bits = refl
packed-length (suc k) bits = ap suc (packed-length k (drop 6 bits))

-- what is packed depends on the bits alone
packed-same : (k : ℕ) (a b : List ℕ) → ((i : ℕ) → get_or a i 0 ≡ get_or b i 0) → packed k a ≡ packed k b
packed-same zero a b h = refl
packed-same (suc k) a b h =
    ap₂ ◌∷◌ (rw (h 0, h 1, h 2, h 3, h 4, h 5))
    (packed-same k (drop 6 a) (drop 6 b) (λ i. get_or-drop 6 a i 0 ∙ h (6 + i) ∙ sym (get_or-drop 6 b i 0)))

zero-at : (z : List ℕ) → each (eqb 0) z ≡ true → (i : ℕ) → get_or z i 0 ≡ 0
zero-at [] e i = refl
zero-at (x ∷ z) e zero = sym (eqb-true 0 x (each-head (eqb 0) x z e))
zero-at (x ∷ z) e (suc i) = zero-at z (each_tail (eqb 0) x z e) i

padded-at : (a z : List ℕ) → each (eqb 0) z ≡ true → (i : ℕ) → get_or (a ++ z) i 0 ≡ get_or a i 0
padded-at [] z e i = zero-at z e i
padded-at (x ∷ a) z e zero = refl
padded-at (x ∷ a) z e (suc i) = padded-at a z e i

-- a padding of zeros changes nothing
pub packed-padded : (k : ℕ) (a z : List ℕ) → each (eqb 0) z ≡ true → packed k (a ++ z) ≡ packed k a
packed-padded k a z e = packed-same k (a ++ z) a (padded-at a z e)

pub zeros : (k : ℕ) → each (eqb 0) (replicate k 0) ≡ true
zeros k = each-true (eqb 0) (replicate k 0) (λ x m. eq-eqb 0 x (sym (of-replicate k m)))

unpacked-full : (k : ℕ) (bits : List ℕ) → Bits bits → length bits ≡ k * 6 → gather bits_of (packed k bits) ≡ bits
unpacked-full zero [] b e = refl
unpacked-full zero (x ∷ l) b e = absurd (omega arith)
unpacked-full (suc k) [] b e = absurd (omega arith)
unpacked-full (suc k) (a₀ ∷ []) b e = absurd (omega arith)
unpacked-full (suc k) (a₀ ∷ a₁ ∷ []) b e = absurd (omega arith)
unpacked-full (suc k) (a₀ ∷ a₁ ∷ a₂ ∷ []) b e = absurd (omega arith)
unpacked-full (suc k) (a₀ ∷ a₁ ∷ a₂ ∷ a₃ ∷ []) b e = absurd (omega arith)
unpacked-full (suc k) (a₀ ∷ a₁ ∷ a₂ ∷ a₃ ∷ a₄ ∷ []) b e = absurd (omega arith)
unpacked-full (suc k) (a₀ ∷ a₁ ∷ a₂ ∷ a₃ ∷ a₄ ∷ a₅ ∷ l) b e =
    ap₂ ◌++◌ (bits_back a₀ a₁ a₂ a₃ a₄ a₅ l (b 0) (b 1) (b 2) (b 3) (b 4) (b 5))
    (unpacked-full k l (λ i. b (suc (suc (suc (suc (suc (suc i))))))) (omega arith))

-- the bits that were packed come back, with the padding behind them
pub unpacked : (k : ℕ) (bits : List ℕ) → Bits bits → length bits ≤ k * 6 → gather bits_of (packed k bits) ≡ bits ++ replicate (k * 6 - length bits) 0
unpacked k bits b h =
    let pad = replicate {A = ℕ} (k * 6 - length bits) 0 in
    let z : each (eqb 0) pad ≡ true = zeros (k * 6 - length bits) in
    ap (gather bits_of) (sym (packed-padded k bits pad z))
    ∙ unpacked-full k (bits ++ pad) (λ i. rw (padded-at bits pad z i) (b i))
    (omega (arith, length-append bits pad, length-replicate {A = ℕ} (k * 6 - length bits) 0))

-- packed bits are bytes of the format
pub packed-format : (k : ℕ) (bits : List ℕ) → Bits bits → each in_format (packed k bits) ≡ true
packed-format zero bits b = refl
packed-format (suc k) bits b =
    each-cons in_format {x = 63 + sextet bits} (packed k (drop 6 bits))
    (format-in (63 + sextet bits) (omega arith) (omega (arith, b 0, b 1, b 2, b 3, b 4, b 5)))
    (packed-format k (drop 6 bits) (λ i. rw (get_or-drop 6 bits i 0) (b (6 + i))))

-- bytes of the format are the packing of their bits
pub repacked : (body : List ℕ) → each in_format body ≡ true → packed (length body) (gather bits_of body) ≡ body
repacked [] e = refl
repacked (x ∷ l) e = ap₂ ◌∷◌ (byte-back x (each-head in_format x l e)) (repacked l (each_tail in_format x l e))

pub unpacked-bits : (body : List ℕ) → Bits (gather bits_of body)
unpacked-bits [] i = omega arith
unpacked-bits (x ∷ l) zero = omega arith
unpacked-bits (x ∷ l) (suc zero) = omega arith
unpacked-bits (x ∷ l) (suc (suc zero)) = omega arith
unpacked-bits (x ∷ l) (suc (suc (suc zero))) = omega arith
unpacked-bits (x ∷ l) (suc (suc (suc (suc zero)))) = omega arith
unpacked-bits (x ∷ l) (suc (suc (suc (suc (suc zero))))) = omega arith
unpacked-bits (x ∷ l) (suc (suc (suc (suc (suc (suc i)))))) = unpacked-bits l i

pub unpacked-length : (body : List ℕ) → length (gather bits_of body) ≡ length body * 6
unpacked-length body = pieces-length bits_of 6 body (λ x m. refl)
