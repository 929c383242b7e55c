-- What stands at each place of a line's body and of the matrix, for code that reads and writes by place.
use mathlib.Core.Path.{◌≡◌, refl, ap, sym, ◌∙◌}
use mathlib.Core.Bool.{cond}
use mathlib.Core.List.{List, [], ◌∷◌}
use Prim.Native.Nat.{ℕ, zero, suc, ◌+◌, ◌*◌, ◌/◌, ◌%◌, ◌<◌}
use native.Mathlib.Nat.{mod-lt, div-add-mod', div-lt_iff_lt-mul}
use native.Mathlib.Omega.{arith}
use lib.Dec.{eqb}
use lib.ListN.{length, get_or, drop}
use lib.Seq.{drop-drop}
use borrow.Author.Tests.{eq-eqb, eqb-true}
use Rattle.lists.specs.Select.{gather}
use Rattle.lists.proofs.Tests.{◌∈◌, same_tests}
use Rattle.lists.proofs.EqualPieces.{piece-at}
use Rattle.patterns.specs.Table.{image}
use Rattle.digraph6_theory.specs.Digraph6.{row, matrix, sextet, packed, bits_of}
use Rattle.digraph6_theory.proofs.Rows.{row-length, row_at}

pub packed-at : (k i : ℕ) (bits : List ℕ) → i < k → get_or (packed k bits) i 0 ≡ 63 + sextet (drop (6 * i) bits)
packed-at zero i bits h = absurd (omega arith)
packed-at (suc k) zero bits h = refl
packed-at (suc k) (suc i) bits h =
    let e : 6 + 6 * i ≡ 6 * suc i = omega arith in
    packed-at k i (drop 6 bits) (omega arith) ∙ ap (λ b. 63 + sextet b) (drop-drop (6 * i) 6 bits ∙ ap (λ m. drop m bits) e)

-- place p of pieces that all have m entries
piece-place : {A B : Type 0} (g : A → List B) (m : ℕ) (l : List A) → ((x : A) → x ∈ l → length (g x) ≡ m) → (a : A) (b : B) (p : ℕ) → 0 < m → p < length l * m
    → get_or (gather g l) p b ≡ get_or (g (get_or l (p / m) a)) (p % m) b
piece-place g m l e a b p some h =
    ap (λ q. get_or (gather g l) q b) (sym (div-add-mod' p m)) ∙ piece-at g m l e a b (p / m) (p % m) ((div-lt_iff_lt-mul some).1 h) (mod-lt p some)

pub unpacked-at : (body : List ℕ) (p : ℕ) → p < length body * 6 → get_or (gather bits_of body) p 0 ≡ get_or (bits_of (get_or body (p / 6) 0)) (p % 6) 0
unpacked-at body p h = piece-place bits_of 6 body (λ x m. refl) 0 0 p (omega arith) h

turned : (a b : ℕ) → eqb a b ≡ eqb b a
turned a b = same_tests (eqb a b) (eqb b a) (λ t. eq-eqb b a (sym (eqb-true a b t))) (λ t. eq-eqb a b (sym (eqb-true b a t)))

pub matrix-at : (f : List ℕ) (p : ℕ) → p < length f * length f → get_or (matrix f) p 0 ≡ cond (eqb (image f (p / length f)) (p % length f)) 1 0
matrix-at [] p h = absurd (omega arith)
matrix-at (x ∷ l) p h =
    let f = x ∷ l in
    let n = suc (length l) in
    let y = image f (p / n) in
    let some : 0 < n = omega arith in
    piece-place (row n) n f (λ z m. row-length n z) 0 0 p some h ∙ row_at n y (p % n) (mod-lt p some) ∙ ap (λ b. cond b 1 0) (turned (p % n) y)
