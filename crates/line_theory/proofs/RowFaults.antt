-- Rows are refused exactly where one of them has not exactly one neighbour.
use mathlib.Core.Path.{◌≡◌, refl, ap, sym, ◌∙◌}
use mathlib.Core.List.{List, [], ◌∷◌}
use Prim.Native.Nat.{ℕ, zero, suc, ◌+◌, ◌*◌, ◌<◌}
use native.Mathlib.Nat.{zero-mul, suc-mul}
use native.Mathlib.Omega.{arith}
use lib.ListN.{take, drop}
use lib.Seq.{drop-drop}
use Rattle.lists.proofs.Tests.{clash}
use Rattle.patterns.specs.declared.Refusal.{Refusal}
use Rattle.patterns.specs.declared.Refusal.TheVariants.{OutDegree}
use Rattle.patterns.specs.Reading.{Result, done, fault, and_then, mapped}
use Rattle.patterns.proofs.Outcomes.{by_result}
use Rattle.patterns.specs.Digraph6.{neighbours, only_neighbour, read_matrix}

-- row i of rows of n bits
abbrev pub row_at : ℕ → List ℕ → ℕ → List ℕ
row_at n bits i = take n (drop (i * n) bits)

-- one of the first k rows has not exactly one neighbour
pub record WrongRow (n k : ℕ) (bits : List ℕ) : Type 0 where
  pub row : ℕ
  pub within : row < k
  pub not_one : (y : ℕ) → neighbours (row_at n bits row) ≡ y ∷ [] → ⊥

-- the rows behind the first
row-behind : (n : ℕ) (bits : List ℕ) (i : ℕ) → row_at n (drop n bits) i ≡ row_at n bits (suc i)
row-behind n bits i =
    let e : n + i * n ≡ suc i * n = omega (arith, suc-mul i n) in
    ap (take n) (drop-drop (i * n) n bits ∙ ap (λ m. drop m bits) e)

row_first : (n : ℕ) (bits : List ℕ) → row_at n bits 0 ≡ take n bits
row_first n bits = ap (λ m. take n (drop m bits)) (zero-mul n)

only-fault : (l : List ℕ) {c : Refusal} → only_neighbour l ≡ fault c → (c ≡ OutDegree) × ((y : ℕ) → l ≡ y ∷ [] → ⊥)
only-fault [] e = (cc, λ y h. clash cc)
only-fault (x ∷ []) e = clash cc
only-fault (x ∷ z ∷ l) e = (cc, λ y h. clash cc)

only-wrong : (l : List ℕ) → ((y : ℕ) → l ≡ y ∷ [] → ⊥) → only_neighbour l ≡ fault OutDegree
only-wrong [] h = refl
only-wrong (x ∷ []) h = absurd (h x refl)
only-wrong (x ∷ z ∷ l) h = refl

mapped-fault : {A B : Type 0} (f : A → B) (r : Result A) {c : Refusal} → mapped f r ≡ fault c → r ≡ fault c
mapped-fault f (done x) e = clash cc
mapped-fault f (fault d) e = cc

pub rows-fault : (n k : ℕ) (bits : List ℕ) {c : Refusal} → read_matrix n k bits ≡ fault c → (c ≡ OutDegree) × WrongRow n k bits
unfolding read_matrix
rows-fault n zero bits e = clash cc
rows-fault n (suc k) bits {c} e = of (only_neighbour (neighbours (take n bits))) refl e (λ h. rows-fault n k (drop n bits) h)
  where
    of : (r : Result ℕ) → only_neighbour (neighbours (take n bits)) ≡ r → and_then r (λ y. mapped (y ∷◌) (read_matrix n k (drop n bits))) ≡ fault c
        → (read_matrix n k (drop n bits) ≡ fault c → (c ≡ OutDegree) × WrongRow n k (drop n bits)) → (c ≡ OutDegree) × WrongRow n (suc k) bits
    of (done y) q h behind =
        let w = behind (mapped-fault (y ∷◌) (read_matrix n k (drop n bits)) h) in
        let l = w.1.within in
        (w.0, record { row = suc w.1.row; within = omega arith; not_one = λ z g. w.1.not_one z (ap neighbours (row-behind n bits w.1.row) ∙ g) })
    of (fault d) q h behind =
        let same : d ≡ c = cc in
        let w = only-fault (neighbours (take n bits)) q in
        (sym same ∙ w.0, record { row = 0; within = omega arith; not_one = λ z g. w.1 z (ap neighbours (sym (row_first n bits)) ∙ g) })

pub rows-wrong : (n k : ℕ) (bits : List ℕ) → WrongRow n k bits → read_matrix n k bits ≡ fault OutDegree
unfolding read_matrix
rows-wrong n zero bits w = absurd (omega (arith, w.within))
rows-wrong n (suc k) bits w = of w.row w.within w.not_one (λ v. rows-wrong n k (drop n bits) v)
  where
    of : (i : ℕ) → i < suc k → ((y : ℕ) → neighbours (row_at n bits i) ≡ y ∷ [] → ⊥)
        → (WrongRow n k (drop n bits) → read_matrix n k (drop n bits) ≡ fault OutDegree) → read_matrix n (suc k) bits ≡ fault OutDegree
    of zero h wrong behind = rw (only-wrong (neighbours (take n bits)) (λ y g. wrong y (ap neighbours (row_first n bits) ∙ g)))
    of (suc i) h wrong behind =
        let v = behind (record { row = i; within = omega arith; not_one = λ y g. wrong y (ap neighbours (sym (row-behind n bits i)) ∙ g) }) in
        by_result (only_neighbour (neighbours (take n bits)))
        (λ d e. rw e (ap fault (only-fault (neighbours (take n bits)) e).0))
        (λ y e. rw (e, v))
