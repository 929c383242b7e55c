-- There are n! orders of n numbers.
use mathlib.Core.Path.{◌≡◌, refl}
use mathlib.Core.List.{List, [], ◌∷◌, head-eq_of_cons-eq, tail-eq_of_cons-eq}
use Prim.Native.Nat.{ℕ, zero, suc, ◌<◌}
use native.Mathlib.Omega.{arith}
use lib.ListN.{length}
use Rattle.lists.proofs.Tests.{◌∈◌}
use Rattle.lists.proofs.Comparison.{compare-lawful}
use Rattle.lists.proofs.Permute.{Perm, perm-refl, perm-sym, perm-trans, perm-cons, perm-tail, perm-front, perm-length, perm-member}
use Rattle.lists.proofs.Members.{NoDup, in_head, nodup-tail}
use Rattle.lists.proofs.Gathering.{perm-nodup}
use Rattle.counting_theory.specs.Symmetries.{factorial}
use Rattle.counting_theory.proofs.Exactly.{Exactly, exactly-same, exactly-one, exactly-pairs}

no-entries : {A : Type 0} (r : List A) → Perm r [] → r ≡ []
no-entries [] p = refl
no-entries (x ∷ r) p = absurd (omega (arith, perm-length p))

-- an order of some numbers begins with one of them
begins : {l : List ℕ} → 0 < length l → (r : List ℕ) → Perm r l → (y : ℕ) × (s : List ℕ) × (y ∈ l) × Perm (y ∷ s) l × (r ≡ y ∷ s)
begins h [] p = absurd (omega (arith, perm-length p))
begins h (y ∷ s) p = (y, s, perm-member compare-lawful p in_head, p, refl)

pub exactly-orderings : (k : ℕ) (l : List ℕ) → NoDup l → length l ≡ k → Exactly (λ r. Perm r l) (factorial k)
exactly-orderings zero [] d e = exactly-one [] perm-refl no-entries
exactly-orderings zero (x ∷ l) d e = absurd (omega arith)
exactly-orderings (suc k) l d e =
    exactly-pairs ◌∷◌
    (λ y i.
    let f = perm-front i in
    exactly-same
    (λ s p. perm-trans (perm-cons y p) (perm-sym f.1))
    (λ s p. perm-tail (perm-trans p f.1))
    (exactly-orderings k f.0 (nodup-tail (perm-nodup f.1 d)) (omega (arith, perm-length f.1))))
    (λ y z s t i j p q c. head-eq_of_cons-eq c)
    (λ y s t i p q c. tail-eq_of_cons-eq c)
    (record { those = l; apart = d; sound = λ y i. i; all = λ y i. i; number = e })
    (λ y s i p. p)
    (begins (omega arith))
