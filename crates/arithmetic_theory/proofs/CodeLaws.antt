-- The laws of sums and products of written codes, as equations of what is found, a refusal with 11 included. "Wherever all intermediate results have at most 200 points"
-- [document 02, paper 5] is that each of them is given.
use mathlib.Core.Path.{◌≡◌, refl, ap, sym, ◌∙◌}
use mathlib.Core.Bool.{true, cond}
use mathlib.Core.List.{List}
use Prim.Native.Nat.{ℕ, ◌≤◌}
use native.Mathlib.Omega.{arith}
use lib.Dec.{ltb}
use lib.ListN.{length}
use borrow.Author.Tests.{le-ltb, ltb-false}
use Rattle.lists.proofs.Tests.{by-test, clash}
use Rattle.patterns.specs.declared.Refusal.TheVariants.{TooLarge}
use Rattle.patterns.specs.System.{System, weight, canonical}
use Rattle.patterns.specs.Written.{written}
use Rattle.patterns.specs.Reading.{done, accepted}
use Rattle.patterns.specs.Table.{is_table, system_of_table}
use Rattle.patterns.specs.MapOf.{map_of}
use Rattle.patterns.specs.Entry.{Outcome, gives, fails, outcome}
use Rattle.patterns.specs.Arithmetic.{sum_of, product_of, empty_system, fixed_point, code_of_result, combined, sum_of_codes, product_of_codes}
use Rattle.patterns.proofs.Outcomes.{by_result}
use Rattle.form_theory.proofs.Bounds.{all_below}
use Rattle.form_theory.proofs.WrittenBack.{written_back, accepted-is}
use Rattle.map_theory.proofs.Theorems.{table-canonical, table-weight}
use Rattle.arithmetic_theory.proofs.Operation.{Operation}
use Rattle.arithmetic_theory.proofs.Sums.{sum-operation}
use Rattle.arithmetic_theory.proofs.Products.{product-operation}
use Rattle.arithmetic_theory.proofs.SystemLaws.{made, made_table, made-canonical, made-systems, made-commutes, made-associative, product-distributes, sum-neutral, product-neutral, product-empty}

-- the code of a system that was made: 11 above 200 points
abbrev pub code_of_system : System → Outcome ℕ
code_of_system S = cond (ltb 200 (weight S)) (fails TooLarge) (gives (written S))

result-system : (h : List ℕ) → is_table h ≡ true → code_of_result h ≡ code_of_system (system_of_table h)
unfolding code_of_result
result-system h t = ap (λ n. cond (ltb 200 n) (fails TooLarge) (gives (written (system_of_table h)))) (sym (table-weight (length h) h refl t))

small-given : (S : System) → weight S ≤ 200 → code_of_system S ≡ gives (written S)
small-given S h = rw (le-ltb 200 (weight S) h)

given-small : (S : System) (x : List ℕ) → code_of_system S ≡ gives x → (x ≡ written S) × (weight S ≤ 200)
given-small S x e =
    by-test (ltb 200 (weight S))
    (λ t. let z : fails TooLarge ≡ gives x = sym (rw t) ∙ e in clash cc)
    (λ t.
    let z : gives (written S) ≡ gives x = sym (rw t) ∙ e in
    let y : x ≡ written S = cc in
    (y, ltb-false 200 (weight S) t))

-- the code of a map is accepted, and is that of its system
pub table-accepted : (f : List ℕ) → is_table f ≡ true → length f ≤ 200 → accepted (written (system_of_table f)) ≡ done (system_of_table f)
table-accepted f t h = written_back (system_of_table f) (table-canonical (length f) f refl t) (omega (arith, table-weight (length f) f refl t))

-- What is found of two codes by an operation.
module _ {op : List ℕ → List ℕ → List ℕ} {count : ℕ → ℕ → ℕ} (o : Operation op count) where
  -- both are accepted
  pub both_found : (a b : List ℕ) (S T : System) → accepted a ≡ done S → accepted b ≡ done T → combined op a b ≡ code_of_system (made op S T)
  both_found a b S T e d = rw (e, d) (result-system (op (map_of S) (map_of T)) (made_table o S T))

  -- a code is given only where they are
  pub both-accepted : (a b : List ℕ) {x : List ℕ} → combined op a b ≡ gives x → ((S : System) × (accepted a ≡ done S)) × ((T : System) × (accepted b ≡ done T))
  both-accepted a b {x} p =
      by_result (accepted a)
      (λ c e. let z : fails c ≡ gives x = sym (rw e) ∙ p in clash cc)
      (λ S e.
      by_result (accepted b)
      (λ c d. let z : fails c ≡ gives x = sym (rw (e, d)) ∙ p in clash cc)
      (λ T d. ((S, e), (T, d))))

  -- and it is accepted as the system made of theirs
  pub given-accepted : (a b : List ℕ) {x : List ℕ} (S T : System) → accepted a ≡ done S → accepted b ≡ done T → combined op a b ≡ gives x
      → accepted x ≡ done (made op S T)
  given-accepted a b {x} S T e d p =
      let k = given-small (made op S T) x (sym (both_found a b S T e d) ∙ p) in
      ap accepted k.0 ∙ written_back (made op S T) (made-canonical o S T) k.1

  pub combined-commutes : (a b : List ℕ) (S : System) → accepted a ≡ done S → combined op a b ≡ combined op b a
  combined-commutes a b S e =
      by_result (accepted b)
      (λ c d. rw (e, d))
      (λ T d. both_found a b S T e d ∙ ap code_of_system (made-commutes o S T) ∙ sym (both_found b a T S d e))

  pub combined-associates : (a b d : List ℕ) {x u : List ℕ} → combined op a b ≡ gives x → combined op b d ≡ gives u → combined op x d ≡ combined op a u
  combined-associates a b d {x} {u} p q =
      let s = both-accepted a b p in
      let t = both-accepted b d q in
      let S = s.0.0 in
      let T = s.1.0 in
      let U = t.1.0 in
      both_found x d (made op S T) U (given-accepted a b S T s.0.1 s.1.1 p) t.1.1
      ∙ ap code_of_system (made-associative o S T U)
      ∙ sym (both_found a u S (made op T U) s.0.1 (given-accepted b d T U s.1.1 t.1.1 q))

  -- the first code is accepted, and with it every system makes the code x
  combined-first : (a b x : List ℕ) (S : System) → accepted a ≡ done S → ((T : System) → accepted b ≡ done T → code_of_system (made op S T) ≡ gives x)
      → combined op a b ≡ outcome (accepted b) (λ T. gives x)
  combined-first a b x S e h =
      by_result (accepted b)
      (λ c d. rw (e, d))
      (λ T d. both_found a b S T e d ∙ h T d ∙ ap (λ r. outcome r (λ T. gives x)) (sym d))

  combined-neutral : (a : List ℕ) (S : System) → accepted a ≡ done S → ((T : System) → canonical T ≡ true → made op S T ≡ T)
      → (b : List ℕ) → all_below 256 b ≡ true → combined op a b ≡ outcome (accepted b) (λ T. gives b)
  combined-neutral a S e neutral b h =
      combined-first a b b S e (λ T d.
      let c = accepted-is b T h d in
      ap code_of_system (neutral T c.1) ∙ small-given T c.2 ∙ ap gives (sym c.0))

  -- the codes of any two maps
  pub combined-maps : (f g : List ℕ) → is_table f ≡ true → is_table g ≡ true → length f ≤ 200 → length g ≤ 200
      → combined op (written (system_of_table f)) (written (system_of_table g)) ≡ code_of_result (op f g)
  combined-maps f g t u h k =
      both_found (written (system_of_table f)) (written (system_of_table g)) (system_of_table f) (system_of_table g) (table-accepted f t h) (table-accepted g u k)
      ∙ ap code_of_system (sym (made-systems o f g t u))
      ∙ sym (result-system (op f g) (o.makes_table f g t u))

pub sum-codes-commute : (a b : List ℕ) (S : System) → accepted a ≡ done S → sum_of_codes a b ≡ sum_of_codes b a
unfolding sum_of_codes
sum-codes-commute = combined-commutes sum-operation

pub product-codes-commute : (a b : List ℕ) (S : System) → accepted a ≡ done S → product_of_codes a b ≡ product_of_codes b a
unfolding product_of_codes
product-codes-commute = combined-commutes product-operation

pub sum-codes-associate : (a b d : List ℕ) {x u : List ℕ} → sum_of_codes a b ≡ gives x → sum_of_codes b d ≡ gives u → sum_of_codes x d ≡ sum_of_codes a u
unfolding sum_of_codes
sum-codes-associate = combined-associates sum-operation

pub product-codes-associate : (a b d : List ℕ) {x u : List ℕ} → product_of_codes a b ≡ gives x → product_of_codes b d ≡ gives u
    → product_of_codes x d ≡ product_of_codes a u
unfolding product_of_codes
product-codes-associate = combined-associates product-operation

pub codes-distribute : (a b d : List ℕ) {x u v : List ℕ} → sum_of_codes a b ≡ gives x → product_of_codes a d ≡ gives u → product_of_codes b d ≡ gives v
    → product_of_codes x d ≡ sum_of_codes u v
unfolding sum_of_codes product_of_codes sum_of product_of
codes-distribute a b d {x} {u} {v} p q r =
    let s = both-accepted sum-operation a b p in
    let t = both-accepted product-operation a d q in
    let S = s.0.0 in
    let T = s.1.0 in
    let U = t.1.0 in
    both_found product-operation x d (sum_of S T) U (given-accepted sum-operation a b S T s.0.1 s.1.1 p) t.1.1
    ∙ ap code_of_system (product-distributes S T U)
    ∙ sym (both_found sum-operation u v (product_of S U) (product_of T U)
    (given-accepted product-operation a d S U s.0.1 t.1.1 q) (given-accepted product-operation b d T U s.1.1 t.1.1 r))

pub codes-distribute-left : (a b d : List ℕ) {x u v : List ℕ} → sum_of_codes b d ≡ gives x → product_of_codes a b ≡ gives u → product_of_codes a d ≡ gives v
    → product_of_codes a x ≡ sum_of_codes u v
unfolding product_of_codes
codes-distribute-left a b d {x} p q r =
    let s = (both-accepted product-operation a b q).0 in
    product-codes-commute a x s.0 s.1
    ∙ codes-distribute b d a p (sym (product-codes-commute a b s.0 s.1) ∙ q) (sym (product-codes-commute a d s.0 s.1) ∙ r)

-- The neutral codes: what is found is the other code itself where it is accepted, and its refusal where it is not.
empty-accepted : accepted (written empty_system) ≡ done empty_system
unfolding accepted written
empty-accepted = refl

fixed-accepted : accepted (written fixed_point) ≡ done fixed_point
unfolding accepted written
fixed-accepted = refl

pub sum-code-neutral : (b : List ℕ) → all_below 256 b ≡ true → sum_of_codes (written empty_system) b ≡ outcome (accepted b) (λ S. gives b)
unfolding sum_of_codes sum_of
sum-code-neutral = combined-neutral sum-operation (written empty_system) empty_system empty-accepted sum-neutral

pub sum-code-neutral-right : (b : List ℕ) → all_below 256 b ≡ true → sum_of_codes b (written empty_system) ≡ outcome (accepted b) (λ S. gives b)
sum-code-neutral-right b h = sym (sum-codes-commute (written empty_system) b empty_system empty-accepted) ∙ sum-code-neutral b h

pub product-code-neutral : (b : List ℕ) → all_below 256 b ≡ true → product_of_codes (written fixed_point) b ≡ outcome (accepted b) (λ S. gives b)
unfolding product_of_codes product_of
product-code-neutral = combined-neutral product-operation (written fixed_point) fixed_point fixed-accepted product-neutral

pub product-code-neutral-right : (b : List ℕ) → all_below 256 b ≡ true → product_of_codes b (written fixed_point) ≡ outcome (accepted b) (λ S. gives b)
product-code-neutral-right b h = sym (product-codes-commute (written fixed_point) b fixed_point fixed-accepted) ∙ product-code-neutral b h

-- a product with the empty system is empty
pub product-code-empty : (b : List ℕ) → product_of_codes (written empty_system) b ≡ outcome (accepted b) (λ S. gives (written empty_system))
unfolding product_of_codes product_of
product-code-empty b =
    combined-first product-operation (written empty_system) b (written empty_system) empty_system empty-accepted (λ S e. ap code_of_system (product-empty S))

pub product-code-empty-right : (b : List ℕ) → product_of_codes b (written empty_system) ≡ outcome (accepted b) (λ S. gives (written empty_system))
product-code-empty-right b = sym (product-codes-commute (written empty_system) b empty_system empty-accepted) ∙ product-code-empty b
