-- What follows from the promises of the entries "sum" and "product", as document 02, paper 5, asks for it: both are commutative and associative, the product distributes
-- over the sum, the empty system is neutral for the sum and the single fixed point for the product, and the result depends on the two patterns only.
use mathlib.Core.Path.{◌≡◌, ap, ap₂, sym, ◌∙◌}
use mathlib.Core.Bool.{true}
use mathlib.Core.List.{List}
use Prim.Native.Nat.{ℕ, ◌+◌, ◌*◌, ◌≤◌, ◌<◌}
use native.Mathlib.Omega.{arith}
use lib.Dec.{leb, ltb}
use lib.ListN.{length}
use borrow.Author.Tests.{leb-false, ltb-true, ltb-false}
use Rattle.lists.proofs.Tests.{by-test, clash}
use Rattle.patterns.specs.declared.Refusal.{Refusal}
use Rattle.patterns.specs.declared.Refusal.TheVariants.{TooLarge}
use Rattle.patterns.specs.System.{System, weight}
use Rattle.patterns.specs.Written.{written}
use Rattle.patterns.specs.Reading.{done, fault, accepted}
use Rattle.patterns.specs.Replies.{length_is, refused, number_of}
use Rattle.patterns.specs.Entry.{gives, fails, outcome, answered, filled, Replied, accept_of, code_of_map}
use Rattle.patterns.specs.Arithmetic.{sum_table, product_table, sum_of, product_of, empty_system, fixed_point, code_of_result, combined, sum_of_codes, product_of_codes}
use Rattle.patterns.proofs.Outcomes.{by_result, code_gives}
use Rattle.patterns.proofs.ArithmeticExamples.{two-hundred-points, more-points}
use Rattle.form_theory.proofs.Bounds.{all_below}
use Rattle.arithmetic_theory.proofs.Operation.{Operation}
use Rattle.arithmetic_theory.proofs.Sums.{sum-operation}
use Rattle.arithmetic_theory.proofs.Products.{product-operation}
use Rattle.arithmetic_theory.proofs.SystemLaws.{made, made-weight}
use Rattle.engine.proofs.WrittenCodes.{Wrote, wrote-gives, map-given}
pub use Rattle.engine.proofs.SameReplies.{SameReplies, Refuses}
use Rattle.engine.proofs.SameReplies.{same-replies, fails-refuses, accept-system}
use Rattle.arithmetic_theory.proofs.CodeLaws.{both_found, given-accepted, combined-maps, sum-codes-commute, product-codes-commute, sum-codes-associate, product-codes-associate, codes-distribute, codes-distribute-left, sum-code-neutral, sum-code-neutral-right, product-code-neutral, product-code-neutral-right, product-code-empty, product-code-empty-right}

-- Commutative, where a is accepted, and so wherever one of the two codes is; where both are refused the reply tells of the first.
module _ (a b : List ℕ) {n : ℕ} (p : accept_of a ≡ length_is n) where
  pub sum-replies-commute : SameReplies (sum_of_codes a b) (sum_of_codes b a)
  sum-replies-commute = let s = accept-system a p in same-replies (sum-codes-commute a b s.0 s.1)

  pub product-replies-commute : SameReplies (product_of_codes a b) (product_of_codes b a)
  product-replies-commute = let s = accept-system a p in same-replies (product-codes-commute a b s.0 s.1)

-- Associative: where both results inside the brackets were written.
pub sum-replies-associate : (a b d : List ℕ) {x u : List ℕ} → Wrote (sum_of_codes a b) x → Wrote (sum_of_codes b d) u → SameReplies (sum_of_codes x d) (sum_of_codes a u)
sum-replies-associate a b d p q = same-replies (sum-codes-associate a b d (wrote-gives (sum_of_codes a b) p) (wrote-gives (sum_of_codes b d) q))

pub product-replies-associate : (a b d : List ℕ) {x u : List ℕ} → Wrote (product_of_codes a b) x → Wrote (product_of_codes b d) u
    → SameReplies (product_of_codes x d) (product_of_codes a u)
product-replies-associate a b d p q =
    same-replies (product-codes-associate a b d (wrote-gives (product_of_codes a b) p) (wrote-gives (product_of_codes b d) q))

-- Distributive, on both sides: where the sum inside the brackets and both products were written.
pub replies-distribute : (a b d : List ℕ) {x u v : List ℕ} → Wrote (sum_of_codes a b) x → Wrote (product_of_codes a d) u → Wrote (product_of_codes b d) v
    → SameReplies (product_of_codes x d) (sum_of_codes u v)
replies-distribute a b d p q r =
    same-replies
    (codes-distribute a b d (wrote-gives (sum_of_codes a b) p) (wrote-gives (product_of_codes a d) q) (wrote-gives (product_of_codes b d) r))

pub replies-distribute-left : (a b d : List ℕ) {x u v : List ℕ} → Wrote (sum_of_codes b d) x → Wrote (product_of_codes a b) u → Wrote (product_of_codes a d) v
    → SameReplies (product_of_codes a x) (sum_of_codes u v)
replies-distribute-left a b d p q r =
    same-replies
    (codes-distribute-left a b d (wrote-gives (sum_of_codes b d) p) (wrote-gives (product_of_codes a b) q) (wrote-gives (product_of_codes a d) r))

-- Neutral, on both sides: the result is the other code itself where it is accepted, and else there is that code's own refusal.
module _ (b : List ℕ) (bytes : all_below 256 b ≡ true) where
  pub sum-replies-neutral : SameReplies (sum_of_codes (written empty_system) b) (outcome (accepted b) (λ S. gives b))
      × SameReplies (sum_of_codes b (written empty_system)) (outcome (accepted b) (λ S. gives b))
  sum-replies-neutral = (same-replies (sum-code-neutral b bytes), same-replies (sum-code-neutral-right b bytes))

  pub product-replies-neutral : SameReplies (product_of_codes (written fixed_point) b) (outcome (accepted b) (λ S. gives b))
      × SameReplies (product_of_codes b (written fixed_point)) (outcome (accepted b) (λ S. gives b))
  product-replies-neutral = (same-replies (product-code-neutral b bytes), same-replies (product-code-neutral-right b bytes))

-- A product with the empty system is empty, where the other code is accepted.
pub product-replies-empty : (b : List ℕ) → SameReplies (product_of_codes (written empty_system) b) (outcome (accepted b) (λ S. gives (written empty_system)))
    × SameReplies (product_of_codes b (written empty_system)) (outcome (accepted b) (λ S. gives (written empty_system)))
product-replies-empty b = (same-replies (product-code-empty b), same-replies (product-code-empty-right b))

module _ {op : List ℕ → List ℕ → List ℕ} {count : ℕ → ℕ → ℕ} (o : Operation op count) where
  -- the codes of two maps
  module _ (f g : List ℕ) {a b : List ℕ} (p : Wrote (code_of_map f) a) (q : Wrote (code_of_map g) b) where
    maps-result : combined op a b ≡ code_of_result (op f g)
    maps-result =
        let s = map-given f a (wrote-gives (code_of_map f) p) in
        let t = map-given g b (wrote-gives (code_of_map g) q) in
        ap₂ (combined op) s.1 t.1 ∙ combined-maps o f g s.0.table t.0.table s.0.small t.0.small

    maps-made : count (length f) (length g) ≤ 200 → SameReplies (combined op a b) (code_of_map (op f g))
    maps-made h =
        let s = map-given f a (wrote-gives (code_of_map f) p) in
        let t = map-given g b (wrote-gives (code_of_map g) q) in
        let k : length (op f g) ≤ 200 = omega (arith, o.counts f g) in
        same-replies (maps-result ∙ two-hundred-points (op f g) k ∙ sym (code_gives (op f g) k (o.makes_table f g s.0.table t.0.table)))

    maps-large : 200 < count (length f) (length g) → Refuses (combined op a b) 11
    maps-large h = fails-refuses TooLarge (maps-result ∙ more-points (op f g) (omega (arith, o.counts f g)))

-- The result depends on the two patterns only: whatever maps have the two codes, the reply is what "code of a map" replies to the two side by side, or to their pairs ..
module _ (f g : List ℕ) {a b : List ℕ} (p : Wrote (code_of_map f) a) (q : Wrote (code_of_map g) b) where
  pub sum-of-maps : length f + length g ≤ 200 → SameReplies (sum_of_codes a b) (code_of_map (sum_table f g))
  unfolding sum_of_codes
  sum-of-maps = maps-made sum-operation f g p q

  pub product-of-maps : length f * length g ≤ 200 → SameReplies (product_of_codes a b) (code_of_map (product_table f g))
  unfolding product_of_codes
  product-of-maps = maps-made product-operation f g p q

  -- .. and 11 where these have more than 200 points.
  pub sum-of-large-maps : 200 < length f + length g → Refuses (sum_of_codes a b) 11
  unfolding sum_of_codes
  sum-of-large-maps = maps-large sum-operation f g p q

  pub product-of-large-maps : 200 < length f * length g → Refuses (product_of_codes a b) 11
  unfolding product_of_codes
  product-of-large-maps = maps-large product-operation f g p q

made-points : {op : List ℕ → List ℕ → List ℕ} {count : ℕ → ℕ → ℕ} → Operation op count → (a b : List ℕ) {c : List ℕ} {n m : ℕ}
    → accept_of a ≡ length_is n → accept_of b ≡ length_is m → combined op a b ≡ gives c → accept_of c ≡ length_is (count n m)
unfolding accept_of
made-points {count = count} o a b p q e =
    let s = accept-system a p in
    let t = accept-system b q in
    rw (given-accepted o a b s.0 t.0 s.1 t.1 e) (ap length_is (made-weight o s.0 t.0 ∙ ap₂ count s.2 t.2))

-- What is written is accepted, and has the points of both codes together, or as many as there are pairs.
module _ (a b : List ℕ) {c : List ℕ} {n m : ℕ} (p : accept_of a ≡ length_is n) (q : accept_of b ≡ length_is m) where
  pub sum-points-add : Wrote (sum_of_codes a b) c → accept_of c ≡ length_is (n + m)
  unfolding sum_of_codes
  sum-points-add w = made-points sum-operation a b p q (wrote-gives (sum_of_codes a b) w)

  pub product-points-multiply : Wrote (product_of_codes a b) c → accept_of c ≡ length_is (n * m)
  unfolding product_of_codes
  product-points-multiply w = made-points product-operation a b p q (wrote-gives (product_of_codes a b) w)

-- Why a sum or a product is refused, where op makes a system of two and count says how many points it has: the first code is refused; else the second is; else the
-- result has more than 200 points; else there is too little room for its code.
pub data ArithmeticRefusal (op : System → System → System) (count : ℕ → ℕ → ℕ) (a b before : List ℕ) : ℕ → Type 0 where
  no_first_code : (c : Refusal) → accepted a ≡ fault c → ArithmeticRefusal op count a b before (number_of c)
  no_second_code : (S : System) (c : Refusal) → accepted a ≡ done S → accepted b ≡ fault c → ArithmeticRefusal op count a b before (number_of c)
  too_large : (S T : System) → accepted a ≡ done S → accepted b ≡ done T → 200 < count (weight S) (weight T) → ArithmeticRefusal op count a b before 11
  no_room : (S T : System) → accepted a ≡ done S → accepted b ≡ done T → count (weight S) (weight T) ≤ 200 → length before < length (written (op S T))
      → ArithmeticRefusal op count a b before 8

arithmetic-refusal : {op : List ℕ → List ℕ → List ℕ} {count : ℕ → ℕ → ℕ} → Operation op count → (a b : List ℕ) {before after : List ℕ} {c : ℕ}
    → Replied (combined op a b) before (refused c) after → ArithmeticRefusal (made op) count a b before c × (after ≡ before)
arithmetic-refusal {op} {count} o a b {before} {after} {c} p =
    by_result (accepted a)
    (λ x e. failed x (rw e) (no_first_code x e))
    (λ S e.
    by_result (accepted b)
    (λ x d. failed x (rw (e, d)) (no_second_code S x e d))
    (λ T d.
    let g = both_found o a b S T e d in
    let code = written (made op S T) in
    by-test (ltb 200 (weight (made op S T)))
    (λ t. failed TooLarge (g ∙ rw t) (too_large S T e d (omega (arith, made-weight o S T, ltb-true 200 (weight (made op S T)) t))))
    (λ t.
    let given : combined op a b ≡ gives code = g ∙ rw t in
    by-test (leb (length code) (length before))
    (λ u. let v : refused c ≡ length_is (length code) = p.reply ∙ ap (λ o. answered o before) given ∙ rw u in clash cc)
    (λ u.
    let v : refused c ≡ refused 8 = p.reply ∙ ap (λ o. answered o before) given ∙ rw u in
    let z : c ≡ 8 = cc in
    let small : count (weight S) (weight T) ≤ 200 = omega (arith, made-weight o S T, ltb-false 200 (weight (made op S T)) t) in
    (rw z (no_room S T e d small (leb-false (length code) (length before) u)), p.output ∙ ap (λ o. filled o before) given ∙ rw u)))))
  where
    failed : (x : Refusal) → combined op a b ≡ fails x
        → ArithmeticRefusal (made op) count a b before (number_of x) → ArithmeticRefusal (made op) count a b before c × (after ≡ before)
    failed x g why =
        let k = fails-refuses x g before after (refused c) p in
        let y = k.0 in
        let z : c ≡ number_of x = cc in
        (rw z why, k.1)

-- A refusal has its reason, and leaves the output as it was.
module _ (a b : List ℕ) {before after : List ℕ} {c : ℕ} where
  pub sum-refusal : Replied (sum_of_codes a b) before (refused c) after → ArithmeticRefusal sum_of ◌+◌ a b before c × (after ≡ before)
  unfolding sum_of_codes sum_of
  sum-refusal = arithmetic-refusal sum-operation a b

  pub product-refusal : Replied (product_of_codes a b) before (refused c) after → ArithmeticRefusal product_of ◌*◌ a b before c × (after ≡ before)
  unfolding product_of_codes product_of
  product-refusal = arithmetic-refusal product-operation a b
