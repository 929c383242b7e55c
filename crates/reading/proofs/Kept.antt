-- The first numbers of a code, as the cut has left them: what reading them says of the whole code.
use Rattle.std.specs.Prelude.{Result as Reply, Ok, Err}
use mathlib.Core.Path.{◌≡◌, ap, sym, ◌∙◌, subst}
use mathlib.Core.List.{List, append-nil}
use Prim.Native.Nat.{ℕ, min, ◌≤◌, ◌<◌}
use native.Mathlib.Omega.{arith}
use lib.ListN.{length, take, drop, length-take, drop_of_length-le}
use lib.Seq.{take_at, take_all}
use Rattle.lists.proofs.Tests.{by-test}
use lib.Dec.{ltb}
use borrow.Author.Tests.{ltb-true, ltb-false}
use Rattle.patterns.specs.declared.Refusal.{Refusal}
use Rattle.patterns.specs.Reading.{done, and_then, cut}
use Rattle.cutting.specs.declared.Cut.{Cut}
use Rattle.cutting.specs.Cutting.{stored, CutInto}
use Rattle.cutting.proofs.Cutting.{numbers-cut, refusal-cut}
use Rattle.reading.specs.declared.Accepted.{Accepted}
use Rattle.reading.specs.Shape.{shape, code_shape, kept_numbers, AcceptedInto}
use Rattle.reading.proofs.Whole.{refused-into}

-- the first k of the numbers xs are kept
first-stored : (xs out : List ℕ) (k count : ℕ) → length out ≡ k → length xs ≡ count → take (min count k) (stored xs out) ≡ take k xs
first-stored xs out k count h e =
    by-test (ltb count k)
    (λ t.
    let l : count < k = ltb-true count k t in
    let m : min count k ≡ count = omega arith in
    rw (m, take_all (length out) xs (omega arith), take_all k xs (omega arith)) (take_at xs (drop (length xs) out) count e))
    (λ t.
    let l : k ≤ count = ltb-false count k t in
    let m : min count k ≡ k = omega arith in
    rw (m, drop_of_length-le out {i = length xs} (omega arith), append-nil, h) (take_all k (take k xs) (omega (arith, length-take k xs))))

-- The bytes `code` were cut into the memory `after`.
module _ {code before after : List ℕ} {r : Reply Cut Refusal} (w : CutInto code before r after) where
  pub uncut-refused : (c : Refusal) (sizes trees : List ℕ) → r ≡ Err c → AcceptedInto (code_shape code) (Err c) sizes trees
  unfolding code_shape
  uncut-refused c sizes trees e =
      refused-into (code_shape code) c sizes trees (ap (λ o. and_then o shape) (refusal-cut (subst (λ q. CutInto code before q after) e w)))

  module _ (k : Cut) (full : length before ≡ kept_numbers) (e : r ≡ Ok k) (a : Reply Accepted Refusal) (sizes trees : List ℕ) where
    numbers_of : (xs : List ℕ) × (cut code ≡ done xs) × (length xs ≡ k.numbers) × (after ≡ stored xs before)
    numbers_of = numbers-cut (subst (λ q. CutInto code before q after) e w)

    code_read : AcceptedInto (shape numbers_of.0) a sizes trees → AcceptedInto (code_shape code) a sizes trees
    unfolding code_shape
    code_read f = subst (λ o. AcceptedInto o a sizes trees) (ap (λ o. and_then o shape) (sym numbers_of.1)) f

    -- all that the memory has, and perhaps more
    pub first-read : ((xs : List ℕ) → take (min k.numbers kept_numbers) after ≡ take kept_numbers xs → k.numbers ≡ length xs → AcceptedInto (shape xs) a sizes trees)
        → AcceptedInto (code_shape code) a sizes trees
    first-read f =
        code_read
        (f numbers_of.0
        (ap (take (min k.numbers kept_numbers)) numbers_of.3 ∙ first-stored numbers_of.0 before kept_numbers k.numbers full numbers_of.2)
        (sym numbers_of.2))
