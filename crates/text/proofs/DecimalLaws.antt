-- The decimal form of a number is what it should be, and tells the number.
use mathlib.Core.Path.{◌≡◌, refl, ap, ap₂, sym, ◌∙◌}
use mathlib.Core.Bool.{true, ◌&&◌}
use mathlib.Core.List.{List, [], ◌∷◌, ◌++◌}
use Prim.Native.Nat.{ℕ, zero, suc, ◌+◌, ◌-◌, ◌*◌, ◌/◌, ◌%◌, ◌≤◌, ◌<◌}
use native.Mathlib.Omega.{arith}
use lib.Dec.{ltb}
use borrow.Author.Tests.{le-leb, ltb-true, ltb-false}
use Rattle.lists.specs.Select.{each}
use Rattle.lists.proofs.Tests.{by-test, each_append}
use Rattle.patterns.specs.Decimal.{digits_within, decimal}
use Rattle.text.specs.DecimalForm.{value_after, is_digit, DecimalForm}
use Rattle.text.proofs.Decimals.{within-one, within_more}

value-append : (v : ℕ) (l : List ℕ) (x : ℕ) → value_after v (l ++ (x ∷ [])) ≡ value_after v l * 10 + (x - 48)
unfolding value_after
value-append v [] x = refl
value-append v (y ∷ l) x = value-append (v * 10 + (y - 48)) l x

digit : (x : ℕ) → x < 10 → each is_digit ((48 + x) ∷ []) ≡ true
digit x h = rw (le-leb 48 (48 + x) (omega arith), le-leb (48 + x) 57 (omega arith))

one_form : (x : ℕ) → x < 10 → DecimalForm x ((48 + x) ∷ [])
unfolding value_after
one_form x h = record {
  value = omega arith;
  digits = digit x h;
  front = 48 + x;
  rest = [];
  begins = refl;
  no_zero = λ g. absurd (omega arith);
  alone = λ g. refl;
}

front-value : (front : ℕ) (l : List ℕ) → l ≡ front ∷ [] → value_after 0 l ≡ front - 48
unfolding value_after
front-value front l e = rw e (omega arith)

more-form : (x : ℕ) (l : List ℕ) → 10 ≤ x → DecimalForm (x / 10) l → DecimalForm x (l ++ ((48 + x % 10) ∷ []))
more-form x l h p = record {
  value = value-append 0 l (48 + x % 10) ∙ omega (arith, p.value);
  digits = each_append is_digit l ((48 + x % 10) ∷ []) ∙ ap₂ ◌&&◌ p.digits (digit (x % 10) (omega arith));
  front = p.front;
  rest = p.rest ++ ((48 + x % 10) ∷ []);
  begins = ap (λ k. k ++ ((48 + x % 10) ∷ [])) p.begins;
  no_zero = λ g. first;
  alone = λ g. absurd (omega arith);
}
  where
    first : 48 < p.front
    first =
        by-test (ltb (x / 10) 10)
        (λ t. omega (arith, front-value p.front l (p.begins ∙ ap (p.front ∷◌) (p.alone (ltb-true (x / 10) 10 t))), p.value))
        (λ t. p.no_zero (ltb-false (x / 10) 10 t))

within-form : (f x : ℕ) → x ≤ f → DecimalForm x (digits_within f x)
within-form zero x h = rw (within-one zero x (omega arith)) (one_form x (omega arith))
within-form (suc f) x h =
    by-test (ltb x 10)
    (λ t. let g = ltb-true x 10 t in rw (within-one (suc f) x g) (one_form x g))
    (λ t. let g = ltb-false x 10 t in rw (within_more f x g) (more-form x (digits_within f (x / 10)) g (within-form f (x / 10) (omega arith))))

pub decimal-form : (x : ℕ) → DecimalForm x (decimal x)
unfolding decimal
decimal-form x = within-form x x (omega arith)

-- different numbers have different forms
pub decimal_injective : (x y : ℕ) → decimal x ≡ decimal y → x ≡ y
decimal_injective x y e = sym (decimal-form x).value ∙ ap (value_after 0) e ∙ (decimal-form y).value
