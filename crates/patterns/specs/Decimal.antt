-- Numbers as text: document 01, "The listing program reads a decimal count .., without leading zeros".
use Rattle.std.specs.Prelude.{cond, List, [], ◌∷◌, ◌++◌, ℕ, zero, suc, ◌+◌, ◌/◌, ◌%◌, ltb}

-- The decimal digits of x as ASCII bytes. The first argument bounds the digits but one; x is always enough.
unfoldable pub digits_within : ℕ → ℕ → List ℕ
digits_within zero x = (48 + x % 10) ∷ []
digits_within (suc f) x =
    let more = digits_within f (x / 10) ++ ((48 + x % 10) ∷ []) in
    cond (ltb x 10) ((48 + x) ∷ []) more

unfoldable pub decimal : ℕ → List ℕ
unfolding digits_within
decimal x = digits_within x x
