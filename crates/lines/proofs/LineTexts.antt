-- The parts of a line, put one after another, are the line.
use mathlib.Core.Path.{◌≡◌, refl}
use mathlib.Core.List.{List, [], ◌∷◌, ◌++◌}
use Prim.Native.Nat.{ℕ, suc, ◌≤◌, ◌<◌}
use native.Mathlib.Omega.{arith}
use lib.ListN.{length, length-append}
use Rattle.lists.specs.Select.{gather}
use Rattle.patterns.specs.Decimal.{decimal}
use Rattle.patterns.specs.Written.{numbers}
use Rattle.patterns.specs.ListingText.{header, spaced, code_line, total_line, lines_after, listing_text}
use Rattle.patterns.specs.System.{System, codes}
use Rattle.text.specs.Added.{Added}
use Rattle.text.proofs.Adding.{added_then}
use Rattle.text.proofs.Decimals.{decimal-length}

module _ {at m r : ℕ} {d e f : List ℕ} where
  pub header-added : {i : ℕ} {g : List ℕ} (n : ℕ)
      → Added (110 ∷ 32 ∷ []) at d m e → Added (decimal n) m e i g → Added (10 ∷ []) i g r f → Added (header n) at d r f
  unfolding header
  header-added n p q s = added_then p (added_then q s)

  pub spaced-added : (x : ℕ) → Added (32 ∷ []) at d m e → Added (decimal x) m e r f → Added (spaced x) at d r f
  unfolding spaced
  spaced-added x p q = added_then p q

  pub line-added : {i j : ℕ} {g h : List ℕ} (n : ℕ) (xs : List ℕ)
      → Added (decimal n) at d m e → Added (58 ∷ []) m e i g → Added (gather spaced xs) i g j h → Added (10 ∷ []) j h r f → Added (code_line n xs) at d r f
  unfolding code_line
  line-added n xs p q s t = added_then p (added_then q (added_then s t))

  pub total-added : (n : ℕ) → Added (decimal n) at d m e → Added (32 ∷ 99 ∷ 111 ∷ 100 ∷ 101 ∷ 115 ∷ 10 ∷ []) m e r f → Added (total_line n) at d r f
  unfolding total_line
  total-added n p q = added_then p q

-- a byte has at most three digits
pub byte-length : (x : ℕ) → x < 256 → length (spaced x) ≤ 4
unfolding spaced
byte-length x h = omega (arith, decimal-length 2 x (omega arith))

-- a line is never empty
pub header-some : (n : ℕ) → 0 < length (header n)
unfolding header
header-some n = omega arith

pub line-some : (n : ℕ) (xs : List ℕ) → 0 < length (code_line n xs)
unfolding code_line
line-some n xs = omega (arith, length-append (decimal n) (58 ∷ (gather spaced xs ++ (10 ∷ []))))

pub total-some : (n : ℕ) → 0 < length (total_line n)
unfolding total_line
total-some n = omega (arith, length-append (decimal n) (32 ∷ 99 ∷ 111 ∷ 100 ∷ 101 ∷ 115 ∷ 10 ∷ []))

-- one line more, and the text of n points
pub lines_more : (p : ℕ) (S : System) (r : List System) → lines_after p (S ∷ r) ≡ code_line (suc p) (numbers S) ++ lines_after (suc p) r
unfolding lines_after
lines_more p S r = refl

pub lines_end : (p : ℕ) → lines_after p [] ≡ total_line p
unfolding lines_after
lines_end p = refl

pub text-begins : (n : ℕ) → listing_text n ≡ header n ++ lines_after 0 (codes n)
unfolding listing_text
text-begins n = refl
