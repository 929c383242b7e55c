-- The output for every input: the listing of the count that it says, or `bad count`. Four bytes tell which.
use mathlib.Core.Path.{◌≡◌, refl, ap, sym, ◌∙◌}
use mathlib.Core.List.{List, [], ◌∷◌, append_cancel_right}
use Prim.Native.Nat.{ℕ, ◌≤◌, ◌<◌, compare}
use native.Mathlib.Omega.{arith}
use lib.Dec.{leb}
use lib.ListN.{length, take}
use lib.Seq.{take_all, length-take-le}
use borrow.Author.Tests.{leb-true, leb-false}
use Rattle.lists.specs.Order.{same, lex}
use Rattle.lists.specs.Select.{keep, range}
use Rattle.lists.proofs.Tests.{◌∈◌, by-test}
use Rattle.lists.proofs.Members.{in_list, in-range, of_range, of-keep, nodup_range, keep-none}
use Rattle.lists.proofs.Gathering.{keep_one}
use Rattle.lists.proofs.Comparison.{same_true, same_self, same-of-apart}
use Rattle.lists.proofs.Lex.{lex-compare-lawful}
use Rattle.patterns.specs.Decimal.{decimal}
use Rattle.patterns.specs.ListingText.{listing_text, bad_count, count_line, counts, text_for, output_of}
use Rattle.text.proofs.DecimalLaws.{decimal_injective}
use Rattle.lister.specs.declared.State.{State}
use Rattle.lister.specs.declared.Phase.TheVariants.{Bad as BadCount, Header}
use Rattle.lister.specs.Remaining.{remaining}
use Rattle.lister.specs.Good.{Good}
use Rattle.lister.proofs.NextStates.{text_of}
use Rattle.std.specs.Prelude.{Some, None}
use Rattle.count_line.specs.Count.{Reads, good, bad}
use Rattle.count_line.proofs.Inputs.{line-short}

pub output-counts : (input : List ℕ) → output_of input ≡ text_for (counts input)
unfolding output_of
output-counts input = refl

counts-keep : (input : List ℕ) → counts input ≡ keep (λ n. same (lex compare) (count_line n) input) (range 0 15)
unfolding counts
counts-keep input = refl

pub counts-small : (input : List ℕ) (n : ℕ) → n ∈ counts input → n ≤ 14
counts-small input n m =
    let k = of-keep (λ n. same (lex compare) (count_line n) input) (range 0 15) (in_list (counts-keep input) m) in
    omega (arith, (of_range 0 15 k.0).1)

line-injective : (m n : ℕ) → count_line m ≡ count_line n → m ≡ n
unfolding count_line
line-injective m n e = decimal_injective m n (append_cancel_right (decimal m) (decimal n) (10 ∷ []) e)

-- the line of a count
pub count-output : (n : ℕ) → n ≤ 14 → output_of (count_line n) ≡ listing_text n
count-output n h =
    let one : counts (count_line n) ≡ n ∷ [] =
    counts-keep (count_line n) ∙ keep_one (λ m. same (lex compare) (count_line m) (count_line n)) (nodup_range 0 15) (in-range 0 15 (omega arith) (omega arith))
    (same_self lex-compare-lawful (count_line n)) (λ m i e. line-injective m n (same_true lex-compare-lawful (count_line m) (count_line n) e)) in
    output-counts (count_line n) ∙ ap text_for one

-- anything else
pub bad-output : (input : List ℕ) → ((n : ℕ) → n ≤ 14 → input ≡ count_line n → ⊥) → output_of input ≡ bad_count
bad-output input f =
    let none_said : counts input ≡ [] =
    counts-keep input ∙ keep-none (λ m. same (lex compare) (count_line m) input) (range 0 15)
    (λ m i. same-of-apart lex-compare-lawful (count_line m) input (λ e. f m (omega (arith, (of_range 0 15 i).1)) (sym e))) in
    output-counts input ∙ ap text_for none_said

-- an input of more than three bytes is no count
long-output : (input : List ℕ) → 3 < length input → output_of input ≡ bad_count
long-output input h = bad-output input (λ n g e. omega (arith, ap length e, line-short n g))

-- four bytes decide
pub first-four : (input : List ℕ) → output_of (take 4 input) ≡ output_of input
first-four input =
    by-test (leb (length input) 4)
    (λ t. ap output_of (take_all 4 input (leb-true (length input) 4 t)))
    (λ t.
    let g = leb-false (length input) 4 t in
    long-output (take 4 input) (omega (arith, length-take-le 4 input (omega arith))) ∙ sym (long-output input (omega arith)))

-- the states that the program starts from
pub starts-count : (input : List ℕ) (n : ℕ) (s : State) → Reads input (Some n) → s.phase ≡ Header n → Good s × (remaining s ≡ output_of input)
starts-count input n s (good h e) phase = (record { good = rw phase h }, text_of s phase ∙ sym (count-output n h) ∙ ap output_of (sym e))

pub starts-bad : (input : List ℕ) (s : State) → Reads input None → s.phase ≡ BadCount → Good s × (remaining s ≡ output_of input)
starts-bad input s (bad f) phase = (record { good = rw phase tt }, text_of s phase ∙ sym (bad-output input f))
