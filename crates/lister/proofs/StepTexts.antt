-- What a step puts is a beginning of the text that the state stands for.
use mathlib.Core.Path.{◌≡◌, refl, ap, ap₂, sym, ◌∙◌}
use mathlib.Core.Bool.{true}
use mathlib.Core.List.{List, [], ◌∷◌, ◌++◌, append_assoc}
use Prim.Native.Nat.{ℕ, suc, ◌+◌, ◌≤◌, ◌<◌}
use native.Mathlib.Omega.{arith}
use native.Mathlib.Numerals.{add-one}
use lib.ListN.{length, take, drop}
use borrow.Author.Tests.{lt-ltb}
use Rattle.patterns.specs.Written.{numbers, bytes, written}
use Rattle.patterns.specs.ListingText.{code_line, lines_after}
use Rattle.form_theory.proofs.Bounds.{all_below, below-head, below-tail}
use Rattle.system_theory.proofs.Codes.{codes-sound}
use Rattle.form_theory.proofs.WrittenBack.{numbers-below}
use Rattle.text.specs.Added.{Added}
use Rattle.text.proofs.Adding.{added-within}
use Rattle.lines.proofs.LineTexts.{lines_more}
use Rattle.lister.specs.declared.Phase.{Phase}
use Rattle.lister.specs.declared.State.{State}
use Rattle.lister.specs.declared.Step.{Step}
use Rattle.lister.specs.Remaining.{codes_from, text_at, remaining}
use Rattle.lister.specs.Good.{Coming, Good}
use Rattle.lister.specs.Put.{Put}
use Rattle.lister.proofs.NextStates.{coming-from, coming-code, text_of}

-- a text was put, and the next state stands for what follows it
pub added-put : {l rest t : List ℕ} {at : ℕ} {before after : List ℕ} (r : Step) → at ≤ length before → Added l at before r.len after → 0 < length l
    → Good r.next × (remaining r.next ≡ rest) → t ≡ l ++ rest → Put t at before r after
added-put {l} {rest} {t} {at} {before} {after} r h p some g e = record {
  next = g.0;
  from = omega (arith, p.end);
  within = added-within h p;
  more = λ k. omega (arith, p.end);
  text = ap₂ ◌++◌ p.text g.1 ∙ append_assoc (take at before) l rest ∙ ap (take at before ++◌) (sym e);
}

-- numbers below 128 are their own bytes
own-bytes : (xs : List ℕ) → all_below 128 xs ≡ true → bytes xs ≡ xs
own-bytes [] e = refl
own-bytes (x ∷ xs) e =
    rw (lt-ltb x 128 (below-head 128 x xs e)) (ap (x ∷◌) (own-bytes xs (below-tail 128 x xs e)))

-- the bytes of a code that is coming are its numbers
coming-numbers : {p : ℕ} {b : List ℕ} (C : Coming p b) → b ≡ numbers C.now
unfolding written
coming-numbers {p} {b} C =
    let k = codes-sound C.n C.now (coming-code C) in
    C.bytes ∙ own-bytes (numbers C.now) (numbers-below 128 C.now k.0 (omega (arith, k.1, C.small)))

-- the line of a code that is coming, then what is to come after it
pub line-text : (p : ℕ) {b : List ℕ} → Coming (p + 1) b
    → lines_after p (codes_from b) ≡ code_line (p + 1) b ++ lines_after (p + 1) (drop 1 (codes_from b))
line-text p {b} C =
    rw (coming-from C, lines_more p C.now C.later, add-one)
    (ap (λ l. code_line (suc p) l ++ lines_after (suc p) C.later) (sym (coming-numbers C)))

-- the same, said of a state of a known phase
pub put_of : {f : Phase} {at : ℕ} {before after : List ℕ} {r : Step} (s : State) → s.phase ≡ f
    → Put (text_at f (take s.len s.code)) at before r after → Put (remaining s) at before r after
put_of s e p = rw (text_of s e) p
