-- Cutting in one pass [document 02, paper 4]: what is known after each byte, and that numbers and refusals are those of `cut`.
use mathlib.Core.Path.{◌≡◌, refl, ap, sym, ◌∙◌}
use mathlib.Core.Bool.{◌||◌}
use mathlib.Core.List.{List, [], ◌∷◌, ◌++◌, append-nil}
use Prim.Native.Nat.{ℕ, suc, ◌+◌, ◌-◌, ◌*◌, ◌≤◌, ◌<◌}
use native.Mathlib.Omega.{arith}
use lib.Dec.{ltb, leb, eqb}
use lib.ListN.{length, take, drop, get_or, take-append-drop}
use lib.Seq.{take-suc, take_all}
use Rattle.lists.proofs.Tests.{by-test}
use Rattle.patterns.specs.declared.Refusal.{Refusal}
use Rattle.patterns.specs.declared.Refusal.TheVariants.{NumberForm}
use Rattle.patterns.specs.Reading.{fault, and_then, mapped, cut, read_system, accepted}
use Rattle.patterns.specs.OnePass.{Scan, going, stopped, scan_step, scan_from, scan, scan_end}
use Rattle.form_theory.proofs.Results.{mapped-none, mapped-more}

-- the pass over two lists of bytes, one behind the other
scan-append : (s : Scan) (l m : List ℕ) → scan_from s (l ++ m) ≡ scan_from (scan_from s l) m
scan-append s [] m = refl
scan-append s (x ∷ l) m = scan-append (scan_step x s) l m

-- What is known after one byte more, whatever stands before it.
pub scan-after : (l : List ℕ) (x : ℕ) → scan (l ++ (x ∷ [])) ≡ scan_step x (scan l)
scan-after l x = scan-append (going [] 0 0) l (x ∷ [])

-- the same of the prefixes of one list
pub scan-next : (s : List ℕ) (at : ℕ) → at < length s → scan (take (at + 1) s) ≡ scan_step (get_or s at 0) (scan (take at s))
scan-next s at h =
    let e : at + 1 ≡ suc at = omega arith in
    rw (e, take-suc s at 0 h) (scan-after (take at s) (get_or s at 0))

-- a fault decides over all that follows
scan-stopped : (c : Refusal) (l : List ℕ) → scan_from (stopped c) l ≡ stopped c
scan-stopped c [] = refl
scan-stopped c (x ∷ l) = scan-stopped c l

pub stopped-stays : (b l : List ℕ) (c : Refusal) → scan b ≡ stopped c → scan (b ++ l) ≡ stopped c
stopped-stays b l c e = scan-append (going [] 0 0) b l ∙ ap (λ s. scan_from s l) e ∙ scan-stopped c l

-- from where no number is open, with the numbers xs before
pass : (xs b : List ℕ) → scan_end (scan_from (going xs 0 0) b) ≡ mapped (xs ++◌) (cut b)
unfolding cut
pass xs [] = rw append-nil
pass xs (x ∷ []) = by-test (ltb x 128) (λ t. rw t) (λ t. rw t)
pass xs (x ∷ y ∷ l) =
    by-test (ltb x 128)
    (λ t. rw t (pass (xs ++ (x ∷ [])) (y ∷ l) ∙ sym (mapped-more xs x (cut (y ∷ l)))))
    (λ t.
    by-test (eqb y 0 || leb 128 y)
    (λ u. rw (t, u) (ap scan_end (scan-stopped NumberForm l)))
    (λ u. rw (t, u) (pass (xs ++ ((x - 128 + y * 128) ∷ [])) l ∙ sym (mapped-more xs (x - 128 + y * 128) (cut l)))))

-- For every list of bytes the numbers and the refusals are those of `cut`.
pub one-pass : (b : List ℕ) → scan_end (scan b) ≡ cut b
one-pass b = pass [] b ∙ sym (mapped-none (cut b))

-- So a written code is accepted by what one pass over its bytes has found.
pub accepted-in-one-pass : (b : List ℕ) → accepted b ≡ and_then (scan_end (scan b)) read_system
unfolding accepted
accepted-in-one-pass b = ap (λ r. and_then r read_system) (sym (one-pass b))

-- What is known after a prefix decides: a fault over all bytes, and at their end whether a number is open.
pub prefix-fault : (s : List ℕ) (k : ℕ) (c : Refusal) → scan (take k s) ≡ stopped c → cut s ≡ fault c
prefix-fault s k c e = sym (one-pass s) ∙ ap scan_end (ap scan (sym (take-append-drop k s)) ∙ stopped-stays (take k s) (drop k s) c e)

pub prefix-end : (s : List ℕ) (k : ℕ) → length s ≤ k → cut s ≡ scan_end (scan (take k s))
prefix-end s k h = sym (one-pass s) ∙ ap (λ l. scan_end (scan l)) (sym (take_all k s h))
