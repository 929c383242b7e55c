-- The best of a list of tables is its least one.
use mathlib.Core.Path.{◌≡◌, refl, ap, sym, ◌∙◌}
use mathlib.Core.Bool.{true}
use mathlib.Core.List.{List, [], ◌∷◌}
use mathlib.Core.Option.{none, some}
use Prim.Native.Nat.{ℕ, compare}
use Rattle.lists.specs.Order.{at_most, lex}
use Rattle.lists.specs.Select.{first}
use Rattle.lists.proofs.Tests.{◌∈◌, by-test, either, no_both}
use Rattle.lists.proofs.Comparison.{eq-at_most, at_most-trans, at_most-turned, lt-not-at_most}
use Rattle.lists.proofs.Lex.{lex-compare-lawful}
use Rattle.lists.proofs.Members.{in_head, in_tail, in-single, in_moved, in-cons-cases, not-in-nil}
use Rattle.lists.proofs.Rising.{Rising, rising-head}
use Rattle.completion_theory.specs.Arrangement.{best_of}

-- z is the best of b and l, one of them and not above any
record Best (b : List ℕ) (l : List (List ℕ)) (z : List ℕ) : Type 0 where
  found : best_of (some b) l ≡ some z
  member : z ∈ (b ∷ l)
  least : (y : List ℕ) → y ∈ (b ∷ l) → at_most (lex compare) z y ≡ true

best-exists : (b : List ℕ) (l : List (List ℕ)) → (z : List ℕ) × Best b l z
best-exists b [] = (b, record { found = refl; member = in_head; least = λ y i. eq-at_most lex-compare-lawful (sym (in-single i)) })
best-exists b (t ∷ ts) =
    by-test (at_most (lex compare) b t)
    (λ e.
    let n = best-exists b ts in
    let r = n.1 in (
      n.0,
      record {
        found = rw e r.found;
        member = either (in-cons-cases r.member) (λ q. in_moved (sym q) in_head) (λ i. in_tail (in_tail i));
        least = λ y i.
            either (in-cons-cases i) (λ q. r.least y (in_moved (sym q) in_head))
            (λ j. either (in-cons-cases j) (λ q. rw q (at_most-trans lex-compare-lawful n.0 b t (r.least b in_head) e)) (λ k. r.least y (in_tail k)));
      },
    ))
    (λ e.
    let n = best-exists t ts in
    let r = n.1 in (
      n.0,
      record {
        found = rw e r.found;
        member = in_tail r.member;
        least = λ y i.
            either (in-cons-cases i)
            (λ q. rw q (at_most-trans lex-compare-lawful n.0 t b (r.least t in_head) (at_most-turned lex-compare-lawful b t e)))
            (r.least y);
      },
    ))

-- the best of a list is the first of a rising list of the same tables
pub best-first : (l k : List (List ℕ)) → Rising (lex compare) k → ((x : List ℕ) → x ∈ l → x ∈ k) → ((x : List ℕ) → x ∈ k → x ∈ l)
    → best_of none l ≡ first k
best-first [] [] r h g = refl
best-first [] (y ∷ k) r h g = not-in-nil (g y in_head)
best-first (t ∷ ts) [] r h g = not-in-nil (h t in_head)
best-first (t ∷ ts) (y ∷ k) r h g =
    let n = best-exists t ts in
    let z = n.0 in
    let best = n.1 in
    best.found
    ∙ ap some (either (in-cons-cases (h z best.member)) (λ q. q)
    (λ i. no_both (best.least y (g y in_head)) (lt-not-at_most lex-compare-lawful z y (rising-head r i))))
