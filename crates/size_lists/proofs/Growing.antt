-- The next size list, written in place of the last two sizes.
use mathlib.Core.Path.{◌≡◌, refl, ap, sym, ◌∙◌}
use mathlib.Core.Bool.{true}
use mathlib.Core.List.{List, [], ◌∷◌, ◌++◌, append_assoc}
use mathlib.Core.Option.{some, none}
use Rattle.std.specs.Prelude.{Some, None}
use Prim.Native.Nat.{ℕ, suc, ◌+◌, ◌-◌, ◌≤◌, ◌<◌}
use native.Mathlib.Numerals.{add-one}
use native.Mathlib.Omega.{arith}
use lib.Dec.{ltb}
use lib.ListN.{length, take, get_or, set, length-set}
use lib.Seq.{take-suc, take-suc-set, append_snoc, length-take-le}
use borrow.Author.Tests.{ltb-true}
use Rattle.lists.specs.Select.{each}
use Rattle.lists.proofs.Tests.{and-true, each-head, each_tail, each_append}
use Rattle.lists.proofs.Permute.{total-append}
use Rattle.system_theory.specs.Step.{least_sizes, next_sizes}
use Rattle.size_lists.specs.SizesHeld.{sum, SizesIn, NextIn}
use Rattle.system_theory.proofs.Sizes.{least-alone, least_more}
use Rattle.system_theory.proofs.StepScan.{next_sizes-at}

-- positive sizes are at most as many as their points
pub count-sum : (l : List ℕ) → each (ltb 0) l ≡ true → length l ≤ sum l
count-sum [] e = omega arith
count-sum (x ∷ l) e = omega (arith, ltb-true 0 x (each-head (ltb 0) x l e), count-sum l (each_tail (ltb 0) x l e))

-- fewer than two sizes have no next list
pub next-none : (l : List ℕ) → length l < 2 → next_sizes l ≡ none
unfolding next_sizes
next-none [] h = refl
next-none (a ∷ []) h = refl
next-none (a ∷ b ∷ l) h = absurd (omega arith)

pub next-short : (sizes : List ℕ) (m : ℕ) → m ≤ length sizes → m < 2 → NextIn (next_sizes (take m sizes)) None sizes
next-short sizes m h k = rw (next-none (take m sizes) (omega (arith, length-take-le m sizes h))) tt

-- the first m places, as all but two and the last two
last-two : (sizes : List ℕ) (m : ℕ) → 2 ≤ m → m ≤ length sizes → take m sizes ≡ take (m - 2) sizes ++ (get_or sizes (m - 2) 0 ∷ get_or sizes (m - 2 + 1) 0 ∷ [])
last-two sizes m h k =
    let i = m - 2 in
    let e : m ≡ suc (suc i) = omega arith in
    let j : i + 1 ≡ suc i = omega arith in
    ap (λ n. take n sizes) e
    ∙ take-suc sizes (suc i) 0 (omega arith)
    ∙ rw (take-suc sizes i 0 (omega arith), append_assoc (take i sizes), j)

-- Of the next size list the first i sizes are written; what is left are the least sizes from `least` on.
pub record Growing (before : List ℕ) (m least : ℕ) (sizes : List ℕ) (i left : ℕ) : Type 0 where
  pub same : length sizes ≡ length before
  pub small : length sizes ≤ 200
  pub room : i + left ≤ length sizes
  pub some_left : 0 < left
  pub lower : 0 < least
  pub rest : next_sizes (take m before) ≡ some (take i sizes ++ least_sizes left least left)

-- the places of the last two sizes
pub growing-start : (sizes : List ℕ) (m : ℕ) → SizesIn sizes m → 2 ≤ m
    → Growing sizes m (get_or sizes (m - 2) 0 + 1) sizes (m - 2) (get_or sizes (m - 2) 0 + get_or sizes (m - 2 + 1) 0)
growing-start sizes m s h =
    let i = m - 2 in
    let a = get_or sizes i 0 in
    let b = get_or sizes (i + 1) 0 in
    let l = take i sizes in
    let e : take m sizes ≡ l ++ (a ∷ b ∷ []) = last-two sizes m h s.within in
    let p = and-true (each (ltb 0) l) (each (ltb 0) (a ∷ b ∷ [])) (sym (each_append (ltb 0) l (a ∷ b ∷ [])) ∙ ap (each (ltb 0)) (sym e) ∙ s.positive) in
    let positive : 0 < a = ltb-true 0 a (each-head (ltb 0) a (b ∷ []) p.1) in
    let count : length l ≡ i = length-take-le i sizes (omega (arith, s.within)) in
    let all : sum (take m sizes) ≡ sum l + (a + (b + 0)) = ap sum e ∙ total-append (λ x. x) l (a ∷ b ∷ []) in
    record {
      same = refl;
      small = s.small;
      room = omega (arith, count-sum l p.0, s.room);
      some_left = omega arith;
      lower = omega arith;
      rest = ap next_sizes e ∙ next_sizes-at l a b ∙ ap (λ v. some (l ++ least_sizes (a + b) v (a + b))) (sym (add-one a));
    }

module _ {before : List ℕ} {m least : ℕ} {sizes : List ℕ} {i left : ℕ} (g : Growing before m least sizes i left) where
  -- one size more
  pub growing-next : least + least ≤ left → Growing before m least (set sizes i least) (i + 1) (left - least)
  growing-next h =
      let r = g.room in
      record {
        same = simp length-set g.same;
        small = simp length-set g.small;
        room = simp length-set (omega (arith, g.lower));
        some_left = omega (arith, g.lower);
        lower = g.lower;
        rest =
            g.rest
            ∙ ap (λ l. some (take i sizes ++ l)) (least_more least left g.lower h)
            ∙ ap some (sym (append_snoc (take i sizes) least (least_sizes (left - least) least (left - least))))
            ∙ rw (add-one i, take-suc-set sizes i least (omega (arith, g.lower)));
      }

  -- the last size
  pub growing-end : left < least + least → NextIn (next_sizes (take m before)) (Some (i + 1)) (set sizes i left)
  growing-end h =
      rw (g.rest, least-alone left least left h)
      (omega arith, simp length-set (omega (arith, g.room, g.some_left)), rw (add-one i, take-suc-set sizes i left (omega (arith, g.room, g.some_left))))
