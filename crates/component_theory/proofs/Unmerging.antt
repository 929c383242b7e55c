-- Lemma 8 over any linear order with a least entry: if no rotation of o, .., o, x, .. is less than the list itself, the same holds after x has
-- been replaced by two lesser entries in order.
use mathlib.Core.Path.{◌≡◌, refl, ap, ap₂, sym, ◌∙◌}
use mathlib.Core.Bool.{true}
use mathlib.Core.List.{List, [], ◌∷◌, ◌++◌, append-nil, append_assoc, head-eq_of_cons-eq, tail-eq_of_cons-eq}
use Prim.Native.Nat.{ℕ, zero, suc, ◌+◌, ◌<◌, Ordering}
use native.Mathlib.Omega.{arith}
use lib.Dec.{is_le}
use lib.ListN.{length, replicate}
use Rattle.lists.specs.Order.{lex, at_most}
use Rattle.lists.proofs.Tests.{no_both, either}
use Rattle.lists.proofs.Comparison.{Lawful, by_order, at_most-cases, eq-at_most, at_most-lt-trans, lt-at_most-trans, gt-of-lt}
use Rattle.lists.proofs.Lex.{lex-lawful}
use Rattle.patterns.proofs.Rotations.{cuts}

-- no rotation of l is less than l
pub record Least {A : Type 0} (c : A → A → Ordering) (l : List A) : Type 0 where
  pub no_less : (a b : List A) → l ≡ a ++ b → at_most (lex c) l (b ++ a) ≡ true

-- a beginning of equal entries has equal entries
pub replicate-beginning : {A : Type 0} (o : A) (n : ℕ) (a s : List A) → replicate n o ≡ a ++ s → a ≡ replicate (length a) o
replicate-beginning o n [] s e = refl
replicate-beginning o zero (x ∷ a) s e = absurd (omega (arith, ap length e))
replicate-beginning o (suc n) (x ∷ a) s e =
    ap₂ ◌∷◌ (sym (head-eq_of_cons-eq e)) (replicate-beginning o n a s (tail-eq_of_cons-eq e))

-- one more equal entry in front is one more behind
pub replicate-shift : {A : Type 0} (o : A) (n : ℕ) (l : List A) → replicate n o ++ (o ∷ l) ≡ o ∷ (replicate n o ++ l)
replicate-shift o zero l = refl
replicate-shift o (suc n) l = ap (λ r. o ∷ r) (replicate-shift o n l)

module _ {A : Type 0} {c : A → A → Ordering} (w : Lawful c) (o : A) (least : (x : A) → at_most c o x ≡ true) where
  -- least entries come first: they are not less at the end
  pub least_first : (n : ℕ) (l : List A) → at_most (lex c) (replicate n o ++ l) (l ++ replicate n o) ≡ true
  least_first n [] = eq-at_most (lex-lawful w) (append-nil (replicate n o))
  least_first zero (x ∷ l) = eq-at_most (lex-lawful w) (sym (append-nil (x ∷ l)))
  least_first (suc n) (x ∷ l) =
      either (at_most-cases w o x (least x))
      (λ e. rw e)
      (λ e. rw (sym e, w.self o, replicate-shift o n l) (least_first (suc n) l))

  -- fewer leading least entries is more
  fewer-more : {x : A} (m n : ℕ) (l k : List A) → c o x ≡ Ordering.lt → m < n → lex c (replicate m o ++ (x ∷ l)) (replicate n o ++ k) ≡ Ordering.gt
  fewer-more {x} m zero l k e h = absurd (omega arith)
  fewer-more {x} zero (suc n) l k e h = rw (gt-of-lt w o x e)
  fewer-more {x} (suc m) (suc n) l k e h = rw (w.self o) (fewer-more m n l k e (omega arith))

  -- leading least entries and then x are not more than a rotation that begins with b: with a lesser v in place of x they are less than one that does
  beat : {x v : A} (m n : ℕ) (b l k l' k' : List A) → c v x ≡ Ordering.lt → m < n + length b
      → at_most (lex c) (replicate m o ++ (x ∷ l)) (b ++ (replicate n o ++ k)) ≡ true
      → lex c (replicate m o ++ (v ∷ l')) (b ++ k') ≡ Ordering.lt
  beat {x} {v} m n [] l k l' k' e h g =
      no_both g (ap is_le (fewer-more m n l k (at_most-lt-trans w o v x (least v) e) (omega arith)))
  beat {x} {v} zero n (y ∷ b) l k l' k' e h g =
      by_order (c x y)
      (λ f. rw (w.chain v x y e f))
      (λ f. rw (ap (c v) (sym (w.equal x y f)) ∙ e))
      (λ f. no_both (rw f at g) refl)
  beat {x} {v} (suc m) n (y ∷ b) l k l' k' e h g =
      either (at_most-cases w o y (least y))
      (λ f. rw f)
      (λ f. rw (sym f, w.self o) (beat m n b l k l' k' e (omega arith) (rw (sym f, w.self o) at g)))

  -- the rotation that begins with v, where u is not least
  between : (n : ℕ) (x u v : A) (r : List A) → c v x ≡ Ordering.lt → at_most c u v ≡ true → c o u ≡ Ordering.lt
      → Least c (replicate n o ++ (x ∷ r)) → at_most (lex c) (replicate n o ++ (u ∷ v ∷ r)) (v ∷ (r ++ (replicate n o ++ (u ∷ [])))) ≡ true
  between (suc n) x u v r e h f g = rw (lt-at_most-trans w o u v f h)
  between zero x u v [] e h f g =
      either (at_most-cases w u v h) (λ k. rw k) (λ k. rw (k, w.self v))
  between zero x u v (y ∷ r) e h f g =
      either (at_most-cases w u v h) (λ k. rw k)
      (λ k. rw (k, w.self v, lt-at_most-trans w v x y e (first-least r y x (g.no_less (x ∷ []) (y ∷ r) refl))))
    where
      first-least : (r : List A) (y x : A) → at_most (lex c) (x ∷ y ∷ r) (y ∷ (r ++ (x ∷ []))) ≡ true → at_most c x y ≡ true
      first-least r y x t = by_order (c x y) (λ k. rw k) (λ k. rw k) (λ k. no_both (rw k at t) refl)

  module _ (n : ℕ) (x u v : A) (r : List A) (e : c v x ≡ Ordering.lt) (h : at_most c u v ≡ true) (g : Least c (replicate n o ++ (x ∷ r))) where
    -- the rotation that begins with v
    second : at_most (lex c) (replicate n o ++ (u ∷ v ∷ r)) (v ∷ (r ++ (replicate n o ++ (u ∷ [])))) ≡ true
    second =
        either (at_most-cases w o u (least u))
        (λ f. between n x u v r e h f g)
        (λ f. rw (sym f, replicate-shift o n (v ∷ r), replicate-shift o n [], append-nil (replicate n o)) (least_first (suc n) (v ∷ r)))

    -- the rotation that begins in r
    later : (s b : List A) → r ≡ s ++ b → at_most (lex c) (replicate n o ++ (u ∷ v ∷ r)) (b ++ (replicate n o ++ (u ∷ v ∷ s))) ≡ true
    later s [] q = eq-at_most (lex-lawful w) (ap (λ k. replicate n o ++ (u ∷ v ∷ k)) (q ∙ append-nil s))
    later s (y ∷ b) q =
        ap is_le
        (beat n n (y ∷ b) r (x ∷ s) (v ∷ r) (replicate n o ++ (u ∷ v ∷ s)) (at_most-lt-trans w u v x h e) (omega arith)
        (g.no_less (replicate n o ++ (x ∷ s)) (y ∷ b) (rw (q, append_assoc))))

    -- the rotation that begins after s, counted from u on
    after : (s b : List A) → (u ∷ v ∷ r) ≡ s ++ b → at_most (lex c) (replicate n o ++ (u ∷ v ∷ r)) (b ++ (replicate n o ++ s)) ≡ true
    after [] b q = rw (append-nil (replicate n o), ← q) (least_first n (u ∷ v ∷ r))
    after (y ∷ []) b q = rw (← head-eq_of_cons-eq q, ← tail-eq_of_cons-eq q) second
    after (y ∷ z ∷ s) b q =
        let t = tail-eq_of_cons-eq q in
        rw (← head-eq_of_cons-eq q, ← head-eq_of_cons-eq t) (later s b (tail-eq_of_cons-eq t))

  -- Lemma 8: x replaced by two lesser entries in order
  pub unmerged-least : (n : ℕ) (x u v : A) (r : List A) → c v x ≡ Ordering.lt → at_most c u v ≡ true
      → Least c (replicate n o ++ (x ∷ r)) → Least c (replicate n o ++ (u ∷ v ∷ r))
  unmerged-least n x u v r e h g = record {
    no_less = λ a b q. either (cuts (replicate n o) (u ∷ v ∷ r) a b q)
        (λ s. rw s.1 (after n x u v r e h g s.0 b s.2))
        (λ s. let p = replicate-beginning o n a s.0 s.1 in rw (q, p) (least_first (length a) b));
  }
