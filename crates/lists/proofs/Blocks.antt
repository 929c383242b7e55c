-- The laws that the two functions rest on: comparing lists from an index on, and exchanging two neighbouring blocks by three reversals.
use mathlib.Core.Path.{◌≡◌, ap, sym, ◌∙◌}
use mathlib.Core.List.{List, [], ◌++◌, append_assoc, reverse, reverse-append, reverse-reverse}
use Prim.Native.Nat.{Ordering}
use Prim.Native.Nat.{ℕ, suc, ◌+◌, ◌-◌, ◌≤◌, ◌<◌, compare}
use native.Mathlib.Omega.{arith}
use native.Mathlib.Numerals.{add-one}
use lib.ListN.{length, get_or, take, drop, length-append, length-reverse, take-append-drop, drop_of_length-le}
use lib.Seq.{slice, slice_empty, drop-cons, drop-append-le, length-take-le, length-slice, take_at, drop_at, take-take}
use Rattle.lists.specs.Order.{lex, then}
use Rattle.lists.specs.Blocks.{exchanged, reversed_between}
use Rattle.lists.proofs.Comparison.{compare-lt, compare-gt, compare_self}

module _ (s t : List ℕ) (i : ℕ) where
  -- at an index of both, the comparison from there on is that of the two entries, then that of the rest
  pub lex-at : i < length s → i < length t
      → lex compare (drop i s) (drop i t) ≡ then (compare (get_or s i 0) (get_or t i 0)) (lex compare (drop (suc i) s) (drop (suc i) t))
  lex-at h k = rw (drop-cons s i 0 h, drop-cons t i 0 k)

  pub lex-less : i < length s → i < length t → get_or s i 0 < get_or t i 0 → lex compare (drop i s) (drop i t) ≡ Ordering.lt
  lex-less h k l = lex-at h k ∙ ap (λ o. then o (lex compare (drop (suc i) s) (drop (suc i) t))) (compare-lt (get_or s i 0) (get_or t i 0) l)

  pub lex-greater : i < length s → i < length t → get_or t i 0 < get_or s i 0 → lex compare (drop i s) (drop i t) ≡ Ordering.gt
  lex-greater h k l = lex-at h k ∙ ap (λ o. then o (lex compare (drop (suc i) s) (drop (suc i) t))) (compare-gt (get_or s i 0) (get_or t i 0) l)

  -- equal entries are passed over
  pub lex-pass : i < length s → i < length t → get_or s i 0 ≤ get_or t i 0 → get_or t i 0 ≤ get_or s i 0
      → lex compare (drop i s) (drop i t) ≡ lex compare (drop (i + 1) s) (drop (i + 1) t)
  lex-pass h k l m =
      let e : get_or t i 0 ≡ get_or s i 0 = omega arith in
      rw (add-one, drop-cons s i 0 h, drop-cons t i 0 k, e, compare_self (get_or s i 0))

  -- the second list ends first
  pub lex-longer : i < length s → length t ≤ i → lex compare (drop i s) (drop i t) ≡ Ordering.gt
  lex-longer h k = rw (drop-cons s i 0 h, drop_of_length-le t k)

  -- the first list ends first
  pub lex-shorter : length s ≤ i → i < length t → lex compare (drop i s) (drop i t) ≡ Ordering.lt
  lex-shorter h k = rw (drop-cons t i 0 k, drop_of_length-le s h)

  pub lex-ended : length s ≤ i → length t ≤ i → lex compare (drop i s) (drop i t) ≡ Ordering.eq
  lex-ended h k = rw (drop_of_length-le s h, drop_of_length-le t k)

-- reversing the second of three parts
reversed_between_parts : (p q z : List ℕ) (f t : ℕ) → length p ≡ f → length p + length q ≡ t → reversed_between f t (p ++ (q ++ z)) ≡ p ++ (reverse q ++ z)
reversed_between_parts p q z f t e h =
    let w : p ++ (q ++ z) ≡ (p ++ q) ++ z = sym (append_assoc p q z) in
    let k : length (p ++ q) ≡ t = length-append p q ∙ h in
    let u : take t (p ++ (q ++ z)) ≡ p ++ q = ap (take t) w ∙ take_at (p ++ q) z t k in
    let s : slice f t (p ++ (q ++ z)) ≡ q = ap (drop f) u ∙ drop_at p q f e in
    let d : drop t (p ++ (q ++ z)) ≡ z = ap (drop t) w ∙ drop_at (p ++ q) z t k in
    rw (take_at p (q ++ z) f e, s, d)

-- two lists reversed, one after the other and then both
reverse_reverse-append : (x y : List ℕ) → reverse (reverse x ++ reverse y) ≡ y ++ x
reverse_reverse-append x y = rw (reverse-append (reverse x) (reverse y), reverse-reverse x, reverse-reverse y)

-- the two middle parts of four change places
swap-parts : (w x y z : List ℕ) (a b e : ℕ) → length w ≡ a → a + length x ≡ b → b + length y ≡ e
    → reversed_between a e (reversed_between b e (reversed_between a b (w ++ (x ++ (y ++ z))))) ≡ w ++ (y ++ (x ++ z))
swap-parts w x y z a b e h k m =
    ap (λ l. reversed_between a e (reversed_between b e l)) (reversed_between_parts w x (y ++ z) a b h (omega arith) ∙ sym (append_assoc w (reverse x) (y ++ z)))
    ∙ ap (reversed_between a e)
    (reversed_between_parts (w ++ reverse x) y z b e
    (omega (arith, length-append w (reverse x), length-reverse x))
    (omega (arith, length-append w (reverse x), length-reverse x))
    ∙ append_assoc w (reverse x) (reverse y ++ z)
    ∙ ap (λ l. w ++ l) (sym (append_assoc (reverse x) (reverse y) z)))
    ∙ reversed_between_parts w (reverse x ++ reverse y) z a e h (omega (arith, length-append (reverse x) (reverse y), length-reverse x, length-reverse y))
    ∙ ap (λ l. w ++ (l ++ z)) (reverse_reverse-append x y)
    ∙ ap (λ l. w ++ l) (append_assoc y x z)

-- a list as the part up to a, the block and the rest
take-drop-slice : (l : List ℕ) (a b : ℕ) → a ≤ b → l ≡ take a l ++ (slice a b l ++ drop b l)
take-drop-slice l a b h =
    let e : take b l ≡ take a l ++ slice a b l =
    sym (take-append-drop a (take b l)) ∙ ap (λ r. r ++ slice a b l) (take-take a b l h) in
    sym (take-append-drop b l) ∙ ap (λ r. r ++ drop b l) e ∙ append_assoc (take a l) (slice a b l) (drop b l)

-- a list as its four parts
parts : (l : List ℕ) (a b e : ℕ) → a ≤ b → b ≤ e → e ≤ length l → l ≡ take a l ++ (slice a b l ++ (slice b e l ++ drop e l))
parts l a b e h k m =
    let f : b ≤ length (take e l) = rw (length-take-le e l m) k in
    let d : drop b l ≡ slice b e l ++ drop e l = ap (drop b) (sym (take-append-drop e l)) ∙ drop-append-le b (take e l) (drop e l) f in
    take-drop-slice l a b h ∙ ap (λ r. take a l ++ (slice a b l ++ r)) d

-- reversing each block and then both exchanges them
pub three-reversals : (l : List ℕ) (a b e : ℕ) → a ≤ b → b ≤ e → e ≤ length l → reversed_between a e (reversed_between b e (reversed_between a b l)) ≡ exchanged a b e l
three-reversals l a b e h k m =
    ap (λ l. reversed_between a e (reversed_between b e (reversed_between a b l))) (parts l a b e h k m)
    ∙ swap-parts (take a l) (slice a b l) (slice b e l) (drop e l) a b e
    (length-take-le a l (omega arith))
    (let q : length (slice a b l) ≡ b - a = length-slice a b l (omega arith) in omega arith)
    (let q : length (slice b e l) ≡ e - b = length-slice b e l m in omega arith)

-- an empty first block: nothing moves
pub exchanged-nothing : (l : List ℕ) (a b e : ℕ) → a ≡ b → b ≤ e → e ≤ length l → l ≡ exchanged a b e l
exchanged-nothing l a b e q h k =
    let none : slice a b l ≡ [] = ap (λ i. slice i b l) q ∙ slice_empty b l in
    let whole : l ≡ take a l ++ ([] ++ (slice b e l ++ drop e l)) = rw none at (parts l a b e (omega arith) h k) in
    rw none whole

-- the second and third of four parts change places
pub exchanged-parts : (w x y z : List ℕ) (a b e : ℕ) → length w ≡ a → a + length x ≡ b → b + length y ≡ e
    → exchanged a b e (w ++ (x ++ (y ++ z))) ≡ w ++ (y ++ (x ++ z))
exchanged-parts w x y z a b e h k m =
    sym (three-reversals (w ++ (x ++ (y ++ z))) a b e (omega arith) (omega arith)
    (omega (arith, length-append w (x ++ (y ++ z)), length-append x (y ++ z), length-append y z)))
    ∙ swap-parts w x y z a b e h k m
