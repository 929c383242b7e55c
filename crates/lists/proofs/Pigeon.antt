-- The pigeonhole principle: a list without repetition inside another is no longer than it, and as long only if it is the other in some order.
use mathlib.Core.Path.{◌≡◌, refl, ap}
use mathlib.Core.List.{List, [], ◌∷◌, ◌++◌}
use Prim.Native.Nat.{ℕ, ◌+◌, ◌≤◌, ◌<◌}
use native.Mathlib.Omega.{arith}
use lib.ListN.{length}
use Rattle.lists.specs.Select.{total, range}
use Rattle.lists.proofs.Tests.{◌∈◌}
use Rattle.lists.proofs.Permute.{total-append, total-one, Perm}
use Rattle.lists.proofs.Members.{NoDup, one, empty, in_head, in_tail, in_list, in_moved, in_without, in-range}
use Rattle.lists.proofs.Places.{in_split, range_length}

module _ {A : Type 0} where
  -- l without repetition and inside m: m is l and a rest, in some order
  pub inside-rest : {l m : List A} → NoDup l → ((x : A) → x ∈ l → x ∈ m) → (rest : List A) × ((g : A → ℕ) → total g m ≡ total g l + total g rest)
  inside-rest {m = m} empty h = (m, λ g. omega arith)
  inside-rest {m = m} (one {x = x} {l = l} n d) h =
      let s = in_split (h x in_head) in
      let r = inside-rest {m = s.0 ++ s.1} d (λ y i. in_without s.0 s.1 (λ e. n (in_moved e i)) (in_list s.2 (h y (in_tail i)))) in (
        r.0,
        λ g. omega (arith, ap (total g) s.2, total-append g s.0 (x ∷ s.1), total-append g s.0 s.1, r.1 g),
      )

  -- so it is no longer
  pub inside-length : {l m : List A} → NoDup l → ((x : A) → x ∈ l → x ∈ m) → length l ≤ length m
  inside-length {l} {m} d h =
      let r = inside-rest d h in
      omega (arith, r.1 (λ x. 1), total-one l, total-one m)

  -- if it is as long, it is m in some order
  pub inside-perm : {l m : List A} → NoDup l → ((x : A) → x ∈ l → x ∈ m) → length m ≤ length l → Perm l m
  inside-perm {l} {m} d h k =
      let r = inside-rest d h in
      let e : r.0 ≡ [] = no_length r.0 (omega (arith, r.1 (λ x. 1), total-one l, total-one m, total-one r.0)) in
      record { totals = λ g. omega (arith, r.1 g, ap (total g) e) }
    where
      no_length : (l : List A) → length l ≡ 0 → l ≡ []
      no_length [] e = refl
      no_length (x ∷ l) e = absurd (omega arith)

  -- two lists without repetition and with the same members are the same in some order
  pub same-members-perm : {l m : List A} → NoDup l → NoDup m → ((x : A) → x ∈ l → x ∈ m) → ((x : A) → x ∈ m → x ∈ l) → Perm l m
  same-members-perm d e h k = inside-perm d h (inside-length e k)

below-range : (n : ℕ) {l : List ℕ} → ((x : ℕ) → x ∈ l → x < n) → (x : ℕ) → x ∈ l → x ∈ range 0 n
below-range n h x i = let b = h x i in in-range 0 n (omega arith) (omega arith)

-- no more than n numbers below n are without repetition
pub nodup-below-length : (n : ℕ) {l : List ℕ} → NoDup l → ((x : ℕ) → x ∈ l → x < n) → length l ≤ n
nodup-below-length n {l} d h = omega (arith, inside-length d (below-range n h), range_length 0 n)
