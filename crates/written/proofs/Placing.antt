-- Lists that stand in a lent output from a place on, numbers written there, and a result put into the first places or refused for want of room.
use mathlib.Core.Path.{◌≡◌, refl, ap, ap₂, sym, ◌∙◌}
use mathlib.Core.List.{List, [], ◌∷◌, ◌++◌, append_assoc, append-nil}
use Prim.Native.Nat.{ℕ, ◌+◌, ◌/◌, ◌%◌, ◌≤◌, ◌<◌}
use native.Mathlib.Nat.{add-zero}
use native.Mathlib.Numerals.{add-one}
use native.Mathlib.Omega.{arith}
use lib.ListN.{length, take, drop, set, length-append, length-take, length-drop, take-append-drop, drop_of_length-le}
use lib.Seq.{set_split, take_at, drop_at, drop-drop, length-take-le}
use borrow.Author.Tests.{le-leb, lt-leb}
use Rattle.patterns.specs.Written.{write_number}
use Rattle.patterns.specs.Entry.{gives, Replied}
use Rattle.patterns.specs.Replies.{length_is, refused}
use Rattle.patterns.proofs.Numbers.{write-short, write-long}
use Rattle.written.specs.Putting.{placed, Placed}

module _ {A : Type 0} where
  -- what is placed within the output does not change its length
  pub placed-length : (p : ℕ) (l d : List A) → p + length l ≤ length d → length (placed p l d) ≡ length d
  placed-length p l d h = simp (length-append, length-take, length-drop) (omega arith)

  -- nothing
  pub placed-none : (p : ℕ) (d : List A) → placed p [] d ≡ d
  placed-none p d = rw (add-zero, take-append-drop)

  -- one entry
  pub placed_one : (d : List A) (p : ℕ) (x : A) → p < length d → set d p x ≡ placed p (x ∷ []) d
  placed_one d p x h = rw add-one (set_split d p x h)

  -- two lists, one after the other
  pub placed-more : (p : ℕ) (a b d : List A) → p + length a ≤ length d → placed (p + length a) b (placed p a d) ≡ placed p (a ++ b) d
  placed-more p a b d h =
      let n = p + length a in
      let q : placed p a d ≡ take p d ++ a ++ drop n d = sym (append_assoc (take p d) a (drop n d)) in
      let e : length (take p d ++ a) ≡ n = omega (arith, length-append (take p d) a, length-take-le p d (omega arith)) in
      let front : take n (placed p a d) ≡ take p d ++ a = ap (take n) q ∙ take_at (take p d ++ a) (drop n d) n e in
      let back : drop n (placed p a d) ≡ drop n d = ap (drop n) q ∙ drop_at (take p d ++ a) (drop n d) n e in
      let rest : drop (n + length b) (placed p a d) ≡ drop (n + length b) d =
      sym (drop-drop (length b) n (placed p a d)) ∙ ap (drop (length b)) back ∙ drop-drop (length b) n d in
      let m : p + length (a ++ b) ≡ n + length b = omega (arith, length-append a b) in
      ap₂ (λ x y. x ++ (b ++ y)) front rest ∙ rw (m, append_assoc (take p d) a, append_assoc a b)

  -- as many entries as the output has places
  pub placed-all : (l d : List A) → length l ≡ length d → placed 0 l d ≡ l
  placed-all l d e = ap (λ r. l ++ r) (drop_of_length-le d {i = 0 + length l} (omega arith)) ∙ append-nil l

-- nothing was written so far
pub placed-start : (at : ℕ) (d : List ℕ) → Placed [] at d at d
placed-start at d = record { end = omega arith; output = sym (placed-none at d) }

-- what was written next stands after what was written before
pub placed-then : {a b : List ℕ} {at m r : ℕ} {d e f : List ℕ} → at + length a ≤ length d → Placed a at d m e → Placed b m e r f → Placed (a ++ b) at d r f
placed-then {a} {b} {at} {m} {r} {d} {e} {f} h u v =
    record {
      end = omega (arith, u.end, v.end, length-append a b);
      output = v.output ∙ rw (u.output, u.end) (placed-more at a b d h);
    }

-- a number of one byte
pub put-short : (x at : ℕ) (d : List ℕ) → x < 128 → at + length (write_number x) ≤ length d → Placed (write_number x) at d (at + 1) (set d at x)
put-short x at d h room =
    let e = write-short x h in
    let k : at < length d = omega (arith, rw e at room) in
    rw e record { end = refl; output = placed_one d at x k }

-- a number of two bytes
pub put-long : (x at : ℕ) (d : List ℕ) → 128 ≤ x → at + length (write_number x) ≤ length d
    → Placed (write_number x) at d (at + 2) (set (set d at (x % 128 + 128)) (at + 1) (x / 128))
put-long x at d h room =
    let e = write-long x h in
    let k : at + 1 < length d = omega (arith, rw e at room) in
    let low = x % 128 + 128 in
    let rest = x / 128 in
    let first : set d at low ≡ placed at (low ∷ []) d = placed_one d at low (omega arith) in
    let room-left : at + 1 < length (placed at (low ∷ []) d) = omega (arith, placed-length at (low ∷ []) d (omega arith)) in
    rw e
    record {
      end = refl;
      output =
          ap (λ o. set o (at + 1) rest) first
          ∙ placed_one (placed at (low ∷ []) d) (at + 1) rest room-left
          ∙ placed-more at (low ∷ []) (rest ∷ []) d (omega arith);
    }

-- no room for the result
pub put_refused : (code out : List ℕ) → length out < length code → Replied (gives code) out (refused 8) out
put_refused code out h = record { reply = rw (lt-leb (length code) (length out) h); output = rw (lt-leb (length code) (length out) h) }

-- room for the result
pub put-done : (code out after : List ℕ) (r : ℕ) → length code ≤ length out → r ≡ length code
    → after ≡ code ++ drop (length code) out → Replied (gives code) out (length_is r) after
put-done code out after r h e f =
    record {
      reply = rw (le-leb (length code) (length out) h, e);
      output = f ∙ rw (le-leb (length code) (length out) h);
    }
