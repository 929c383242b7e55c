-- Numbers that stand in a list from a place on.
use mathlib.Core.Path.{◌≡◌, refl, ap, sym, subst, ◌∙◌}
use mathlib.Core.List.{List, [], ◌∷◌, ◌++◌, append_assoc, append-nil}
use Prim.Native.Nat.{ℕ, ◌+◌, ◌-◌, ◌≤◌}
use native.Mathlib.Omega.{arith}
use lib.ListN.{length, get_or, take, drop, length-append, length-drop}
use lib.Seq.{get_or_at, take_at, drop_at, length-take-le}
use Rattle.written.specs.Putting.{placed}
use Rattle.memory.specs.Memory.{Stands}

module _ {p : ℕ} {d : List ℕ} where
  pub stands-left : {a : List ℕ} (b : List ℕ) → Stands (a ++ b) p d → Stands a p d
  stands-left {a} b s =
      record { front = s.front; rest = b ++ s.rest; is = s.is ∙ ap (λ l. s.front ++ l) (append_assoc a b s.rest); place = s.place }

  pub stands-right : (a : List ℕ) {b : List ℕ} → Stands (a ++ b) p d → Stands b (p + length a) d
  stands-right a {b} s =
      record {
        front = s.front ++ a;
        rest = s.rest;
        is = s.is ∙ ap (λ l. s.front ++ l) (append_assoc a b s.rest) ∙ sym (append_assoc s.front a (b ++ s.rest));
        place = omega (arith, length-append s.front a, s.place);
      }

  -- there is room for them
  pub stands-fits : {l : List ℕ} → Stands l p d → p + length l ≤ length d
  stands-fits {l} s =
      omega (arith, ap length s.is, length-append s.front (l ++ s.rest), length-append l s.rest, s.place)

  -- the first one
  pub stands-head : {x : ℕ} {l : List ℕ} → Stands (x ∷ l) p d → get_or d p 0 ≡ x
  stands-head {x} {l} s = ap (λ m. get_or m p 0) s.is ∙ get_or_at s.front x (l ++ s.rest) 0 p s.place

  -- all of them, cut out
  pub stands-part : {l : List ℕ} (e : ℕ) → e ≡ p + length l → Stands l p d → take (e - p) (drop p d) ≡ l
  stands-part {l} e q s =
      let k : e - p ≡ length l = omega arith in
      rw (k, s.is) (ap (take (length l)) (drop_at s.front (l ++ s.rest) p s.place) ∙ take_at l s.rest (length l) refl)

-- a list stands in itself
pub stands_self : (l : List ℕ) → Stands l 0 l
stands_self l = record { front = []; rest = []; is = sym (append-nil l); place = refl }

-- an equal list stands there
pub stands-path : {l m : List ℕ} {p : ℕ} {d : List ℕ} → l ≡ m → Stands l p d → Stands m p d
stands-path {p = p} {d = d} e s = subst (λ k. Stands k p d) e s

pub stands_at : {l : List ℕ} {p q : ℕ} {d : List ℕ} → p ≡ q → Stands l p d → Stands l q d
stands_at e s = record { front = s.front; rest = s.rest; is = s.is; place = s.place ∙ e }

-- what is placed stands there
pub stands-placed : (l : List ℕ) (p : ℕ) (d : List ℕ) → p ≤ length d → Stands l p (placed p l d)
stands-placed l p d h = record { front = take p d; rest = drop (p + length l) d; is = refl; place = length-take-le p d h }

-- the length of a part
pub part_length : (s : List ℕ) (a e : ℕ) → e ≤ length s → length (take (e - a) (drop a s)) ≡ e - a
part_length s a e h = length-take-le (e - a) (drop a s) (rw length-drop (omega arith))
