-- The states that follow a header and a line.
use mathlib.Core.Path.{◌≡◌, refl, ap, sym, ◌∙◌}
use mathlib.Core.List.{List, [], ◌∷◌, ◌++◌, append_assoc}
use Prim.Native.Nat.{ℕ, ◌+◌, ◌^◌, ◌≤◌}
use native.Mathlib.Omega.{arith}
use lib.ListN.{length, take, drop, length-append}
use Rattle.lists.specs.Select.{first}
use Rattle.lists.proofs.Tests.{◌∈◌}
use Rattle.lists.proofs.Members.{in_list, in-middle}
use Rattle.patterns.specs.System.{System, codes}
use Rattle.patterns.specs.Written.{written}
use Rattle.patterns.specs.Replies.{length_is, last, refused}
use Rattle.patterns.specs.Entry.{Replied, listed, first_of, successor_of}
use Rattle.patterns.specs.ListingText.{lines_after}
use Rattle.lister.specs.declared.Phase.{Phase}
use Rattle.lister.specs.declared.Phase.TheVariants.{Line, Total, Done}
use Rattle.lister.specs.declared.State.{State}
use Rattle.lister.specs.Remaining.{codes_from, text_at, remaining}
use Rattle.lister.specs.Good.{Coming, GoodAt, Good}
use Rattle.lister.proofs.ComingCodes.{from-here, next_here, here-fits, first-here, line-ready, list-ends, never-refused}
use Rattle.lister.proofs.FewCodes.{codes-few}

-- from a code that is coming on, the list is this code and the later ones
pub coming-from : {p : ℕ} {b : List ℕ} (C : Coming p b) → codes_from b ≡ C.now ∷ C.later
coming-from {p} {b} C = ap codes_from C.bytes ∙ from-here C.n C.small C.earlier C.later C.now C.cut

pub coming-code : {p : ℕ} {b : List ℕ} (C : Coming p b) → C.now ∈ codes C.n
coming-code C = in_list (sym C.cut) (in-middle C.earlier C.later)

coming-next : {p : ℕ} {b : List ℕ} (C : Coming p b) → successor_of b ≡ listed (first C.later)
coming-next {p} {b} C = ap successor_of C.bytes ∙ next_here C.n C.small C.earlier C.later C.now C.cut

-- positions fit 64 bits
pub coming-few : {p : ℕ} {b : List ℕ} → Coming p b → p ≤ 14 ^ 14
coming-few {p} {b} C =
    omega (arith, C.place, codes-few C.n C.small, ap length C.cut, length-append C.earlier (C.now ∷ C.later))

-- a state of a known phase
pub text_of : {f : Phase} (s : State) → s.phase ≡ f → remaining s ≡ text_at f (take s.len s.code)
text_of s e = ap (λ f. text_at f (take s.len s.code)) e

-- the state that holds the code S, which is coming after the earlier ones
ready : (n : ℕ) → n ≤ 14 → (e r : List System) (S : System) → codes n ≡ e ++ (S ∷ r) → (s : State) (p : ℕ) → s.phase ≡ Line p → p ≡ length e
    → s.len ≡ length (written S) → take s.len s.code ≡ written S → Good s × (remaining s ≡ lines_after p (S ∷ r))
ready n small e r S cut s p phase place len text =
    let C : Coming (p + 1) (take s.len s.code) =
    record { n = n; small = small; earlier = e; now = S; later = r; cut = cut; place = omega arith; bytes = text } in
    let fits = here-fits n small e r S cut in (
      record { good = rw phase (omega arith, C) },
      text_of s phase ∙ ap (lines_after p) (coming-from C),
    )

-- states without a code are good in any case
pub done_state : (s : State) → s.phase ≡ Done → Good s × (remaining s ≡ [])
done_state s e = (record { good = rw e tt }, text_of s e)

pub total-state : (s : State) (p : ℕ) → s.phase ≡ Total p → Good s × (remaining s ≡ lines_after p [])
total-state s p e = (record { good = rw e tt }, text_of s e)

-- after the header the first code is coming
pub first-line : {before : List ℕ} (n : ℕ) (s : State) → n ≤ 14 → s.phase ≡ Line 0 → Replied (first_of n) before (length_is s.len) s.code
    → Good s × (remaining s ≡ lines_after 0 (codes n))
first-line n s small phase p =
    let q = line-ready (codes n) s.len (rw (first-here n small) at p) in
    let g = ready n small [] q.1 q.0 q.2 s 0 phase refl q.3 q.4 in
    (g.0, g.1 ∙ ap (lines_after 0) (sym q.2))

pub first_refused : {before after : List ℕ} (n c : ℕ) → n ≤ 14 → length before ≡ 1000 → Replied (first_of n) before (refused c) after → ⊥
first_refused n c small room p =
    never-refused (codes n) c (λ S r e. omega (arith, here-fits n small [] r S e)) (rw (first-here n small) at p)

module _ {p : ℕ} {b : List ℕ} (C : Coming p b) where
  shift : {l : List System} → C.later ≡ l → codes C.n ≡ (C.earlier ++ (C.now ∷ [])) ++ l
  shift {l} e = C.cut ∙ ap (λ l. C.earlier ++ (C.now ∷ l)) e ∙ sym (append_assoc C.earlier (C.now ∷ []) l)

  to-come : {l : List System} → C.later ≡ l → lines_after p l ≡ lines_after p (drop 1 (codes_from b))
  to-come e = ap (lines_after p) (sym e) ∙ ap (λ l. lines_after p (drop 1 l)) (sym (coming-from C))

  -- after a line the next code is coming
  pub next-line : {before : List ℕ} (s : State) → s.phase ≡ Line p → Replied (successor_of b) before (length_is s.len) s.code
      → Good s × (remaining s ≡ lines_after p (drop 1 (codes_from b)))
  next-line s phase q =
      let u = line-ready C.later s.len (rw (coming-next C) at q) in
      let place : p ≡ length (C.earlier ++ (C.now ∷ [])) = omega (arith, C.place, length-append C.earlier (C.now ∷ [])) in
      let g = ready C.n C.small (C.earlier ++ (C.now ∷ [])) u.1 u.0 (shift u.2) s p phase place u.3 u.4 in
      (g.0, g.1 ∙ to-come u.2)

  -- or the total
  pub next_last : {before after : List ℕ} (s : State) → s.phase ≡ Total p → Replied (successor_of b) before last after
      → Good s × (remaining s ≡ lines_after p (drop 1 (codes_from b)))
  next_last s phase q =
      let e = list-ends C.later (rw (coming-next C) at q) in
      let g = total-state s p phase in
      (g.0, g.1 ∙ to-come e)

  pub next-refused : {before after : List ℕ} (c : ℕ) → length before ≡ 1000 → Replied (successor_of b) before (refused c) after → ⊥
  next-refused c room q =
      never-refused C.later c
      (λ S r e. omega (arith, here-fits C.n C.small (C.earlier ++ (C.now ∷ [])) r S (shift e)))
      (rw (coming-next C) at q)
