-- A code of the list of n points, the codes from it on, and what the engine answers for it.
use mathlib.Core.Path.{◌≡◌, refl, ap, sym}
use mathlib.Core.Bool.{true}
use mathlib.Core.List.{List, [], ◌∷◌, ◌++◌}
use Prim.Native.Nat.{ℕ, ◌≤◌}
use native.Mathlib.Omega.{arith}
use lib.Dec.{leb}
use lib.ListN.{length, take, drop}
use lib.Seq.{take_at}
use borrow.Author.Tests.{le-ltb, le-leb}
use Rattle.lists.specs.Select.{first}
use Rattle.lists.proofs.Tests.{◌∈◌, by-test, clash}
use Rattle.lists.proofs.Members.{lawful-decides, in_head, in_list, in-middle, nodup-apart}
use Rattle.lists.proofs.Places.{from-split, next-split}
use Rattle.patterns.specs.System.{System, weight, canonical, codes}
use Rattle.patterns.specs.Written.{written}
use Rattle.patterns.specs.Reading.{done, accepted}
use Rattle.patterns.specs.Replies.{length_is, last, refused}
use Rattle.patterns.specs.Entry.{Replied, listed, first_of, successor_of}
use Rattle.patterns.proofs.Trees.{compare_system-lawful}
use Rattle.form_theory.proofs.WrittenBack.{written_back, written-fits}
use Rattle.system_theory.proofs.Codes.{codes-sound, codes-different}
use Rattle.lister.specs.Remaining.{codes_from}

module _ (n : ℕ) (small : n ≤ 14) (e r : List System) (S : System) (cut : codes n ≡ e ++ (S ∷ r)) where
  here-facts : (canonical S ≡ true) × (weight S ≡ n) × (weight S ≤ 200)
  here-facts =
      let k = codes-sound n S (in_list (sym cut) (in-middle e r)) in
      (k.0, k.1, omega arith)

  here-accepted : accepted (written S) ≡ done S
  here-accepted = let k = here-facts in written_back S k.0 k.2

  not_earlier : S ∈ e → ⊥
  not_earlier m = let d = codes-different n in nodup-apart e (rw cut at d) m in_head

  -- from here on the list is this code and the later ones
  pub from-here : codes_from (written S) ≡ S ∷ r
  unfolding codes_from
  from-here = rw (here-accepted, here-facts.1, cut) (from-split (lawful-decides compare_system-lawful) e S r not_earlier)

  -- the engine's successor is the first of the later ones
  pub next_here : successor_of (written S) ≡ listed (first r)
  unfolding successor_of
  next_here = rw (here-accepted, here-facts.1, cut) (ap listed (next-split (lawful-decides compare_system-lawful) e S r not_earlier))

  pub here-fits : length (written S) ≤ 804
  here-fits = let k = here-facts in written-fits S k.0 k.2

-- the engine's first code is the first of the list
pub first-here : (n : ℕ) → n ≤ 14 → first_of n ≡ listed (first (codes n))
unfolding first_of
first-here n small = rw (le-ltb 200 n (omega arith))

-- what an answer says of the codes still to come
module _ {before after : List ℕ} where
  pub line-ready : (r : List System) (k : ℕ) → Replied (listed (first r)) before (length_is k) after
      → (S : System) × (r' : List System) × (r ≡ S ∷ r') × (k ≡ length (written S)) × (take k after ≡ written S)
  line-ready [] k p = clash (cc p.reply)
  line-ready (S ∷ r) k p =
      by-test (leb (length (written S)) (length before))
      (λ t.
      let e : length_is k ≡ length_is (length (written S)) = rw t at p.reply in
      let f : after ≡ written S ++ drop (length (written S)) before = rw t at p.output in
      let g : k ≡ length (written S) = cc in
      (S, r, refl, g, rw f (take_at (written S) (drop (length (written S)) before) k (sym g))))
      (λ t. let e : length_is k ≡ refused 8 = rw t at p.reply in clash cc)

  pub list-ends : (r : List System) → Replied (listed (first r)) before last after → r ≡ []
  list-ends [] p = refl
  list-ends (S ∷ r) p =
      by-test (leb (length (written S)) (length before))
      (λ t. let e : last ≡ length_is (length (written S)) = rw t at p.reply in clash cc)
      (λ t. let e : last ≡ refused 8 = rw t at p.reply in clash cc)

  pub never-refused : (r : List System) (c : ℕ) → ((S : System) (r' : List System) → r ≡ S ∷ r' → length (written S) ≤ length before)
      → Replied (listed (first r)) before (refused c) after → ⊥
  never-refused [] c f p = clash (cc p.reply)
  never-refused (S ∷ r) c f p =
      let e : refused c ≡ length_is (length (written S)) = rw (le-leb (length (written S)) (length before) (f S r refl)) at p.reply in
      clash cc
