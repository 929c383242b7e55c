-- The grouped code of a canonical system of at most 200 points is accepted as that system, and whatever is accepted is the grouped code of a canonical system.
use mathlib.Core.Path.{◌≡◌, refl, ap, ap₂, sym, ◌∙◌}
use mathlib.Core.Bool.{true, false, ◌&&◌, ◌||◌}
use mathlib.Core.List.{List, [], ◌∷◌, ◌++◌, append-nil}
use Prim.Native.Nat.{ℕ, ◌≤◌}
use native.Mathlib.Omega.{arith}
use lib.Dec.{ltb, eqb}
use lib.ListN.{length, drop, drop_of_length-le}
use borrow.Author.Tests.{le-ltb, ltb-false, ne_eqb}
use Rattle.lists.specs.Select.{gather}
use Rattle.lists.proofs.Tests.{clash, choose-case}
use Rattle.patterns.specs.System.{System, weight, canonical}
use Rattle.patterns.specs.Written.{bytes}
use Rattle.patterns.specs.Reading.{done, fault, mapped, cut}
use Rattle.patterns.proofs.Outcomes.{by_result}
use Rattle.form_theory.proofs.Results.{Good, good-weaken, good-then, good-mapped, good-done}
use Rattle.form_theory.proofs.Bounds.{all_below}
use Rattle.form_theory.proofs.Numbers.{Cut, cut-bytes, cut-good}
use Rattle.group_theory.specs.Groups.{Group, expand, groups, rising}
use Rattle.group_theory.specs.GroupedForm.{group_numbers, groups_length, grouped_numbers, grouped_code, read_groups, finished_groups, read_grouped_body, read_grouped, grouped_accepted}
use Rattle.group_theory.proofs.Groups.{counted, expand-groups, groups-counted}
use Rattle.group_theory.proofs.RisingGroups.{groups-expand, canonical-rises, rising-canonical}
use Rattle.group_theory.proofs.GroupBytes.{groups-weight, groups-trees, few-groups, grouped-numbers-below}
use Rattle.group_theory.proofs.GroupsRead.{read-groups, length-groups, GroupsOf, groups-good}

no-points : (G : List Group) → (eqb (length G) 0 && ltb 0 (weight (expand G))) ≡ false
no-points [] = refl
no-points (g ∷ G) = rw (ne_eqb (length (g ∷ G)) 0 (λ e. omega arith))

module _ (S : System) (c : canonical S ≡ true) (w : weight S ≤ 200) where
  -- the numbers of the groups are read as the groups
  read-grouped : read_grouped (grouped_numbers S) ≡ done (groups S)
  unfolding read_grouped grouped_numbers
  read-grouped =
      let G = groups S in
      let l = gather group_numbers G in
      let r : read_groups (length G) (weight S) l ≡ done G =
      ap (read_groups (length G) (weight S)) (sym (append-nil l)) ∙ read-groups G (weight S) [] (groups-counted S) (groups-trees S c) (groups-weight S) in
      let d : drop (groups_length G) l ≡ [] = drop_of_length-le l {i = groups_length G} (omega (arith, length-groups G)) in
      let n : (eqb (length G) 0 && ltb 0 (weight S)) ≡ false = ap (λ k. eqb (length G) 0 && ltb 0 k) (sym (groups-weight S)) ∙ no-points G in
      rw (le-ltb 200 (weight S) w, le-ltb (weight S) (length G) (few-groups S c), n, r, d, canonical-rises S c, finished_groups)

  -- the grouped code is accepted as the system
  pub grouped-back : grouped_accepted (grouped_code S) ≡ done S
  unfolding grouped_accepted grouped_code
  grouped-back = rw (cut-bytes (grouped_numbers S) (grouped-numbers-below S c w), read-grouped) (ap done (expand-groups S))

-- what is read is rising groups, with these numbers

abbrev BodyOf : ℕ → List ℕ → List Group → Type 0
BodyOf n s G = (s ≡ length G ∷ gather group_numbers G) × (weight (expand G) ≡ n) × (counted G ≡ true) × (rising [] G ≡ true)

finished-good : (P : List Group → Type 0) (G : List Group) (rest : List ℕ) → (rest ≡ [] → rising [] G ≡ true → P G) → Good P (finished_groups G rest)
unfolding finished_groups
finished-good P G [] h = choose-case (Good P) (rising [] G) (λ e. h refl e) (λ e. tt)
finished-good P G (x ∷ rest) h = tt

body-good : (n : ℕ) (s : List ℕ) → Good (BodyOf n s) (read_grouped_body n s)
unfolding read_grouped_body
body-good n [] = tt
body-good n (m ∷ s) =
    choose-case (Good (BodyOf n (m ∷ s))) (ltb n m || (eqb m 0 && ltb 0 n)) (λ e. tt) (λ e.
    good-then (GroupsOf m n s) (BodyOf n (m ∷ s)) (read_groups m n s) _ (groups-good m n s) (λ G q.
    let l = gather group_numbers G in
    finished-good (BodyOf n (m ∷ s)) G (drop (groups_length G) s)
    (λ z r. (ap₂ ◌∷◌ (sym q.1) (q.0 ∙ ap (l ++◌) z ∙ append-nil l), q.2, q.3, r))))

-- s is the numbers of a canonical system of at most 200 points
abbrev Read : List ℕ → System → Type 0
Read s S = (s ≡ grouped_numbers S) × (canonical S ≡ true) × (weight S ≤ 200)

grouped-good : (s : List ℕ) → Good (λ G. Read s (expand G)) (read_grouped s)
unfolding read_grouped grouped_numbers
grouped-good [] = tt
grouped-good (n ∷ s) =
    choose-case (Good (λ G. Read (n ∷ s) (expand G))) (ltb 200 n) (λ e. tt) (λ e.
    let h = ltb-false 200 n e in
    good-weaken (BodyOf n s) (λ G. Read (n ∷ s) (expand G)) (read_grouped_body n s) (body-good n s) (λ G q.
    let same : groups (expand G) ≡ G = groups-expand [] G q.2 q.3 in (
      ap₂ ◌∷◌ (sym q.1) (q.0 ∙ ap (λ H. length H ∷ gather group_numbers H) (sym same)),
      rising-canonical G q.2 q.3,
      omega (arith, q.1),
    )))

-- what is accepted was cut into its numbers
grouped-read : (b : List ℕ) (S : System) → grouped_accepted b ≡ done S → (xs : List ℕ) × (cut b ≡ done xs) × Read xs S
unfolding grouped_accepted
grouped-read b S e =
    by_result (cut b)
    (λ c f. let z : fault c ≡ done S = sym (rw f) ∙ e in clash cc)
    (λ xs f. (
      xs,
      f,
      good-done (Read xs) (mapped expand (read_grouped xs)) S (sym (rw f) ∙ e)
          (good-mapped (λ G. Read xs (expand G)) (Read xs) (read_grouped xs) expand (grouped-good xs) (λ G r. r)),
    ))

-- bytes that are accepted are the grouped code of a canonical system
pub grouped-is : (b : List ℕ) (S : System) → all_below 256 b ≡ true → grouped_accepted b ≡ done S → (b ≡ grouped_code S) × (canonical S ≡ true) × (weight S ≤ 200)
unfolding grouped_code
grouped-is b S h e =
    let r = grouped-read b S e in
    let q = good-done (Cut b) (cut b) r.0 r.1 (cut-good b h) in
    (q.0 ∙ ap bytes r.2.0, r.2.1, r.2.2)

-- what is accepted is canonical, with at most 200 points
pub grouped-canonical : (b : List ℕ) (S : System) → grouped_accepted b ≡ done S → (canonical S ≡ true) × (weight S ≤ 200)
grouped-canonical b S e = let r = grouped-read b S e in (r.2.1, r.2.2)

-- systems with one grouped code are equal
pub grouped-equal : (S R : System) → canonical S ≡ true → canonical R ≡ true → weight S ≤ 200 → weight R ≤ 200 → grouped_code S ≡ grouped_code R → S ≡ R
grouped-equal S R c d h k e = let p : done S ≡ done R = sym (grouped-back S c h) ∙ ap grouped_accepted e ∙ grouped-back R d k in cc
