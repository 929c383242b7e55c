-- The codes that stand in the bytes of a component are those of its trees.
use Rattle.std.proofs.Common.{◌≡◌, refl, ap, ap₂, ◌∙◌, ℕ, zero, suc, ◌≤◌, ◌<◌, Bool, true, false, ◌&&◌, cond, get_or, List, [], ◌∷◌, length, take, drop, map, arith}
use Rattle.std.proofs.lemmas.Bool.{false≢true}
use Rattle.std.proofs.lemmas.Bool.Decides.{nat_tests}
use lib.Dec.{leb}
use lib.ListN.{length-drop}
use lib.Seq.{take_at, drop_at}
use Rattle.lists.specs.Select.{each}
use Rattle.lists.proofs.Tests.{and-true}
use Rattle.patterns.specs.Tree.{Tree, size, code}
use Rattle.patterns.specs.Component.{Component, points, flat}
use Rattle.patterns.proofs.Trees.{size-positive, length-code, length-flat}
use Rattle.memory.specs.Memory.{Held}
use Rattle.trees.specs.Codes.{first_codes, codes, filled_by, filled}

first_codes-flat : (n : ℕ) (c : Component) → points c ≤ n → first_codes n (flat c) ≡ map code c
first_codes-flat zero [] h = refl
first_codes-flat zero (t ∷ c) h = absurd (omega (arith, size-positive t))
first_codes-flat (suc n) [] h = refl
first_codes-flat (suc n) (t ∷ c) h =
    ap₂ ◌∷◌ (take_at (code t) (flat c) (size t) (length-code t))
    (ap (first_codes n) (drop_at (code t) (flat c) (size t) (length-code t)) ∙ first_codes-flat n c (omega (arith, size-positive t)))

pub codes-flat : (s : List ℕ) (c : Component) → s ≡ flat c → codes s ≡ map code c
unfolding codes
codes-flat s c e = rw e (first_codes-flat (length (flat c)) c (omega (arith, length-flat c)))

filled_by-flat : (n : ℕ) (c : Component) → points c ≤ n → filled_by n (flat c) ≡ true
filled_by-flat n [] h = refl
filled_by-flat zero (t ∷ c) h = absurd (omega (arith, size-positive t))
filled_by-flat (suc n) (t ∷ c) h =
    let a : leb 1 (size t) ≡ true = grind (arith, nat_tests, size-positive t) in
    let b : leb (size t) (length (flat (t ∷ c))) ≡ true = grind (arith, nat_tests, length-flat (t ∷ c)) in
    let d : filled_by n (drop (size t) (flat (t ∷ c))) ≡ true = ap (filled_by n) (drop_at (code t) (flat c) (size t) (length-code t)) ∙ filled_by-flat n c (omega (arith, size-positive t)) in
    rw (a, b, d)

pub filled-held : {s : List ℕ} → Held s → filled s ≡ true
unfolding filled
filled-held h = rw h.is (filled_by-flat (length (flat h.trees)) h.trees (omega (arith, length-flat h.trees)))

-- the first tree is within what it begins, and has points
first-fits : (n x : ℕ) (s : List ℕ) → filled_by (suc n) (x ∷ s) ≡ true → (1 ≤ x) × (x ≤ suc (length s)) × (filled_by n (drop x (x ∷ s)) ≡ true)
first-fits n x s e =
    let p = and-true (leb 1 x && leb x (length (x ∷ s))) (filled_by n (drop x (x ∷ s))) e in
    let q = and-true (leb 1 x) (leb x (length (x ∷ s))) p.0 in
    (grind (arith, nat_tests, q.0), grind (arith, nat_tests, q.1), p.1)

-- as many steps as there are bytes are enough
enough-filled : (n m : ℕ) (s : List ℕ) → length s ≤ m → filled_by n s ≡ true → filled_by m s ≡ true
enough-filled n m [] h e = refl
enough-filled zero m (x ∷ s) h e = absurd (false≢true e)
enough-filled (suc n) zero (x ∷ s) h e = absurd (omega arith)
enough-filled (suc n) (suc m) (x ∷ s) h e =
    let p = first-fits n x s e in
    let q = enough-filled n m (drop x (x ∷ s)) (omega (arith, length-drop x (x ∷ s), p.0)) p.2 in
    let a : leb 1 x ≡ true = grind (arith, nat_tests, p.0) in
    let b : leb x (length (x ∷ s)) ≡ true = grind (arith, nat_tests, p.1) in
    rw (a, b, q)

enough-codes : (n m : ℕ) (s : List ℕ) → length s ≤ m → filled_by n s ≡ true → first_codes n s ≡ first_codes m s
enough-codes zero zero [] h e = refl
enough-codes zero (suc m) [] h e = refl
enough-codes (suc n) zero [] h e = refl
enough-codes (suc n) (suc m) [] h e = refl
enough-codes zero m (x ∷ s) h e = absurd (false≢true e)
enough-codes (suc n) zero (x ∷ s) h e = absurd (omega arith)
enough-codes (suc n) (suc m) (x ∷ s) h e =
    let p = first-fits n x s e in
    ap (λ l. take x (x ∷ s) ∷ l) (enough-codes n m (drop x (x ∷ s)) (omega (arith, length-drop x (x ∷ s), p.0)) p.2)

-- the tree that stands first
pub record First (s : List ℕ) (x : ℕ) : Type 0 where
  pub fits : x ≤ length s
  pub behind : filled (drop x s) ≡ true
  pub split : codes s ≡ take x s ∷ codes (drop x s)

parts : (x : ℕ) (s : List ℕ) → filled (x ∷ s) ≡ true → First (x ∷ s) x
unfolding filled codes
parts x s e =
    let p = first-fits (length s) x s e in
    let l = drop x (x ∷ s) in
    record {
      fits = p.1;
      behind = enough-filled (length s) (length l) l (omega arith) p.2;
      split = ap (λ r. take x (x ∷ s) ∷ r) (enough-codes (length s) (length l) l (omega arith) p.2);
    }

pub first-of : (s : List ℕ) (x : ℕ) → 0 < length s → x ≡ get_or s 0 0 → filled s ≡ true → First s x
first-of [] x h q e = absurd (omega arith)
first-of (y ∷ s) x h q e = rw q (parts y s e)

pub none-left : (s : List ℕ) → length s ≤ 0 → codes s ≡ []
unfolding codes
none-left [] h = refl
none-left (x ∷ s) h = absurd (omega arith)

-- Going along the trees of a component: cs are the codes of those that are left, d.
pub record Next (x : List ℕ) (cs : List (List ℕ)) (d : Component) : Type 0 where
  pub tree : Tree
  pub later : Component
  pub is : d ≡ tree ∷ later
  pub stretch : x ≡ code tree
  pub left : cs ≡ map code later

pub next-code : {x : List ℕ} {bs cs : List (List ℕ)} → bs ≡ x ∷ cs → (d : Component) → bs ≡ map code d → Next x cs d
next-code e [] f = absurd cc
next-code e (t ∷ d) f = record { tree = t; later = d; is = refl; stretch = cc; left = cc }

pub no-code : {bs : List (List ℕ)} → bs ≡ [] → (d : Component) → bs ≡ map code d → d ≡ []
no-code e [] f = refl
no-code e (t ∷ d) f = absurd cc

pub each-next : {x : List ℕ} {cs : List (List ℕ)} {d : Component} (p : Tree → Bool) (n : Next x cs d) → each p d ≡ cond (p n.tree) (each p n.later) false
each-next p n = ap (each p) n.is
