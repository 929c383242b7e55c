-- Looking for a child place by place, upward or downward: `search c k` is what is looked for at place k of c.
use mathlib.Core.Path.{◌≡◌, refl, ap, sym, ◌∙◌, subst}
use mathlib.Core.Bool.{Bool, true, false, true≢false}
use mathlib.Core.List.{List, [], ◌∷◌, ◌++◌}
use mathlib.Core.Option.{Option, none, some}
use Prim.Native.Nat.{ℕ, zero, suc, ◌-◌, ◌≤◌, ◌<◌}
use native.Mathlib.Omega.{arith}
use lib.ListN.{length, replicate}
use Rattle.lists.specs.Select.{first}
use Rattle.lists.proofs.Follow.{otherwise}
use Rattle.patterns.specs.Tree.{Tree, point, merge}
use Rattle.patterns.specs.Component.{Component, flat, valid_component}
use Rattle.patterns.proofs.Trees.{flat-injective}
use Rattle.trees.specs.Beginnings.{leading_points}
use Rattle.component_theory.specs.ChildPlaces.{child_at}
use Rattle.component_theory.proofs.Generation.{valid-positive}
use Rattle.children.specs.Candidates.{Gave, HeldCandidate}
use Rattle.scanning.specs.HeldNodes.{Node, HeldScan, Passed}

pub gave-path : {o q : Option Component} → o ≡ q → (r : Bool) (x : List ℕ) → Gave o r x → Gave q r x
gave-path e r x g = subst (λ k. Gave k r x) e g

-- what is given goes before what else there is
pub gave-first : (o rest : Option Component) (x : List ℕ) → Gave o true x → otherwise o rest ≡ o
gave-first none rest x g = absurd (true≢false g)
gave-first (some d) rest x g = refl

-- and where nothing is given there is nothing
pub gave-nothing : (o : Option Component) (x : List ℕ) → Gave o false x → o ≡ none
gave-nothing none x g = refl
gave-nothing (some d) x g = absurd (true≢false (sym g.0))

-- a place up to the first tree of more than one point, with a tree behind it
pair-after-points : (c : Component) (i : ℕ) → i ≤ leading_points c → suc i < length c
    → (t : Tree) × (u : Tree) × (r : Component) × (c ≡ replicate i point ++ (t ∷ u ∷ r))
pair-after-points [] i h k = absurd (omega arith)
pair-after-points (t ∷ []) zero h k = absurd (omega arith)
pair-after-points (t ∷ u ∷ r) zero h k = (t, u, r, refl)
pair-after-points (point ∷ c) (suc i) h k =
    let q = pair-after-points c i (omega arith) (omega arith) in
    (q.0, q.1, q.2, ap (λ l. point ∷ l) q.3)
pair-after-points (merge x y ∷ c) (suc i) h k = absurd (omega arith)

-- the first tree of more than one point
merge-after-points : (c : Component) → leading_points c < length c → (x : Tree) × (y : Tree) × (r : Component) × (c ≡ replicate (leading_points c) point ++ (merge x y ∷ r))
merge-after-points [] h = absurd (omega arith)
merge-after-points (point ∷ c) h = let q = merge-after-points c (omega arith) in (q.0, q.1, q.2, ap (λ l. point ∷ l) q.3)
merge-after-points (merge x y ∷ c) h = (x, y, c, refl)

-- the trees of a node are those of any component with the same bytes, which is valid
module _ {s : List ℕ} (p : Node s) (c : Component) (e : s ≡ flat c) where
  pub node-trees : p.trees ≡ c
  node-trees = flat-injective p.trees c (sym p.is ∙ e)

  pub node-valid : valid_component c ≡ true
  node-valid = ap valid_component (sym node-trees) ∙ p.valid

module _ {s : List ℕ} {n h : ℕ} {out : List ℕ} (p : HeldScan s n h out) where
  pub pair-at : (i : ℕ) (x : List ℕ) → length x ≡ length out → i < n → i ≤ h → HeldCandidate s i x
  pair-at i x e k l =
      let q = pair-after-points p.node.trees i (omega (arith, p.leads)) (omega (arith, p.counted)) in
      record {
        pair = record { this = q.0; that = q.1; after = q.2; is = p.node.is ∙ ap flat q.3; small = p.node.small; room = e ∙ p.room };
        valid = subst (λ c. valid_component c ≡ true) q.3 p.node.valid;
      }

  module _ (c : Component) (e : s ≡ flat c) where
    pub candidates-count : length c ≡ suc n
    candidates-count = ap length (sym (node-trees p.node c e)) ∙ p.counted

    -- the first tree of more than one point stands after h points
    pub scan-merge : h < n → (x : Tree) × (y : Tree) × (r : Component) × (c ≡ replicate h point ++ (merge x y ∷ r))
    scan-merge k =
        let l : leading_points c ≡ h = ap leading_points (sym (node-trees p.node c e)) ∙ p.leads in
        let q = merge-after-points c (omega (arith, candidates-count)) in
        (q.0, q.1, q.2, q.3 ∙ ap (λ i. replicate i point ++ (merge q.0 q.1 ∷ q.2)) l)

-- a search that has come from place k to place j and found nothing between them, and the buffer it writes to
pub record Scanned (search : Component → ℕ → Option Component) (s : List ℕ) (k j : ℕ) (out₀ out : List ℕ) : Type 0 where
  pub room : length out ≡ length out₀
  pub passed : (c : Component) → s ≡ flat c → search c k ≡ search c j

pub scan-start : {search : Component → ℕ → Option Component} {s out : List ℕ} {k : ℕ} → Scanned search s k k out out
scan-start = record { room = refl; passed = λ c e. refl }

-- the next place is p, and the search goes on at i
module _ {search : Component → ℕ → Option Component} {s : List ℕ} {k j : ℕ} {out y : List ℕ} (f : Scanned search s k j out y) (p i : ℕ) (x : List ℕ)
    (stepped : (c : Component) → s ≡ flat c → search c j ≡ otherwise (first (child_at c p)) (search c i))
    (r : Bool) (g : (c : Component) → s ≡ flat c → Gave (first (child_at c p)) r x) where
  -- no child there
  pub scan-on : r ≡ false → length x ≡ length y → Scanned search s k i out x
  scan-on q m = record {
    room = m ∙ f.room;
    passed = λ c e.
        f.passed c e ∙ stepped c e
        ∙ ap (λ o. otherwise o (search c i)) (gave-nothing (first (child_at c p)) x (subst (λ b. Gave (first (child_at c p)) b x) q (g c e)));
  }

  -- a child there
  pub scan-found : r ≡ true → (c : Component) → s ≡ flat c → Gave (search c k) true x
  scan-found q c e =
      let l = subst (λ b. Gave (first (child_at c p)) b x) q (g c e) in
      subst (λ o. Gave o true x) (sym (f.passed c e ∙ stepped c e ∙ gave-first (first (child_at c p)) (search c i) x l)) l

-- A search of one kind of merges, and what is left to it.
module _ {search : Component → ℕ → Option Component} (c : Component) (k j : ℕ) where
  pub passed-one : (x : List ℕ) → Gave (search c k) true x → Passed search c k j true x
  passed-one x g = record { found = search c k; gave = g; is = sym (gave-first (search c k) (search c j) x g) }

  pub passed-all : (x : List ℕ) → search c k ≡ search c j → Passed search c k j false x
  passed-all x e = record { found = none; gave = refl; is = e }

module _ {search : Component → ℕ → Option Component} {c : Component} {k j : ℕ} {r : Bool} {x : List ℕ} (p : Passed search c k j r x) where
  pub passed-found : r ≡ true → Gave (search c k) true x
  passed-found e =
      let g = subst (λ b. Gave p.found b x) e p.gave in
      subst (λ o. Gave o true x) (sym (p.is ∙ gave-first p.found (search c j) x g)) g

  pub passed_on : r ≡ false → search c k ≡ search c j
  passed_on e = p.is ∙ ap (λ o. otherwise o (search c j)) (gave-nothing p.found x (subst (λ b. Gave p.found b x) e p.gave))

-- a component and its numbers of trees and of leading points
module _ {s : List ℕ} (p : Node s) (m : ℕ) (counted : (c : Component) → s ≡ flat c → m ≡ length c) where
  pub some-trees : 0 < m
  some-trees = omega (arith, counted p.trees p.is, valid-positive p.trees p.valid)

  pub node-pairs : (h : ℕ) (out : List ℕ) → length out ≡ length s → ((c : Component) → s ≡ flat c → h ≡ leading_points c) → HeldScan s (m - 1) h out
  node-pairs h out e leads = record {
    node = p;
    room = e;
    counted = omega (arith, counted p.trees p.is, some-trees);
    leads = sym (leads p.trees p.is);
  }
