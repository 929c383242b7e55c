-- Cycles of a map as lists: `map f c ≡ turn c` says that each point of c goes to the next, and the last to the first.
use mathlib.Core.Path.{◌≡◌, refl, ap, sym, ◌∙◌}
use mathlib.Core.List.Memᴰ
use mathlib.Core.List.{List, [], ◌∷◌, ◌++◌, map, map-append, append-nil, append_assoc, head-eq_of_cons-eq, tail-eq_of_cons-eq}
use mathlib.Core.Bool.{true}
use Prim.Native.Nat.{ℕ, zero, suc, ◌≤◌, ◌<◌}
use native.Mathlib.Omega.{arith}
use lib.Dec.{leb, eqb}
use borrow.Author.Tests.{eq-eqb, ne_eqb, eqb-true, leb-true, le-leb}
use lib.ListN.{length, length-append}
use Rattle.lists.specs.Select.{each}
use Rattle.lists.proofs.Tests.{◌∈◌, either, and-true, true-and, some-member, some-true, each-true, each_member}
use Rattle.lists.proofs.Members.{NoDup, in_head, in_tail, in_list, in_moved, in_map, in-cons-cases, in-single, in_append_left, in_append_right, in-append-cases, not-in-nil, nodup-head, nodup-right, nodup-apart}
use Rattle.lists.proofs.Places.{in_split}
use Rattle.patterns.specs.Component.{turn}
use Rattle.patterns.specs.Table.{orbit, on_cycle, until, cycle_from, leads_cycle}

module _ (f : ℕ → ℕ) where
  -- turning and following the map may change places
  pub map-turn : (c : List ℕ) → map f (turn c) ≡ turn (map f c)
  map-turn [] = refl
  map-turn (x ∷ c) = map-append f c (x ∷ [])

  -- a cycle may be written from any of its points on
  pub cycle-turned : (a b : List ℕ) → map f (a ++ b) ≡ turn (a ++ b) → map f (b ++ a) ≡ turn (b ++ a)
  cycle-turned [] b e = rw (append-nil b) e
  cycle-turned (y ∷ a) b e =
      let once : map f (a ++ (b ++ (y ∷ []))) ≡ turn (a ++ (b ++ (y ∷ []))) =
      ap (map f) (sym (append_assoc a b (y ∷ []))) ∙ map-turn (y ∷ (a ++ b)) ∙ ap turn e ∙ ap turn (append_assoc a b (y ∷ [])) in
      let r = cycle-turned a (b ++ (y ∷ [])) once in
      rw (append_assoc b (y ∷ []) a) at r

  -- its points go to its points
  pub turn_in : {c : List ℕ} {x : ℕ} → x ∈ turn c → x ∈ c
  turn_in {c = []} m = m
  turn_in {c = y ∷ c} m = either (in-append-cases c m) (λ k. in_tail k) (λ k. in_moved (sym (in-single k)) in_head)

  pub cycle-image : {c : List ℕ} → map f c ≡ turn c → {x : ℕ} → x ∈ c → f x ∈ c
  cycle-image e m = turn_in (in_list e (in_map f m))

  -- what is kept by f holds of every later point
  pub orbit-keeps : (P : ℕ → Type 0) → ((y : ℕ) → P y → P (f y)) → (k : ℕ) {z y : ℕ} → P z → y ∈ orbit f k z → P y
  orbit-keeps P h zero p m = not-in-nil m
  orbit-keeps P h (suc k) {z} p m =
      either (in-cons-cases m) (λ e. rw e (h z p)) (λ i. orbit-keeps P h k (h z p) i)

  -- A walk from z over the points m to x is `map f (z ∷ m) ≡ m ++ (x ∷ [])`. Its points are in the orbit of z.
  pub walk-orbit : (m : List ℕ) (z x k : ℕ) → map f (z ∷ m) ≡ m ++ (x ∷ []) → length m < k → {y : ℕ} → y ∈ (m ++ (x ∷ [])) → y ∈ orbit f k z
  walk-orbit m z x zero e h i = absurd (omega arith)
  walk-orbit [] z x (suc k) e h i = Memᴰ.head (in-single i ∙ sym (head-eq_of_cons-eq e))
  walk-orbit (w ∷ m) z x (suc k) e h {y} i =
      let q : f z ≡ w = head-eq_of_cons-eq e in
      either (in-cons-cases i)
      (λ p. Memᴰ.head (p ∙ sym q))
      (λ j. in_tail (in_list (ap (orbit f k) (sym q)) (walk-orbit m w x k (tail-eq_of_cons-eq e) (omega arith) j)))

  -- the walk from z up to x gives back m
  pub walk-until : (n : ℕ) (m : List ℕ) (z x k : ℕ) → map f (z ∷ m) ≡ m ++ (x ∷ []) → (x ∈ m → ⊥) → length m < k → until n f k x (f z) ≡ m
  unfolding until
  walk-until n m z x zero e h i = absurd (omega arith)
  walk-until n [] z x (suc k) e h i = rw (eq-eqb (f z) x (head-eq_of_cons-eq e))
  walk-until n (w ∷ m) z x (suc k) e h i =
      let q : f z ≡ w = head-eq_of_cons-eq e in
      rw (q, ne_eqb w x (λ p. h (Memᴰ.head (sym p))))
      (ap (λ r. w ∷ r) (walk-until n m w x k (tail-eq_of_cons-eq e) (λ j. h (in_tail j)) (omega arith)))

-- y comes to x in one step or more
pub data Reaches (f : ℕ → ℕ) : ℕ → ℕ → Type 0 where
  arrives : {y x : ℕ} → f y ≡ x → Reaches f y x
  onward : {y x : ℕ} → Reaches f (f y) x → Reaches f y x

module _ {f : ℕ → ℕ} where
  pub orbit-reaches : (k : ℕ) {y x : ℕ} → x ∈ orbit f k y → Reaches f y x
  orbit-reaches zero m = not-in-nil m
  orbit-reaches (suc k) m = either (in-cons-cases m) (λ e. arrives (sym e)) (λ i. onward (orbit-reaches k i))

  -- what is kept by f and holds of y holds of every point that y comes to
  pub reaches-keeps : (P : ℕ → Type 0) → ((y : ℕ) → P y → P (f y)) → {y x : ℕ} → Reaches f y x → P y → P x
  reaches-keeps P h {y} (arrives e) p = rw (sym e) (h y p)
  reaches-keeps P h {y} (onward r) p = reaches-keeps P h r (h y p)

  pub reaches_step : {y x z : ℕ} → Reaches f y x → f x ≡ z → Reaches f y z
  reaches_step {y} {x} {z} (arrives e) q = onward (arrives (ap f e ∙ q))
  reaches_step (onward r) q = onward (reaches_step r q)

  -- if x comes back to itself, the image of a point that comes to x comes to x
  pub reaches-image : {x y : ℕ} → Reaches f x x → Reaches f y x → Reaches f (f y) x
  reaches-image {x} {y} r (arrives e) = rw e r
  reaches-image {x} {y} r (onward s) = s

module _ (n : ℕ) (f : ℕ → ℕ) where
  -- a point on a cycle comes back to itself
  pub on_cycle-reaches : (x : ℕ) → on_cycle n f x ≡ true → Reaches f x x
  unfolding on_cycle
  on_cycle-reaches x e =
      let r = some-member (eqb x) (orbit f n x) e in
      orbit-reaches n (in_moved (sym (eqb-true x r.0 r.2)) r.1)

  -- a point on a cycle is in every set that f keeps and in which the walk from the point ends
  pub on_cycle-closed : (P : ℕ → Type 0) → ((y : ℕ) → P y → P (f y)) → (x y : ℕ) → on_cycle n f x ≡ true → Reaches f x y → P y → P x
  on_cycle-closed P h x y e r p =
      let s = on_cycle-reaches x e in
      reaches-keeps P h (reaches-keeps (λ z. Reaches f z x) (λ z. reaches-image s) r s) p

  module _ (c : List ℕ) (cycle : map f c ≡ turn c) (d : NoDup c) (fits : length c ≤ n) where
    -- the cycle from one of its points on
    pub cycle-from : (a b : List ℕ) (x : ℕ) → c ≡ a ++ (x ∷ b) → cycle_from n f x ≡ x ∷ (b ++ a)
    unfolding cycle_from
    cycle-from a b x s =
        let e : map f (x ∷ (b ++ a)) ≡ (b ++ a) ++ (x ∷ []) = cycle-turned f a (x ∷ b) (rw s at cycle) in
        let u = rw s at d in
        let h : x ∈ (b ++ a) → ⊥ = λ m. either (in-append-cases b m)
        (λ i. nodup-head (nodup-right a (x ∷ b) u) i)
        (λ i. nodup-apart a u i in_head) in
        ap (λ r. x ∷ r) (walk-until f n (b ++ a) x x n e h (omega (arith, ap length s, length-append a (x ∷ b), length-append b a)))

    -- from every point of a cycle every point of it is reached in n steps
    pub cycle-orbit : {x y : ℕ} → x ∈ c → y ∈ c → y ∈ orbit f n x
    cycle-orbit {x} {y} m k =
        let s = in_split m in
        let a = s.0 in
        let b = s.1 in
        let e : map f (x ∷ (b ++ a)) ≡ (b ++ a) ++ (x ∷ []) = cycle-turned f a (x ∷ b) (rw s.2 at cycle) in
        let i : y ∈ ((b ++ a) ++ (x ∷ [])) = either (in-append-cases a (in_list s.2 k))
        (λ j. in_append_left (x ∷ []) (in_append_right b j))
        (λ j. either (in-cons-cases j)
        (λ q. in_append_right (b ++ a) (in_moved (sym q) in_head))
        (λ j'. in_append_left (x ∷ []) (in_append_left a j'))) in
        walk-orbit f (b ++ a) x x n e (omega (arith, ap length s.2, length-append a (x ∷ b), length-append b a)) i

    -- and no other
    pub orbit-cycle : {x y : ℕ} (k : ℕ) → x ∈ c → y ∈ orbit f k x → y ∈ c
    orbit-cycle k m i = orbit-keeps f (λ z. z ∈ c) (λ z j. cycle-image f cycle j) k m i

    -- its points are on a cycle
    pub cycle-on : {x : ℕ} → x ∈ c → on_cycle n f x ≡ true
    unfolding on_cycle
    cycle-on {x} m = some-true (eqb x) (cycle-orbit m m) (eq-eqb x x refl)

    -- the point that leads it is the least
    pub leads-least : {x y : ℕ} → x ∈ c → leads_cycle n f x ≡ true → y ∈ c → x ≤ y
    unfolding leads_cycle
    leads-least {x} {y} m e k =
        leb-true x y (each_member (leb x) (and-true (on_cycle n f x) (each (leb x) (orbit f n x)) e).1 (cycle-orbit m k))

    pub least-leads : {x : ℕ} → x ∈ c → ((y : ℕ) → y ∈ c → x ≤ y) → leads_cycle n f x ≡ true
    unfolding leads_cycle
    least-leads {x} m h =
        true-and (cycle-on m) (each-true (leb x) (orbit f n x) (λ y i. le-leb x y (h y (orbit-cycle n m i))))
