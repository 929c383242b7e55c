-- What follows an entry of a list: in joined, mapped and gathered lists.
use mathlib.Core.Path.{◌≡◌, refl, ap, sym, ◌∙◌}
use mathlib.Core.List.Memᴰ
use mathlib.Core.List.{List, [], ◌∷◌, ◌++◌, map, map-append, append_assoc, head-eq_of_cons-eq, tail-eq_of_cons-eq}
use mathlib.Core.Option
use mathlib.Core.Option.{Option, none, some, some-injective, none-ne-some}
use Prim.Native.Nat.{Ordering}
use Rattle.lists.specs.Order.{same}
use Rattle.lists.specs.Select.{gather, first, next, from}
pub use Rattle.lists.specs.Select.{otherwise}
use Rattle.lists.proofs.Tests.{◌∈◌, by-test}
use Rattle.lists.proofs.Members.{Decides, NoDup, in_head, in_tail, in_list, in_moved, in-middle, nodup-head, nodup-tail, gather_append}
use Rattle.lists.proofs.Places.{in_split, first-split, next-split}

-- x stands in l, and what follows it is r: an entry, or nothing
pub record Within {A : Type 0} (x : A) (l : List A) (r : Option A) : Type 0 where
  pub before : List A
  pub after : List A
  pub cut : l ≡ before ++ (x ∷ after)
  pub follows : r ≡ first after

pub first_map : {A B : Type 0} (f : A → B) (l : List A) → first (map f l) ≡ Option.map f (first l)
first_map f [] = refl
first_map f (x ∷ l) = refl

module _ {A : Type 0} where
  pub first-append : (l m : List A) → first (l ++ m) ≡ otherwise (first l) (first m)
  first-append [] m = refl
  first-append (x ∷ l) m = refl

  pub first-none : (l : List A) → first l ≡ none → l ≡ []
  first-none [] e = refl
  first-none (x ∷ l) e = absurd (none-ne-some x (sym e))

  pub first_some : {y : A} (l : List A) → first l ≡ some y → (m : List A) × (l ≡ y ∷ m)
  first_some {y} [] e = absurd (none-ne-some y e)
  first_some {y} (x ∷ l) e = (l, ap (λ z. z ∷ l) (some-injective x y e))

  pub within-head : (x : A) (l : List A) → Within x (x ∷ l) (first l)
  within-head x l = record { before = []; after = l; cut = refl; follows = refl }

  pub within-tail : (y : A) {x : A} {l : List A} {r : Option A} → Within x l r → Within x (y ∷ l) r
  within-tail y i = record { before = y ∷ i.before; after = i.after; cut = ap (λ m. y ∷ m) i.cut; follows = i.follows }

  pub within_in : {x : A} {l : List A} {r : Option A} → Within x l r → x ∈ l
  within_in i = in_list (sym i.cut) (in-middle i.before i.after)

  -- every member is followed by something or by nothing
  pub in_within : {x : A} {l : List A} → x ∈ l → (r : Option A) × Within x l r
  in_within m = let s = in_split m in (first s.1, record { before = s.0; after = s.1; cut = s.2; follows = refl })

  -- where nothing follows x, the list ends in x
  pub within-last : {x : A} {l : List A} → Within x l none → (a : List A) × (l ≡ a ++ (x ∷ []))
  within-last {x} i = (i.before, i.cut ∙ ap (λ m. i.before ++ (x ∷ m)) (first-none i.after (sym i.follows)))

  -- where y follows x, they stand side by side
  pub within-some : {x y : A} {l : List A} → Within x l (some y) → (a : List A) × (b : List A) × (l ≡ a ++ (x ∷ y ∷ b))
  within-some {x} i =
      let s = first_some i.after (sym i.follows) in
      (i.before, s.0, i.cut ∙ ap (λ m. i.before ++ (x ∷ m)) s.1)

  -- what follows is a member
  pub within-some-in : {x y : A} {l : List A} → Within x l (some y) → y ∈ l
  within-some-in {x} {y} i = let s = within-some i in in_list (sym s.2) (Memᴰ.append_right s.0 (in_tail in_head))

  -- in the first block: what follows there, or where x is its last the first of the second block
  pub within-append-left : {x : A} {l : List A} {r : Option A} (m : List A) → Within x l r → Within x (l ++ m) (otherwise r (first m))
  within-append-left {x} m i =
      record {
        before = i.before;
        after = i.after ++ m;
        cut = ap (λ t. t ++ m) i.cut ∙ append_assoc i.before (x ∷ i.after) m;
        follows = ap (λ t. otherwise t (first m)) i.follows ∙ sym (first-append i.after m);
      }

  pub within-append-right : (m : List A) {x : A} {l : List A} {r : Option A} → Within x l r → Within x (m ++ l) r
  within-append-right m {x} i =
      record {
        before = m ++ i.before;
        after = i.after;
        cut = ap (λ t. m ++ t) i.cut ∙ sym (append_assoc m i.before (x ∷ i.after));
        follows = i.follows;
      }

  -- in the list from an entry on, things follow as in the whole
  pub within-from : (c : A → A → Ordering) (x : A) (l : List A) {y : A} {r : Option A} → Within y (from c x l) r → Within y l r
  within-from c x [] i = i
  within-from c x (z ∷ l) i = by-test (same c x z) (λ t. rw t at i) (λ t. within-tail z (within-from c x l (rw t at i)))

  -- two cuts of a list without repetition at the same entry are one
  cut-unique : (x : A) (a b a' b' : List A) → NoDup (a ++ (x ∷ b)) → a ++ (x ∷ b) ≡ a' ++ (x ∷ b') → b ≡ b'
  cut-unique x [] b [] b' d e = tail-eq_of_cons-eq e
  cut-unique x [] b (z ∷ a') b' d e = absurd (nodup-head d (in_list (sym (tail-eq_of_cons-eq e)) (in-middle a' b')))
  cut-unique x (y ∷ a) b [] b' d e = absurd (nodup-head d (in_moved (sym (head-eq_of_cons-eq e)) (in-middle a b)))
  cut-unique x (y ∷ a) b (z ∷ a') b' d e = cut-unique x a b a' b' (nodup-tail d) (tail-eq_of_cons-eq e)

  -- in a list without repetition only one thing follows x
  pub within-unique : {x : A} {l : List A} {r s : Option A} → NoDup l → Within x l r → Within x l s → r ≡ s
  within-unique {x} d i j =
      i.follows
      ∙ ap first (cut-unique x i.before i.after j.before j.after (rw i.cut at d) (sym i.cut ∙ j.cut))
      ∙ sym j.follows

  module _ {c : A → A → Ordering} (w : Decides c) where
    -- `next` gives what follows the first x
    pub next-within : {x : A} {l : List A} → x ∈ l → Within x l (next c x l)
    next-within {x} m =
        let s = first-split w m in
        record { before = s.0; after = s.1; cut = s.2; follows = ap (next c x) s.2 ∙ next-split w s.0 x s.1 s.3 }

    -- so in a list without repetition it gives what follows x
    pub within-next : {x : A} {l : List A} {r : Option A} → NoDup l → Within x l r → next c x l ≡ r
    within-next d i = within-unique d (next-within (within_in i)) i

module _ {A B : Type 0} where
  pub within-map : (f : A → B) {x : A} {l : List A} {r : Option A} → Within x l r → Within (f x) (map f l) (Option.map f r)
  within-map f {x} i =
      record {
        before = map f i.before;
        after = map f i.after;
        cut = ap (map f) i.cut ∙ map-append f i.before (x ∷ i.after);
        follows = ap (Option.map f) i.follows ∙ sym (first_map f i.after);
      }

  -- where no piece is empty, the gathered list starts as its first piece does
  pub first-gather : (f : A → List B) (start : A → B) (l : List A) → ((z : A) → z ∈ l → first (f z) ≡ some (start z))
      → first (gather f l) ≡ Option.map start (first l)
  first-gather f start [] h = refl
  first-gather f start (z ∷ l) h =
      first-append (f z) (gather f l) ∙ ap (λ t. otherwise t (first (gather f l))) (h z in_head)

  -- in the piece of x: what follows there, or after its last the start of the piece that follows
  pub within-gather : (f : A → List B) (start : A → B) {x : A} {l : List A} {q : Option A} {y : B} {r : Option B}
      → ((z : A) → z ∈ l → first (f z) ≡ some (start z)) → Within x l q → Within y (f x) r
      → Within y (gather f l) (otherwise r (Option.map start q))
  within-gather f start {x} {l} {q} {y} {r} h i j =
      let g : gather f l ≡ gather f i.before ++ (f x ++ gather f i.after) =
      ap (gather f) i.cut ∙ gather_append f i.before (x ∷ i.after) in
      let s : first (gather f i.after) ≡ Option.map start q =
      first-gather f start i.after (λ z m. h z (in_list (sym i.cut) (Memᴰ.append_right i.before (in_tail m))))
      ∙ ap (Option.map start) (sym i.follows) in
      rw (g, ← s) (within-append-right (gather f i.before) (within-append-left (gather f i.after) j))
