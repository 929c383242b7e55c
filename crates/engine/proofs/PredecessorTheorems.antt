-- What follows from the promises of the successor and the predecessor entry together: forward and back return to the code where they began, and so do back and
-- forward; "first" is said of the first code of a count, and of no other.
use mathlib.Core.Path.{◌≡◌, refl, ap, sym, ◌∙◌}
use mathlib.Core.Logic.{◌⊎◌, inl, inr}
use mathlib.Core.Bool.{true}
use mathlib.Core.List.{List, ◌∷◌, ◌++◌}
use mathlib.Core.Option.{Option, none, some}
use Prim.Native.Nat.{ℕ, ◌≤◌, ◌<◌}
use native.Mathlib.Omega.{arith}
use lib.Dec.{leb, ltb}
use lib.ListN.{length, take}
use borrow.Author.Tests.{leb-false, le-ltb, ltb-false}
use Rattle.lists.specs.Select.{first}
use Rattle.lists.proofs.Tests.{by-test, clash}
use Rattle.lists.proofs.Members.{in_head, in_list}
use Rattle.lists.proofs.Follow.{first_some, within-some}
use Rattle.lists.proofs.Reversed.{of-reverse-neighbours}
use Rattle.patterns.specs.declared.Refusal.{Refusal}
use Rattle.patterns.specs.declared.Refusal.TheVariants.{Count}
use Rattle.patterns.specs.System.{System, weight, canonical, codes}
use Rattle.patterns.specs.Written.{written}
use Rattle.patterns.specs.Reading.{done, fault, accepted}
use Rattle.patterns.specs.Replies.{Answer, length_is, last, first_of_list, refused, number_of}
use Rattle.patterns.specs.Entry.{Outcome, gives, ends, begins, fails, answered, filled, Replied, listed, first_of, successor_of}
use Rattle.patterns.specs.Predecessor.{predecessor_of}
use Rattle.system_theory.specs.Step.{step}
use Rattle.system_theory.specs.StepBack.{step_back_of}
use Rattle.system_theory.proofs.Codes.{codes-sound}
use Rattle.system_theory.proofs.Step.{step_is, step_keeps}
use Rattle.system_theory.proofs.StepBack.{step_back_of-is, step_back_of-within, step_back_of-keeps, step_back, back_step, step_back_of-first, first-step_back_of}
use Rattle.form_theory.proofs.Bounds.{all_below}
use Rattle.form_theory.proofs.WrittenBack.{written_back, written-fits, accepted-is, accepted-canonical}
use Rattle.patterns.proofs.Outcomes.{result-written, result-fills, by_result}

-- any call that finds o, with a buffer of at least 1,000 bytes, writes exactly b
abbrev pub Returns : Outcome ℕ → List ℕ → Type 0
Returns o b = (before after : List ℕ) (a : Answer) → 1000 ≤ length before → Replied o before a after → (a ≡ length_is (length b)) × (take (length b) after ≡ b)

-- An entry that takes a code one step on: what it finds is told by the step of the system.
record Steps (found : List ℕ → Outcome ℕ) (walk : System → Option System) (end : Outcome ℕ) : Type 0 where
  refuses : (b : List ℕ) (c : Refusal) → accepted b ≡ fault c → found b ≡ fails c
  stops : (b : List ℕ) (S : System) → accepted b ≡ done S → walk S ≡ none → found b ≡ end
  goes : (b : List ℕ) (S R : System) → accepted b ≡ done S → walk S ≡ some R → found b ≡ gives (written R)
  keeps : (S R : System) → canonical S ≡ true → walk S ≡ some R → (canonical R ≡ true) × (weight R ≡ weight S)

forward : Steps successor_of step ends
unfolding successor_of
forward = record {
  refuses = λ b c e. rw e;
  stops = λ b S e w. rw (e, step_is S (accepted-canonical b S e).0, w);
  goes = λ b S R e w. rw (e, step_is S (accepted-canonical b S e).0, w);
  keeps = step_keeps;
}

backward : Steps predecessor_of step_back_of begins
unfolding predecessor_of
backward = record {
  refuses = λ b c e. rw e;
  stops = λ b S e w. rw (e, step_back_of-is S (accepted-canonical b S e).0, w);
  goes = λ b S R e w. rw (e, step_back_of-is S (accepted-canonical b S e).0, w);
  keeps = step_back_of-keeps;
}

-- What such an entry does for a code that is accepted.
module _ {found : List ℕ → Outcome ℕ} {walk : System → Option System} {end : Outcome ℕ} (p : Steps found walk end) (b : List ℕ) (S : System) (e : accepted b ≡ done S) where
  -- there is a step or none
  by-step : {P : Type 0} → (walk S ≡ none → P) → ((R : System) → walk S ≡ some R → P) → P
  by-step {P} f g = of (walk S) refl
    where
      of : (o : Option System) → walk S ≡ o → P
      of none q = f q
      of (some R) q = g R q

  -- what it leads to can be read again
  step-accepted : (R : System) → walk S ≡ some R → (accepted (written R) ≡ done R) × (length (written R) ≤ 1000)
  step-accepted R w =
      let c = accepted-canonical b S e in
      let k = p.keeps S R c.0 w in
      let h : weight R ≤ 200 = omega (arith, k.1, c.1) in
      (written_back R k.0 h, omega (arith, written-fits R k.0 h))

  -- and is what is written
  step-written : (R : System) → walk S ≡ some R → Returns (found b) (written R)
  step-written R w before after a room q = result-fills (written R) (rw (p.goes b S R e w) at q) (omega (arith, (step-accepted R w).1))

-- One step and then one back, from any code: it returns, unless the first step came to an end.
module _ {found found' : List ℕ → Outcome ℕ} {walk walk' : System → Option System} {end end' : Outcome ℕ}
    (p : Steps found walk end) (q : Steps found' walk' end') (inverse : (S R : System) → canonical S ≡ true → walk S ≡ some R → walk' R ≡ some S) where
  round : (b : List ℕ) (S : System) → all_below 256 b ≡ true → accepted b ≡ done S → {before after : List ℕ} {a : Answer} → 1000 ≤ length before
      → Replied (found b) before a after → (a ≡ answered end before) ⊎ ((n : ℕ) × (a ≡ length_is n) × Returns (found' (take n after)) b)
  round b S bytes e {before} {after} {a} room r =
      by-step p b S e
      (λ w. inl (r.reply ∙ ap (λ o. answered o before) (p.stops b S e w)))
      (λ R w.
      let t = step-written p b S e R w before after a room r in
      let again = (step-accepted p b S e R w).0 in
      let c = accepted-is b S bytes e in
      inr (length (written R), t.0, rw (t.1, c.0) (step-written q (written R) R again S (inverse S R c.1 w))))

-- The theorems of paper 3, from any code that is accepted.
module _ (b : List ℕ) (S : System) (bytes : all_below 256 b ≡ true) (e : accepted b ≡ done S) {before after : List ℕ} {a : Answer} (room : 1000 ≤ length before) where
  -- forward and then back returns the code, unless "last" was said
  pub forward-back : Replied (successor_of b) before a after → (a ≡ last) ⊎ ((n : ℕ) × (a ≡ length_is n) × Returns (predecessor_of (take n after)) b)
  forward-back = round forward backward step_back b S bytes e room

  -- back and then forward returns the code, unless "first" was said
  pub back-forward : Replied (predecessor_of b) before a after → (a ≡ first_of_list) ⊎ ((n : ℕ) × (a ≡ length_is n) × Returns (successor_of (take n after)) b)
  back-forward = round backward forward back_step b S bytes e room

-- R stands just before S in the list of all codes of as many points
pub record Before (R S : System) : Type 0 where
  pub earlier : List System
  pub later : List System
  pub neighbours : codes (weight S) ≡ earlier ++ (R ∷ S ∷ later)

stands-before : (b : List ℕ) (S R : System) → accepted b ≡ done S → step_back_of S ≡ some R → Before R S
stands-before b S R e w =
    let c = within-some (of-reverse-neighbours (codes (weight S)) (rw w at (step_back_of-within S (accepted-canonical b S e).0))) in
    record { earlier = c.0; later = c.1; neighbours = c.2 }

-- What each reply of the predecessor entry says.
module _ (b : List ℕ) {before after : List ℕ} where
  -- a code that was written stands before the given one in the list
  pub predecessor-written : {n : ℕ} → Replied (predecessor_of b) before (length_is n) after
      → (S : System) × (R : System) × (accepted b ≡ done S) × Before R S × (n ≡ length (written R)) × (take n after ≡ written R)
  predecessor-written p =
      let r = result-written (predecessor_of b) p in
      let g = r.1 in
      by_result (accepted b)
      (λ c e. let f = backward.refuses b c e in clash cc)
      (λ S e. by-step backward b S e
      (λ w. let f = backward.stops b S e w in clash cc)
      (λ R w.
      let f = backward.goes b S R e w in
      let l : r.0 ≡ written R = cc in
      (S, R, e, stands-before b S R e w, r.2 ∙ ap length l, r.3 ∙ l)))

  -- "first" is said only of the first code of its count, and leaves the output as it was
  pub first-only : all_below 256 b ≡ true → Replied (predecessor_of b) before first_of_list after
      → (S : System) × (accepted b ≡ done S) × Returns (first_of (weight S)) b × (after ≡ before)
  unfolding first_of
  first-only bytes p =
      by_result (accepted b)
      (λ c e. let q : first_of_list ≡ refused (number_of c) = p.reply ∙ ap (λ o. answered o before) (backward.refuses b c e) in clash cc)
      (λ S e. by-step backward b S e
      (λ w.
      let c = accepted-is b S bytes e in
      let found : first_of (weight S) ≡ gives b = rw (le-ltb 200 (weight S) c.2, step_back_of-first S c.1 w, c.0) in
      (S, e, λ lent left a room q. result-fills b (rw found at q) (omega (arith, ap length c.0, written-fits S c.1 c.2)), p.output ∙ ap (λ o. filled o before) (backward.stops b S e w)))
      (λ R w. absurd (no-first (written R) (ap (λ o. answered o before) (backward.goes b S R e w)) p.reply)))
    where
      no-first : (l : List ℕ) {a : Answer} → a ≡ answered (gives l) before → first_of_list ≡ a → ⊥
      no-first l f q =
          by-test (leb (length l) (length before))
          (λ t. let z : first_of_list ≡ length_is (length l) = q ∙ f ∙ rw t in clash cc)
          (λ t. let z : first_of_list ≡ refused 8 = q ∙ f ∙ rw t in clash cc)

-- and always of that, whatever the output is
module _ (n : ℕ) {lent left : List ℕ} {k : ℕ} (f : Replied (first_of n) lent (length_is k) left) {before after : List ℕ} {a : Answer} where
  pub first-always : Replied (predecessor_of (take k left)) before a after → (a ≡ first_of_list) × (after ≡ before)
  unfolding first_of
  first-always p =
      let r = result-written (first_of n) f in
      by-test (ltb 200 n)
      (λ t. let q : fails Count ≡ gives r.0 = sym (rw t) ∙ r.1 in clash cc)
      (λ t. of (ltb-false 200 n t) (first (codes n)) refl (sym (rw t) ∙ r.1))
    where
      of : n ≤ 200 → (o : Option System) → first (codes n) ≡ o → listed o ≡ gives (result-written (first_of n) f).0 → (a ≡ first_of_list) × (after ≡ before)
      of h none e q = clash cc
      of h (some S) e q =
          let r = result-written (first_of n) f in
          let l : take k left ≡ written S = r.3 ∙ (let z : r.0 ≡ written S = cc in z) in
          let c = codes-sound n S (in_list (sym (first_some (codes n) e).1) in_head) in
          let g : predecessor_of (take k left) ≡ begins =
          ap predecessor_of l ∙ backward.stops (written S) S (written_back S c.0 (omega (arith, c.1))) (first-step_back_of S n e) in
          (p.reply ∙ ap (λ o. answered o before) g, p.output ∙ ap (λ o. filled o before) g)

-- Why a predecessor is refused: the code is refused; else there is too little room for the code before.
pub data PredecessorRefusal (b before : List ℕ) : ℕ → Type 0 where
  no_code : (c : Refusal) → accepted b ≡ fault c → PredecessorRefusal b before (number_of c)
  no_room : (S R : System) → accepted b ≡ done S → Before R S → length before < length (written R) → PredecessorRefusal b before 8

-- A refusal has its reason, and leaves the output as it was.
pub predecessor-refusal : (b : List ℕ) {before after : List ℕ} {c : ℕ} → Replied (predecessor_of b) before (refused c) after
    → PredecessorRefusal b before c × (after ≡ before)
predecessor-refusal b {before} {after} {c} p =
    by_result (accepted b)
    (λ x e.
    let g = backward.refuses b x e in
    let q : refused c ≡ refused (number_of x) = p.reply ∙ ap (λ o. answered o before) g in
    let z : c ≡ number_of x = cc in
    (rw z (no_code x e), p.output ∙ ap (λ o. filled o before) g))
    (λ S e. by-step backward b S e
    (λ w. let q : refused c ≡ first_of_list = p.reply ∙ ap (λ o. answered o before) (backward.stops b S e w) in clash cc)
    (λ R w.
    let g = backward.goes b S R e w in
    let q = p.reply ∙ ap (λ o. answered o before) g in
    let u = p.output ∙ ap (λ o. filled o before) g in
    by-test (leb (length (written R)) (length before))
    (λ t. let v : refused c ≡ length_is (length (written R)) = rw t at q in clash cc)
    (λ t.
    let v : refused c ≡ refused 8 = rw t at q in
    let z : c ≡ 8 = cc in
    (rw z (no_room S R e (stands-before b S R e w) (leb-false (length (written R)) (length before) t)), rw t at u))))
