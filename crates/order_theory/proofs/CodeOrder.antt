-- Which of two codes comes first, of their bytes: "before" exactly where successor calls lead from one to the other, a total order, and nothing between a code and
-- its successor.
use mathlib.Core.Path.{◌≡◌, refl, ap, sym, ◌∙◌}
use mathlib.Core.List.{List}
use mathlib.Core.Bool.{true}
use mathlib.Core.Option.{Option, none, some}
use Prim.Native.Nat.{ℕ, zero, suc, Ordering, ◌≤◌}
use native.Mathlib.Omega.{arith}
use lib.ListN.{length}
use Rattle.lists.proofs.Tests.{◌∈◌, either, clash}
use Rattle.lists.proofs.Comparison.{opposite, lt-not-eq}
use Rattle.lists.proofs.Members.{in_head, in_list, in-cons-cases, not-in-nil}
use Rattle.lists.proofs.Permute.{total-one, member-total}
use Rattle.patterns.specs.System.{System, weight, compare_codes}
use Rattle.patterns.specs.Written.{written}
use Rattle.patterns.specs.Reading.{done, fault, accepted}
use Rattle.patterns.specs.Entry.{gives, ends, fails, listed, successor_of}
use Rattle.patterns.specs.Page.{later}
use Rattle.patterns.proofs.Outcomes.{by_result}
use Rattle.system_theory.specs.Step.{step}
use Rattle.system_theory.proofs.Codes.{codes-self, codes-apart}
use Rattle.system_theory.proofs.Step.{step_is, step_keeps, step-least}
use Rattle.system_theory.proofs.Successors.{later-step, later_last}
use Rattle.form_theory.proofs.Bounds.{all_below}
use Rattle.form_theory.proofs.WrittenBack.{written_back, accepted-is, accepted-canonical}
use Rattle.order_theory.specs.ListOrder.{compare_listed, compare_of, Leads, one_call, more_calls}
use Rattle.order_theory.proofs.ListOrder.{listed-self, listed-turned, listed-chain, listed-local, listed-cases, later-greater, listed-equal, listed-lighter}

-- both codes are accepted, and their systems compare so
pub record Compared (a b : List ℕ) (o : Ordering) : Type 0 where
  pub first : System
  pub second : System
  pub first_is : accepted a ≡ done first
  pub second_is : accepted b ≡ done second
  pub order : compare_listed first second ≡ o

pub compared_is : (a b : List ℕ) {o : Ordering} → Compared a b o → compare_of a b ≡ done o
unfolding compare_of
compared_is a b c = rw (c.first_is, c.second_is) (ap done c.order)

pub is-compared : (a b : List ℕ) {o : Ordering} → compare_of a b ≡ done o → Compared a b o
unfolding compare_of
is-compared a b {o} e =
    by_result (accepted a)
    (λ c f. let z : fault c ≡ done o = sym (rw f) ∙ e in clash cc)
    (λ S f.
    by_result (accepted b)
    (λ c g. let z : fault c ≡ done o = sym (rw (f, g)) ∙ e in clash cc)
    (λ R g.
    let z : done (compare_listed S R) ≡ done o = sym (rw (f, g)) ∙ e in
    let order : compare_listed S R ≡ o = cc in
    record { first = S; second = R; first_is = f; second_is = g; order = order }))

-- A total order.
pub order-turned : (a b : List ℕ) {o : Ordering} → compare_of a b ≡ done o → compare_of b a ≡ done (opposite o)
order-turned a b e =
    let c = is-compared a b e in
    compared_is b a (record {
      first = c.second;
      second = c.first;
      first_is = c.second_is;
      second_is = c.first_is;
      order = listed-turned c.first c.second ∙ ap opposite c.order;
    })

pub order-chain : (a b d : List ℕ) → compare_of a b ≡ done Ordering.lt → compare_of b d ≡ done Ordering.lt → compare_of a d ≡ done Ordering.lt
order-chain a b d e f =
    let c = is-compared a b e in
    let g = is-compared b d f in
    let z : done g.first ≡ done c.second = sym g.first_is ∙ c.second_is in
    let middle : g.first ≡ c.second = cc in
    compared_is a d (record {
      first = c.first;
      second = g.second;
      first_is = c.first_is;
      second_is = g.second_is;
      order = listed-chain c.first c.second g.second c.order (ap (λ S. compare_listed S g.second) (sym middle) ∙ g.order);
    })

-- "same" of a code and itself, and of no other bytes
pub order-self : (a : List ℕ) (S : System) → accepted a ≡ done S → compare_of a a ≡ done Ordering.eq
order-self a S e = compared_is a a (record { first = S; second = S; first_is = e; second_is = e; order = listed-self S })

pub order_same : (a b : List ℕ) → all_below 256 a ≡ true → all_below 256 b ≡ true → compare_of a b ≡ done Ordering.eq → a ≡ b
order_same a b h k e =
    let c = is-compared a b e in
    let f = accepted-is a c.first h c.first_is in
    let g = accepted-is b c.second k c.second_is in
    f.0 ∙ ap written (listed-equal c.first c.second f.1 g.1 c.order) ∙ sym g.0

-- what a successor call that writes a code has found
record Stepped (a b : List ℕ) : Type 0 where
  here : System
  following : System
  here_is : accepted a ≡ done here
  steps : step here ≡ some following
  following_is : accepted b ≡ done following

successor-is : (a : List ℕ) (S : System) → accepted a ≡ done S → successor_of a ≡ listed (step S)
unfolding successor_of
successor-is a S e = rw (e, step_is S (accepted-canonical a S e).0)

next-accepted : (a : List ℕ) (S R : System) → accepted a ≡ done S → step S ≡ some R → accepted (written R) ≡ done R
next-accepted a S R e t =
    let c = accepted-canonical a S e in
    let k = step_keeps S R c.0 t in
    written_back R k.0 (omega (arith, c.1, k.1))

-- a step there is, or none
by-step : {P : Type 0} (o : Option System) → (o ≡ none → P) → ((R : System) → o ≡ some R → P) → P
by-step none f g = f refl
by-step (some R) f g = g R refl

stepped : (a b : List ℕ) → successor_of a ≡ gives b → Stepped a b
unfolding successor_of
stepped a b e =
    by_result (accepted a)
    (λ c f. let z : fails c ≡ gives b = sym (rw f) ∙ e in clash cc)
    (λ S f.
    let found : listed (step S) ≡ gives b = sym (successor-is a S f) ∙ e in
    by-step (step S)
    (λ t. let z : ends ≡ gives b = sym (ap listed t) ∙ found in clash cc)
    (λ R t.
    let z : gives (written R) ≡ gives b = sym (ap listed t) ∙ found in
    let y : written R ≡ b = cc in
    record { here = S; following = R; here_is = f; steps = t; following_is = ap accepted (sym y) ∙ next-accepted a S R f t }))

-- a code comes before its successor
step-before : {a b : List ℕ} → Stepped a b → compare_of a b ≡ done Ordering.lt
step-before {a} {b} s =
    let S = s.here in
    let R = s.following in
    let c = (accepted-canonical a S s.here_is).0 in
    let k = step_keeps S R c s.steps in
    let after = in_list (sym (later-step S c R s.steps)) in_head in
    compared_is a b (record {
      first = S;
      second = R;
      first_is = s.here_is;
      second_is = s.following_is;
      order = listed-local S R c k.0 k.1 ∙ later-greater S R c after;
    })

-- For equal counts "before" exactly where one or more successor calls lead from the first to the second.
pub leads-before : {a b : List ℕ} → Leads a b → compare_of a b ≡ done Ordering.lt
leads-before {a} {b} (one_call e) = step-before (stepped a b e)
leads-before {a} {b} (more_calls {b = d} e l) = order-chain a d b (step-before (stepped a d e)) (leads-before l)

-- whatever comes after S is reached; k bounds how much does
leads-later : (k : ℕ) (a : List ℕ) (S R : System) → accepted a ≡ done S → length (later S) ≤ k → R ∈ later S → Leads a (written R)
leads-later zero a S R e h m = absurd (omega (arith, member-total (λ T. 1) m, total-one (later S)))
leads-later (suc k) a S R e h m =
    let c = (accepted-canonical a S e).0 in
    by-step (step S)
    (λ t. not-in-nil (in_list (later_last S c t) m))
    (λ T t.
    let l = later-step S c T t in
    let call : successor_of a ≡ gives (written T) = successor-is a S e ∙ ap listed t in
    either (in-cons-cases (in_list l m))
    (λ q. one_call (call ∙ ap (λ S. gives (written S)) (sym q)))
    (λ i. more_calls call (leads-later k (written T) T R (next-accepted a S T e t) (omega (arith, ap length l)) i)))

-- the order of two systems that the two codes stand for
order-of : (a b : List ℕ) {o : Ordering} {S R : System} → accepted a ≡ done S → accepted b ≡ done R → compare_of a b ≡ done o → compare_listed S R ≡ o
order-of a b {o} {S} {R} e f g =
    let z : done (compare_listed S R) ≡ done o = sym (compared_is a b (record { first = S; second = R; first_is = e; second_is = f; order = refl })) ∙ g in
    cc

pub before-leads : (a b : List ℕ) (S R : System) → all_below 256 b ≡ true → accepted a ≡ done S → accepted b ≡ done R → weight R ≡ weight S
    → compare_of a b ≡ done Ordering.lt → Leads a b
before-leads a b S R h e f w g =
    let c = (accepted-canonical a S e).0 in
    let d = accepted-is b R h f in
    let less : compare_codes S R ≡ Ordering.lt = sym (listed-local S R c d.1 w) ∙ order-of a b e f g in
    either (listed-cases S R c d.1 w)
    (λ l. absurd (codes-apart S R less l))
    (λ k.
    either k
    (λ q. lt-not-eq less (ap (compare_codes S) q ∙ codes-self S))
    (λ m. rw d.0 (leads-later (length (later S)) a S R e (omega arith) m)))

-- "nothing lies between a code and its successor"
pub none_between : (a b e : List ℕ) → successor_of a ≡ gives b → compare_of a e ≡ done Ordering.lt → compare_of e b ≡ done Ordering.lt → ⊥
none_between a b e f g h =
    let s = stepped a b f in
    let S = s.here in
    let R = s.following in
    let c = is-compared a e g in
    let T = c.second in
    let below : compare_listed S T ≡ Ordering.lt = order-of a e s.here_is c.second_is g in
    let above : compare_listed T R ≡ Ordering.lt = order-of e b c.second_is s.following_is h in
    let v = (accepted-canonical a S s.here_is).0 in
    let t = (accepted-canonical e T c.second_is).0 in
    let k = step_keeps S R v s.steps in
    let w : weight T ≡ weight S = omega (arith, listed-lighter S T below, listed-lighter T R above, k.1) in
    let low : compare_codes S T ≡ Ordering.lt = sym (listed-local S T v t w) ∙ below in
    let high : compare_codes T R ≡ Ordering.lt = sym (listed-local T R t k.0 (k.1 ∙ sym w)) ∙ above in
    either (step-least S R T v s.steps t w low)
    (λ q. lt-not-eq high (ap (λ S. compare_codes S R) q ∙ codes-self R))
    (λ l. codes-apart T R high l)
