-- Calls that have the same reply, calls that are refused, and what a reply of "accept" says of the system.
use mathlib.Core.Path.{◌≡◌, ap, sym, ◌∙◌}
use mathlib.Core.List.{List}
use Prim.Native.Nat.{ℕ}
use Rattle.lists.proofs.Tests.{clash}
use Rattle.patterns.specs.declared.Refusal.{Refusal}
use Rattle.patterns.specs.System.{System, weight}
use Rattle.patterns.specs.Reading.{done, accepted}
use Rattle.patterns.specs.Replies.{Answer, length_is, refused, number_of}
use Rattle.patterns.specs.Entry.{Outcome, fails, answered, filled, Replied, accept_of}
use Rattle.patterns.proofs.Outcomes.{by_result}

-- a call that finds o and one that finds p, over the same output, have the same reply and leave the same in the output
abbrev pub SameReplies : Outcome ℕ → Outcome ℕ → Type 0
SameReplies o p = (before after after' : List ℕ) (x y : Answer) → Replied o before x after → Replied p before y after' → (x ≡ y) × (after ≡ after')

-- every call that finds o is refused with c, and leaves the output as it was
abbrev pub Refuses : Outcome ℕ → ℕ → Type 0
Refuses o c = (before after : List ℕ) (x : Answer) → Replied o before x after → (x ≡ refused c) × (after ≡ before)

pub same-replies : {o p : Outcome ℕ} → o ≡ p → SameReplies o p
same-replies e before after after' x y q r = (
  q.reply ∙ ap (λ o. answered o before) e ∙ sym r.reply,
  q.output ∙ ap (λ o. filled o before) e ∙ sym r.output,
)

pub fails-refuses : {o : Outcome ℕ} (c : Refusal) → o ≡ fails c → Refuses o (number_of c)
fails-refuses c e before after x r = (r.reply ∙ ap (λ o. answered o before) e, r.output ∙ ap (λ o. filled o before) e)

-- what the reply of "accept" says
pub accept-system : (a : List ℕ) {n : ℕ} → accept_of a ≡ length_is n → (S : System) × (accepted a ≡ done S) × (weight S ≡ n)
unfolding accept_of
accept-system a {n} p =
    by_result (accepted a)
    (λ c e. let z : refused (number_of c) ≡ length_is n = sym (rw e) ∙ p in clash cc)
    (λ S e.
    let z : length_is (weight S) ≡ length_is n = sym (rw e) ∙ p in
    let w : weight S ≡ n = cc in
    (S, e, w))
