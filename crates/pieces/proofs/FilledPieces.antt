-- A buffer is filled line by line: what stands in it, then the text that is to come, is always the whole text.
use mathlib.Core.Path.{◌≡◌, ap, sym, refl, ◌∙◌}
use mathlib.Core.List.{List, [], ◌∷◌, ◌++◌}
use Prim.Native.Nat.{ℕ, ◌+◌, ◌-◌, ◌≤◌, ◌<◌}
use native.Mathlib.Omega.{arith}
use lib.Dec.{ltb}
use lib.ListN.{length, take, length-append}
use lib.Seq.{length-take-le}
use borrow.Author.Tests.{ltb-true, ltb-false}
use Rattle.lists.proofs.Tests.{by-test}
use Rattle.lister.specs.declared.State.{State}
use Rattle.lister.specs.declared.Step.{Step}
use Rattle.lister.specs.Remaining.{remaining}
use Rattle.lister.specs.Good.{Good}
use Rattle.lister.specs.Put.{Put}
use Rattle.pieces.specs.Filled.{Filled}

-- out has t up to at, and next stands for the rest
pub record Filling (t out₀ out : List ℕ) (at : ℕ) (next : State) : Type 0 where
  pub within : at ≤ length out
  pub same : length out ≡ length out₀
  pub good : Good next
  pub text : take at out ++ remaining next ≡ t
  pub begun : at ≡ 0 → 4096 ≤ length out

no_text : (l : List ℕ) → length l ≡ 0 → l ≡ []
no_text [] e = refl
no_text (x ∷ l) e = absurd (omega arith)

-- an empty piece says that nothing was left, and nothing is
pub empty-piece : (t : List ℕ) {before after : List ℕ} (r : Step) → Put t 0 before r after → r.len ≡ 0 → t ≡ []
empty-piece t r p e =
    by-test (ltb 0 (length t))
    (λ z. absurd (omega (arith, p.more (ltb-true 0 (length t) z))))
    (λ z. no_text t (omega (arith, ltb-false 0 (length t) z)))

pub none_left : (t : List ℕ) {before after : List ℕ} (r : Step) → Put t 0 before r after → r.len ≡ 0 → remaining r.next ≡ []
none_left t {before} {after} r p e = ap (λ n. take n after ++ remaining r.next) (sym e) ∙ p.text ∙ empty-piece t r p e

-- after a piece that is not empty less text is left
pub less-left : {t before after : List ℕ} (r : Step) → Put t 0 before r after → 0 < r.len → length (remaining r.next) < length t
less-left {t} {before} {after} r p h =
    omega (arith, ap length p.text, length-append (take r.len after) (remaining r.next), length-take-le r.len after p.within)
