-- Successor calls made in turn from a code that is accepted: what they write is what comes after it in the list.
use mathlib.Core.Path.{◌≡◌, ap, sym, ◌∙◌}
use mathlib.Core.Logic.{◌⊎◌}
use mathlib.Core.Bool.{true}
use mathlib.Core.List.{List, map}
use Prim.Native.Nat.{ℕ, ◌≤◌, ◌<◌}
use native.Mathlib.Omega.{arith}
use lib.ListN.{length, take, length-take, length-map}
use Rattle.lists.proofs.Tests.{◌∈◌, either}
use Rattle.lists.proofs.Members.{in_list, in_append_right, in_tail}
use Rattle.lists.proofs.Gathering.{take-map}
use Rattle.patterns.specs.System.{System, weight}
use Rattle.patterns.specs.Written.{written}
use Rattle.patterns.specs.Reading.{done, accepted}
use Rattle.patterns.specs.Page.{later, successors}
use Rattle.patterns.specs.Calls.{wrote, Call, Calls, entries, ended, roomy}
use Rattle.form_theory.proofs.WrittenBack.{written-fits, accepted-canonical}
use Rattle.form_theory.proofs.Runs.{run_of, calls-run, run-reaches, run-first}
use Rattle.form_theory.proofs.Calls.{finds-later}
use Rattle.system_theory.proofs.Codes.{codes-sound}
use Rattle.system_theory.proofs.Successors.{list-cut}

-- the next k codes, as they are written
pub successors-written : (k : ℕ) (S : System) → map written (successors k S) ≡ take k (map written (later S))
unfolding successors
successors-written k S = sym (take-map k written (later S))

pub successors-few : (k : ℕ) (S : System) → length (successors k S) ≤ k
unfolding successors
successors-few k S = omega (arith, length-take k (later S))

module _ (b : List ℕ) {S : System} (a : accepted b ≡ done S) where
  -- 1,000 bytes hold each code that follows
  pub later-fits : (R : System) → R ∈ later S → length (written R) ≤ 804
  later-fits R m =
      let k = accepted-canonical b S a in
      let c = list-cut S k.0 in
      let r = codes-sound (weight S) R (in_list (sym c.1) (in_append_right c.0 (in_tail m))) in
      written-fits R r.0 (omega (arith, r.1))

  module _ (n : ℕ) {buffers : List (List ℕ)} {calls : List Call} (made : Calls n (wrote b) buffers calls) where
    the-turns : calls ≡ run_of (later S) buffers
    the-turns = calls-run made (finds-later n b S a)

    module _ (k : ℕ) (room : k ≤ roomy buffers) where
      -- with k buffers of 1,000 bytes k codes are written, or "last" is said
      reached : (k ≤ length (entries calls)) ⊎ (ended calls ≡ true)
      reached = rw the-turns (run-reaches k (later S) buffers (λ R m. let f = later-fits R m in omega arith) room)

      -- the first k that are written are the next k codes
      pub turns-first : map written (successors k S) ≡ take k (entries calls)
      turns-first =
          let h : (k ≤ length (entries (run_of (later S) buffers))) ⊎ (ended (run_of (later S) buffers) ≡ true) = rw the-turns at reached in
          successors-written k S ∙ run-first k (later S) buffers h ∙ ap (λ c. take k (entries c)) (sym the-turns)

      -- and where there are fewer than k, "last" is said
      pub turns-last : length (successors k S) < k → ended calls ≡ true
      turns-last h =
          either reached
          (λ i. absurd (omega (arith, ap length turns-first, length-map (successors k S) written, length-take k (entries calls))))
          (λ i. i)
