use Rattle.std.specs.Prelude.{◌≡◌, List, ◌++◌, ℕ, ◌≤◌, ◌<◌, length, take}
use Rattle.lister.specs.declared.Step.{Step}
use Rattle.lister.specs.Remaining.{remaining}
use Rattle.lister.specs.Good.{Good}

-- A beginning of the text t was put into a buffer from `at` on, and the next state stands for the rest of t.
pub record Put (t : List ℕ) (at : ℕ) (before : List ℕ) (r : Step) (after : List ℕ) : Type 0 where
  pub next : Good r.next
  pub from : at ≤ r.len
  pub within : r.len ≤ length after
  -- something is put unless nothing is left
  pub more : 0 < length t → at < r.len
  pub text : take r.len after ++ remaining r.next ≡ take at before ++ t
