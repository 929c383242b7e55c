-- A piece of the text in a lent buffer.
use Rattle.std.specs.Prelude.{◌≡◌, List, [], ℕ, ◌+◌, ◌≤◌, length}
use Rattle.lister.specs.declared.Step.{Step}
use Rattle.lister.specs.Remaining.{remaining}
use Rattle.lister.specs.Put.{Put}

-- a beginning of the text t fills the first places of a buffer, and all of t where there is room for one more line
pub record Filled (t before : List ℕ) (r : Step) (after : List ℕ) : Type 0 where
  pub put : Put t 0 before r after
  pub whole : length t + 4096 ≤ length before → remaining r.next ≡ []
