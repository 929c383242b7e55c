-- The pieces that the program hands to its output.
use Rattle.std.specs.Prelude.{◌≡◌, List, [], ◌∷◌, ◌++◌, ℕ, ◌+◌, ◌≤◌, ◌<◌, length, take}
use Rattle.lister.specs.declared.State.{State}
use Rattle.lister.specs.declared.Step.{Step}
use Rattle.lister.specs.Remaining.{remaining}
use Rattle.lister.specs.Put.{Put}

-- a beginning of the text t fills the first r places of a buffer, and all of t where there is room for one more line; a buffer with less room than a line
-- may need is left as it was
pub record FirstPiece (t before : List ℕ) (r : ℕ) (after : List ℕ) : Type 0 where
  pub rest : List ℕ
  pub text : take r after ++ rest ≡ t
  pub within : r ≤ length after
  pub short : length before < 4096 → (r ≡ 0) × (after ≡ before)
  pub whole : length t + 4096 ≤ length before → take r after ≡ t

-- Pieces s pieces: from state s on, these pieces are handed to the output, one after another. Of a call of `piece` nothing is known but what it promises.
pub data Pieces : State → List (List ℕ) → Type 0 where
  -- an empty piece is the end
  ended : {s : State} (r : Step) (before after : List ℕ) → Put (remaining s) 0 before r after → r.len ≡ 0 → Pieces s []
  handed : {s : State} {pieces : List (List ℕ)} (r : Step) (before after : List ℕ) → Put (remaining s) 0 before r after
      → Pieces r.next pieces → Pieces s (take r.len after ∷ pieces)
