-- An isomorphism read off two lists of labels: what is asked of them, and the table that sends each label to the one beside it.
use Rattle.std.specs.Prelude.{◌≡◌, List, ℕ, ◌≤◌, ◌<◌, length}
use Rattle.patterns.specs.Table.{image}
use Rattle.patterns.specs.Replies.{Answer}
use Rattle.patterns.specs.Entry.{Replied, gives}

-- different points of as many, at most 200, and others beside them
pub record Matched (a b : List ℕ) : Type 0 where
  pub beside : length b ≡ length a
  pub small : length a ≤ 200
  pub inside : (j : ℕ) → j < length a → image a j < length a
  pub different : (i j : ℕ) → i < length a → j < length a → image a i ≡ image a j → i ≡ j

-- r sends each point of a to the one beside it
pub record Sends (a b r : List ℕ) : Type 0 where
  pub places : length r ≡ length a
  pub sends : (j : ℕ) → j < length a → image r (image a j) ≡ image b j

-- such a table was put into the lent output
pub record SendsPut (a b before : List ℕ) (answer : Answer) (after : List ℕ) : Type 0 where
  pub table : List ℕ
  pub is : Sends a b table
  pub replied : Replied (gives table) before answer after
