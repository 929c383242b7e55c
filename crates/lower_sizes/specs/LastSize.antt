-- What the functions of this crate ask of sizes in memory.
use Rattle.std.specs.Prelude.{◌≡◌, List, ℕ, ◌+◌, ◌<◌, get_or}
use Rattle.lists.specs.Select.{left_of}
use Rattle.size_lists.specs.SizesHeld.{SizesIn}

-- the places up to i hold sizes, the last of them is `last`, and a half of it is less than the number to its left (1 to the left of the first)
pub record LastWhole (sizes : List ℕ) (i last : ℕ) : Type 0 where
  pub held : SizesIn sizes (i + 1)
  pub is : last ≡ get_or sizes i 0
  pub whole : last < left_of 0 1 sizes i + left_of 0 1 sizes i
