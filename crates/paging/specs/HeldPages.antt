-- What a page asks of lent slices, and what is left in the output.
use Rattle.std.specs.Prelude.{◌≡◌, List, ◌++◌, ℕ, ◌≤◌, length, drop}
use Rattle.patterns.specs.System.{System}
use Rattle.patterns.specs.Page.{successors, page_bytes}
use Rattle.patterns.specs.Replies.{PageAnswer, page_is}
use Rattle.stepping.specs.HeldSteps.{HeldNext}

-- a system in memory whose next codes are wanted, at most 1,000
pub record HeldPage (sizes : List ℕ) (m : ℕ) (trees : List ℕ) (wanted : ℕ) : Type 0 where
  pub held : HeldNext sizes m trees
  pub few : wanted ≤ 1000

-- and room for all of them
pub record PageRoom (sizes : List ℕ) (m : ℕ) (trees : List ℕ) (wanted : ℕ) (out : List ℕ) : Type 0 where
  pub held : HeldNext sizes m trees
  pub room : length (page_bytes (successors wanted held.system)) ≤ length out

-- the page was written into the first places, and the reply says how many codes and bytes it has
pub record PagePut (page : List System) (before : List ℕ) (answer : PageAnswer) (after : List ℕ) : Type 0 where
  pub reply : answer ≡ page_is (length page) (length (page_bytes page))
  pub output : after ≡ page_bytes page ++ drop (length (page_bytes page)) before
