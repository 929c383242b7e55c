-- What the entry asks of two tables once both have passed the checks.
use Rattle.std.specs.Prelude.{◌≡◌, List, ℕ, length}
use Rattle.tables.specs.Tables.{Table}

-- two tables of equally many points
pub record SameLength (f g : List ℕ) : Type 0 where
  pub first : Table f
  pub second : Table g
  pub same : length g ≡ length f
