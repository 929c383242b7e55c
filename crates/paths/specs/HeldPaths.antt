-- What lent slices hold where paths are written and compared, and that a path stands in a buffer.
use Rattle.std.specs.Prelude.{◌≡◌, true, List, ℕ, ◌≤◌, length, drop}
use Rattle.patterns.specs.Component.{Component, flat, valid_component}
use Rattle.component_theory.specs.Path.{path}

-- a component of 200 points at most, and room for as many keys
pub record HeldKeys (s keys : List ℕ) : Type 0 where
  pub trees : Component
  pub is : s ≡ flat trees
  pub room : length keys ≡ length s
  pub small : length s ≤ 200

-- the same, and a buffer of as many bytes
pub record HeldTrace (s work keys : List ℕ) : Type 0 where
  pub trees : Component
  pub is : s ≡ flat trees
  pub room : length work ≡ length s
  pub key_room : length keys ≡ length s
  pub small : length s ≤ 200

-- two components of 200 points at most, both valid where they have equally many points
pub record HeldPair (s t : List ℕ) : Type 0 where
  pub first : Component
  pub second : Component
  pub first_is : s ≡ flat first
  pub second_is : t ≡ flat second
  pub valid : length s ≡ length t → (valid_component first ≡ true) × (valid_component second ≡ true)
  pub small : (length s ≤ 200) × (length t ≤ 200)

-- the path of c stands in keys from r on
pub record Traced (c : Component) (r : ℕ) (keys : List ℕ) : Type 0 where
  pub within : r ≤ length keys
  pub is : drop r keys ≡ path c
