-- The states that the program goes through.
use Rattle.std.specs.Prelude.{◌≡◌, List, ◌∷◌, ◌++◌, ℕ, suc, ◌+◌, ◌≤◌, length, take}
use Rattle.patterns.specs.System.{System, codes}
use Rattle.patterns.specs.Written.{written}
use Rattle.lister.specs.declared.Phase.{Phase}
use Rattle.lister.specs.declared.Phase.TheVariants.{Bad, Header, Line, Total, Done}
use Rattle.lister.specs.declared.State.{State}

-- b is the written code at position p, counted from 1, of the list of some n points
pub record Coming (p : ℕ) (b : List ℕ) : Type 0 where
  pub n : ℕ
  pub small : n ≤ 14
  pub earlier : List System
  pub now : System
  pub later : List System
  pub cut : codes n ≡ earlier ++ (now ∷ later)
  pub place : p ≡ suc (length earlier)
  pub bytes : b ≡ written now

abbrev pub GoodAt : Phase → ℕ → List ℕ → Type 0
GoodAt Bad len code = Unit {0}
GoodAt (Header n) len code = n ≤ 14
GoodAt (Line p) len code = (len ≤ 1000) × Coming (p + 1) (take len code)
GoodAt (Total p) len code = Unit {0}
GoodAt Done len code = Unit {0}

pub record Good (s : State) : Type 0 where
  pub good : GoodAt s.phase s.len s.code
