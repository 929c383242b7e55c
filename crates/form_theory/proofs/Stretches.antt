-- Where the components stand in the written code: one after another behind n and m, each between its two ends.
use mathlib.Core.Path.{◌≡◌, refl, ap, sym, ◌∙◌}
use mathlib.Core.List.{List, [], ◌∷◌, ◌++◌, append_assoc, append-nil}
use Prim.Native.Nat.{ℕ, zero, suc, ◌+◌, ◌≤◌, ◌<◌}
use native.Mathlib.Omega.{arith}
use native.Mathlib.Numerals.{add-one}
use lib.ListN.{length, get_or, take, drop, length-append}
use lib.Seq.{slice, split_at, take_at, take_all, drop_at}
use Rattle.lists.specs.Select.{gather}
use Rattle.lists.proofs.Members.{gather_append}
use Rattle.patterns.specs.Component.{Component, flat}
use Rattle.patterns.specs.System.{System, weight}
use Rattle.patterns.specs.Written.{component_numbers, write_number, bytes, written, stretch_from, stretch_of}
use Rattle.form_theory.proofs.Bounds.{gather-within}
use Rattle.form_theory.proofs.Numbers.{bytes-append, write-length}

-- the bytes of one component
abbrev pub bytes_of_component : Component → List ℕ
bytes_of_component c = bytes (component_numbers c)

first_byte : (c : Component) → 0 < length (bytes_of_component c)
first_byte c = omega (arith, length-append (write_number (length c)) (bytes (flat c)), (write-length (length c)).0)

pub bytes-gather : (S : System) → bytes (gather component_numbers S) ≡ gather bytes_of_component S
bytes-gather [] = refl
bytes-gather (c ∷ S) = bytes-append (component_numbers c) (gather component_numbers S) ∙ ap (bytes_of_component c ++◌) (bytes-gather S)

-- the bytes of n and of m
abbrev pub heading : System → List ℕ
heading S = bytes (weight S ∷ length S ∷ [])

-- the written code: n, m, and the bytes of each component
pub written-parts : (S : System) → written S ≡ heading S ++ gather bytes_of_component S
unfolding written
written-parts S = bytes-append (weight S ∷ length S ∷ []) (gather component_numbers S) ∙ ap (heading S ++◌) (bytes-gather S)

-- A component begins behind the bytes of those before it, and takes as many bytes as are written for it.
from_start : (at : ℕ) (S : System) (i : ℕ) → (stretch_from at S i).0 ≡ at + length (gather bytes_of_component (take i S))
from_start at [] zero = omega arith
from_start at [] (suc i) = omega arith
from_start at (c ∷ S) zero = omega arith
from_start at (c ∷ S) (suc i) =
    omega (arith, from_start (at + length (bytes_of_component c)) S i, length-append (bytes_of_component c) (gather bytes_of_component (take i S)))

from_end : (at : ℕ) (S : System) (i : ℕ) → i < length S → (stretch_from at S i).1 ≡ (stretch_from at S i).0 + length (bytes_of_component (get_or S i []))
from_end at [] i h = absurd (omega arith)
from_end at (c ∷ S) zero h = refl
from_end at (c ∷ S) (suc i) h = from_end (at + length (bytes_of_component c)) S i (omega arith)

from_first : (at : ℕ) (S : System) → (stretch_from at S 0).0 ≡ at
from_first at [] = refl
from_first at (c ∷ S) = refl

from_next : (at : ℕ) (S : System) (i : ℕ) → i < length S → (stretch_from at S (suc i)).0 ≡ (stretch_from at S i).1
from_next at [] i h = absurd (omega arith)
from_next at (c ∷ S) zero h = from_first (at + length (bytes_of_component c)) S
from_next at (c ∷ S) (suc i) h = from_next (at + length (bytes_of_component c)) S i (omega arith)

start-length : (S : System) (i : ℕ) → (stretch_of S i).0 ≡ length (heading S ++ gather bytes_of_component (take i S))
unfolding stretch_of
start-length S i = from_start (length (heading S)) S i ∙ sym (length-append (heading S) (gather bytes_of_component (take i S)))

pub stretch-end : (S : System) (i : ℕ) → i < length S → (stretch_of S i).1 ≡ (stretch_of S i).0 + length (bytes (component_numbers (get_or S i [])))
unfolding stretch_of
stretch-end S i h = from_end (length (heading S)) S i h

module _ (S : System) (i : ℕ) (h : i < length S) where
  -- the bytes before the component at position i, its own, and those after it
  abbrev before : List ℕ
  before = heading S ++ gather bytes_of_component (take i S)

  abbrev own : List ℕ
  own = bytes_of_component (get_or S i [])

  abbrev after : List ℕ
  after = gather bytes_of_component (drop (suc i) S)

  written_at : written S ≡ (before ++ own) ++ after
  written_at =
      written-parts S ∙ ap (λ R. heading S ++ gather bytes_of_component R) (split_at S i [] h)
      ∙ ap (heading S ++◌) (gather_append bytes_of_component (take i S) (get_or S i [] ∷ drop (suc i) S))
      ∙ simp append_assoc

  start_is : (stretch_of S i).0 ≡ length before
  start_is = start-length S i

  end_is : (stretch_of S i).1 ≡ length (before ++ own)
  end_is = omega (arith, stretch-end S i h, start_is, length-append before own)

  -- the bytes between its two ends are those of the component
  pub component-stretch : slice (stretch_of S i).0 (stretch_of S i).1 (written S) ≡ bytes (component_numbers (get_or S i []))
  component-stretch = rw (start_is, end_is, written_at, take_at (before ++ own) after (length (before ++ own)) refl, drop_at before own (length before) refl)

  -- both ends lie within the code, and some byte lies between them
  pub component-ends : ((stretch_of S i).0 < (stretch_of S i).1) × ((stretch_of S i).1 ≤ length (written S))
  component-ends = (
    omega (arith, stretch-end S i h, first_byte (get_or S i [])),
    omega (arith, end_is, ap length written_at, length-append (before ++ own) after),
  )

-- the first component begins after n and m
pub start_first : (S : System) → (stretch_of S 0).0 ≡ length (write_number (weight S)) + length (write_number (length S))
unfolding stretch_of
start_first S =
    let n = write_number (weight S) in
    let m = write_number (length S) in
    omega (arith, from_first (length (heading S)) S, length-append n (m ++ []), ap length (append-nil m))

-- the next one begins where component i ends
pub start-next : (S : System) (i : ℕ) → i < length S → (stretch_of S (i + 1)).0 ≡ (stretch_of S i).1
unfolding stretch_of
start-next S i h = ap (λ j. (stretch_from (length (heading S)) S j).0) (add-one i) ∙ from_next (length (heading S)) S i h

-- behind the last one the code ends
pub start-last : (S : System) (i : ℕ) → length S ≤ i → (stretch_of S i).0 ≡ length (written S)
start-last S i h = start-length S i ∙ ap (λ R. length (heading S ++ gather bytes_of_component R)) (take_all i S h) ∙ ap length (sym (written-parts S))

-- no component begins past its end
pub start-within : (S : System) (i : ℕ) → (stretch_of S i).0 ≤ length (written S)
start-within S i =
    omega (
      arith,
      start-length S i,
      ap length (written-parts S),
      length-append (heading S) (gather bytes_of_component (take i S)),
      length-append (heading S) (gather bytes_of_component S),
      gather-within bytes_of_component i S,
    )
