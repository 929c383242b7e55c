-- What the readers of trees and components answer: the place after what was read, or the cause of the refusal.
use Rattle.std.specs.Prelude.{List, ℕ, ◌+◌, Result as Read, Ok, Err}
use Rattle.patterns.specs.declared.Refusal.{Refusal}
use Rattle.patterns.specs.Tree.{Tree, size}
use Rattle.patterns.specs.Component.{points}
use Rattle.patterns.specs.Reading.{Result, done, fault}

-- a tree read from place `at` on takes as many numbers as it has points
abbrev pub walked : ℕ → Result Tree → Read ℕ Refusal
walked at (done t) = Ok (at + size t)
walked at (fault c) = Err c

-- trees one after another
abbrev pub walked_all : ℕ → Result (List Tree) → Read ℕ Refusal
walked_all at (done ts) = Ok (at + points ts)
walked_all at (fault c) = Err c
