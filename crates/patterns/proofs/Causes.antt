-- The numbers of the causes: each is at least 1 and below 100, so that a reply that is no cause can be told from all of them.
use Prim.Native.Nat.{◌<◌}
use native.Mathlib.Omega.{arith}
use Rattle.patterns.specs.declared.Refusal.{Refusal}
use Rattle.patterns.specs.declared.Refusal.TheVariants.{Count, Image, Truncated, NumberForm, Sizes, NotCanonical, Trailing, Room, Position, Wanted, TooLarge, Uncounted, TooManyPoints, LineForm, OutDegree}
use Rattle.patterns.specs.Replies.{number_of}

pub cause-number : (c : Refusal) → (0 < number_of c) × (number_of c < 100)
cause-number Count = (omega arith, omega arith)
cause-number Image = (omega arith, omega arith)
cause-number Truncated = (omega arith, omega arith)
cause-number NumberForm = (omega arith, omega arith)
cause-number Sizes = (omega arith, omega arith)
cause-number NotCanonical = (omega arith, omega arith)
cause-number Trailing = (omega arith, omega arith)
cause-number Room = (omega arith, omega arith)
cause-number Position = (omega arith, omega arith)
cause-number Wanted = (omega arith, omega arith)
cause-number TooLarge = (omega arith, omega arith)
cause-number Uncounted = (omega arith, omega arith)
cause-number TooManyPoints = (omega arith, omega arith)
cause-number LineForm = (omega arith, omega arith)
cause-number OutDegree = (omega arith, omega arith)
