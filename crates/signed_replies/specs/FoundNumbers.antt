-- The number of a reply that may find nothing, where "nothing" has the number `none`.
use Rattle.std.specs.Prelude.{ℕ, ℤ, pos, Option, Some, None, Result, Ok, Err}
use Rattle.patterns.specs.declared.Refusal.{Refusal}
use Rattle.patterns.specs.Replies.{refused, number_of}
use Rattle.patterns.specs.SignedReplies.{signed_of}

abbrev pub found_signed : ℤ → Result (Option ℕ) Refusal → ℤ
found_signed none (Ok (Some n)) = pos n
found_signed none (Ok None) = none
found_signed none (Err c) = signed_of (refused (number_of c))
