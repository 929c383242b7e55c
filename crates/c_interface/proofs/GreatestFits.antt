-- The two numbers of a code with the greatest period fit: it has at most 804 bytes, and its period is at most 5,354,228,880.
use mathlib.Core.List.{List}
use Prim.Native.Nat.{ℕ}
use native.Mathlib.Omega.{arith}
use Rattle.patterns.specs.Replies.{GreatestAnswer}
use Rattle.patterns.specs.GreatestPeriod.{GreatestReplied, request_refused, found}
use Rattle.patterns.specs.SignedReplies.{code_length, code_period}
use Rattle.engine.proofs.GreatestPeriodTheorems.{greatest-short, greatest-below}
use Rattle.c_interface.proofs.Fitting.{Fits, refused-fits}

pub greatest-fit : {n : ℕ} {before after : List ℕ} {a : GreatestAnswer} → GreatestReplied n before a after → Fits (code_length a) × Fits (code_period a)
greatest-fit (request_refused {c} e) = (refused-fits c, refused-fits c)
greatest-fit (found e g) =
    let r = found e g in
    (record { sfits = omega (arith, greatest-short r) }, record { sfits = omega (arith, greatest-below r) })
