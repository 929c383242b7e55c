-- How many bytes a page takes: at most 1,000 for each code that is wanted.
use mathlib.Core.Path.{◌≡◌, refl}
use mathlib.Core.Bool.{true}
use mathlib.Core.Option.{Option, none, some}
use Prim.Native.Nat.{ℕ, zero, suc, ◌*◌, ◌≤◌}
use native.Mathlib.Omega.{arith}
use lib.ListN.{length, length-append}
use Rattle.patterns.specs.System.{System, weight, canonical}
use Rattle.patterns.specs.Written.{written}
use Rattle.patterns.specs.Page.{successors, page_bytes}
use Rattle.system_theory.specs.Step.{step}
use Rattle.system_theory.proofs.Step.{step_keeps}
use Rattle.system_theory.proofs.Successors.{successors-step, successors-last, successors-none}
use Rattle.form_theory.proofs.WrittenBack.{written-fits}

pub page-fits : (k : ℕ) (S : System) → canonical S ≡ true → weight S ≤ 200 → length (page_bytes (successors k S)) ≤ 1000 * k
page-fits zero S c h = rw (successors-none S) (omega arith)
page-fits (suc k) S c h = of (step S) refl (λ R d w. page-fits k R d w)
  where
    of : (o : Option System) → step S ≡ o → ((R : System) → canonical R ≡ true → weight R ≤ 200 → length (page_bytes (successors k R)) ≤ 1000 * k)
        → length (page_bytes (successors (suc k) S)) ≤ 1000 * suc k
    of none e more = rw (successors-last S c (suc k) e) (omega arith)
    of (some R) e more =
        let g = step_keeps S R c e in
        let w : weight R ≤ 200 = omega (arith, g.1) in
        rw (successors-step S c k R e)
        (omega (arith, length-append (written R) (page_bytes (successors k R)), written-fits R g.0 w, more R g.0 w))
