-- Each number that is told of the part that shows a component fits: its two ends are at most the code's length, and of its rotations there are at most 200.
use mathlib.Core.Path.{◌≡◌, refl, sym, ◌∙◌, ap, subst}
use mathlib.Core.List.{List}
use Prim.Native.Nat.{ℕ, ◌*◌, ◌<◌, ◌^◌}
use native.Mathlib.Omega.{arith}
use lib.IntN.{ℤ}
use lib.ListN.{length, get_or}
use mir.Syntax.{w64}
use mir.Val.{to_z, of_z}
use Rattle.patterns.specs.Reading.{Result, done, fault}
use Rattle.patterns.specs.Replies.{Answer, length_is, refused, PartAnswer, part_is, part_refused}
use Rattle.patterns.specs.Entry.{answer, Part, component_of, part_answered}
use Rattle.patterns.specs.SignedReplies.{signed_of, component_start, component_end, component_turns}
use Rattle.form_theory.proofs.Bounds.{below_at}
use Rattle.form_theory.proofs.ComponentStands.{ComponentAt, stands, stands-within, turns-small}
use Rattle.c_interface.proofs.Fitting.{Fits, read_back, refused-fits}

-- where a part begins, where it ends, and how many of the component's rotations equal it, or the refusal
abbrev pub start_in : PartAnswer → Answer
start_in (part_is start end turns) = length_is start
start_in (part_refused c) = refused c

abbrev pub end_in : PartAnswer → Answer
end_in (part_is start end turns) = length_is end
end_in (part_refused c) = refused c

abbrev pub turns_in : PartAnswer → Answer
turns_in (part_is start end turns) = length_is turns
turns_in (part_refused c) = refused c

module _ (b : List ℕ) (i : ℕ) (bytes : (j : ℕ) → j < length b → get_or b j 0 < 256) (room : length b * 1 < 2 ^ 63) (a : PartAnswer)
    (replied : a ≡ part_answered (component_of b i)) where
  -- one of the three numbers, which the reply shows
  module _ (which : Part → ℕ) (small : (p : Part) → ComponentAt b i p → which p < 2 ^ 63) (shown : PartAnswer → Answer)
      (shows : (o : Result Part) → shown (part_answered o) ≡ answer o (λ part. length_is (which part))) where
    abbrev Found : Answer
    Found = answer (component_of b i) (λ part. length_is (which part))

    found-fits : Fits Found
    found-fits = of (component_of b i) refl
      where
        of : (o : Result Part) → component_of b i ≡ o → Fits (answer o (λ part. length_is (which part)))
        of (done p) e = record { sfits = omega (arith, small p (stands b i p e)) }
        of (fault c) e = refused-fits c

    found : shown a ≡ Found
    found = ap shown replied ∙ shows (component_of b i)

    shown-fits : Fits (shown a)
    shown-fits = subst Fits (sym found) found-fits

    shown-number : {z : ℤ} → z ≡ signed_of (shown a) → to_z w64 (of_z w64 z) ≡ signed_of Found
    shown-number e = read_back (e ∙ ap signed_of found) found-fits

  start_small : (p : Part) → ComponentAt b i p → p.start < 2 ^ 63
  start_small p s = let inside = stands-within (below_at 256 b bytes) s in omega (arith, inside.0, inside.1)

  end-small : (p : Part) → ComponentAt b i p → p.end < 2 ^ 63
  end-small p s = let inside = stands-within (below_at 256 b bytes) s in omega (arith, inside.1)

  few-turns : (p : Part) → ComponentAt b i p → p.turns < 2 ^ 63
  few-turns p s = omega (arith, turns-small s)

  start-shown : (o : Result Part) → start_in (part_answered o) ≡ answer o (λ part. length_is part.start)
  start-shown (done p) = refl
  start-shown (fault c) = refl

  end-shown : (o : Result Part) → end_in (part_answered o) ≡ answer o (λ part. length_is part.end)
  end-shown (done p) = refl
  end-shown (fault c) = refl

  turns-shown : (o : Result Part) → turns_in (part_answered o) ≡ answer o (λ part. length_is part.turns)
  turns-shown (done p) = refl
  turns-shown (fault c) = refl

  -- what each number asks, and what it is
  pub start_fits : Fits (start_in a)
  start_fits = shown-fits (λ p. p.start) start_small start_in start-shown

  pub start_is : {z : ℤ} → z ≡ signed_of (start_in a) → to_z w64 (of_z w64 z) ≡ signed_of (component_start b i)
  start_is = shown-number (λ p. p.start) start_small start_in start-shown

  pub end_fits : Fits (end_in a)
  end_fits = shown-fits (λ p. p.end) end-small end_in end-shown

  pub end_is : {z : ℤ} → z ≡ signed_of (end_in a) → to_z w64 (of_z w64 z) ≡ signed_of (component_end b i)
  end_is = shown-number (λ p. p.end) end-small end_in end-shown

  pub turns-fits : Fits (turns_in a)
  turns-fits = shown-fits (λ p. p.turns) few-turns turns_in turns-shown

  pub turns-is : {z : ℤ} → z ≡ signed_of (turns_in a) → to_z w64 (of_z w64 z) ≡ signed_of (component_turns b i)
  turns-is = shown-number (λ p. p.turns) few-turns turns_in turns-shown
