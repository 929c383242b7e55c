-- Cutting in one pass, computed: what is known after each byte, and at the end.
use mathlib.Core.Path.{◌≡◌, refl}
use mathlib.Core.List.{[], ◌∷◌}
use Rattle.patterns.specs.declared.Refusal.TheVariants.{Truncated, NumberForm}
use Rattle.patterns.specs.Reading.{done, fault}
use Rattle.patterns.specs.OnePass.{whole, begun, broken, cut_step, going, stopped, scan, scan_end}

-- a first byte, below 128 and not, whatever the number so far
pub first-bytes :
    (cut_step 0 0 9 ≡ whole 0) × (cut_step 127 0 9 ≡ whole 127) × (cut_step 128 0 9 ≡ begun 0) × (cut_step 255 0 9 ≡ begun 127)
first-bytes = (refl, refl, refl, refl)

-- a second byte: 0 and 128 are refused, and what lies between is added, times 128, to the number so far
pub second-bytes :
    (cut_step 0 1 72 ≡ broken NumberForm) × (cut_step 1 1 72 ≡ whole 200) × (cut_step 127 1 127 ≡ whole 16383) × (cut_step 128 1 72 ≡ broken NumberForm)
second-bytes = (refl, refl, refl, refl)

-- 5 and 200, byte by byte
pub byte-by-byte :
    (scan [] ≡ going [] 0 0)
    × (scan (5 ∷ []) ≡ going (5 ∷ []) 0 0)
    × (scan (5 ∷ 200 ∷ []) ≡ going (5 ∷ []) 1 72)
    × (scan (5 ∷ 200 ∷ 1 ∷ []) ≡ going (5 ∷ 200 ∷ []) 0 0)
    × (scan (5 ∷ 200 ∷ 1 ∷ 7 ∷ []) ≡ going (5 ∷ 200 ∷ 7 ∷ []) 0 0)
byte-by-byte = (refl, refl, refl, refl, refl)

-- at the end: all numbers, a number that is open, a fault that no later byte mends
pub ends :
    (scan_end (scan (5 ∷ 200 ∷ 1 ∷ 7 ∷ [])) ≡ done (5 ∷ 200 ∷ 7 ∷ []))
    × (scan_end (scan (5 ∷ 200 ∷ [])) ≡ fault Truncated)
    × (scan (5 ∷ 200 ∷ 0 ∷ 1 ∷ []) ≡ stopped NumberForm)
    × (scan_end (scan (5 ∷ 200 ∷ 0 ∷ 200 ∷ [])) ≡ fault NumberForm)
ends = (refl, refl, refl, refl)
