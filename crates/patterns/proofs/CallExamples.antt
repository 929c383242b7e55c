-- Lists of calls, computed: what calls with short, fitting and spare buffers did, and what is read off it.
use mathlib.Core.Path.{◌≡◌, refl}
use mathlib.Core.Bool.{true, false}
use mathlib.Core.List.{List, [], ◌∷◌}
use lib.ListN.{replicate}
use Rattle.patterns.specs.declared.Refusal.TheVariants.{Count}
use Rattle.patterns.specs.Entry.{gives, ends, begins, lacks, fails, first_of, successor_of}
use Rattle.patterns.specs.Calls.{fresh, wrote, Call, entry, said_last, said_first, said_none, refusal, CallsBy, no_buffer, writes, says_last, says_first, says_none, refuses, Calls, entries, ended, roomy, result}

-- the list of one point has one code; after "last" no call is made
pub calls-of-one-point :
    Calls 1 fresh ((7 ∷ []) ∷ (7 ∷ 7 ∷ 7 ∷ 7 ∷ 9 ∷ []) ∷ (8 ∷ []) ∷ (5 ∷ []) ∷ [])
    (refusal 8 (7 ∷ []) ∷ entry (1 ∷ 1 ∷ 1 ∷ 1 ∷ []) ∷ said_last ∷ [])
unfolding first_of successor_of
calls-of-one-point =
    refuses 8 (7 ∷ []) (record { reply = refl; output = refl })
    (writes 4 (1 ∷ 1 ∷ 1 ∷ 1 ∷ 9 ∷ []) (record { reply = refl; output = refl })
    (says_last (8 ∷ []) (record { reply = refl; output = refl })))

-- from a code on, whatever count "first code" was asked for
pub calls-from-a-code :
    Calls 7 (wrote (3 ∷ 1 ∷ 1 ∷ 3 ∷ 1 ∷ 1 ∷ [])) ((9 ∷ 9 ∷ 9 ∷ 9 ∷ 9 ∷ 9 ∷ []) ∷ []) (entry (3 ∷ 1 ∷ 2 ∷ 1 ∷ 2 ∷ 1 ∷ []) ∷ [])
unfolding successor_of
calls-from-a-code = writes 6 (3 ∷ 1 ∷ 2 ∷ 1 ∷ 2 ∷ 1 ∷ []) (record { reply = refl; output = refl }) no_buffer

-- a step that finds none
pub calls-with-none : CallsBy (λ s. lacks) fresh ((7 ∷ []) ∷ (8 ∷ []) ∷ []) (said_none ∷ [])
calls-with-none = says_none (7 ∷ []) (record { reply = refl; output = refl })

-- a step that finds the beginning of the list
pub calls-with-first : CallsBy (λ s. begins) fresh ((7 ∷ []) ∷ (8 ∷ []) ∷ []) (said_first ∷ [])
calls-with-first = says_first (7 ∷ []) (record { reply = refl; output = refl })

-- the codes written, in order; whether some call said "last"; which buffers are long enough for any code
abbrev some_calls : Call → List Call
some_calls end = entry (1 ∷ []) ∷ end ∷ refusal 8 [] ∷ entry (2 ∷ []) ∷ []

pub read_off :
    (entries (some_calls said_last) ≡ (1 ∷ []) ∷ (2 ∷ []) ∷ [])
    × (entries (some_calls said_none) ≡ (1 ∷ []) ∷ (2 ∷ []) ∷ [])
    × (entries (some_calls said_first) ≡ (1 ∷ []) ∷ (2 ∷ []) ∷ [])
    × (ended (some_calls said_last) ≡ true)
    × (ended (some_calls said_first) ≡ false)
    × (ended (said_first ∷ said_last ∷ []) ≡ true)
    × (ended (some_calls said_none) ≡ false)
    × (ended (said_none ∷ said_last ∷ []) ≡ true)
    × (ended (some_calls (refusal 8 [])) ≡ false)
    × (roomy (replicate 1000 7 ∷ replicate 999 7 ∷ replicate 1001 7 ∷ []) ≡ 2)
read_off = (refl, refl, refl, refl, refl, refl, refl, refl, refl, refl)

-- what is written where there is room: a result, and without one nothing
pub results :
    (result (gives (1 ∷ 2 ∷ [])) ≡ 1 ∷ 2 ∷ [])
    × (result ends ≡ [])
    × (result begins ≡ [])
    × (result lacks ≡ [])
    × (result (fails Count) ≡ [])
results = (refl, refl, refl, refl, refl)
