-- The list of codes as it is made by calls of "first code" and "successor" over a list of lent buffers: document 01, "Order of the whole list",
-- second paragraph.
use Rattle.std.specs.Prelude.{◌≡◌, Bool, true, false, List, [], ◌∷◌, ◌++◌, map, ℕ, ◌<◌, leb, length, take}
use Rattle.lists.specs.Select.{keep}
use Rattle.lists.specs.Members.{◌∈◌, NoDup}
use Rattle.patterns.specs.System.{codes}
use Rattle.patterns.specs.Written.{written}
use Rattle.patterns.specs.Table.{is_table}
use Rattle.patterns.specs.Isomorphism.{Isomorphism}
use Rattle.patterns.specs.Replies.{length_is, last, first_of_list, lacking, refused}
use Rattle.patterns.specs.Entry.{Outcome, gives, ends, begins, lacks, fails, Replied, first_of, successor_of, code_of_map}

-- no code is written yet, or the bytes of the code written last
pub data State : Type 0 where
  fresh : State
  wrote : List ℕ → State

-- what the next call finds: "first code" for n until a code is written, and from then on "successor" of exactly that code's bytes
abbrev pub step_of : ℕ → State → Outcome ℕ
step_of n fresh = first_of n
step_of n (wrote code) = successor_of code

-- what one call did: it wrote these bytes, it said "last", "first" or "none", or it was refused with this cause and this lent buffer
pub data Call : Type 0 where
  entry : List ℕ → Call
  said_last : Call
  said_first : Call
  said_none : Call
  refusal : ℕ → List ℕ → Call

-- CallsBy step s buffers calls: from state s on, with these buffers, one for each call, the calls did this, where `step` is what the next call finds. Of a call
-- nothing is known but what its entry promises: `Replied` of the outcome, the buffer before it, the answer and the buffer after it. There is a case for every
-- answer: a code is written and the next call is about that code; after "last", "first" or "none" no call is made; after a refusal the same is called with the next buffer.
pub data CallsBy (step : State → Outcome ℕ) : State → List (List ℕ) → List Call → Type 0 where
  no_buffer : {s : State} → CallsBy step s [] []
  writes : {s : State} {before : List ℕ} {rest : List (List ℕ)} {calls : List Call} (k : ℕ) (after : List ℕ)
      → Replied (step s) before (length_is k) after
      → CallsBy step (wrote (take k after)) rest calls → CallsBy step s (before ∷ rest) (entry (take k after) ∷ calls)
  says_last : {s : State} {before : List ℕ} {rest : List (List ℕ)} (after : List ℕ)
      → Replied (step s) before last after → CallsBy step s (before ∷ rest) (said_last ∷ [])
  says_first : {s : State} {before : List ℕ} {rest : List (List ℕ)} (after : List ℕ)
      → Replied (step s) before first_of_list after → CallsBy step s (before ∷ rest) (said_first ∷ [])
  says_none : {s : State} {before : List ℕ} {rest : List (List ℕ)} (after : List ℕ)
      → Replied (step s) before lacking after → CallsBy step s (before ∷ rest) (said_none ∷ [])
  refuses : {s : State} {before : List ℕ} {rest : List (List ℕ)} {calls : List Call} (c : ℕ) (after : List ℕ)
      → Replied (step s) before (refused c) after
      → CallsBy step s rest calls → CallsBy step s (before ∷ rest) (refusal c before ∷ calls)

-- calls of "first code" and "successor"
abbrev pub Calls : ℕ → State → List (List ℕ) → List Call → Type 0
Calls n = CallsBy (step_of n)

-- the codes written, in order, each as often as it was written
abbrev pub entries : List Call → List (List ℕ)
entries [] = []
entries (entry b ∷ calls) = b ∷ entries calls
entries (said_last ∷ calls) = entries calls
entries (said_first ∷ calls) = entries calls
entries (said_none ∷ calls) = entries calls
entries (refusal c b ∷ calls) = entries calls

-- some call said "last"
abbrev pub ended : List Call → Bool
ended [] = false
ended (entry b ∷ calls) = ended calls
ended (said_last ∷ calls) = true
ended (said_first ∷ calls) = ended calls
ended (said_none ∷ calls) = ended calls
ended (refusal c b ∷ calls) = ended calls

-- how many of the buffers have at least 1,000 bytes
abbrev pub roomy : List (List ℕ) → ℕ
roomy buffers = length (keep (λ b. leb 1000 (length b)) buffers)

-- x stands in l exactly once
pub record Once {A : Type 0} (x : A) (l : List A) : Type 0 where
  pub before : List A
  pub after : List A
  pub cut : l ≡ before ++ (x ∷ after)
  pub nowhere_else : x ∈ (before ++ after) → ⊥

-- a map of n points: a table of n bytes, each a point
pub record Map (n : ℕ) : Type 0 where
  pub table : List ℕ
  pub points : length table ≡ n
  pub inside : is_table table ≡ true

-- what an entry writes where the lent buffer has room for it
abbrev pub result : Outcome ℕ → List ℕ
result (gives l) = l
result ends = []
result begins = []
result lacks = []
result (fails c) = []

-- the bytes that the entry "code of a map" writes for a map, given room for them
abbrev pub code_of : {n : ℕ} → Map n → List ℕ
code_of f = result (code_of_map f.table)

-- there is an isomorphism from f to g [document 01: renaming]
abbrev pub Isomorphic : {n : ℕ} → Map n → Map n → Type 0
Isomorphic {n} f g = (r : List ℕ) × Isomorphism n f.table g.table r

-- Demand 3, as one claim about a whole list of calls.
pub record Enumeration (n : ℕ) (buffers : List (List ℕ)) (calls : List Call) : Type 0 where
  -- every entry stands for a map
  pub entry_map : (b : List ℕ) → b ∈ entries calls → (f : Map n) × (code_of f ≡ b)
  -- no two entries are equal
  pub different : NoDup (entries calls)
  -- where a call said "last", every map's code is an entry, exactly once
  pub complete : ended calls ≡ true → (f : Map n) → Once (code_of f) (entries calls)
  -- two maps have one code exactly if one is a renaming of the other
  pub one_code : (f g : Map n) → Isomorphic f g → code_of f ≡ code_of g
  pub isomorphic : (f g : Map n) → code_of f ≡ code_of g → Isomorphic f g
  -- a refused call had cause 8 and a buffer of fewer than 1,000 bytes
  pub refusals : (c : ℕ) (b : List ℕ) → refusal c b ∈ calls → (c ≡ 8) × (length b < 1000)
  -- if more buffers have at least 1,000 bytes than the maps have different codes, a call says "last"
  pub enough : (D : List (List ℕ)) → ((f : Map n) → code_of f ∈ D) → length D < roomy buffers → ended calls ≡ true
  -- the entries are the list of all codes of n points from its first on, and all of it where a call said "last"
  pub later : List (List ℕ)
  pub in_order : map written (codes n) ≡ entries calls ++ later
  pub whole : ended calls ≡ true → later ≡ []
