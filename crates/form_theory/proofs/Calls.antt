-- Any list of calls writes the list of codes from its first on, or from where it begins.
use mathlib.Core.Path.{◌≡◌, refl, ap, sym, ◌∙◌}
use mathlib.Core.Bool.{true}
use mathlib.Core.List.{List, [], ◌∷◌, ◌++◌, map, append_assoc, append-nil}
use Prim.Native.Nat.{ℕ, ◌≤◌, ◌<◌}
use native.Mathlib.Omega.{arith}
use lib.ListN.{length, length-map}
use borrow.Author.Tests.{le-ltb}
use Rattle.lists.specs.Select.{first}
use Rattle.lists.proofs.Tests.{◌∈◌}
use Rattle.lists.proofs.Members.{NoDup, lawful-decides, in_head, in_list, in_moved, in-middle, in_append_left, nodup-left, nodup-map, nodup_middle, nodup-apart, in_map, of_map}
use Rattle.lists.proofs.Places.{in_split, next-split}
use Rattle.lists.proofs.Pigeon.{inside-length}
use Rattle.patterns.specs.System.{System, weight, canonical, codes}
use Rattle.patterns.specs.Written.{written}
use Rattle.patterns.specs.Reading.{done, accepted}
use Rattle.patterns.specs.Entry.{listed, first_of, successor_of}
use Rattle.patterns.specs.Page.{later}
use Rattle.patterns.proofs.Trees.{compare_system-lawful}
use Rattle.patterns.specs.Calls.{State, fresh, wrote, step_of, Call, refusal, Calls, entries, ended, roomy, Once, Map, code_of, Isomorphic, Enumeration}
use Rattle.form_theory.proofs.WrittenBack.{written_back, written-fits, written-equal, accepted-canonical}
use Rattle.form_theory.proofs.Runs.{Finds, at_end, at_code, run_of, calls-run, run-order, run-refusals, run_ends}
use Rattle.system_theory.proofs.Codes.{codes-sound, codes-complete, codes-different}
use Rattle.system_theory.proofs.Successors.{list-cut}

-- In state s the codes of r are still to come, of the list of n points. Once a code is written, the count m that "first code" was asked for is of no account.
record Left (m n : ℕ) (s : State) (r : List System) : Type 0 where
  earlier : List System
  cut : codes n ≡ earlier ++ r
  step : step_of m s ≡ listed (first r)

-- at the start all codes are
left-first : (n : ℕ) → n ≤ 200 → Left n n fresh (codes n)
unfolding first_of
left-first n h = record { earlier = []; cut = refl; step = rw (le-ltb 200 n h) }

-- once bytes are written that are accepted as S, what comes after S is
left_after : (m : ℕ) {n : ℕ} {b : List ℕ} {S : System} → accepted b ≡ done S → weight S ≡ n → (a r : List System) → codes n ≡ a ++ (S ∷ r) → Left m n (wrote b) r
unfolding successor_of
left_after m {n} {b} {S} e w a r cut =
    record {
      earlier = a ++ (S ∷ []);
      cut = cut ∙ sym (append_assoc a (S ∷ []) r);
      step =
          rw (e, w, cut)
          (ap listed (next-split (lawful-decides compare_system-lawful) a S r (λ m. nodup-apart a (rw cut at (codes-different n)) m in_head)));
    }

left-next : {m n : ℕ} {s : State} {S : System} {r : List System} → n ≤ 200 → Left m n s (S ∷ r) → Left m n (wrote (written S)) r
left-next {m} {n} {s} {S} {r} h l =
    let k = codes-sound n S (in_list (sym l.cut) (in-middle l.earlier r)) in
    left_after m (written_back S k.0 (omega arith)) k.1 l.earlier r l.cut

-- the calls find all of them
finds-left : {m n : ℕ} → n ≤ 200 → (r : List System) {s : State} → Left m n s r → Finds (step_of m) s r
finds-left h [] l = at_end l.step
finds-left h (S ∷ r) l = at_code l.step (finds-left h r (left-next h l))

-- From the first code on the calls find the whole list, and from a code that is accepted all that comes after it.
pub finds-codes : (n : ℕ) → n ≤ 200 → Finds (step_of n) fresh (codes n)
finds-codes n h = finds-left h (codes n) (left-first n h)

pub finds-later : (m : ℕ) (b : List ℕ) (S : System) → accepted b ≡ done S → Finds (step_of m) (wrote b) (later S)
finds-later m b S e =
    let k = accepted-canonical b S e in
    let c = list-cut S k.0 in
    finds-left k.1 (later S) (left_after m e refl c.0 (later S) c.1)

module _ {n : ℕ} (small : n ≤ 200) where
  code-facts : (S : System) → S ∈ codes n → (canonical S ≡ true) × (weight S ≡ n) × (weight S ≤ 200)
  code-facts S m = let k = codes-sound n S m in (k.0, k.1, omega arith)

  codes-fit : (S : System) → S ∈ codes n → length (written S) ≤ 804
  codes-fit S m = let k = code-facts S m in written-fits S k.0 k.2

  -- the written codes of n points are different
  pub written-different : NoDup (map written (codes n))
  written-different =
      nodup-map written (λ S R i j e.
      let k = code-facts S i in
      let m = code-facts R j in
      written-equal S R k.0 m.0 k.2 m.2 e) (codes-different n)

  module _ {buffers : List (List ℕ)} {calls : List Call} (made : Calls n fresh buffers calls) where
    the-run : calls ≡ run_of (codes n) buffers
    the-run = calls-run made (finds-codes n small)

    -- a list of buffers allows no other calls
    pub calls-unique : {others : List Call} → Calls n fresh buffers others → calls ≡ others
    calls-unique other = the-run ∙ sym (calls-run other (finds-codes n small))

    -- the entries are a beginning of the list of codes, all of it where a call said "last"
    pub calls-in-order : (later : List (List ℕ)) × (map written (codes n) ≡ entries calls ++ later) × (ended calls ≡ true → later ≡ [])
    calls-in-order = rw the-run (run-order (codes n) buffers)

    pub calls-different : NoDup (entries calls)
    calls-different = let o = calls-in-order in nodup-left (entries calls) o.0 (rw o.1 at written-different)

    -- a refused call has cause 8 and a buffer of fewer than 804 bytes
    pub calls-refusals : (c : ℕ) (b : List ℕ) → refusal c b ∈ calls → (c ≡ 8) × (length b < 804)
    calls-refusals c b m = run-refusals 804 (codes n) buffers codes-fit c b (rw the-run at m)

    -- enough buffers with room bring the calls to "last"
    pub calls-end : length (codes n) < roomy buffers → ended calls ≡ true
    calls-end h = rw the-run (run_ends (codes n) buffers (λ S m. let g = codes-fit S m in omega arith) h)

-- Demand 3: from what is known of maps and codes, any list of calls is an enumeration.
module _ {n : ℕ} (small : n ≤ 200)
    (map-code : (f : Map n) → (S : System) × (canonical S ≡ true) × (weight S ≡ n) × (code_of f ≡ written S))
    (code_map : (S : System) → canonical S ≡ true → weight S ≡ n → (f : Map n) × (code_of f ≡ written S))
    (one_code : (f g : Map n) → Isomorphic f g → code_of f ≡ code_of g)
    (same_code : (f g : Map n) → code_of f ≡ code_of g → Isomorphic f g)
    {buffers : List (List ℕ)} {calls : List Call} (made : Calls n fresh buffers calls) where
  -- every written code is a map's, and every map's code is in the list
  written-map : (b : List ℕ) → b ∈ map written (codes n) → (f : Map n) × (code_of f ≡ b)
  written-map b m =
      let r = of_map written (codes n) m in
      let k = codes-sound n r.0 r.1 in
      let f = code_map r.0 k.0 k.1 in
      (f.0, f.1 ∙ sym r.2)

  map-written : (f : Map n) → code_of f ∈ map written (codes n)
  map-written f =
      let k = map-code f in
      in_moved (sym k.3) (in_map written (in_list (ap codes k.2) (codes-complete k.0 k.1)))

  once-of : (b : List ℕ) (l : List (List ℕ)) → NoDup l → b ∈ l → Once b l
  once-of b l d m = let s = in_split m in record { before = s.0; after = s.1; cut = s.2; nowhere_else = nodup_middle s.0 s.1 (rw s.2 at d) }

  pub enumeration : Enumeration n buffers calls
  enumeration =
      let o = calls-in-order small made in
      let whole = o.2 in
      record {
        entry_map = λ b m. written-map b (in_list (sym o.1) (in_append_left o.0 m));
        different = calls-different small made;
        complete = λ e f. once-of (code_of f) (entries calls) (calls-different small made)
            (in_list (o.1 ∙ ap (entries calls ++◌) (whole e) ∙ append-nil (entries calls)) (map-written f));
        one_code = one_code;
        isomorphic = same_code;
        refusals = λ c b m. let r = calls-refusals small made c b m in (r.0, omega arith);
        enough = λ D h k.
            let i = inside-length {m = D} (written-different small) (λ b m. let f = written-map b m in in_moved f.1 (h f.0)) in
            calls-end small made (omega (arith, length-map (codes n) written));
        later = o.0;
        in_order = o.1;
        whole = whole;
      }
