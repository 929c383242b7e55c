-- What follows from the promises of the two digraph6 entries, as document 02, paper 10, asks for it: a line that is written shows the map of its code, a code taken out
-- and read in is the same code, a line read in and taken out is that of a renamed graph, every graph has one line, and each way is refused for its own causes alone.
use mathlib.Core.Path.{◌≡◌, refl, ap, sym, ◌∙◌, subst}
use mathlib.Core.Bool.{true}
use mathlib.Core.List.{List}
use Prim.Native.Nat.{ℕ, ◌+◌, ◌≤◌, ◌<◌}
use native.Mathlib.Omega.{arith}
use lib.Dec.{leb}
use lib.ListN.{length}
use borrow.Author.Tests.{lt-leb}
use Rattle.lists.proofs.Tests.{by-test, clash}
use Rattle.patterns.specs.declared.Refusal.{Refusal}
use Rattle.patterns.specs.declared.Refusal.TheVariants.{OutDegree}
use Rattle.patterns.specs.System.{System, weight}
use Rattle.patterns.specs.Written.{written}
use Rattle.patterns.specs.Reading.{done, fault, accepted}
use Rattle.patterns.specs.Table.{system_of_table}
use Rattle.patterns.specs.MapOf.{map_of}
use Rattle.patterns.specs.Isomorphism.{Isomorphism}
use Rattle.patterns.specs.Replies.{Answer, length_is, refused, number_of}
use Rattle.patterns.specs.Entry.{gives, Replied, accept_of, code_of_map, map_of_code}
use Rattle.patterns.specs.Digraph6.{size_field, body_length, digraph6, read_line, digraph6_of_code, code_of_digraph6}
use Rattle.patterns.proofs.Outcomes.{outcome-gives, by_result, code_gives, result-fills}
use Rattle.form_theory.proofs.Bounds.{all_below}
use Rattle.form_theory.proofs.WrittenBack.{accepted-canonical, written-fits, written-equal}
use Rattle.map_theory.proofs.MapOf.{length-map_of, map_of-table}
use Rattle.map_theory.proofs.Theorems.{table-weight, isomorphic-same-system, same-system-isomorphic}
use Rattle.tables.specs.Tables.{Table}
use Rattle.line_theory.proofs.Lines.{line-back}
use Rattle.line_theory.proofs.OneLine.{line-only, line-table}
use Rattle.line_theory.proofs.LineLengths.{line-length-is, line-length}
use Rattle.line_theory.proofs.CodesAsLines.{table-writable, line-given, line_code, code-line, code-given, code-out-in, line-in-out}
use Rattle.line_theory.proofs.LineFaults.{LineFault, too_many_points, line_form, out_degree, line-fault, DegreeFault, degree-fault, degree-refused}
use Rattle.engine.proofs.WrittenCodes.{Wrote, wrote-gives}
use Rattle.engine.proofs.SameReplies.{SameReplies, Refuses, same-replies, fails-refuses, accept-system}

-- A line that was written, and the map that "map of a code" writes for the same code: the line is that of the map, and is read as it.
module _ (b : List ℕ) {l f : List ℕ} (p : Wrote (digraph6_of_code b) l) (q : Wrote (map_of_code b) f) where
  map_is : (S : System) × (accepted b ≡ done S) × (digraph6 (map_of S) ≡ l) × (map_of S ≡ f)
  unfolding map_of_code
  map_is =
      let s = line-given b (wrote-gives (digraph6_of_code b) p) in
      let t = outcome-gives (accepted b) map_of (wrote-gives (map_of_code b) q) in
      let z : done t.0 ≡ done s.0 = sym t.1 ∙ s.1 in
      let same : t.0 ≡ s.0 = cc in
      (s.0, s.1, s.2, ap map_of (sym same) ∙ t.2)

  pub line-of-map : l ≡ digraph6 f
  line-of-map = let m = map_is in sym m.2 ∙ ap digraph6 m.3

  pub line-shows-map : read_line l ≡ done f
  line-shows-map =
      let m = map_is in
      let few = (accepted-canonical b m.0 m.1).1 in
      ap read_line (sym m.2) ∙ line-back (map_of m.0) (map_of-table m.0) (omega (arith, length-map_of m.0)) ∙ ap done m.3

-- A code taken out and read in is the same code: read in, its line is answered like the code itself, over any output.
pub out-and-in : (b : List ℕ) {l : List ℕ} → all_below 256 b ≡ true → Wrote (digraph6_of_code b) l → SameReplies (code_of_digraph6 l) (gives b)
out-and-in b bytes p = same-replies (code-out-in b bytes (wrote-gives (digraph6_of_code b) p))

-- A line read in and taken out is a renamed graph: both lines are read as maps, and a renaming takes one to the other.
pub record RenamedGraph (l l' : List ℕ) : Type 0 where
  pub first_map : List ℕ
  pub second_map : List ℕ
  pub first_read : read_line l ≡ done first_map
  pub second_read : read_line l' ≡ done second_map
  pub renaming : List ℕ
  pub isomorphism : Isomorphism (length first_map) second_map first_map renaming

pub in-and-out : (l : List ℕ) {b l' : List ℕ} → Wrote (code_of_digraph6 l) b → Wrote (digraph6_of_code b) l' → RenamedGraph l l'
in-and-out l {b} {l'} p q =
    let r = line-in-out l (wrote-gives (code_of_digraph6 l) p) in
    let z : gives r.line ≡ gives l' = sym r.taken_out ∙ wrote-gives (digraph6_of_code b) q in
    let same : r.line ≡ l' = cc in
    record {
      first_map = r.first_map;
      second_map = r.second_map;
      first_read = r.read_in;
      second_read = ap read_line (sym same) ∙ r.read_again;
      renaming = r.renaming;
      isomorphism = r.isomorphism;
    }

-- One line for each graph: a line is read in exactly if it is that of a table of at most 200 points, and then the reply is that of "code of a map".
pub in-like-map : (f : List ℕ) → Table f → SameReplies (code_of_digraph6 (digraph6 f)) (code_of_map f)
in-like-map f t =
    same-replies (line_code (digraph6 f) f (line-back f t.table t.small) ∙ sym (code_gives f t.small t.table))

pub one_line : (l : List ℕ) {b : List ℕ} → Wrote (code_of_digraph6 l) b → (f : List ℕ) × Table f × (l ≡ digraph6 f) × (code_of_map f ≡ gives b)
one_line l p =
    let c = code-given l (wrote-gives (code_of_digraph6 l) p) in
    let t = line-table l c.0 c.1 in
    (c.0, record { table = t.1; small = t.0 }, line-only l c.0 c.1, code_gives c.0 t.0 t.1 ∙ ap gives c.2)

-- Two lines that are read in have the same code exactly if a renaming takes one graph to the other.
module _ (l l' : List ℕ) {f g : List ℕ} (p : read_line l ≡ done f) (q : read_line l' ≡ done g) where
  pub renamed-same-code : length g ≡ length f → (r : List ℕ) → Isomorphism (length f) f g r → SameReplies (code_of_digraph6 l) (code_of_digraph6 l')
  renamed-same-code e r i =
      let same = isomorphic-same-system (length f) f g r refl (line-table l f p).1 e i in
      same-replies (line_code l f p ∙ ap (λ S. gives (written S)) same ∙ sym (line_code l' g q))

  pub same-code-renamed : {b : List ℕ} → Wrote (code_of_digraph6 l) b → Wrote (code_of_digraph6 l') b → (length g ≡ length f) × ((r : List ℕ) × Isomorphism (length f) f g r)
  same-code-renamed {b} u v =
      let s = line-table l f p in
      let t = line-table l' g q in
      let S = system_of_table f in
      let T = system_of_table g in
      let z : gives (written S) ≡ gives (written T) =
      sym (line_code l f p) ∙ wrote-gives (code_of_digraph6 l) u ∙ sym (wrote-gives (code_of_digraph6 l') v) ∙ line_code l' g q in
      let bytes : written S ≡ written T = cc in
      let w = table-writable f s in
      let x = table-writable g t in
      let same : S ≡ T = written-equal S T w.0 x.0 w.1 x.1 bytes in
      let points : length g ≡ length f = sym (table-weight (length g) g refl t.1) ∙ ap weight (sym same) ∙ table-weight (length f) f refl s.1 in
      (points, same-system-isomorphic (length f) f g refl s.1 points t.1 same)

-- Going out: the length that is told, for a code of n points, and the room that it takes. 6,672 bytes hold every line.
abbrev pub line_length : ℕ → ℕ
line_length n = 1 + length (size_field n) + body_length n

module _ (b : List ℕ) {n : ℕ} (accepts : accept_of b ≡ length_is n) where
  out_line : (l : List ℕ) × (digraph6_of_code b ≡ gives l) × (length l ≡ line_length n)
  out_line =
      let s = accept-system b accepts in
      let points : length (map_of s.0) ≡ n = length-map_of s.0 ∙ s.2 in
      (digraph6 (map_of s.0), code-line b s.0 s.1, line-length-is (map_of s.0) ∙ ap line_length points)

  pub lines_fit : line_length n ≤ 6672
  lines_fit =
      let s = accept-system b accepts in
      let m = map_of s.0 in
      let points : length m ≡ n = length-map_of s.0 ∙ s.2 in
      let few = (accepted-canonical b s.0 s.1).1 in
      omega (arith, line-length m (omega (arith, length-map_of s.0)), line-length-is m, ap line_length points)

  module _ {before after : List ℕ} {a : Answer} (p : Replied (digraph6_of_code b) before a after) where
    pub out-length : line_length n ≤ length before → a ≡ length_is (line_length n)
    out-length room =
        let o = out_line in
        let q : Replied (gives o.0) before a after = rw o.1 at p in
        (result-fills o.0 q (omega (arith, o.2))).0 ∙ ap length_is o.2

    pub out_room : length before < line_length n → (a ≡ refused 8) × (after ≡ before)
    out_room short =
        let o = out_line in
        let e = lt-leb (length o.0) (length before) (omega (arith, o.2)) in
        (p.reply ∙ rw (o.1, e), p.output ∙ rw (o.1, e))

-- and a code that is not accepted is refused with its own cause
pub out-refused : (b : List ℕ) {c : Refusal} → accepted b ≡ fault c → Refuses (digraph6_of_code b) (number_of c)
unfolding digraph6_of_code
out-refused b {c} e = fails-refuses c (rw e)

-- Coming in: 1,000 bytes hold every code.
pub in-fits : (l : List ℕ) {f : List ℕ} → read_line l ≡ done f → {before after : List ℕ} {a : Answer} → 1000 ≤ length before → Replied (code_of_digraph6 l) before a after
    → a ≡ length_is (length (written (system_of_table f)))
in-fits l {f} e {before} {after} {a} room p =
    let S = system_of_table f in
    let w = table-writable f (line-table l f e) in
    let q : Replied (gives (written S)) before a after = rw (line_code l f e) at p in
    (result-fills (written S) q (omega (arith, written-fits S w.0 w.1))).0

-- and a line that is read is refused with 8 alone
in-room : (l : List ℕ) {f : List ℕ} → read_line l ≡ done f → {before after : List ℕ} {c : ℕ} → Replied (code_of_digraph6 l) before (refused c) after → c ≡ 8
in-room l {f} e {before} {after} {c} p =
    let b = written (system_of_table f) in
    let q : Replied (gives b) before (refused c) after = rw (line_code l f e) at p in
    by-test (leb (length b) (length before))
    (λ t. let z : refused c ≡ length_is (length b) = q.reply ∙ rw t in clash cc)
    (λ t. let z : refused c ≡ refused 8 = q.reply ∙ rw t in cc)

-- a line that is not read is refused with its cause, which is 1, 14 or 15
pub in-refused : (l : List ℕ) {c : Refusal} → read_line l ≡ fault c → Refuses (code_of_digraph6 l) (number_of c)
unfolding code_of_digraph6
in-refused l {c} e = fails-refuses c (rw e)

pub data LineCause : ℕ → Type 0 where
  one : LineCause 1
  fourteen : LineCause 14
  fifteen : LineCause 15

cause-number : {d : Refusal} → LineFault d → LineCause (number_of d)
cause-number too_many_points = one
cause-number line_form = fourteen
cause-number out_degree = fifteen

pub in-causes : (l : List ℕ) {before after : List ℕ} {c : ℕ} → 1000 ≤ length before → Replied (code_of_digraph6 l) before (refused c) after → LineCause c
in-causes l {before} {after} {c} room p =
    by_result (read_line l)
    (λ d e.
    let z : refused c ≡ refused (number_of d) = (in-refused l e before after (refused c) p).0 in
    let same : c ≡ number_of d = cc in
    subst LineCause (sym same) (cause-number (line-fault l e)))
    (λ f e. let z = in-fits l e room p in clash cc)

-- 15 is told exactly where the line is in order but for its rows.
pub degree-refuses : (l : List ℕ) → DegreeFault l → Refuses (code_of_digraph6 l) 15
degree-refuses l d = in-refused l (degree-refused l d)

pub degree-told : (l : List ℕ) {before after : List ℕ} → Replied (code_of_digraph6 l) before (refused 15) after → DegreeFault l
degree-told l {before} {after} p =
    by_result (read_line l)
    (λ d e. let z : refused 15 ≡ refused (number_of d) = (in-refused l e before after (refused 15) p).0 in
    degree-fault l (e ∙ ap fault (fifteen-is (line-fault l e) cc)))
    (λ f e. absurd (omega (arith, in-room l e p)))
  where
    fifteen-is : {d : Refusal} → LineFault d → 15 ≡ number_of d → d ≡ OutDegree
    fifteen-is too_many_points h = absurd (omega arith)
    fifteen-is line_form h = absurd (omega arith)
    fifteen-is out_degree h = refl
