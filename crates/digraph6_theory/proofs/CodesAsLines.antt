-- A code taken out and read in is the same code; a line read in and taken out is a renamed graph [document 02, paper 10].
use mathlib.Core.Path.{◌≡◌, refl, ap, sym, ◌∙◌}
use mathlib.Core.Bool.{true}
use mathlib.Core.List.{List}
use Prim.Native.Nat.{ℕ, ◌≤◌}
use native.Mathlib.Omega.{arith}
use lib.ListN.{length}
use Rattle.patterns.specs.declared.Refusal.{Refusal}
use Rattle.patterns.specs.System.{System, weight, canonical}
use Rattle.patterns.specs.Written.{written}
use Rattle.patterns.specs.Reading.{done, accepted}
use Rattle.patterns.specs.Table.{is_table, system_of_table}
use Rattle.patterns.specs.MapOf.{map_of}
use Rattle.patterns.specs.Isomorphism.{Isomorphism}
use Rattle.patterns.specs.Entry.{gives, outcome}
use Rattle.patterns.proofs.Outcomes.{outcome-gives}
use Rattle.map_theory.proofs.MapOf.{length-map_of, map_of-table}
use Rattle.map_theory.proofs.Theorems.{system-of-map, table-canonical, table-weight, isomorphic-to-map-of-system}
use Rattle.form_theory.proofs.Bounds.{all_below}
use Rattle.form_theory.proofs.WrittenBack.{written_back, accepted-is}
use Rattle.digraph6_theory.specs.Digraph6.{digraph6, read_line}
use Rattle.digraph6_theory.specs.LineEntries.{line_of_code, code_of_line}
use Rattle.digraph6_theory.proofs.Lines.{line-back}
use Rattle.digraph6_theory.proofs.OneLine.{line-table}

-- the line of a code that is accepted
code-line : (b : List ℕ) (S : System) → accepted b ≡ done S → line_of_code b ≡ gives (digraph6 (map_of S))
unfolding line_of_code
code-line b S e = ap (λ r. outcome r (λ S. gives (digraph6 (map_of S)))) e

line-given : (b : List ℕ) {l : List ℕ} → line_of_code b ≡ gives l → (S : System) × (accepted b ≡ done S) × (digraph6 (map_of S) ≡ l)
unfolding line_of_code
line-given b e = outcome-gives (accepted b) (λ S. digraph6 (map_of S)) e

-- the system of a table of at most 200 points has a written code
abbrev Writable : System → Type 0
Writable S = (canonical S ≡ true) × (weight S ≤ 200)

table-writable : (f : List ℕ) → (length f ≤ 200) × (is_table f ≡ true) → Writable (system_of_table f)
table-writable f h = (table-canonical (length f) f refl h.1, omega (arith, h.0, table-weight (length f) f refl h.1))

module _ (line_form row_form : Refusal) where
  -- the line of a system is read as the system's map, and that is the system's
  pub system-out-in : (S : System) → canonical S ≡ true → weight S ≤ 200
      → (read_line line_form row_form (digraph6 (map_of S)) ≡ done (map_of S)) × (system_of_table (map_of S) ≡ S)
  system-out-in S c h = (line-back line_form row_form (map_of S) (map_of-table S) (omega (arith, length-map_of S)), system-of-map S c)

  -- a line and the line of its system's map are lines of isomorphic maps
  pub line-renamed : (l f : List ℕ) → read_line line_form row_form l ≡ done f
      → let g : List ℕ = map_of (system_of_table f) in (read_line line_form row_form (digraph6 g) ≡ done g) × ((r : List ℕ) × Isomorphism (length f) g f r)
  line-renamed l f e =
      let h = line-table line_form row_form l f e in
      let w = table-writable f h in
      ((system-out-in (system_of_table f) w.0 w.1).0, isomorphic-to-map-of-system (length f) f refl h.1)

  -- the code of a line that is read
  line_code : (l f : List ℕ) → read_line line_form row_form l ≡ done f → code_of_line line_form row_form l ≡ gives (written (system_of_table f))
  unfolding code_of_line
  line_code l f e = ap (λ r. outcome r (λ f. gives (written (system_of_table f)))) e

  code-given : (l : List ℕ) {b : List ℕ} → code_of_line line_form row_form l ≡ gives b
      → (f : List ℕ) × (read_line line_form row_form l ≡ done f) × (written (system_of_table f) ≡ b)
  unfolding code_of_line
  code-given l e = outcome-gives (read_line line_form row_form l) (λ f. written (system_of_table f)) e

  -- a code taken out and read in is the same code
  pub code-out-in : (b : List ℕ) {l : List ℕ} → all_below 256 b ≡ true → line_of_code b ≡ gives l → code_of_line line_form row_form l ≡ gives b
  code-out-in b {l} h e =
      let s = line-given b e in
      let c = accepted-is b s.0 h s.1 in
      let r = system-out-in s.0 c.1 c.2 in
      line_code l (map_of s.0) (ap (read_line line_form row_form) (sym s.2) ∙ r.0) ∙ ap gives (ap written r.1 ∙ sym c.0)

  -- the code b of the line l is taken out as the line of a map that a renaming takes to that of l
  pub record RenamedLine (l b : List ℕ) : Type 0 where
    pub first_map : List ℕ
    pub read_in : read_line line_form row_form l ≡ done first_map
    pub line : List ℕ
    pub taken_out : line_of_code b ≡ gives line
    pub second_map : List ℕ
    pub read_again : read_line line_form row_form line ≡ done second_map
    pub renaming : List ℕ
    pub isomorphism : Isomorphism (length first_map) second_map first_map renaming

  -- a line read in and taken out is a renamed graph
  pub line-in-out : (l : List ℕ) {b : List ℕ} → code_of_line line_form row_form l ≡ gives b → RenamedLine l b
  line-in-out l {b} e =
      let r = code-given l e in
      let f = r.0 in
      let w = table-writable f (line-table line_form row_form l f r.1) in
      let g = line-renamed l f r.1 in
      record {
        first_map = f;
        read_in = r.1;
        line = digraph6 (map_of (system_of_table f));
        taken_out = code-line b (system_of_table f) (ap accepted (sym r.2) ∙ written_back (system_of_table f) w.0 w.1);
        second_map = map_of (system_of_table f);
        read_again = g.0;
        renaming = g.1.0;
        isomorphism = g.1.1;
      }
