-- What the reply of reading a line says to the entry that goes on with the map.
use mathlib.Core.Path.{◌≡◌, ap, sym, ◌∙◌, subst}
use mathlib.Core.List.{List}
use Prim.Native.Nat.{ℕ}
use lib.ListN.{take}
use Rattle.patterns.specs.declared.Refusal.{Refusal}
use Rattle.std.specs.Prelude.{Result as Reply, Ok, Err}
use Rattle.patterns.specs.Reading.{done, fault}
use Rattle.patterns.specs.Replies.{Answer, refused, number_of}
use Rattle.patterns.specs.Entry.{Replied, code_of_map}
use Rattle.patterns.specs.Digraph6.{read_line, code_of_digraph6}
use Rattle.patterns.proofs.Outcomes.{outcome-refused, code_gives}
use Rattle.line_theory.proofs.OneLine.{line-table}
use Rattle.line_theory.proofs.CodesAsLines.{line_code}
use Rattle.digraph6_reading.specs.LineResults.{line_result, LineRead}

module _ (l : List ℕ) {r : Reply ℕ Refusal} {table : List ℕ} (w : LineRead (read_line l) r table) where
  pub line-in-refused : {c : Refusal} → r ≡ Err c → (out : List ℕ) → Replied (code_of_digraph6 l) out (refused (number_of c)) out
  unfolding code_of_digraph6
  line-in-refused {c} e out =
      let q : read_line l ≡ fault c = sym w.result ∙ ap (λ r. line_result r table) e in
      outcome-refused _ out c q

  module _ {n : ℕ} (e : r ≡ Ok n) where
    line-map : read_line l ≡ done (take n table)
    line-map = sym w.result ∙ ap (λ r. line_result r table) e

    -- the code of the map is that of the line
    pub line-in-coded : {before after : List ℕ} {a : Answer} → Replied (code_of_map (take n table)) before a after → Replied (code_of_digraph6 l) before a after
    line-in-coded {before} {after} {a} p =
        let t = line-table l (take n table) line-map in
        subst (λ o. Replied o before a after) (code_gives (take n table) t.0 t.1 ∙ sym (line_code l (take n table) line-map)) p
