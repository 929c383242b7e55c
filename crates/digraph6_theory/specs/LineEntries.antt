-- What the two entries of document 02, paper 10, find before they look at the lent output. With the paper these definitions move to patterns, beside those of
-- the other entries.
use Rattle.std.specs.Prelude.{List, ℕ}
use Rattle.patterns.specs.declared.Refusal.{Refusal}
use Rattle.patterns.specs.Written.{written}
use Rattle.patterns.specs.Reading.{accepted}
use Rattle.patterns.specs.Table.{system_of_table}
use Rattle.patterns.specs.MapOf.{map_of}
use Rattle.patterns.specs.Entry.{Outcome, gives, outcome}
use Rattle.digraph6_theory.specs.Digraph6.{digraph6, read_line}

-- Entry "line of a code": the line of its map
unfoldable pub line_of_code : List ℕ → Outcome ℕ
unfolding accepted map_of digraph6
line_of_code b = outcome (accepted b) (λ S. gives (digraph6 (map_of S)))

-- Entry "code of a line"
unfoldable pub code_of_line : (line_form row_form : Refusal) → List ℕ → Outcome ℕ
unfolding read_line system_of_table written
code_of_line line_form row_form l = outcome (read_line line_form row_form l) (λ f. gives (written (system_of_table f)))
