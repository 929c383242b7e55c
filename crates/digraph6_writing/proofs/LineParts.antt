-- A line put into the first places of an output, first its head and then its body.
use mathlib.Core.Path.{◌≡◌, refl, ap, ap₂, sym, ◌∙◌}
use mathlib.Core.List.{List, ◌∷◌, ◌++◌, append_assoc}
use Prim.Native.Nat.{ℕ, ◌+◌, ◌-◌, ◌≤◌}
use native.Mathlib.Omega.{arith}
use lib.ListN.{length, take, drop}
use lib.Seq.{take_at, drop_at, drop-drop}
use Rattle.patterns.specs.Digraph6.{size_field, matrix, packed, body_length, digraph6}
use Rattle.patterns.specs.Entry.{gives, Replied}
use Rattle.patterns.specs.Replies.{length_is}
use Rattle.written.proofs.Placing.{put-done}
use Rattle.line_theory.proofs.LineLengths.{line-length-is}

line-parts : (f : List ℕ) → (38 ∷ size_field (length f)) ++ packed (body_length (length f)) (matrix f) ≡ digraph6 f
unfolding digraph6
line-parts f = refl

-- h places for the head, b for the body, and the rest as it was
pub line-put : (f out : List ℕ) {head body : List ℕ} (h b : ℕ) → h ≡ 1 + length (size_field (length f)) → b ≡ body_length (length f) → h + b ≤ length out
    → head ≡ 38 ∷ size_field (length f) → body ≡ packed (body_length (length f)) (matrix f)
    → let out' : List ℕ = head ++ drop h out in
    Replied (gives (digraph6 f)) out (length_is (h + b)) (take h out' ++ (body ++ drop (h + b - h) (drop h out')))
line-put f out {head} {body} h b e d room p q =
    let line = digraph6 f in
    let front : length head ≡ h = omega (arith, ap length p) in
    let end : h + (h + b - h) ≡ length line = omega (arith, line-length-is f) in
    put-done line out _ (h + b) (omega (arith, line-length-is f)) (omega (arith, line-length-is f))
    (rw (take_at head (drop h out) h front, drop_at head (drop h out) h front, drop-drop (h + b - h) h out, end)
    (sym (append_assoc head body (drop (length line) out)) ∙ ap (◌++ drop (length line) out) (ap₂ ◌++◌ p q ∙ line-parts f)))
