-- The program: for every input, the pieces that it hands to its output, one after another, are the text of `output_of`.
use contract.Lifetimes.{Lfts}
use borrow.Fn.Kinds.{Dens}
use mathlib.Core.Path.{◌≡◌, refl, ap, sym, ◌∙◌}
use mathlib.Core.List.{List, [], ◌∷◌, ◌++◌, append-nil}
use Prim.Native.Nat.{ℕ, ◌≤◌}
use native.Mathlib.Omega.{arith}
use lib.ListN.{length, take}
use lib.Seq.{take-length}
use Rattle.lists.specs.Select.{gather}
use Rattle.lists.proofs.Tests.{◌∈◌}
use Rattle.lists.proofs.Members.{in_head}
use Rattle.patterns.specs.ListingText.{counts, text_for, output_of}
use Rattle.lister.specs.declared.State.{State}
use Rattle.lister.specs.declared.Phase.TheVariants.{Bad, Header, Done}
use Rattle.lister.specs.Remaining.{remaining}
use Rattle.lister.specs.Good.{Good}
use Rattle.lister.specs.Put.{Put}
use Rattle.listing.specs.Pieces.{Pieces, ended, handed}
use Rattle.pieces.proofs.FilledPieces.{empty-piece}
use Rattle.listing.proofs.Outputs.{output-counts, counts-small, first-four}
use Rattle.listing.proofs.start.Reads as start
use Rattle.listing.proofs.start.Kinds as start-kinds
use Rattle.pieces.proofs.piece.Reads as piece
use Rattle.pieces.proofs.piece.Kinds as piece-kinds

-- what `start` promises is what the theorem asks of the first state
pub start-tied : (κs : Lfts 1) (a : Dens κs start-kinds.ps) (r : _) (s : _) → start.Post κs a r s → Good r × (remaining r ≡ output_of a.0.now)
start-tied κs a r s p = p

-- what `piece` promises is what `Pieces` asks of each piece
pub piece-tied : (κs : Lfts 1) (a : Dens κs piece-kinds.ps) (r : _) (s : _) → piece.Post κs a r s
    → Put (remaining a.0) 0 a.1.0.now r s.1.0.now
piece-tied κs a r s p = p.put

-- pieces are the text that their state stands for
pub pieces_whole : {s : State} {pieces : List (List ℕ)} → Pieces s pieces → gather (λ p. p) pieces ≡ remaining s
pieces_whole {s} (ended r before after p e) = sym (empty-piece (remaining s) r p e)
pieces_whole {s} (handed r before after p more) = ap (take r.len after ++◌) (pieces_whole more) ∙ p.text

-- Whatever the input is: the program reads four bytes of it, `start` gives the first state for them, and the pieces from that state on are the whole text.
pub program-output : (input : List ℕ) {s : State} {pieces : List (List ℕ)}
    → Good s × (remaining s ≡ output_of (take 4 input)) → Pieces s pieces → gather (λ p. p) pieces ≡ output_of input
program-output input g more = pieces_whole more ∙ g.1 ∙ first-four input

-- There are such states and such pieces, so the theorem says something of every input.
abbrev done_state : State
done_state = record { phase = Done; code = []; len = 0 }

whole-put : (t : List ℕ) → Put t 0 [] (record { len = length t; next = done_state }) t
whole-put t = record {
  next = record { good = tt };
  from = omega arith;
  within = omega arith;
  more = λ k. k;
  text = append-nil (take (length t) t) ∙ take-length t;
}

state-of : (l : List ℕ) → ((n : ℕ) → n ∈ l → n ≤ 14) → (s : State) × Good s × (remaining s ≡ text_for l)
state-of [] h = (record { phase = Bad; code = []; len = 0 }, record { good = tt }, refl)
state-of (n ∷ ns) h = (record { phase = Header n; code = []; len = 0 }, record { good = h n in_head }, refl)

pub start-exists : (input : List ℕ) → (s : State) × Good s × (remaining s ≡ output_of (take 4 input))
start-exists input =
    let r = state-of (counts (take 4 input)) (counts-small (take 4 input)) in
    (r.0, r.1, r.2 ∙ sym (output-counts (take 4 input)))

pub pieces-exist : (s : State) → (pieces : List (List ℕ)) × Pieces s pieces
pieces-exist s = (
  take (length (remaining s)) (remaining s) ∷ [],
  handed (record { len = length (remaining s); next = done_state }) [] (remaining s) (whole-put (remaining s))
      (ended (record { len = 0; next = done_state }) [] [] (whole-put []) refl),
)
