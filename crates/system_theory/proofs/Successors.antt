-- The codes after a code, one step after another: where the step gives a code, that one and what comes after it; where it gives none, nothing.
use mathlib.Core.Path.{◌≡◌, refl, ap, sym, ◌∙◌}
use mathlib.Core.Bool.{true}
use mathlib.Core.List.{List, [], ◌∷◌, ◌++◌, append_assoc}
use mathlib.Core.Option.{none, some}
use Prim.Native.Nat.{ℕ, zero, suc}
use lib.ListN.{drop}
use Rattle.lists.specs.Select.{from}
use Rattle.lists.proofs.Members.{lawful-decides, nodup-apart, in_head}
use Rattle.lists.proofs.Places.{in_split, from-split}
use Rattle.lists.proofs.Follow.{within-some, within-last}
use Rattle.patterns.specs.System.{System, weight, canonical, codes, compare_system}
use Rattle.patterns.specs.Page.{later, successors}
use Rattle.patterns.proofs.Trees.{compare_system-lawful}
use Rattle.system_theory.specs.Step.{step}
use Rattle.system_theory.proofs.Codes.{codes-complete, codes-different}
use Rattle.system_theory.proofs.Step.{step-within, step_keeps}

-- where the list is cut at S, the rest comes after S
pub later-cut : (S : System) (a b : List System) → codes (weight S) ≡ a ++ (S ∷ b) → later S ≡ b
unfolding later
later-cut S a b e =
    ap (λ l. drop 1 (from compare_system S l)) e
    ∙ ap (drop 1) (from-split (lawful-decides compare_system-lawful) a S b (λ m. nodup-apart a (rw e at (codes-different (weight S))) m in_head))

module _ (S : System) (c : canonical S ≡ true) where
  -- the list, cut at S
  pub list-cut : (earlier : List System) × (codes (weight S) ≡ earlier ++ (S ∷ later S))
  list-cut =
      let s = in_split (codes-complete S c) in
      (s.0, s.2 ∙ ap (λ l. s.0 ++ (S ∷ l)) (sym (later-cut S s.0 s.1 s.2)))

  pub later-step : (R : System) → step S ≡ some R → later S ≡ R ∷ later R
  later-step R e =
      let w = within-some (rw e at (step-within S c)) in
      let a = w.0 in
      let b = w.1 in
      let here : later S ≡ R ∷ b = later-cut S a (R ∷ b) w.2 in
      let cut : codes (weight R) ≡ (a ++ (S ∷ [])) ++ (R ∷ b) =
      ap codes (step_keeps S R c e).1 ∙ w.2 ∙ sym (append_assoc a (S ∷ []) (R ∷ b)) in
      here ∙ ap (R ∷◌) (sym (later-cut R (a ++ (S ∷ [])) b cut))

  pub later_last : step S ≡ none → later S ≡ []
  later_last e = let w = within-last (rw e at (step-within S c)) in later-cut S w.0 [] w.1

  -- the next k of them
  pub successors-step : (k : ℕ) (R : System) → step S ≡ some R → successors (suc k) S ≡ R ∷ successors k R
  unfolding successors
  successors-step k R e = rw (later-step R e)

  pub successors-last : (k : ℕ) → step S ≡ none → successors k S ≡ []
  unfolding successors
  successors-last zero e = refl
  successors-last (suc k) e = rw (later_last e)

pub successors-none : (S : System) → successors 0 S ≡ []
unfolding successors
successors-none S = refl
