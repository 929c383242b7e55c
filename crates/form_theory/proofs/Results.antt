-- What holds of a result that may be a fault.
use mathlib.Core.Path.{◌≡◌, refl, ap, sym, subst}
use mathlib.Core.Bool.{Bool, true, false, ◌||◌, true≢false}
use mathlib.Core.List.{List, [], ◌∷◌, ◌++◌}
use lib.Seq.{append_snoc}
use Rattle.patterns.specs.Reading.{Result, done, fault, and_then, mapped}

-- what was read has P; a fault claims nothing
abbrev pub Good : {A : Type 0} → (A → Type 0) → Result A → Type 0
Good P (done x) = P x
Good P (fault c) = Unit {0}

module _ {A B : Type 0} where
  pub good-then : (Q : A → Type 0) (P : B → Type 0) (r : Result A) (f : A → Result B) → Good Q r → ((x : A) → Q x → Good P (f x)) → Good P (and_then r f)
  good-then Q P (done x) f q h = h x q
  good-then Q P (fault c) f q h = tt

  pub good-mapped : (Q : A → Type 0) (P : B → Type 0) (r : Result A) (f : A → B) → Good Q r → ((x : A) → Q x → P (f x)) → Good P (mapped f r)
  good-mapped Q P (done x) f q h = h x q
  good-mapped Q P (fault c) f q h = tt

pub good-weaken : {A : Type 0} (Q P : A → Type 0) (r : Result A) → Good Q r → ((x : A) → Q x → P x) → Good P r
good-weaken Q P (done x) q h = h x q
good-weaken Q P (fault c) q h = tt

pub good-done : {A : Type 0} (P : A → Type 0) (r : Result A) (x : A) → r ≡ done x → Good P r → P x
good-done P r x e g = subst (Good P) e g

-- `a || b` is false: both are
pub or-false : (a b : Bool) → (a || b) ≡ false → (a ≡ false) × (b ≡ false)
or-false true b e = (e, absurd (true≢false e))
or-false false b e = (refl, e)

-- what was read before stands in front
pub mapped-none : {A : Type 0} (r : Result (List A)) → r ≡ mapped ([] ++◌) r
mapped-none (done l) = refl
mapped-none (fault c) = refl

pub mapped-more : {A : Type 0} (a : List A) (x : A) (r : Result (List A)) → mapped (a ++◌) (mapped (x ∷◌) r) ≡ mapped ((a ++ (x ∷ [])) ++◌) r
mapped-more a x (done l) = ap done (sym (append_snoc a x l))
mapped-more a x (fault c) = refl
