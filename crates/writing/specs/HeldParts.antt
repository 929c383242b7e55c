-- Two slices hold one system at most, so that they hold one is a fact.
use Rattle.std.specs.Prelude.{◌≡◌, List, ℕ, ◌≤◌, Bool, true}
use Rattle.std.specs.Coded.{le_prop, Coded-set, coded_bool, coded_list, coded_ℕ}
use mathlib.Core.Path.{ap, ◌∙◌, subst}
use Rattle.lists.specs.Select.{each}
use Rattle.patterns.specs.Component.{nonempty}
use Rattle.patterns.specs.System.{System, weight}
use Rattle.memory.specs.Memory.{Holds, HeldSystem}
use Rattle.memory.proofs.Parts.{held-unique}

numbers_set : IsSet (List ℕ)
numbers_set = Coded-set (coded_list coded_ℕ)

bool_set : IsSet Bool
bool_set = Coded-set coded_bool

holds_prop : (S : System) (sizes trees : List ℕ) → IsProp (Holds S sizes trees)
holds_prop S sizes trees = hlevel numbers_set

module _ (sizes trees : List ℕ) where
  abbrev held : (S : System) → Holds S sizes trees → each nonempty S ≡ true → weight S ≤ 200 → HeldSystem sizes trees
  held S h e q = record { system = S; holds = h; each_nonempty = e; small = q }

  same : (S : System) (h k : Holds S sizes trees) (e f : each nonempty S ≡ true) (q r : weight S ≤ 200) → held S h e q ≡ held S k f r
  same S h k e f q r =
      ap (λ x. held S x e q) (holds_prop S sizes trees h k)
      ∙ ap (λ x. held S k x q) (bool_set (each nonempty S) true e f)
      ∙ ap (λ x. held S k f x) (le_prop q r)

  pub HeldSystem-prop : IsProp (HeldSystem sizes trees)
  HeldSystem-prop w v =
      subst
      (λ R. (k : Holds R sizes trees) (f : each nonempty R ≡ true) (r : weight R ≤ 200) → held w.system w.holds w.each_nonempty w.small ≡ held R k f r)
      (held-unique w.holds v.holds)
      (λ k f r. same w.system w.holds k w.each_nonempty f w.small r)
      v.holds
      v.each_nonempty
      v.small
