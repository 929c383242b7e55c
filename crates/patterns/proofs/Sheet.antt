-- The starred cases of document 01's sheet of examples hold for the definitions.
use mathlib.Core.Path.{refl}
use Rattle.patterns.specs.Isomorphism.{isomorphisms}
use Rattle.patterns.specs.Entry.{accept_of, code_of_map, successor_of}
use Rattle.patterns.specs.Sheet.{AllHold, sheet}

pub sheet-holds : AllHold sheet
unfolding AllHold sheet code_of_map successor_of isomorphisms accept_of
sheet-holds =
    (refl, (refl, (refl, (refl, (refl, (refl, (refl, (refl, (refl, (refl, (refl, (refl, (refl, (refl, (refl, (refl, (refl, (refl, tt))))))))))))))))))
