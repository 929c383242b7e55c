-- What the functions that collect components into a system find and leave in lent slices.
use Rattle.std.specs.Prelude.{◌≡◌, List, map, ℕ, ◌≤◌, length, take}
use Rattle.lists.specs.Select.{gather}
use Rattle.patterns.specs.Component.{points, flat}
use Rattle.patterns.specs.Table.{system_of_table}
use Rattle.patterns.specs.MapOf.{map_of}
use Rattle.patterns.specs.Isomorphism.{Isomorphism}
use Rattle.cycles.specs.Marks.{Marked}
use Rattle.links.specs.Links.{Links}
use Rattle.links.specs.Leads.{Leads}
use Rattle.coding.specs.declared.labelled.LabelledSystem.{LabelledSystem}
use Rattle.coding.specs.Writing.{Prepared}

-- a table with its marks, and room for a size, a tree and a label for each point
pub record SystemAsked (f marks sizes trees labels : List ℕ) : Type 0 where
  pub prepared : Prepared f trees labels
  pub marked : Marked f marks
  pub sizes_room : length sizes ≡ length f

-- the same with the leaders and the links of the table, its marks held beside them
pub record ComponentsAsked (f leads last before sizes trees labels : List ℕ) : Type 0 where
  pub marks : List ℕ
  pub asked : SystemAsked f marks sizes trees labels
  pub leaders : Leads f leads
  pub links : Links f (length f) last before

-- The system of the table f was written, its sizes in the first r places. The labels are an isomorphism from the map of the system to f; which one, if
-- there are several, is left free.
pub record SystemWritten (f : List ℕ) (r : ℕ) (sizes trees labels : List ℕ) : Type 0 where
  pub within : r ≤ length sizes
  pub sizes_are : take r sizes ≡ map points (system_of_table f)
  pub trees_are : trees ≡ gather flat (system_of_table f)
  pub labels_are : Isomorphism (length f) (map_of (system_of_table f)) f labels

-- the places of a system by value that are used
abbrev pub sizes_of : LabelledSystem → List ℕ
sizes_of r = take r.components r.sizes

abbrev pub trees_of : LabelledSystem → List ℕ
trees_of r = take r.points r.trees

abbrev pub labels_of : LabelledSystem → List ℕ
labels_of r = take r.points r.labels

-- the same by value: each slice is the front of an array, a place for each point
pub record CodedAs (f : List ℕ) (r : LabelledSystem) : Type 0 where
  pub points_are : r.points ≡ length f
  pub written : SystemWritten f r.components (take (length f) r.sizes) (trees_of r) (labels_of r)
