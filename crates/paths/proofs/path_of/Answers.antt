use mathlib.Core.Path.{sym, ap, ◌∙◌}
use lib.ListN.{length}
use Rattle.paths.proofs.path_of.Goals as goal

pub path_into-requires : goal.path_into-requires
path_into-requires c =
    let e = c.copy_from_slice.ensures.after in
    record {
      trees = c.requires.trees;
      is = e ∙ c.requires.is;
      room = c.requires.key_room ∙ sym (ap length e);
      small = rw (ap length e) c.requires.small;
    }
