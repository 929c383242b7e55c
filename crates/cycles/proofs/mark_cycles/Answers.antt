use mathlib.Core.Path.{◌≡◌, sym}
use Prim.Native.Nat.{◌≤◌}
use mathlib.Core.List.{List}
use Prim.Native.Nat.{ℕ}
use native.Mathlib.Omega.{arith}
use lib.ListN.{length, take, length-take}
use Rattle.cycles.proofs.Pruning.{pruned-marked}
use Rattle.cycles.proofs.mark_cycles.Goals as goal

-- the queue has a place for each point
queue-places : (f room : List ℕ) → length room ≡ 200 → length f ≤ 200 → length (take (length f) room) ≡ length f
queue-places f room e h = rw length-take (omega arith)

pub slice_bounds-prune-end : goal.slice_bounds-prune-end
slice_bounds-prune-end c = sym (queue-places c.args.table.images.now _ c.points_room-queue.ensures c.args.table.small)

pub prune-requires : goal.prune-requires
prune-requires c = (c.count_in_degrees.ensures, queue-places c.args.table.images.now _ c.points_room-queue.ensures c.args.table.small)

pub returns : goal.returns
returns c = pruned-marked c.prune.ensures c.mark_left.ensures
