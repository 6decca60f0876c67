use Rattle.std.proofs.Common.{◌≡◌, take}
use Rattle.columns.specs.Writing.{put}
use Rattle.columns.proofs.marks.put_store.Given as goal

abbrev pub invariant-loop-i : goal.invariant-loop-i
invariant-loop-i g l = l.out ≡ put l.at (take l.i (g.S.ReadStore.list l.store)) l.initial.out
