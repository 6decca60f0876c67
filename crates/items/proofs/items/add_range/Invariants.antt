use Rattle.std.proofs.Common.{◌≡◌, ◌≤◌, ◌++◌}
use Rattle.columns.specs.Plain.{part}
use Rattle.items.proofs.items.add_range.Given as goal

abbrev pub invariant-loop-i : goal.invariant-loop-i
invariant-loop-i g l = record {
  from : l.start ≤ l.i;
  list : g.S.ReadStore.list l.store ≡ g.S.ReadStore.list l.initial.store ++ part (g.S.ReadStore.list l.source) l.start l.i;
  room : g.S.GrowStore.room l.store ≡ g.S.GrowStore.room l.initial.store;
}
