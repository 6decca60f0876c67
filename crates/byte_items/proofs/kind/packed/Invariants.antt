use Rattle.std.proofs.Common.{◌≡◌, ◌*◌, ◌-◌, ◌^◌, ◌<◌, ◌≤◌, min, take, drop}
use Rattle.byte_items.specs.Pack.{value}
use Rattle.byte_items.proofs.kind.packed.Given as goal

abbrev pub invariant-loop-i : goal.invariant-loop-i
invariant-loop-i g l =
    (l.word ≡ value (take (l.initial.i - l.i) (drop l.i (g.S.ReadStore.list l.store))))
    × (l.word < 2 ^ (8 * (l.initial.i - l.i)))
    × (min l.from l.initial.i ≤ l.i)
