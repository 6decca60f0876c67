use Rattle.std.proofs.Common.{◌≡◌, ◌-◌, min, ◌++◌, take, drop}
use Rattle.bits.specs.Columns.{bits_in}
use Rattle.bits.proofs.bools.Bools.add_range.Given as goal

abbrev pub invariant-loop-pos : goal.invariant-loop-pos
invariant-loop-pos g l =
    (g.V.GrowStore.room l.self.values ≡ g.V.GrowStore.room l.initial.self.values)
    × (bits_in g.V.ReadStore l.self ≡ bits_in g.V.ReadStore l.initial.self ++ take (min l.pos l.end - l.start) (drop l.start (bits_in g.S.ReadStore l.source)))
