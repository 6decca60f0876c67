use Rattle.std.proofs.Common.{◌≡◌, length}
use Rattle.bitlaws.specs.Bits.{Lagging}
use Rattle.bits.specs.Columns.{bits_in}
use Rattle.bits.proofs.rank_select.growing.update_counts.Given as goal

abbrev pub invariant-loop-chunk : goal.invariant-loop-chunk
invariant-loop-chunk g l =
    (length (g.C.ReadStore.list l.counts) ≡ l.chunk)
    × Lagging (g.C.ReadStore.list l.counts) (bits_in g.V.ReadStore l.values)
    × (g.C.GrowStore.room l.counts ≡ g.C.GrowStore.room l.initial.counts)
