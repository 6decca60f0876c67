use Rattle.std.proofs.Common.{◌-◌, ◌*◌, ◌<◌, ◌≤◌, length, get_or}
use Rattle.bitlaws.specs.Bits.{rank_of}
use Rattle.bits.specs.Columns.{column_bits}
use Rattle.bits.proofs.rank_select.RankSelect.chunk_with.Given as goal

abbrev pub invariant-loop-lo : goal.invariant-loop-lo
invariant-loop-lo g l =
    (l.lo ≤ l.hi)
    × (l.hi ≤ length (g.C.ReadStore.list l.self.counts))
    × (rank_of (column_bits g.V.ReadStore l.self) (1024 * l.lo) ≤ l.rank)
    × (l.hi < length (g.C.ReadStore.list l.self.counts) → l.rank < get_or (g.C.ReadStore.list l.self.counts) l.hi 0)

abbrev pub decreases-loop-lo : goal.decreases-loop-lo
decreases-loop-lo g l = l.hi - l.lo
