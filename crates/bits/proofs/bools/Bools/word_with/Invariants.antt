use Rattle.std.proofs.Common.{◌≡◌, ◌*◌, ◌≤◌}
use Rattle.bitlaws.specs.Bits.{rank_of}
use Rattle.bits.specs.Columns.{bits_in}
use Rattle.bits.proofs.bools.Bools.word_with.Given as goal

abbrev pub invariant-loop-block : goal.invariant-loop-block
invariant-loop-block g l =
    (l.start ≤ l.block)
    × (l.count ≡ rank_of (bits_in g.V.ReadStore l.self) (64 * l.block))
    × (l.count ≤ l.rank)
