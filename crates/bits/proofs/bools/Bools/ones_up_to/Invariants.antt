use Rattle.std.proofs.Common.{◌≡◌, ◌*◌}
use Rattle.bitlaws.specs.Bits.{rank_of}
use Rattle.bits.specs.Columns.{bits_in}
use Rattle.bits.proofs.bools.Bools.ones_up_to.Given as goal

abbrev pub invariant-loop-pos : goal.invariant-loop-pos
invariant-loop-pos g l = l.count ≡ rank_of (bits_in g.V.ReadStore l.self) (64 * l.pos)
