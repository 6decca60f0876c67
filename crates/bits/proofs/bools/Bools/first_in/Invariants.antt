use Rattle.std.proofs.Common.{◌≡◌, ◌*◌}
use Rattle.bitlaws.specs.Bits.{rank_of}
use Rattle.bits.specs.Columns.{bits_in}
use Rattle.bits.proofs.bools.Bools.first_in.Given as goal

abbrev pub invariant-loop-block : goal.invariant-loop-block
invariant-loop-block g l = rank_of (bits_in g.V.ReadStore l.self) (64 * l.block) ≡ rank_of (bits_in g.V.ReadStore l.self) (64 * l.initial.block)
