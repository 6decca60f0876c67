use Rattle.std.proofs.Common.{arith}
use Rattle.bitlaws.proofs.Words.{rank_none}
use Rattle.bits.specs.Columns.{column_bits}
use Rattle.bits.proofs.rank_select.RankSelect.chunk_with.Goals as goal

pub loop-lo-init : goal.loop-lo-init
loop-lo-init g c = (
  omega arith,
  omega (arith, c.len-hi.ensures),
  omega (arith, rank_none (column_bits g.V.ReadStore c.args.self.now)),
  λ h. absurd (omega (arith, h, c.len-hi.ensures)),
)
