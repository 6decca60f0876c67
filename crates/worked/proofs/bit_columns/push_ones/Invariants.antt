use Rattle.std.proofs.Common.{◌≡◌, true, replicate}
use Rattle.words.specs.contracts.table.Table64ReadStore.TheImpl.{ghosts as tabled}
use Rattle.bits.specs.Columns.{column_bits}
use Rattle.worked.proofs.bit_columns.push_ones.Given as goal

abbrev pub invariant-loop : goal.invariant-loop
invariant-loop l = column_bits tabled l.column ≡ replicate l.counter true
