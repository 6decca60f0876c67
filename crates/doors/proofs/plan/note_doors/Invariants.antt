use Rattle.std.proofs.Common.{◌≡◌, ◌++◌, take}
use Rattle.bits.specs.Columns.{column_bits}
use Rattle.doors.specs.Plan.{doors_in}
use Rattle.doors.proofs.plan.note_doors.Given as goal

abbrev pub invariant-loop-at : goal.invariant-loop-at
invariant-loop-at g l = column_bits g.V.ReadStore l.doors ≡ column_bits g.V.ReadStore l.initial.doors ++ doors_in (take l.at-counter l.text)
