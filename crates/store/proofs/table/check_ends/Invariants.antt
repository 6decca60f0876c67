use Rattle.std.proofs.Common.{◌≡◌, drop}
use Rattle.store.specs.Answers.{ends_fault}
use Rattle.store.proofs.table.check_ends.Given as goal

abbrev pub invariant-loop-i : goal.invariant-loop-i
invariant-loop-i l = ends_fault l.bytes 0 l.start l.ends ≡ ends_fault l.bytes l.i l.from (drop l.i l.ends)
