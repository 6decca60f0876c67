use Rattle.std.proofs.Common.{◌≡◌, drop}
use Rattle.store.specs.Answers.{ragged_fault}
use Rattle.store.proofs.store.CheckedStore.check_elements.Given as goal

abbrev pub invariant-loop-i : goal.invariant-loop-i
invariant-loop-i l = ragged_fault l.self.words.now 0 l.sizes ≡ ragged_fault l.self.words.now l.i (drop l.i l.sizes)
