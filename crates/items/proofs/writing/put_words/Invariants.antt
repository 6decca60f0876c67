use Rattle.std.proofs.Common.{◌≡◌, take}
use Rattle.columns.specs.Writing.{put}
use Rattle.items.proofs.writing.put_words.Given as goal

abbrev pub invariant-loop-j : goal.invariant-loop-j
invariant-loop-j g l = l.out ≡ put l.at (take l.j (g.K.Plain.words (g.S.ReadStore.list l.store))) l.initial.out
