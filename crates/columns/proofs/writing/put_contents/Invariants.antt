use Rattle.std.proofs.Common.{◌≡◌, ◌+◌, length, take}
use Rattle.store.specs.Layout.{contents}
use Rattle.columns.specs.Writing.{put}
use Rattle.columns.proofs.writing.put_contents.Given as goal

abbrev pub invariant-loop-i : goal.invariant-loop-i
invariant-loop-i g l =
    let cs = contents (take l.i (g.C.Kind.Kind.form (g.C.Column.items l.column))) in
    (l.at ≡ l.k + 1 + length cs) × (l.out ≡ put (l.k + 1) cs l.initial.out)
