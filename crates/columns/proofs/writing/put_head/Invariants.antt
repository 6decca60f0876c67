use Rattle.std.proofs.Common.{◌≡◌, ◌+◌, ◌*◌, ◌≤◌, take}
use Rattle.store.specs.Layout.{up, ends, last_end}
use Rattle.columns.specs.Writing.{put}
use Rattle.columns.proofs.writing.put_head.Given as goal

abbrev pub invariant-loop-i : goal.invariant-loop-i
invariant-loop-i g l =
    let ss = take l.i (g.C.Kind.Kind.form (g.C.Column.items l.column)) in
    (l.end ≡ last_end (8 * (l.k + 1)) ss)
    × (up l.end ≤ l.k + 1 + l.i * 67108864)
    × (l.out ≡ put 1 (ends (8 * (l.k + 1)) ss) l.initial.out)
