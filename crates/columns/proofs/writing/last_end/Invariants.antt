use Rattle.std.proofs.Common.{◌≡◌, ◌+◌, ◌*◌, ◌≤◌, take}
use Rattle.store.specs.Layout.{up, last_end}
use Rattle.columns.proofs.writing.last_end.Given as goal

abbrev pub invariant-loop-i : goal.invariant-loop-i
invariant-loop-i g l =
    (l.end ≡ last_end (8 * (l.k + 1)) (take l.i (g.C.Kind.Kind.form (g.C.Column.items l.column))))
    × (up l.end ≤ l.k + 1 + l.i * 67108864)
