use Rattle.std.proofs.Common.{◌+◌, ◌≤◌, length, ap, ◌∙◌, arith}
use Rattle.bits.specs.Columns.{column_bits}
use Rattle.columns.specs.Writing.{put}
use Rattle.options.proofs.Storing.{marks_slice}
use Rattle.options.proofs.writing.OptionsStored.write_slice.Goals as goal

pub write_marks-requires-clause-room : goal.write_marks-requires-clause-room
write_marks-requires-clause-room g c =
    let s = c.args.self.now in
    let e = marks_slice g.T.Kind.Kind.form (column_bits g.V.ReadStore s.indexes) (g.T.Column.items s.somes) s.many c.args.k c.if-k-lt-MARK_SLICES.true in
    omega (arith, ap (λ q. length q.words) e, c.requires.room)

pub returns-then-k-lt-MARK_SLICES-clause-place : goal.returns-then-k-lt-MARK_SLICES-clause-place
returns-then-k-lt-MARK_SLICES-clause-place g c =
    let s = c.args.self.now in
    let e = marks_slice g.T.Kind.Kind.form (column_bits g.V.ReadStore s.indexes) (g.T.Column.items s.somes) s.many c.args.k c.if-k-lt-MARK_SLICES.true in
    c.write_marks.ensures.place ∙ ap (λ q. c.args.at + length q.words) e

pub returns-then-k-lt-MARK_SLICES-clause-words : goal.returns-then-k-lt-MARK_SLICES-clause-words
returns-then-k-lt-MARK_SLICES-clause-words g c =
    let s = c.args.self.now in
    let e = marks_slice g.T.Kind.Kind.form (column_bits g.V.ReadStore s.indexes) (g.T.Column.items s.somes) s.many c.args.k c.if-k-lt-MARK_SLICES.true in
    c.write_marks.ensures.words ∙ ap (λ q. put c.args.at q.words c.args.out.now) e
