use Rattle.std.proofs.Common.{◌≡◌, ◌+◌, ◌-◌, ◌<◌, ◌≤◌, length, ap, ◌∙◌, arith}
use Rattle.bits.specs.Columns.{column_bits}
use Rattle.columns.specs.Writing.{put}
use Rattle.results.proofs.Storing.{marks_slice, oks_slice, errs_slice}
use Rattle.results.proofs.writing.ResultsStored.write_slice.Goals as goal

pub write_marks-requires-clause-room : goal.write_marks-requires-clause-room
write_marks-requires-clause-room g c =
    let s = c.args.self.now in
    let e = marks_slice g.S.Kind.Kind.form g.T.Kind.Kind.form (column_bits g.V.ReadStore s.indexes) (g.S.Column.items s.oks) (g.T.Column.items s.errs) s.ones s.zeros c.args.k c.if-k-lt-MARK_SLICES.true in
    omega (arith, ap (λ q. length q.words) e, c.requires.room)

pub write_slice-requires-clause-room : goal.write_slice-requires-clause-room
write_slice-requires-clause-room g c =
    let s = c.args.self.now in
    let inside : c.args.k - 3 < length (g.S.Kind.Kind.form (g.S.Column.items s.oks)) = omega (arith, g.met.S.Kind.Kind.counted (g.S.Column.items s.oks), c.slice_count-own.ensures, c.if-k-own.true) in
    let e = oks_slice g.S.Kind.Kind.form g.T.Kind.Kind.form (column_bits g.V.ReadStore s.indexes) (g.S.Column.items s.oks) (g.T.Column.items s.errs) s.ones s.zeros c.args.k c.if-k-lt-MARK_SLICES.false inside in
    omega (arith, ap (λ q. length q.words) e, c.requires.room)

pub write_slice-requires-2-clause-room : goal.write_slice-requires-2-clause-room
write_slice-requires-2-clause-room g c =
    let s = c.args.self.now in
    let own : length (g.S.Kind.Kind.form (g.S.Column.items s.oks)) ≡ c.slice_count-own.result = omega (arith, g.met.S.Kind.Kind.counted (g.S.Column.items s.oks), c.slice_count-own.ensures, c.if-k-own.false, c.requires.slice) in
    let e = errs_slice g.S.Kind.Kind.form g.T.Kind.Kind.form (column_bits g.V.ReadStore s.indexes) (g.S.Column.items s.oks) (g.T.Column.items s.errs) s.ones s.zeros c.args.k c.if-k-lt-MARK_SLICES.false c.slice_count-own.result own c.if-k-own.false in
    omega (arith, ap (λ q. length q.words) e, c.requires.room)

pub returns-then-k-lt-MARK_SLICES-clause-place : goal.returns-then-k-lt-MARK_SLICES-clause-place
returns-then-k-lt-MARK_SLICES-clause-place g c =
    let s = c.args.self.now in
    let e = marks_slice g.S.Kind.Kind.form g.T.Kind.Kind.form (column_bits g.V.ReadStore s.indexes) (g.S.Column.items s.oks) (g.T.Column.items s.errs) s.ones s.zeros c.args.k c.if-k-lt-MARK_SLICES.true in
    c.write_marks.ensures.place ∙ ap (λ q. c.args.at + length q.words) e

pub returns-then-k-lt-MARK_SLICES-clause-words : goal.returns-then-k-lt-MARK_SLICES-clause-words
returns-then-k-lt-MARK_SLICES-clause-words g c =
    let s = c.args.self.now in
    let e = marks_slice g.S.Kind.Kind.form g.T.Kind.Kind.form (column_bits g.V.ReadStore s.indexes) (g.S.Column.items s.oks) (g.T.Column.items s.errs) s.ones s.zeros c.args.k c.if-k-lt-MARK_SLICES.true in
    c.write_marks.ensures.words ∙ ap (λ q. put c.args.at q.words c.args.out.now) e

pub returns-then-k-own-clause-place : goal.returns-then-k-own-clause-place
returns-then-k-own-clause-place g c =
    let s = c.args.self.now in
    let inside : c.args.k - 3 < length (g.S.Kind.Kind.form (g.S.Column.items s.oks)) = omega (arith, g.met.S.Kind.Kind.counted (g.S.Column.items s.oks), c.slice_count-own.ensures, c.if-k-own.true) in
    let e = oks_slice g.S.Kind.Kind.form g.T.Kind.Kind.form (column_bits g.V.ReadStore s.indexes) (g.S.Column.items s.oks) (g.T.Column.items s.errs) s.ones s.zeros c.args.k c.if-k-lt-MARK_SLICES.false inside in
    c.write_slice.ensures.place ∙ ap (λ q. c.args.at + length q.words) e

pub returns-then-k-own-clause-words : goal.returns-then-k-own-clause-words
returns-then-k-own-clause-words g c =
    let s = c.args.self.now in
    let inside : c.args.k - 3 < length (g.S.Kind.Kind.form (g.S.Column.items s.oks)) = omega (arith, g.met.S.Kind.Kind.counted (g.S.Column.items s.oks), c.slice_count-own.ensures, c.if-k-own.true) in
    let e = oks_slice g.S.Kind.Kind.form g.T.Kind.Kind.form (column_bits g.V.ReadStore s.indexes) (g.S.Column.items s.oks) (g.T.Column.items s.errs) s.ones s.zeros c.args.k c.if-k-lt-MARK_SLICES.false inside in
    c.write_slice.ensures.words ∙ ap (λ q. put c.args.at q.words c.args.out.now) e

pub returns-clause-place : goal.returns-clause-place
returns-clause-place g c =
    let s = c.args.self.now in
    let own : length (g.S.Kind.Kind.form (g.S.Column.items s.oks)) ≡ c.slice_count-own.result = omega (arith, g.met.S.Kind.Kind.counted (g.S.Column.items s.oks), c.slice_count-own.ensures, c.if-k-own.false, c.requires.slice) in
    let e = errs_slice g.S.Kind.Kind.form g.T.Kind.Kind.form (column_bits g.V.ReadStore s.indexes) (g.S.Column.items s.oks) (g.T.Column.items s.errs) s.ones s.zeros c.args.k c.if-k-lt-MARK_SLICES.false c.slice_count-own.result own c.if-k-own.false in
    c.write_slice-2.ensures.place ∙ ap (λ q. c.args.at + length q.words) e

pub returns-clause-words : goal.returns-clause-words
returns-clause-words g c =
    let s = c.args.self.now in
    let own : length (g.S.Kind.Kind.form (g.S.Column.items s.oks)) ≡ c.slice_count-own.result = omega (arith, g.met.S.Kind.Kind.counted (g.S.Column.items s.oks), c.slice_count-own.ensures, c.if-k-own.false, c.requires.slice) in
    let e = errs_slice g.S.Kind.Kind.form g.T.Kind.Kind.form (column_bits g.V.ReadStore s.indexes) (g.S.Column.items s.oks) (g.T.Column.items s.errs) s.ones s.zeros c.args.k c.if-k-lt-MARK_SLICES.false c.slice_count-own.result own c.if-k-own.false in
    c.write_slice-2.ensures.words ∙ ap (λ q. put c.args.at q.words c.args.out.now) e
