use Rattle.std.proofs.Common.{◌≡◌, ◌+◌, ◌-◌, ◌<◌, ◌≤◌, length, ap, ◌∙◌, arith}
use Rattle.bits.specs.Columns.{column_bits}
use Rattle.results.proofs.Storing.{marks_slice, oks_slice, errs_slice}
use Rattle.results.proofs.writing.ResultsStored.slice_bytes.Goals as goal

pub returns-then-k-lt-MARK_SLICES : goal.returns-then-k-lt-MARK_SLICES
returns-then-k-lt-MARK_SLICES g c =
    let s = c.args.self.now in
    let e = marks_slice g.S.Kind.Kind.form g.T.Kind.Kind.form (column_bits g.V.ReadStore s.indexes) (g.S.Column.items s.oks) (g.T.Column.items s.errs) s.ones s.zeros c.args.k c.if-k-lt-MARK_SLICES.true in
    c.marks_bytes.ensures ∙ ap (λ q. q.bytes) e

pub returns-then-k-own : goal.returns-then-k-own
returns-then-k-own g c =
    let s = c.args.self.now in
    let inside : c.args.k - 3 < length (g.S.Kind.Kind.form (g.S.Column.items s.oks)) = omega (arith, g.met.S.Kind.Kind.counted (g.S.Column.items s.oks), c.slice_count-own.ensures, c.if-k-own.true) in
    let e = oks_slice g.S.Kind.Kind.form g.T.Kind.Kind.form (column_bits g.V.ReadStore s.indexes) (g.S.Column.items s.oks) (g.T.Column.items s.errs) s.ones s.zeros c.args.k c.if-k-lt-MARK_SLICES.false inside in
    c.slice_bytes.ensures ∙ ap (λ q. q.bytes) e

pub returns : goal.returns
returns g c =
    let s = c.args.self.now in
    let own : length (g.S.Kind.Kind.form (g.S.Column.items s.oks)) ≡ c.slice_count-own.result = omega (arith, g.met.S.Kind.Kind.counted (g.S.Column.items s.oks), c.slice_count-own.ensures, c.if-k-own.false, c.requires) in
    let e = errs_slice g.S.Kind.Kind.form g.T.Kind.Kind.form (column_bits g.V.ReadStore s.indexes) (g.S.Column.items s.oks) (g.T.Column.items s.errs) s.ones s.zeros c.args.k c.if-k-lt-MARK_SLICES.false c.slice_count-own.result own c.if-k-own.false in
    c.slice_bytes-2.ensures ∙ ap (λ q. q.bytes) e
