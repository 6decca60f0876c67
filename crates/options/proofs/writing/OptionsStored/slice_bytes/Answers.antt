use Rattle.std.proofs.Common.{ap, ◌∙◌}
use Rattle.bits.specs.Columns.{column_bits}
use Rattle.options.proofs.Storing.{marks_slice}
use Rattle.options.proofs.writing.OptionsStored.slice_bytes.Goals as goal

pub returns-then-k-lt-MARK_SLICES : goal.returns-then-k-lt-MARK_SLICES
returns-then-k-lt-MARK_SLICES g c =
    let s = c.args.self.now in
    c.marks_bytes.ensures ∙ ap (λ q. q.bytes) (marks_slice g.T.Kind.Kind.form (column_bits g.V.ReadStore s.indexes) (g.T.Column.items s.somes) s.many c.args.k c.if-k-lt-MARK_SLICES.true)
