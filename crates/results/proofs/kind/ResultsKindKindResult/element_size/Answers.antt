use Rattle.std.proofs.Common.{◌∙◌}
use Rattle.columns.proofs.Slices.{size_first, size_second}
use Rattle.results.proofs.kind.ResultsKindKindResult.element_size.Goals as goal

pub returns-then-k-own : goal.returns-then-k-own
returns-then-k-own g c = c.element_size.ensures ∙ size_first g.K.Kind.sizes g.L.Kind.sizes c.args.k c.slice_count-own.result c.slice_count-own.ensures c.if-k-lt-MARK_SLICES.false c.if-k-ge-CUT.false c.if-k-own.true

pub returns-else-k-own : goal.returns-else-k-own
returns-else-k-own g c = c.element_size-else-k-own.ensures ∙ size_second g.K.Kind.sizes g.L.Kind.sizes c.args.k c.slice_count-own.result c.slice_count-own.ensures c.if-k-lt-MARK_SLICES.false c.if-k-ge-CUT.false c.if-k-own.false
