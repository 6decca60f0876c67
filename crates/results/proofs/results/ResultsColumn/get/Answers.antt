use Rattle.std.proofs.Common.{◌-◌, ◌<◌, length, ◌∙◌, arith}
use Rattle.bits.specs.Columns.{column_bits}
use Rattle.columns.proofs.Marked.{mark_found, zero_below}
use Rattle.results.specs.Limiting.{err_there}
use Rattle.results.proofs.results.ResultsColumn.get.Goals as goal

pub returns-in_err-y : goal.returns-in_err-y
returns-in_err-y g c =
    let s = c.args.self.now in
    let bs = column_bits g.V.ReadStore s.indexes in
    let es = g.T.Column.items s.errs in
    let i = c.args.i in
    let p = mark_found bs i c.in_ok-ok.ok c.in_ok-ok.ensures in
    let l : i - c.rank_in-rank.result < length es = omega (arith, zero_below bs i (length es) p.0 (p.1 ∙ c.if-ok.false) s.zeros, c.rank_in-rank.ensures.value) in
    let no : ⊥ = err_there _ _ es (i - c.rank_in-rank.result) c.get-else-ok.result c.get-else-ok.ensures l c.in_err-y.ensures in
    elim no [ ]
