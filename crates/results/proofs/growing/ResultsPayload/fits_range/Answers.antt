use Rattle.std.proofs.Common.{Err, ap, ◌∙◌}
use Rattle.std.proofs.lemmas.Result.{err_from_is_err_and}
use Rattle.columns.proofs.Marked.{range_granted}
use Rattle.results.proofs.Parts.{Parts, parts}
use Rattle.results.proofs.Ranges.{marks_refuse, oks_refuse, errs_decide}
use Rattle.results.specs.declared.results.Results.{Results}
use Rattle.results.proofs.growing.ResultsPayload.fits_range.Given.{Over}
use Rattle.results.proofs.growing.ResultsPayload.fits_range.Goals as goal

abbrev of : (g : Over) → Results g.row.S.Denot g.row.T.Denot g.row.C.Denot g.row.V.Denot g.row.S-Item.Denot g.row.S-Fault.Denot g.row.S-Kind.Denot g.row.T-Item.Denot g.row.T-Fault.Denot g.row.T-Kind.Denot g.S.Column g.S.Fault.Refusal g.S.Kind.Kind g.T.Column g.T.Fault.Refusal g.T.Kind.Kind g.C.ReadStore g.V.ReadStore → Parts g.row.S-Item.Denot g.row.T-Item.Denot g.row.S-Fault.Denot g.row.T-Fault.Denot
of g = parts g.S.Payload g.T.Payload g.C.GrowStore g.V.GrowStore g.met.S.Payload.asks g.met.S.Payload.holds g.met.T.Payload.asks g.met.T.Payload.holds

pub returns-in_err-fits_range : goal.returns-in_err-fits_range
returns-in_err-fits_range g c =
    let e = err_from_is_err_and c.from_residual.result c.from_residual.ensures.1 in
    e.1 ∙ ap Err e.2 ∙ marks_refuse (of g c.args.self.now) (of g c.args.source.now) c.args.start c.args.end c.if-start-end.false _ c.in_err-fits_range.ensures

pub returns-in_err-of_oks : goal.returns-in_err-of_oks
returns-in_err-of_oks g c =
    let ranks = c.ranks_in-first in
    let inside = (range_granted _ _ (of g c.args.source.now).bs c.args.end c.in_ok-fits_range.ensures).0 in
    let e = err_from_is_err_and c.from_residual-in_err-of_oks.result c.from_residual-in_err-of_oks.ensures.1 in
    e.1 ∙ ap Err e.2 ∙ oks_refuse (of g c.args.self.now) (of g c.args.source.now) c.args.start c.args.end c.if-start-end.false ranks.result.0 ranks.result.1 ranks.ensures.first ranks.ensures.last inside c.in_ok-fits_range.ensures _ c.fits_range-2.result c.in_err-of_oks.ensures c.fits_range-2.ensures

pub returns : goal.returns
returns g c =
    let ranks = c.ranks_in-first in
    let inside = (range_granted _ _ (of g c.args.source.now).bs c.args.end c.in_ok-fits_range.ensures).0 in
    c.of_errs.ensures ∙ errs_decide (of g c.args.self.now) (of g c.args.source.now) c.args.start c.args.end c.if-start-end.false ranks.result.0 ranks.result.1 ranks.ensures.first ranks.ensures.last inside c.in_ok-fits_range.ensures c.fits_range-2.result c.in_ok-of_oks.ensures c.fits_range-2.ensures c.fits_range-3.result c.fits_range-3.ensures
