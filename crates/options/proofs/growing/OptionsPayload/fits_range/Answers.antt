use Rattle.std.proofs.Common.{Err, sym, ap, ◌∙◌}
use Rattle.std.proofs.lemmas.Result.{err_from_is_err_and}
use Rattle.columns.proofs.Appends.{inner_ok, sided}
use Rattle.options.specs.declared.fault.OptionsFault.TheVariants.{Own}
use Rattle.options.proofs.Parts.{Parts, parts}
use Rattle.options.proofs.Ranges.{marks_refuse, payload_decides}
use Rattle.options.specs.declared.options.Options.{Options}
use Rattle.options.proofs.growing.OptionsPayload.fits_range.Given.{Over}
use Rattle.options.proofs.growing.OptionsPayload.fits_range.Goals as goal

abbrev of : (g : Over) → Options g.row.T.Denot g.row.C.Denot g.row.V.Denot g.row.T-Item.Denot g.row.T-Fault.Denot g.row.T-Kind.Denot g.T.Column g.T.Fault.Refusal g.T.Kind.Kind g.C.ReadStore g.V.ReadStore → Parts g.row.T-Item.Denot g.row.T-Fault.Denot
of g = parts g.T.Payload g.C.GrowStore g.V.GrowStore g.met.T.Payload.asks g.met.T.Payload.holds

pub returns-in_err-of_marks : goal.returns-in_err-of_marks
returns-in_err-of_marks g c =
    let e = err_from_is_err_and c.from_residual.result c.from_residual.ensures.1 in
    e.1 ∙ ap Err e.2 ∙ sided Own _ c.fits_range.result _ _ c.fits_range.ensures (marks_refuse (of g c.args.self.now) (of g c.args.source.now) c.args.start c.args.end c.if-start-end.false) c.in_err-of_marks.ensures

pub returns : goal.returns
returns g c =
    let ranks = c.ranks_in-first in
    c.of_somes.ensures
    ∙ payload_decides (of g c.args.self.now) (of g c.args.source.now) c.args.start c.args.end c.if-start-end.false ranks.result.0 ranks.result.1 ranks.ensures.first ranks.ensures.last (sym (inner_ok Own _ c.fits_range.result c.in_ok-of_marks.ensures) ∙ c.fits_range.ensures) c.fits_range-2.result c.fits_range-2.ensures
