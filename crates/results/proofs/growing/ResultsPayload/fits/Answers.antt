use Rattle.std.proofs.Common.{Err, ap, ◌∙◌}
use Rattle.std.proofs.lemmas.Result.{err_from_is_err_and}
use Rattle.results.proofs.Parts.{Parts, parts}
use Rattle.results.proofs.Pushes.{marks_refuse, ok_asked, err_asked}
use Rattle.results.specs.declared.results.Results.{Results}
use Rattle.results.proofs.growing.ResultsPayload.fits.Given.{Over}
use Rattle.results.proofs.growing.ResultsPayload.fits.Goals as goal

abbrev of : (g : Over) → Results g.row.S.Denot g.row.T.Denot g.row.C.Denot g.row.V.Denot g.row.S-Item.Denot g.row.S-Fault.Denot g.row.S-Kind.Denot g.row.T-Item.Denot g.row.T-Fault.Denot g.row.T-Kind.Denot g.S.Column g.S.Fault.Refusal g.S.Kind.Kind g.T.Column g.T.Fault.Refusal g.T.Kind.Kind g.C.ReadStore g.V.ReadStore → Parts g.row.S-Item.Denot g.row.T-Item.Denot g.row.S-Fault.Denot g.row.T-Fault.Denot
of g = parts g.S.Payload g.T.Payload g.C.GrowStore g.V.GrowStore g.met.S.Payload.asks g.met.S.Payload.holds g.met.T.Payload.asks g.met.T.Payload.holds

pub returns-in_err-room_for : goal.returns-in_err-room_for
returns-in_err-room_for g c =
    let p = of g c.args.self.now in
    let e = err_from_is_err_and c.from_residual.result c.from_residual.ensures.1 in
    e.1 ∙ ap Err e.2 ∙ marks_refuse p c.args.x _ c.in_err-room_for.ensures

pub returns-in-Ok : goal.returns-in-Ok
returns-in-Ok g c =
    let p = of g c.args.self.now in
    c.of_oks.ensures ∙ ok_asked p c.args.x c.in_ok-room_for.ensures c.in-Ok.v c.in-Ok.is c.fits.result c.fits.ensures

pub returns-in-Err : goal.returns-in-Err
returns-in-Err g c =
    let p = of g c.args.self.now in
    c.of_errs.ensures ∙ err_asked p c.args.x c.in_ok-room_for.ensures c.in-Err.w c.in-Err.is c.fits-in-Err.result c.fits-in-Err.ensures
