use Rattle.std.proofs.Common.{Err, sym, ap, ◌∙◌}
use Rattle.std.proofs.lemmas.Result.{err_from_is_err_and}
use Rattle.columns.proofs.Appends.{inner_ok, sided}
use Rattle.options.specs.declared.fault.OptionsFault.TheVariants.{Own}
use Rattle.options.proofs.Parts.{Parts, parts}
use Rattle.options.proofs.Pushes.{marks_refuse, some_asked, none_asked}
use Rattle.options.specs.declared.options.Options.{Options}
use Rattle.options.proofs.growing.OptionsPayload.fits.Given.{Over}
use Rattle.options.proofs.growing.OptionsPayload.fits.Goals as goal

abbrev of : (g : Over) → Options g.row.T.Denot g.row.C.Denot g.row.V.Denot g.row.T-Item.Denot g.row.T-Fault.Denot g.row.T-Kind.Denot g.T.Column g.T.Fault.Refusal g.T.Kind.Kind g.C.ReadStore g.V.ReadStore → Parts g.row.T-Item.Denot g.row.T-Fault.Denot
of g = parts g.T.Payload g.C.GrowStore g.V.GrowStore g.met.T.Payload.asks g.met.T.Payload.holds

pub returns-in_err-of_marks : goal.returns-in_err-of_marks
returns-in_err-of_marks g c =
    let p = of g c.args.self.now in
    let e = err_from_is_err_and c.from_residual.result c.from_residual.ensures.1 in
    e.1 ∙ ap Err e.2 ∙ sided Own _ c.room_for.result _ _ c.room_for.ensures (marks_refuse p c.args.x) c.in_err-of_marks.ensures

pub returns-in-Some : goal.returns-in-Some
returns-in-Some g c =
    let p = of g c.args.self.now in
    c.of_somes.ensures ∙ some_asked p c.args.x (sym (inner_ok Own _ c.room_for.result c.in_ok-of_marks.ensures) ∙ c.room_for.ensures) c.in-Some.v c.in-Some.is c.fits.result c.fits.ensures

pub returns-in-None : goal.returns-in-None
returns-in-None g c =
    let p = of g c.args.self.now in
    none_asked p c.args.x (sym (inner_ok Own _ c.room_for.result c.in_ok-of_marks.ensures) ∙ c.room_for.ensures) c.in-None.is
