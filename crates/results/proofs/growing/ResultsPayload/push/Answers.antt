use Rattle.std.proofs.Common.{◌≡◌, ◌+◌, length, Err, sym, refl, ap, ◌∙◌}
use Rattle.std.specs.Coded.{Coded-set, coded_ℕ, ×_prop}
use Rattle.std.proofs.lemmas.Result.{err_from_is_err_and}
use Rattle.bitlaws.specs.Bits.{ones_among}
use Rattle.columns.proofs.Appends.{inner_ok, inner_err, on_refusal, refused_inside}
use Rattle.results.specs.declared.fault.ResultsFault.TheVariants.{Oks, Errs}
use Rattle.results.specs.Entries.{merge}
use Rattle.results.specs.Limits.{limited, asked}
use Rattle.results.specs.EntriesLemmas.{merged, matched_ones, matched_zeros}
use Rattle.results.proofs.Parts.{Parts, parts}
use Rattle.results.proofs.Pushes.{marks_refuse, ok_asked, err_asked, list_after, ok_held, err_held}
use Rattle.results.specs.declared.results.Results.{Results}
use Rattle.results.proofs.growing.ResultsPayload.push.Given.{Over}
use Rattle.results.proofs.growing.ResultsPayload.push.Goals as goal

abbrev of : (g : Over) → Results g.row.S.Denot g.row.T.Denot g.row.C.Denot g.row.V.Denot g.row.S-Item.Denot g.row.S-Fault.Denot g.row.S-Kind.Denot g.row.T-Item.Denot g.row.T-Fault.Denot g.row.T-Kind.Denot g.S.Column g.S.Fault.Refusal g.S.Kind.Kind g.T.Column g.T.Fault.Refusal g.T.Kind.Kind g.C.ReadStore g.V.ReadStore → Parts g.row.S-Item.Denot g.row.T-Item.Denot g.row.S-Fault.Denot g.row.T-Fault.Denot
of g = parts g.S.Payload g.T.Payload g.C.GrowStore g.V.GrowStore g.met.S.Payload.asks g.met.S.Payload.holds g.met.T.Payload.asks g.met.T.Payload.holds

pub returns-in_err-room_for-clause-answer : goal.returns-in_err-room_for-clause-answer
returns-in_err-room_for-clause-answer g c =
    let p = of g c.args.self.now in
    let e = err_from_is_err_and c.from_residual.result c.from_residual.ensures.1 in
    e.1 ∙ ap Err e.2 ∙ marks_refuse p c.args.x _ c.in_err-room_for.ensures

pub returns-in_err-room_for-clause-list : goal.returns-in_err-room_for-clause-list
returns-in_err-room_for-clause-list g c =
    let p = of g c.args.self.now in
    list_after p c.args.x _ (marks_refuse p c.args.x _ c.in_err-room_for.ensures) _ refl

pub returns-in_err-of_oks-in-Ok : goal.returns-in_err-of_oks-in-Ok
returns-in_err-of_oks-in-Ok g c =
    let s = c.args.self.now in
    let p = of g s in
    let inner = c.push.ensures in
    let e = err_from_is_err_and c.from_residual-in_err-of_oks-in-Ok.result c.from_residual-in_err-of_oks-in-Ok.ensures.1 in
    let told = c.in_err-of_oks-in-Ok.ensures ∙ ok_asked p c.args.x c.in_ok-room_for.ensures c.in-Ok.v c.in-Ok.is c.push.result c.push.ensures.answer in
    let same = inner_err Oks _ c.push.result c.in_err-of_oks-in-Ok.ensures inner.same in
    record {
      answer = e.1 ∙ ap Err e.2 ∙ told;
      list = ap (λ q. merge p.bs (g.S.Column.items q) p.es) same ∙ list_after p c.args.x _ told _ refl;
      limit = ap (λ l. limited p.room l p.le) inner.limit;
      ask = ap (λ a. asked p.room a p.ae) inner.ask;
      same = refused_inside (λ q. (length (g.S.Column.items q) ≡ ones_among p.bs) × (ones_among p.bs + length p.es ≡ length p.bs)) (λ q m. record { indexes = s.indexes; oks = q; errs = s.errs; ones = m.0; zeros = m.1 })
          (λ q. ×_prop (Coded-set coded_ℕ _ _) (Coded-set coded_ℕ _ _)) _ c.push.new.self s.oks (_, _) (s.ones, s.zeros) (on_refusal _ same);
    }

pub returns-in_err-of_errs-in-Err : goal.returns-in_err-of_errs-in-Err
returns-in_err-of_errs-in-Err g c =
    let s = c.args.self.now in
    let p = of g s in
    let inner = c.push-in-Err.ensures in
    let e = err_from_is_err_and c.from_residual-in_err-of_errs-in-Err.result c.from_residual-in_err-of_errs-in-Err.ensures.1 in
    let told = c.in_err-of_errs-in-Err.ensures ∙ err_asked p c.args.x c.in_ok-room_for.ensures c.in-Err.w c.in-Err.is c.push-in-Err.result c.push-in-Err.ensures.answer in
    let same = inner_err Errs _ c.push-in-Err.result c.in_err-of_errs-in-Err.ensures inner.same in
    record {
      answer = e.1 ∙ ap Err e.2 ∙ told;
      list = ap (λ q. merge p.bs p.os (g.T.Column.items q)) same ∙ list_after p c.args.x _ told _ refl;
      limit = ap (limited p.room p.lo) inner.limit;
      ask = ap (asked p.room p.ao) inner.ask;
      same = refused_inside (λ q. (length p.os ≡ ones_among p.bs) × (ones_among p.bs + length (g.T.Column.items q) ≡ length p.bs)) (λ q m. record { indexes = s.indexes; oks = s.oks; errs = q; ones = m.0; zeros = m.1 })
          (λ q. ×_prop (Coded-set coded_ℕ _ _) (Coded-set coded_ℕ _ _)) _ c.push-in-Err.new.self s.errs (_, _) (s.ones, s.zeros) (on_refusal _ same);
    }

pub invariant_of-self-in-Ok : goal.invariant_of-self-in-Ok
invariant_of-self-in-Ok g c =
    let p = of g c.args.self.now in
    let a = ok_held p c.args.x c.in-Ok.v c.in-Ok.is _ _ c.push_bit.ensures.list c.push.ensures.list (sym (inner_ok Oks _ c.push.result c.in_ok-of_oks-in-Ok.ensures) ∙ c.push.ensures.answer) in
    record { ones = matched_ones _ _ _ _ a.0 a.1.0 a.1.1; zeros = matched_zeros _ _ _ _ a.0 a.1.0 a.1.1 }

pub invariant_of-self-in-Err : goal.invariant_of-self-in-Err
invariant_of-self-in-Err g c =
    let p = of g c.args.self.now in
    let a = err_held p c.args.x c.in-Err.w c.in-Err.is _ _ c.push_bit-in-Err.ensures.list c.push-in-Err.ensures.list (sym (inner_ok Errs _ c.push-in-Err.result c.in_ok-of_errs-in-Err.ensures) ∙ c.push-in-Err.ensures.answer) in
    record { ones = matched_ones _ _ _ _ a.0 a.1.0 a.1.1; zeros = matched_zeros _ _ _ _ a.0 a.1.0 a.1.1 }

pub returns-in_ok-of_oks-in-Ok-clause-answer : goal.returns-in_ok-of_oks-in-Ok-clause-answer
returns-in_ok-of_oks-in-Ok-clause-answer g c =
    let p = of g c.args.self.now in
    c.in_ok-of_oks-in-Ok.ensures ∙ ok_asked p c.args.x c.in_ok-room_for.ensures c.in-Ok.v c.in-Ok.is c.push.result c.push.ensures.answer

pub returns-in_ok-of_oks-in-Ok-clause-list : goal.returns-in_ok-of_oks-in-Ok-clause-list
returns-in_ok-of_oks-in-Ok-clause-list g c =
    let p = of g c.args.self.now in
    let a = ok_held p c.args.x c.in-Ok.v c.in-Ok.is _ _ c.push_bit.ensures.list c.push.ensures.list (sym (inner_ok Oks _ c.push.result c.in_ok-of_oks-in-Ok.ensures) ∙ c.push.ensures.answer) in
    list_after p c.args.x _ (c.in_ok-of_oks-in-Ok.ensures ∙ ok_asked p c.args.x c.in_ok-room_for.ensures c.in-Ok.v c.in-Ok.is c.push.result c.push.ensures.answer) _ (merged _ _ _ _ a.0 a.1.0 a.1.1)

pub returns-in_ok-of_errs-in-Err-clause-answer : goal.returns-in_ok-of_errs-in-Err-clause-answer
returns-in_ok-of_errs-in-Err-clause-answer g c =
    let p = of g c.args.self.now in
    c.in_ok-of_errs-in-Err.ensures ∙ err_asked p c.args.x c.in_ok-room_for.ensures c.in-Err.w c.in-Err.is c.push-in-Err.result c.push-in-Err.ensures.answer

pub returns-in_ok-of_errs-in-Err-clause-list : goal.returns-in_ok-of_errs-in-Err-clause-list
returns-in_ok-of_errs-in-Err-clause-list g c =
    let p = of g c.args.self.now in
    let a = err_held p c.args.x c.in-Err.w c.in-Err.is _ _ c.push_bit-in-Err.ensures.list c.push-in-Err.ensures.list (sym (inner_ok Errs _ c.push-in-Err.result c.in_ok-of_errs-in-Err.ensures) ∙ c.push-in-Err.ensures.answer) in
    list_after p c.args.x _ (c.in_ok-of_errs-in-Err.ensures ∙ err_asked p c.args.x c.in_ok-room_for.ensures c.in-Err.w c.in-Err.is c.push-in-Err.result c.push-in-Err.ensures.answer) _ (merged _ _ _ _ a.0 a.1.0 a.1.1)
