use Rattle.std.proofs.Common.{◌≡◌, length, Err, sym, refl, ap, ◌∙◌}
use Rattle.std.specs.Coded.{Coded-set, coded_ℕ}
use Rattle.std.proofs.lemmas.Result.{err_from_is_err_and}
use Rattle.bitlaws.specs.Bits.{ones_among}
use Rattle.columns.proofs.Appends.{inner_ok, inner_err, sided, on_refusal, refused_inside}
use Rattle.options.specs.declared.fault.OptionsFault.TheVariants.{Own, Somes}
use Rattle.options.specs.Entries.{merge}
use Rattle.options.specs.Limits.{limited, asked}
use Rattle.options.specs.EntriesLemmas.{merged, matched}
use Rattle.options.proofs.Parts.{Parts, parts}
use Rattle.options.proofs.Pushes.{marks_refuse, some_asked, none_asked, list_after, some_held, none_held}
use Rattle.options.specs.declared.options.Options.{Options}
use Rattle.options.proofs.growing.OptionsPayload.push.Given.{Over}
use Rattle.options.proofs.growing.OptionsPayload.push.Goals as goal

abbrev of : (g : Over) → Options g.row.T.Denot g.row.C.Denot g.row.V.Denot g.row.T-Item.Denot g.row.T-Fault.Denot g.row.T-Kind.Denot g.T.Column g.T.Fault.Refusal g.T.Kind.Kind g.C.ReadStore g.V.ReadStore → Parts g.row.T-Item.Denot g.row.T-Fault.Denot
of g = parts g.T.Payload g.C.GrowStore g.V.GrowStore g.met.T.Payload.asks g.met.T.Payload.holds

pub returns-in_err-of_marks-clause-answer : goal.returns-in_err-of_marks-clause-answer
returns-in_err-of_marks-clause-answer g c =
    let p = of g c.args.self.now in
    let e = err_from_is_err_and c.from_residual.result c.from_residual.ensures.1 in
    e.1 ∙ ap Err e.2 ∙ sided Own _ c.room_for.result _ _ c.room_for.ensures (marks_refuse p c.args.x) c.in_err-of_marks.ensures

pub returns-in_err-of_marks-clause-list : goal.returns-in_err-of_marks-clause-list
returns-in_err-of_marks-clause-list g c =
    let p = of g c.args.self.now in
    list_after p c.args.x _ (sided Own _ c.room_for.result _ _ c.room_for.ensures (marks_refuse p c.args.x) c.in_err-of_marks.ensures) _ refl

pub returns-in_err-of_somes-in-Some : goal.returns-in_err-of_somes-in-Some
returns-in_err-of_somes-in-Some g c =
    let s = c.args.self.now in
    let p = of g s in
    let e = err_from_is_err_and c.from_residual-in_err-of_somes-in-Some.result c.from_residual-in_err-of_somes-in-Some.ensures.1 in
    let inner = c.push.ensures in
    let told = c.in_err-of_somes-in-Some.ensures ∙ some_asked p c.args.x (sym (inner_ok Own _ c.room_for.result c.in_ok-of_marks.ensures) ∙ c.room_for.ensures) c.in-Some.v c.in-Some.is c.push.result inner.answer in
    let same = inner_err Somes _ c.push.result c.in_err-of_somes-in-Some.ensures inner.same in
    record {
      answer = e.1 ∙ ap Err e.2 ∙ told;
      list = ap (λ q. merge p.bs (g.T.Column.items q)) same ∙ list_after p c.args.x _ told _ refl;
      limit = ap (λ l. limited p.room l) inner.limit;
      ask = ap (λ a. asked p.room a) inner.ask;
      same = refused_inside (λ q. length (g.T.Column.items q) ≡ ones_among p.bs) (λ q m. record { indexes = s.indexes; somes = q; many = m }) (λ q. Coded-set coded_ℕ _ _) _ c.push.new.self s.somes _ s.many (on_refusal _ same);
    }

pub invariant_of-self-in-Some : goal.invariant_of-self-in-Some
invariant_of-self-in-Some g c =
    let p = of g c.args.self.now in
    let done = inner_ok Somes _ c.push.result c.in_ok-of_somes-in-Some.ensures in
    let a = some_held p c.args.x _ _ c.in-Some.v c.in-Some.is c.push_bit.ensures.list c.push.ensures.list (sym done ∙ c.push.ensures.answer) in
    record { many = matched _ _ _ a.0 a.1 }

pub invariant_of-self-in-None : goal.invariant_of-self-in-None
invariant_of-self-in-None g c =
    let p = of g c.args.self.now in
    let a = none_held p c.args.x _ _ c.in-None.is c.push_bit-in-None.ensures.list refl in
    record { many = matched _ _ _ a.0 a.1 }

pub returns-in_ok-of_somes-in-Some-clause-answer : goal.returns-in_ok-of_somes-in-Some-clause-answer
returns-in_ok-of_somes-in-Some-clause-answer g c =
    let p = of g c.args.self.now in
    c.in_ok-of_somes-in-Some.ensures ∙ some_asked p c.args.x (sym (inner_ok Own _ c.room_for.result c.in_ok-of_marks.ensures) ∙ c.room_for.ensures) c.in-Some.v c.in-Some.is c.push.result c.push.ensures.answer

pub returns-in_ok-of_somes-in-Some-clause-list : goal.returns-in_ok-of_somes-in-Some-clause-list
returns-in_ok-of_somes-in-Some-clause-list g c =
    let p = of g c.args.self.now in
    let done = inner_ok Somes _ c.push.result c.in_ok-of_somes-in-Some.ensures in
    let a = some_held p c.args.x _ _ c.in-Some.v c.in-Some.is c.push_bit.ensures.list c.push.ensures.list (sym done ∙ c.push.ensures.answer) in
    let told = c.in_ok-of_somes-in-Some.ensures ∙ some_asked p c.args.x (sym (inner_ok Own _ c.room_for.result c.in_ok-of_marks.ensures) ∙ c.room_for.ensures) c.in-Some.v c.in-Some.is c.push.result c.push.ensures.answer in
    list_after p c.args.x _ told _ (merged _ _ _ a.0 a.1)

pub returns-in-None-clause-answer : goal.returns-in-None-clause-answer
returns-in-None-clause-answer g c =
    let p = of g c.args.self.now in
    none_asked p c.args.x (sym (inner_ok Own _ c.room_for.result c.in_ok-of_marks.ensures) ∙ c.room_for.ensures) c.in-None.is

pub returns-in-None-clause-list : goal.returns-in-None-clause-list
returns-in-None-clause-list g c =
    let p = of g c.args.self.now in
    let a = none_held p c.args.x _ _ c.in-None.is c.push_bit-in-None.ensures.list refl in
    list_after p c.args.x _ (none_asked p c.args.x (sym (inner_ok Own _ c.room_for.result c.in_ok-of_marks.ensures) ∙ c.room_for.ensures) c.in-None.is) _ (merged _ _ _ a.0 a.1)
