use Rattle.std.proofs.Common.{Bool, List, [], ◌∷◌, ◌++◌, take, Ok, sym, ap, ◌∙◌}
use Rattle.std.proofs.lemmas.List.{append-nil}
use Rattle.bits.specs.Columns.{column_bits}
use Rattle.bits.proofs.Growing.{added}
use Rattle.refusals.proofs.Turned.{was_ok}
use Rattle.doors.specs.declared.plan.Mark.TheVariants.{Door, Break}
use Rattle.doors.specs.Plan.{doors_in}
use Rattle.doors.proofs.Texts.{doors_more, doors_none}
use Rattle.doors.proofs.plan.note_doors.Goals as goal
use Rattle.doors.proofs.plan.note_doors.Goals.{in-Door+in_ok-map_err-in-Door, in-Break}

pub loop-at-init : goal.loop-at-init
loop-at-init g c =
    let bs = column_bits g.V.ReadStore c.args.doors.now in
    sym (ap (λ (x : List Bool). bs ++ x) doors_none ∙ append-nil bs)

pub loop-at-preserved : goal.loop-at-preserved
loop-at-preserved g c =
    let bs = column_bits g.V.ReadStore c.args.doors.now in
    let before = c.loop-at.invariant in
    let text = c.args.text.now in
    let at = c.loop-at.at-counter in
    let marked = was_ok _ c.try_from.result c.map_err.result _ c.map_err.ensures.cases c.map_err.ensures.variant c.in_ok-mark.was in
    elim c.match-mark.branch [
      | in-Door+in_ok-map_err-in-Door w ↦
          let told = w.push.ensures in
          let ok = was_ok _ w.push.result w.map_err-in-Door.result tt w.map_err-in-Door.ensures.cases w.map_err-in-Door.ensures.variant w.in_ok-map_err-in-Door.was in
          ap (column_bits g.V.ReadStore) w.doors-is ∙ told.list
          ∙ added (column_bits g.V.ReadStore c.loop-at.doors) (w.in-Door.bit ∷ []) _ (sym ok ∙ told.answer)
          ∙ ap (λ (x : List Bool). x ++ (w.in-Door.bit ∷ [])) before
          ∙ doors_more text at (Ok (Door w.in-Door.bit)) c.loop-at-test.true (ap Ok (sym w.in-Door.is) ∙ sym marked ∙ c.try_from.ensures) bs
      | in-Break w ↦
          ap (column_bits g.V.ReadStore) w.doors-is ∙ before ∙ sym (append-nil (bs ++ doors_in (take at text)))
          ∙ doors_more text at (Ok Break) c.loop-at-test.true (ap Ok (sym w.in-Break.is) ∙ sym marked ∙ c.try_from.ensures) bs
    ]
