use Rattle.std.proofs.Common.{◌≤◌, length}
use Rattle.std.specs.Coded.{×_prop, le_prop}
use Rattle.columns.specs.Kinds.{Each, most_items}
use Rattle.columns.proofs.Appends.{refused_inside}
use Rattle.columns.proofs.Lists.{each_alone}
use Rattle.items.proofs.items.ItemsPayload.push.Goals as goal

pub returns-clause-same : goal.returns-clause-same
returns-clause-same g c =
    let s = c.args.self.now in
    let fit = g.K.Plain.fitting in
    refused_inside (λ t. (length (g.S.ReadStore.list t) ≤ most_items) × Each fit (g.S.ReadStore.list t)) (λ t p. record { store = t; kind = s.kind; owned = c.args.self.now.owned; few = p.0; each = p.1 })
    (λ t. ×_prop le_prop (each_alone fit g.K.Plain.alone (g.S.ReadStore.list t))) c.put.result _ s.store (_, _) (s.few, s.each) c.put.ensures.same
