use Rattle.std.proofs.Common.{◌∙◌, arith}
use Rattle.options.specs.EntriesLemmas.{merged, matched}
use Rattle.options.proofs.Parts.{Parts, parts}
use Rattle.options.proofs.Ranges.{granted_end, granted_marks, granted_items, range_held, list_after}
use Rattle.options.specs.declared.options.Options.{Options}
use Rattle.options.proofs.growing.OptionsPayload.append.Given.{Over}
use Rattle.options.proofs.growing.OptionsPayload.append.Goals as goal

abbrev of : (g : Over) → Options g.row.T.Denot g.row.C.Denot g.row.V.Denot g.row.T-Item.Denot g.row.T-Fault.Denot g.row.T-Kind.Denot g.T.Column g.T.Fault.Refusal g.T.Kind.Kind g.C.ReadStore g.V.ReadStore → Parts g.row.T-Item.Denot g.row.T-Fault.Denot
of g = parts g.T.Payload g.C.GrowStore g.V.GrowStore g.met.T.Payload.asks g.met.T.Payload.holds

pub ranks_in-first-requires : goal.ranks_in-first-requires
ranks_in-first-requires g c =
    let end = granted_end (of g c.args.self.now) (of g c.args.source.now) c.args.start c.args.end c.if-start-end.false c.in_ok-fits_range.ensures in (omega (arith, end, c.if-start-end.false), end)

pub append_items-requires : goal.append_items-requires
append_items-requires g c =
    granted_items (of g c.args.self.now) (of g c.args.source.now) c.args.start c.args.end c.if-start-end.false
    c.ranks_in-first.result.0 c.ranks_in-first.result.1 c.ranks_in-first.ensures.first c.ranks_in-first.ensures.last c.in_ok-fits_range.ensures

pub append_bits-requires : goal.append_bits-requires
append_bits-requires g c =
    record {
      within = granted_end (of g c.args.self.now) (of g c.args.source.now) c.args.start c.args.end c.if-start-end.false c.in_ok-fits_range.ensures;
      room = granted_marks (of g c.args.self.now) (of g c.args.source.now) c.args.start c.args.end c.if-start-end.false c.in_ok-fits_range.ensures;
    }

pub invariant_of-self : goal.invariant_of-self
invariant_of-self g c =
    let a = range_held (of g c.args.self.now) (of g c.args.source.now) c.args.start c.args.end c.if-start-end.false
    c.ranks_in-first.result.0 c.ranks_in-first.result.1 c.ranks_in-first.ensures.first c.ranks_in-first.ensures.last _ _ c.append_bits.ensures.list c.append_items.ensures.list in
    record { many = matched _ _ _ a.0 a.1 }

pub returns-clause-list : goal.returns-clause-list
returns-clause-list g c =
    let a = range_held (of g c.args.self.now) (of g c.args.source.now) c.args.start c.args.end c.if-start-end.false
    c.ranks_in-first.result.0 c.ranks_in-first.result.1 c.ranks_in-first.ensures.first c.ranks_in-first.ensures.last _ _ c.append_bits.ensures.list c.append_items.ensures.list in
    merged _ _ _ a.0 a.1 ∙ list_after (of g c.args.self.now) (of g c.args.source.now) c.args.start c.args.end _ c.in_ok-fits_range.ensures
