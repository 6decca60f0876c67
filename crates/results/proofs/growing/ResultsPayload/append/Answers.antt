use Rattle.std.proofs.Common.{◌∙◌, arith}
use Rattle.results.specs.EntriesLemmas.{merged, matched_ones, matched_zeros}
use Rattle.results.proofs.Parts.{Parts, parts}
use Rattle.results.proofs.Ranges.{granted_end, granted_marks, granted_oks, granted_errs, range_held, list_after}
use Rattle.results.specs.declared.results.Results.{Results}
use Rattle.results.proofs.growing.ResultsPayload.append.Given.{Over}
use Rattle.results.proofs.growing.ResultsPayload.append.Goals as goal

abbrev of : (g : Over) → Results g.row.S.Denot g.row.T.Denot g.row.C.Denot g.row.V.Denot g.row.S-Item.Denot g.row.S-Fault.Denot g.row.S-Kind.Denot g.row.T-Item.Denot g.row.T-Fault.Denot g.row.T-Kind.Denot g.S.Column g.S.Fault.Refusal g.S.Kind.Kind g.T.Column g.T.Fault.Refusal g.T.Kind.Kind g.C.ReadStore g.V.ReadStore → Parts g.row.S-Item.Denot g.row.T-Item.Denot g.row.S-Fault.Denot g.row.T-Fault.Denot
of g = parts g.S.Payload g.T.Payload g.C.GrowStore g.V.GrowStore g.met.S.Payload.asks g.met.S.Payload.holds g.met.T.Payload.asks g.met.T.Payload.holds

pub ranks_in-first-requires : goal.ranks_in-first-requires
ranks_in-first-requires g c =
    let end = granted_end (of g c.args.self.now) (of g c.args.source.now) c.args.start c.args.end c.if-start-end.false c.in_ok-fits_range.ensures in (omega (arith, end, c.if-start-end.false), end)

pub append_items-requires : goal.append_items-requires
append_items-requires g c =
    let ranks = c.ranks_in-first in
    granted_oks (of g c.args.self.now) (of g c.args.source.now) c.args.start c.args.end c.if-start-end.false ranks.result.0 ranks.result.1 ranks.ensures.first ranks.ensures.last (granted_end (of g c.args.self.now) (of g c.args.source.now) c.args.start c.args.end c.if-start-end.false c.in_ok-fits_range.ensures) c.in_ok-fits_range.ensures

pub append_items-requires-2 : goal.append_items-requires-2
append_items-requires-2 g c =
    let ranks = c.ranks_in-first in
    granted_errs (of g c.args.self.now) (of g c.args.source.now) c.args.start c.args.end c.if-start-end.false ranks.result.0 ranks.result.1 ranks.ensures.first ranks.ensures.last (granted_end (of g c.args.self.now) (of g c.args.source.now) c.args.start c.args.end c.if-start-end.false c.in_ok-fits_range.ensures) c.in_ok-fits_range.ensures

pub append_bits-requires : goal.append_bits-requires
append_bits-requires g c =
    record {
      within = granted_end (of g c.args.self.now) (of g c.args.source.now) c.args.start c.args.end c.if-start-end.false c.in_ok-fits_range.ensures;
      room = granted_marks (of g c.args.self.now) (of g c.args.source.now) c.args.start c.args.end c.if-start-end.false c.in_ok-fits_range.ensures;
    }

pub invariant_of-self : goal.invariant_of-self
invariant_of-self g c =
    let ranks = c.ranks_in-first in
    let a = range_held (of g c.args.self.now) (of g c.args.source.now) c.args.start c.args.end c.if-start-end.false ranks.result.0 ranks.result.1 ranks.ensures.first ranks.ensures.last (granted_end (of g c.args.self.now) (of g c.args.source.now) c.args.start c.args.end c.if-start-end.false c.in_ok-fits_range.ensures) _ _ _ c.append_bits.ensures.list c.append_items.ensures.list c.append_items-2.ensures.list in
    record { ones = matched_ones _ _ _ _ a.0 a.1.0 a.1.1; zeros = matched_zeros _ _ _ _ a.0 a.1.0 a.1.1 }

pub returns-clause-list : goal.returns-clause-list
returns-clause-list g c =
    let ranks = c.ranks_in-first in
    let a = range_held (of g c.args.self.now) (of g c.args.source.now) c.args.start c.args.end c.if-start-end.false ranks.result.0 ranks.result.1 ranks.ensures.first ranks.ensures.last (granted_end (of g c.args.self.now) (of g c.args.source.now) c.args.start c.args.end c.if-start-end.false c.in_ok-fits_range.ensures) _ _ _ c.append_bits.ensures.list c.append_items.ensures.list c.append_items-2.ensures.list in
    merged _ _ _ _ a.0 a.1.0 a.1.1 ∙ list_after (of g c.args.self.now) (of g c.args.source.now) c.args.start c.args.end _ c.in_ok-fits_range.ensures
