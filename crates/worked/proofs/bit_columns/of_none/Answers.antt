use Rattle.std.proofs.Common.{◌≡◌, Bool, List, None, Ok, Err, ap, ◌∙◌}
use Rattle.refusals.specs.declared.fault.Fault.TheVariants.{Outside}
use Rattle.bitlaws.specs.Bits.{ones_among, select_of}
use Rattle.bits.specs.Columns.{rank_answer}
use Rattle.worked.proofs.bit_columns.of_none.Goals as goal

pub returns : goal.returns
unfolding ones_among select_of
returns c =
    let none = c.no_bits-column.ensures in
    let a : c.rank.result ≡ Ok 0 = c.rank.ensures ∙ ap (λ (bs : List Bool). rank_answer bs 0) none in
    let b : c.select.result ≡ None = c.select.ensures ∙ ap (λ (bs : List Bool). select_of bs 0) none in
    let d : c.rank-2.result ≡ Err (Outside 1) = c.rank-2.ensures ∙ ap (λ (bs : List Bool). rank_answer bs 1) none in
    cc
