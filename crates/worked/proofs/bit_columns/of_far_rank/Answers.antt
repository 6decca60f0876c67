use Rattle.std.proofs.Common.{◌+◌, Bool, true, List, [], ◌∷◌, length, ap, ◌∙◌}
use Rattle.bitlaws.specs.Bits.{select_of}
use Rattle.bits.specs.Columns.{push_list, fits}
use Rattle.worked.proofs.bit_columns.of_far_rank.Goals as goal

pub returns : goal.returns
unfolding select_of
returns c =
    let one = c.push.ensures.list ∙ ap (λ (bs : List Bool). push_list bs (fits (length bs + 1) 64 64) (true ∷ [])) c.no_bits-column.ensures in
    c.select.ensures ∙ ap (λ (bs : List Bool). select_of bs 4294967296) one
