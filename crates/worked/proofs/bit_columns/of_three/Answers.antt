use Rattle.std.proofs.Common.{◌≡◌, ◌+◌, Bool, true, false, List, [], ◌∷◌, length, Some, None, Ok, ap, ◌∙◌}
use Rattle.bitlaws.specs.Bits.{ones_among, select_of}
use Rattle.bits.specs.Columns.{push_list, fits, rank_answer}
use Rattle.worked.proofs.bit_columns.of_three.Goals as goal

pub returns : goal.returns
unfolding ones_among select_of
returns c =
    let one = c.push.ensures.list ∙ ap (λ (bs : List Bool). push_list bs (fits (length bs + 1) 64 64) (true ∷ [])) c.no_bits-column.ensures in
    let two = c.push-2.ensures.list ∙ ap (λ (bs : List Bool). push_list bs (fits (length bs + 1) 64 64) (false ∷ [])) one in
    let three = c.push-3.ensures.list ∙ ap (λ (bs : List Bool). push_list bs (fits (length bs + 1) 64 64) (true ∷ [])) two in
    let a : c.rank.result ≡ Ok 1 = c.rank.ensures ∙ ap (λ (bs : List Bool). rank_answer bs 2) three in
    let b : c.rank-2.result ≡ Ok 2 = c.rank-2.ensures ∙ ap (λ (bs : List Bool). rank_answer bs 3) three in
    let d : c.select.result ≡ Some 2 = c.select.ensures ∙ ap (λ (bs : List Bool). select_of bs 1) three in
    let e : c.select-2.result ≡ None = c.select-2.ensures ∙ ap (λ (bs : List Bool). select_of bs 2) three in
    cc
