use Rattle.std.proofs.Common.{◌∙◌, arith}
use Rattle.bitlaws.proofs.Words.{length_bits}
use Rattle.bits.proofs.Selecting.{some_is, some_inside, none_is}
use Rattle.bits.proofs.rank_select.RankSelect.select.Goals as goal

pub returns : goal.returns
returns g c =
    let s = c.args.self.now.values in
    let found = c.word_with-block in
    some_is (g.V.ReadStore.list s.values) s.tail.word s.tail.bits found.result.0 c.word.result found.result.1 c.args.rank found.ensures.within s.held.tailed c.word.ensures found.ensures.counted found.ensures.below c.in_ok-bit.bit c.in_ok-bit.ensures

pub overflow_add-result : goal.overflow_add-result
overflow_add-result g c =
    let s = c.args.self.now.values in
    let ws = g.V.ReadStore.list s.values in
    let found = c.word_with-block in
    let inside = some_inside ws s.tail.word s.tail.bits found.result.0 c.word.result found.result.1 c.args.rank found.ensures.within s.held.tailed c.word.ensures found.ensures.counted found.ensures.below c.in_ok-bit.bit c.in_ok-bit.ensures in
    omega (arith, inside, length_bits ws s.tail.word s.tail.bits, s.held.small)

pub returns-in_err-bit : goal.returns-in_err-bit
returns-in_err-bit g c =
    let s = c.args.self.now.values in
    let found = c.word_with-block in
    c.from_residual.ensures ∙ none_is (g.V.ReadStore.list s.values) s.tail.word s.tail.bits found.result.0 c.word.result found.result.1 c.args.rank found.ensures.within s.held.tailed c.word.ensures found.ensures.counted found.ensures.below c.in_err-bit.ensures c.word.type_inv found.ensures.above
