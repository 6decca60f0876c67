use Rattle.std.proofs.Common.{◌+◌, sym, ap, ◌∙◌, arith}
use Rattle.bitlaws.specs.Bits.{select_of}
use Rattle.bitlaws.proofs.Firsts.{rank_skip, first_past}
use Rattle.bits.specs.Columns.{bits_in}
use Rattle.bits.proofs.bools.Bools.first_in.Goals as goal

-- the last word has no one either
pub returns-else-word-ne0 : goal.returns-else-word-ne0
returns-else-word-ne0 g c =
    let s = c.args.self.now in
    let ws = g.V.ReadStore.list s.values in
    let past = rank_skip ws s.tail.word s.tail.bits c.loop-block.block c.word-word.result s.held (omega (arith, c.len-block-end.ensures)) c.word-word.ensures c.if-word-ne0.false in
    sym (ap (select_of (bits_in g.V.ReadStore s)) (sym (past ∙ c.loop-block.invariant))
    ∙ first_past ws s.tail.word s.tail.bits (c.loop-block.block + 1) s.held (omega (arith, c.len-block-end.ensures)))
