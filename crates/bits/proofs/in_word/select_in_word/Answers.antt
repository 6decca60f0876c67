use Rattle.std.proofs.Common.{sym}
use Rattle.bitlaws.specs.Bits.{low_bits}
use Rattle.bitlaws.proofs.Selects.{select_some}
use Rattle.bits.specs.declared.in_word.Sought.{Sought}
use Rattle.bits.specs.Halving.{Moved}
use Rattle.bits.proofs.Halves.{then, placed}
use Rattle.bits.proofs.in_word.select_in_word.Goals as goal

pub returns : goal.returns
returns c =
    let w = c.args.word in
    let start : Sought = record { word = w; k = c.args.k; place = 0 } in
    let a = c.halved in
    let b = c.halved-2 in
    let d = c.halved-3 in
    let e = c.halved-4 in
    let f = c.halved-5 in
    let last = c.halved-sought in
    let half : Moved start b.result = then start a.result b.result a.ensures.moved b.ensures.moved in
    let more : Moved start e.result = then start b.result e.result half (then b.result d.result e.result d.ensures.moved e.ensures.moved) in
    let all : Moved start last.result = then start e.result last.result more (then e.result f.result last.result f.ensures.moved last.ensures.moved) in
    sym (select_some (low_bits 64 w) c.args.k last.result.place (placed w c.args.k c.ranges.word.fits last.result all last.ensures.near))
