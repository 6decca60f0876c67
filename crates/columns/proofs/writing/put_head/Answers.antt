use Rattle.std.proofs.Common.{◌+◌, ◌*◌, ◌<◌, length, arith, length-set}
use Rattle.columns.proofs.Puts.{end_next, end_small, ends_next}
use Rattle.columns.proofs.writing.put_head.Goals as goal

pub loop-i-preserved : goal.loop-i-preserved
loop-i-preserved g c =
    let xs = g.C.Column.items c.args.column.now in
    let ss = g.C.Kind.Kind.form xs in
    let inside : c.loop-i.i < length ss = omega (arith, g.met.C.Kind.Kind.counted xs, c.requires.count, c.loop-i-test.true) in
    let f = g.met.C.Kind.Kind.formed xs (g.met.C.Column.lawful c.args.column.now) in
    let h = 8 * (c.args.k + 1) in
    let l = length-set c.args.out.now 0 h in
    let inv = c.loop-i.invariant in
    let end = c.loop-i.end in
    let q = c.div_ceil.result in
    let b = c.slice_bytes.result in (
      end_next h c.loop-i.i end q b ss inside inv.0 c.div_ceil.ensures c.slice_bytes.ensures,
      end_small c.loop-i.i end q b (c.args.k + 1) ss f inv.1 c.div_ceil.ensures c.slice_bytes.ensures,
      ends_next h c.loop-i.i end q b ss _ c.loop-i.out inside (omega (arith, c.loop-i.auto.out, l, c.requires.room, c.loop-i-test.true)) (omega (arith, l, c.requires.room)) inv.0 c.div_ceil.ensures c.slice_bytes.ensures inv.2,
    )
