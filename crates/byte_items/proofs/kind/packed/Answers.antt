use Rattle.std.proofs.Common.{◌<◌, arith}
use Rattle.byte_items.proofs.Packing.{packed_step, packed_small, packed_fits}
use Rattle.byte_items.proofs.kind.packed.Goals as goal

pub overflow_mul-word : goal.overflow_mul-word
overflow_mul-word g c =
    omega (arith, packed_fits c.args.end c.loop-i.i c.args.from c.loop-i.word 0 c.loop-i-test.true c.requires.eight c.loop-i.invariant.1 (omega arith))

pub overflow_add-word : goal.overflow_add-word
overflow_add-word g c =
    packed_fits c.args.end c.loop-i.i c.args.from c.loop-i.word c.item_of.result c.loop-i-test.true c.requires.eight c.loop-i.invariant.1 c.item_of.type_inv

pub loop-i-preserved : goal.loop-i-preserved
loop-i-preserved g c =
    let bs = g.S.ReadStore.list c.args.store.now in
    let hi = c.args.end in
    let i = c.loop-i.i in
    let some : 0 < i = omega (arith, c.loop-i-test.true) in (
      packed_step _ bs hi i c.loop-i.word c.item_of.result some c.loop-i.auto.i c.requires.within c.loop-i.invariant.0 c.item_of.ensures,
      packed_small hi i c.loop-i.word c.item_of.result some c.loop-i.auto.i c.loop-i.invariant.1 c.item_of.type_inv,
      omega (arith, c.loop-i-test.true),
    )
