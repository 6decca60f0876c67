use Rattle.std.proofs.Common.{length, ◌∙◌, arith}
use Rattle.store.specs.Layout.{up}
use Rattle.byte_items.specs.Packed.{length_pack}
use Rattle.byte_items.proofs.Packing.{pack_at}
use Rattle.byte_items.proofs.kind.BytesKindPacks.word.Goals as goal

pub overflow_mul-from : goal.overflow_mul-from
overflow_mul-from g c =
    let bs = g.S.ReadStore.list c.args.store.now in
    omega (arith, length_pack (up (length bs)) bs, c.requires, c.len-n.ensures, c.len-n.type_inv)

pub overflow_sub-n : goal.overflow_sub-n
overflow_sub-n g c =
    let bs = g.S.ReadStore.list c.args.store.now in
    omega (arith, length_pack (up (length bs)) bs, c.requires, c.len-n.ensures)

pub returns-else-n-from-ge8 : goal.returns-else-n-from-ge8
returns-else-n-from-ge8 g c =
    let bs = g.S.ReadStore.list c.args.store.now in
    c.packed-else-n-from-ge8.ensures ∙ pack_at (up (length bs)) c.args.j bs (omega (arith, length_pack (up (length bs)) bs, c.requires))
