use Rattle.std.proofs.Common.{◌*◌, length, ap, ◌∙◌, arith}
use Rattle.columns.proofs.Marked.{marks_few}
use Rattle.columns.proofs.Formed.{full_at}
use Rattle.columns.proofs.marks.marks_bytes.Goals as goal

pub overflow_mul-result : goal.overflow_mul-result
overflow_mul-result g c =
    let r = c.args.marks.now in
    omega (arith, c.len.ensures, ap (λ s. length (g.C.ReadStore.list s)) c.counts.ensures, r.counted.many, marks_few r)

pub returns-in-1 : goal.returns-in-1
returns-in-1 g c =
    let r = c.args.marks.now in
    ap (λ n. 8 * n) c.len-in-1.ensures ∙ ap (λ s. s.bytes) (full_at r c.args.k c.in-1.is c.words.result.now (c.words.ensures ∙ ap (λ b. b.values) c.values.ensures))
