use Rattle.std.proofs.Common.{◌+◌, length, ap, ◌∙◌, arith}
use Rattle.columns.specs.Writing.{put}
use Rattle.columns.proofs.Formed.{full_at, tail_at}
use Rattle.columns.proofs.Puts.{put_two}
use Rattle.columns.proofs.marks.write_marks.Goals as goal

pub put_store-requires-in-1 : goal.put_store-requires-in-1
put_store-requires-in-1 g c =
    let s = full_at c.args.marks.now c.args.k c.in-1.is c.words.result.now (c.words.ensures ∙ ap (λ b. b.values) c.values.ensures) in
    omega (arith, ap (λ q. length q.words) s, c.requires.room)

pub returns-in-1-clause-place : goal.returns-in-1-clause-place
returns-in-1-clause-place g c =
    let s = full_at c.args.marks.now c.args.k c.in-1.is c.words.result.now (c.words.ensures ∙ ap (λ b. b.values) c.values.ensures) in
    c.put_store-in-1.ensures.place ∙ ap (λ q. c.args.at + length q.words) s

pub returns-in-1-clause-words : goal.returns-in-1-clause-words
returns-in-1-clause-words g c =
    let s = full_at c.args.marks.now c.args.k c.in-1.is c.words.result.now (c.words.ensures ∙ ap (λ b. b.values) c.values.ensures) in
    c.put_store-in-1.ensures.words ∙ ap (λ q. put c.args.at q.words c.args.out.now) s

pub returns-in_default-clause-words : goal.returns-in_default-clause-words
returns-in_default-clause-words g c =
    let t = c.tail-tail.result in
    let s = tail_at c.args.marks.now c.args.k (omega (arith, c.in_default, c.requires.slice)) t (c.tail-tail.ensures ∙ ap (λ b. b.tail) c.values-in_default.ensures) in
    put_two c.args.at t.word t.bits c.args.out.now (omega (arith, ap (λ q. length q.words) s, c.requires.room)) ∙ ap (λ q. put c.args.at q.words c.args.out.now) s
