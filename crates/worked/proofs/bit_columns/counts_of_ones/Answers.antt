use Rattle.std.proofs.Common.{◌≡◌, ◌/◌, Bool, true, cond, ltb, List, length, replicate, Ok, Err, ap, ◌∙◌, subst, ap₂}
use Rattle.refusals.specs.declared.fault.Fault.TheVariants.{Outside}
use Rattle.words.specs.contracts.table.Table64ReadStore.TheImpl.{ghosts as tabled}
use Rattle.words.specs.Words.{item_answer}
use Rattle.bitlaws.specs.Bits.{Counted}
use Rattle.worked.proofs.Examples.{counts_long, first_word}
use Rattle.worked.proofs.bit_columns.counts_of_ones.Goals as goal

pub returns : goal.returns
returns c =
    let n = c.args.n in
    let same = c.counts-counts.ensures in
    let cs = tabled.list c.push_ones.new.column.counts in
    let counted : Counted cs (replicate n true) = subst (λ (x : List Bool). Counted cs x) c.push_ones.ensures c.push_ones.new.column.counted in
    let a : c.len.result ≡ n / 1024 = c.len.ensures ∙ ap (λ x. length (tabled.list x)) same ∙ counts_long cs n counted in
    let b : c.item.result ≡ cond (ltb 0 (n / 1024)) (Ok 1024) (Err (Outside 0)) = c.item.ensures ∙ ap (λ x. item_answer (tabled.list x) 0) same ∙ first_word cs n counted in
    ap₂ (λ x y. (x, y)) a b
