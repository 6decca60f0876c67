use Rattle.std.proofs.Common.{◌≡◌, ℕ, ◌+◌, Bool, List, [], ◌∷◌, length, Ok, ap, ◌∙◌}
use Rattle.words.specs.contracts.table.Table64ReadStore.TheImpl.{ghosts as tabled}
use Rattle.words.specs.Words.{item_answer}
use Rattle.bitlaws.specs.Bits.{bits_of}
use Rattle.bits.specs.Columns.{column_bits, group_list, fits}
use Rattle.worked.proofs.Examples.{after_groups, group_word, group_tail, group_bits}
use Rattle.worked.proofs.bit_columns.of_group.Goals as goal

pub returns : goal.returns
returns c =
    let s = c.push_bits-2.new.self.values in
    let ws = tabled.list s.values in
    let new = column_bits tabled c.no_bits-column.result in
    let zeros = c.push_bits.ensures.list in
    let all : bits_of ws s.tail.word s.tail.bits ≡ bits_of (4611686018427387904 ∷ []) 1 1 =
    c.push_bits-2.ensures.list ∙ ap (λ (x : List Bool). group_list x (fits (length x + 3) 64 64) 5 3) zeros ∙ after_groups new c.no_bits-column.ensures in
    let held = s.held in
    let there = c.values-values.ensures in
    let a : c.item.result ≡ Ok 4611686018427387904 =
    c.item.ensures ∙ ap (λ x. item_answer (tabled.list x) 0) (c.words.ensures ∙ ap (λ x. x.values) there)
    ∙ ap (λ (x : List ℕ). item_answer x 0) (group_word ws s.tail.word s.tail.bits held all) in
    let b : c.tail-tail.result.word ≡ 1 = ap (λ x. x.word) (c.tail-tail.ensures ∙ ap (λ x. x.tail) there) ∙ group_tail ws s.tail.word s.tail.bits held all in
    let d : c.tail-tail.result.bits ≡ 1 = ap (λ x. x.bits) (c.tail-tail.ensures ∙ ap (λ x. x.tail) there) ∙ group_bits ws s.tail.word s.tail.bits held all in
    cc
