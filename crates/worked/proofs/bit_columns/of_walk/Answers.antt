use Rattle.std.proofs.Common.{◌≡◌, Bool, true, List, length, Some, Ok, ap, ◌∙◌}
use Rattle.words.specs.contracts.table.Table64ReadStore.TheImpl.{ghosts as tabled}
use Rattle.bitlaws.specs.Bits.{low_bits}
use Rattle.bits.specs.Columns.{column_bits}
use Rattle.cursor.specs.Moves.{spot}
use Rattle.worked.proofs.Examples.{grow, walk_bits, walk_grown, first_move, second_move, third_move}
use Rattle.worked.proofs.bit_columns.of_walk.Goals as goal

pub returns : goal.returns
unfolding grow walk_bits low_bits
returns c =
    let bs = column_bits tabled c.push_bits-3.new.self in
    let one = c.push_bits.ensures.list in
    let two = c.push_bits-2.ensures.list ∙ ap (λ (x : List Bool). grow x 1 64) one in
    let all : bs ≡ walk_bits = c.push_bits-3.ensures.list ∙ ap (λ (x : List Bool). grow x 2 2) two ∙ walk_grown (column_bits tabled c.no_bits-column.result) c.no_bits-column.ensures in
    let long : c.new-cursor.result.length ≡ 130 = c.new-cursor.ensures.length ∙ ap length all in
    let a = first_move bs c.new-cursor.result.length (spot c.new-cursor.result) all long c.new-cursor.ensures.at in
    let long-2 = c.next_one.ensures.length ∙ long in
    let b = second_move bs c.next_one.new.self.length (spot c.next_one.new.self) all long-2 (c.next_one.ensures.moved ∙ a.1) in
    let long-3 = c.step.ensures.length ∙ long-2 in
    let d = third_move bs c.step.new.self.length (spot c.step.new.self) all long-3 (c.step.ensures.moved ∙ b.1) in
    let x : c.next_one.result ≡ Ok (Some 63) = c.next_one.ensures.answer ∙ a.0 in
    let y : c.step.result ≡ Ok (Some true) = c.step.ensures.answer ∙ b.0 in
    let z : c.next_one-2.result ≡ Ok (Some 129) = c.next_one-2.ensures.answer ∙ d in
    cc
