use Rattle.std.proofs.Common.{◌≡◌, ℕ, List, [], ◌∷◌, Ok, Option, replicate, ap, ◌∙◌, ap₂}
use Rattle.bitlaws.specs.Forms.{bits_value, words_from, counts_from}
use Rattle.columns.specs.Writing.{write_answer, written}
use Rattle.worked.proofs.Written.{times_form}
use Rattle.worked.proofs.writing.of_writing.Goals as goal

pub returns : goal.returns
unfolding times_form bits_value words_from counts_from
returns c =
    let a : c.write-answer.result ≡ Ok 9 = c.write-answer.ensures.answer ∙ ap (λ (xs : List (Option ℕ)). write_answer (times_form xs) 9) c.three_times.ensures in
    let b : c.write-answer.new.out ≡ 40 ∷ 40 ∷ 40 ∷ 56 ∷ 72 ∷ 5 ∷ 3 ∷ 7 ∷ 9 ∷ [] = c.write-answer.ensures.words ∙ ap (λ (xs : List (Option ℕ)). written (times_form xs) (replicate 9 0)) c.three_times.ensures in
    ap₂ (λ x y. (x, y)) a b
