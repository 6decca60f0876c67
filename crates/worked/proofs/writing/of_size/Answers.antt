use Rattle.std.proofs.Common.{ℕ, List, Option, ap, ◌∙◌}
use Rattle.bitlaws.specs.Forms.{bits_value, words_from, counts_from}
use Rattle.columns.specs.Writing.{size_answer}
use Rattle.worked.proofs.Written.{times_form}
use Rattle.worked.proofs.writing.of_size.Goals as goal

pub returns : goal.returns
unfolding times_form bits_value words_from counts_from
returns c = c.size.ensures ∙ ap (λ (xs : List (Option ℕ)). size_answer (times_form xs)) c.three_times.ensures
