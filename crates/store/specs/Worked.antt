-- A small store, and what its slices hold.
use Rattle.std.specs.Prelude.{ℕ, List, [], ◌∷◌, Result}
use Rattle.refusals.specs.declared.fault.Fault.{Fault}
use Rattle.words.specs.Words.{item_answer}
use Rattle.store.specs.Answers.{slice_of}

-- four slices, of which the last two hold 5, 3 and 7, 9
abbrev pub small : List ℕ
small = 40 ∷ 40 ∷ 40 ∷ 56 ∷ 72 ∷ 5 ∷ 3 ∷ 7 ∷ 9 ∷ []

-- the first two words of a slice, and its tail bytes
abbrev pub two_words : ℕ → Result ℕ Fault × Result ℕ Fault × ℕ
two_words k = (item_answer (slice_of small k).0 0, item_answer (slice_of small k).0 1, (slice_of small k).1)
