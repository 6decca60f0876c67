-- How a short column of words or none is stored.
use Rattle.std.specs.Prelude.{ℕ, List, [], ◌∷◌, ◌++◌, Option}
use Rattle.store.specs.Layout.{Slice}
use Rattle.columns.specs.Kinds.{words_slice}
use Rattle.columns.specs.Variants.{bits_form}
use Rattle.options.specs.Entries.{some_marks, somes}

unfoldable pub times_form : List (Option ℕ) → List Slice
times_form xs = bits_form (some_marks xs) ++ (words_slice (somes xs) ∷ [])
