-- Lists of entries of two variants: the marks that tell them apart, what the entries of one variant hold,
-- and how the marks are stored.
use Rattle.std.specs.Prelude.{ℕ, Bool, List, [], ◌∷◌, Some, None, Ok, Err, Option, Result}
use Rattle.store.specs.Layout.{Slice}
use Rattle.bitlaws.specs.Forms.{full_words, tail_word, tail_bits, counts_of}
use Rattle.columns.specs.Kinds.{words_slice}

-- an item, where there is one, before others
abbrev pub also : {A : Type 0} → Option A → List A → List A
also None xs = xs
also (Some x) xs = x ∷ xs

-- what `held` finds in each entry, in order
abbrev pub picked : {E A : Type 0} → (E → Option A) → List E → List A
picked held [] = []
picked held (e ∷ es) = also (held e) (picked held es)

-- of two answers the first refusal
abbrev pub first_of : {F : Type 0} → Result (Unit {0}) F → Result (Unit {0}) F → Result (Unit {0}) F
first_of (Ok u) r = r
first_of (Err f) r = Err f

-- the slices of marks: counts, full words, and the tail as its word and its number of bits
abbrev pub bits_form : List Bool → List Slice
bits_form bs = words_slice (counts_of bs) ∷ words_slice (full_words bs) ∷ words_slice (tail_word bs ∷ tail_bits bs ∷ []) ∷ []

abbrev pub bits_sizes : List ℕ
bits_sizes = 8 ∷ 8 ∷ 8 ∷ []
