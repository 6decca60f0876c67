-- The words, the tail and the counts of a list of bits, worked out from the list alone.
use Rattle.std.specs.Prelude.{ℕ, zero, suc, ◌+◌, ◌*◌, ◌/◌, ◌%◌, Bool, cond, List, [], ◌∷◌, length, take, drop}
use Rattle.bitlaws.specs.Bits.{rank_of}

-- bits as a number, lowest first
unfoldable pub bits_value : List Bool → ℕ
bits_value [] = 0
bits_value (b ∷ bs) = cond b 1 0 + 2 * bits_value bs

-- the first n words
unfoldable pub words_from : ℕ → List Bool → List ℕ
words_from zero bs = []
words_from (suc n) bs = bits_value (take 64 bs) ∷ words_from n (drop 64 bs)

-- the whole words
abbrev pub full_words : List Bool → List ℕ
full_words bs = words_from (length bs / 64) bs

-- the bits behind them: the tail's word, and how many they are
abbrev pub tail_word : List Bool → ℕ
tail_word bs = bits_value (drop (64 * (length bs / 64)) bs)

abbrev pub tail_bits : List Bool → ℕ
tail_bits bs = length bs % 64

-- n counts, from count j on: of the ones among the first 1,024 * (j + 1) bits
unfoldable pub counts_from : ℕ → ℕ → List Bool → List ℕ
counts_from zero j bs = []
counts_from (suc n) j bs = rank_of bs (1024 * (j + 1)) ∷ counts_from n (j + 1) bs

-- a count for each whole 1,024 bits
abbrev pub counts_of : List Bool → List ℕ
counts_of bs = counts_from (length bs / 1024) 0 bs
