-- The bits that words and a tail hold, and what is counted among them.
-- A bit column of n bits means a list of n bits; bit i stands at bit i % 64 of word i / 64, bit 0 being the lowest.
use Rattle.std.specs.Prelude.{◌≡◌, ℕ, zero, suc, ◌+◌, ◌*◌, ◌/◌, ◌%◌, ◌^◌, ◌<◌, ◌≤◌, Bool, true, false, cond, List, [], ◌∷◌, ◌++◌, length, take, Some, None, Option, ◌==◌, slice_index}

-- the most bits that a column may have
abbrev pub most_bits : ℕ
most_bits = 67108863

-- the k lowest bits of w, lowest first
unfoldable pub low_bits : ℕ → ℕ → List Bool
low_bits zero w = []
low_bits (suc k) w = (w % 2 == 1) ∷ low_bits k (w / 2)

-- the bits of whole words
unfoldable pub word_bits : List ℕ → List Bool
word_bits [] = []
word_bits (w ∷ ws) = low_bits 64 w ++ word_bits ws

-- the bits of whole words, and then the k bits of the tail t
abbrev pub bits_of : List ℕ → ℕ → ℕ → List Bool
bits_of ws t k = word_bits ws ++ low_bits k t

-- how many of the bits are ones
unfoldable pub ones_among : List Bool → ℕ
ones_among [] = 0
ones_among (b ∷ bs) = cond b 1 0 + ones_among bs

-- rank: how many of the first i are
abbrev pub rank_of : List Bool → ℕ → ℕ
rank_of bs i = ones_among (take i bs)

-- the same place, one bit further on
abbrev pub after : Option ℕ → Option ℕ
after None = None
after (Some p) = Some (suc p)

-- select: the place of the r-th one, counted from 0, or none
unfoldable pub select_of : List Bool → ℕ → Option ℕ
select_of [] r = None
select_of (true ∷ bs) zero = Some 0
select_of (true ∷ bs) (suc r) = after (select_of bs r)
select_of (false ∷ bs) r = after (select_of bs r)

-- the first one at or after p, or none: that which rank p ones stand before
abbrev pub first_from : List Bool → ℕ → Option ℕ
first_from bs p = select_of bs (rank_of bs p)

-- each word fits 64 bits
abbrev pub Words64 : List ℕ → Type 0
Words64 ws = (i : ℕ) → slice_index ws i < 2 ^ 64

-- a lawful tail: 0 to 63 bits, and no bit of its word set at or above them
pub record Tailed (t k : ℕ) : Type 0 where
  pub few : k < 64
  pub clean : t < 2 ^ k

-- words and a tail hold bits as they ought to
pub record Held (ws : List ℕ) (t k : ℕ) : Type 0 where
  pub fit : Words64 ws
  pub tailed : Tailed t k
  pub small : 64 * length ws + k ≤ most_bits

-- cs has a count for each whole 1,024 bits, of the ones up to there
pub record Counted (cs : List ℕ) (bs : List Bool) : Type 0 where
  pub many : length cs ≡ length bs / 1024
  pub each : (j : ℕ) → j < length cs → slice_index cs j ≡ rank_of bs (1024 * (j + 1))

-- the counts are right as far as they go
pub record Lagging (cs : List ℕ) (bs : List Bool) : Type 0 where
  pub most : length cs ≤ length bs / 1024
  pub each : (j : ℕ) → j < length cs → slice_index cs j ≡ rank_of bs (1024 * (j + 1))

-- a bit column is sound: words and tail hold its bits, and its counts count them
pub record Sound (cs ws : List ℕ) (t k : ℕ) : Type 0 where
  pub held : Held ws t k
  pub counted : Counted cs (bits_of ws t k)
