-- What rank, select and the holding of bits in words mean, above their definitions.
use Rattle.std.specs.Prelude.{◌≡◌, ℕ, ◌+◌, ◌<◌, ◌≤◌, Bool, true, false, cond, List, length, Some, None, ◌≢◌, slice_index, slice_index_or}
use Rattle.bitlaws.specs.Bits.{most_bits, bits_of, rank_of, select_of, first_from, Sound}
use Rattle.bitlaws.specs.Forms.{full_words, tail_word, tail_bits, counts_of}

-- n is the number of ones below i: there is a rising list of n places that are just those
pub record OnesBelow (bs : List Bool) (i n : ℕ) : Type 0 where
  pub places : List ℕ
  pub many : length places ≡ n
  pub rising : (a b : ℕ) → a < b → b < length places → slice_index places a < slice_index places b
  pub ones : (a : ℕ) → a < length places → (slice_index places a < i) × (slice_index_or bs (slice_index places a) false ≡ true)
  pub all : (p : ℕ) → p < i → slice_index_or bs p false ≡ true → (a : ℕ) × ((a < length places) × (slice_index places a ≡ p))

-- rank i is the number of ones below i
abbrev pub RankCounts : Type 0
RankCounts = (bs : List Bool) (i : ℕ) → OnesBelow bs i (rank_of bs i)

-- rank grows by the bit, from 0
abbrev pub RankSteps : Type 0
RankSteps = (bs : List Bool) → (rank_of bs 0 ≡ 0) × ((i : ℕ) → rank_of bs (i + 1) ≡ rank_of bs i + cond (slice_index_or bs i false) 1 0)

-- and so never falls
abbrev pub RankRises : Type 0
RankRises = (bs : List Bool) (i j : ℕ) → i ≤ j → rank_of bs i ≤ rank_of bs j

-- p holds a one, and r ones stand before it
pub record Selected (bs : List Bool) (r p : ℕ) : Type 0 where
  pub one : slice_index_or bs p false ≡ true
  pub rank : rank_of bs p ≡ r

-- select r is p exactly when p holds a one and rank p is r
abbrev pub SelectFinds : Type 0
SelectFinds = (bs : List Bool) (r p : ℕ) → (select_of bs r ≡ Some p → Selected bs r p) × (Selected bs r p → select_of bs r ≡ Some p)

-- and none exactly when there is no such p
abbrev pub SelectLacks : Type 0
SelectLacks = (bs : List Bool) (r : ℕ) → (select_of bs r ≡ None → (p : ℕ) → Selected bs r p → ⊥) × (((p : ℕ) → Selected bs r p → ⊥) → select_of bs r ≡ None)

-- q is the first one at or after p
pub record First (bs : List Bool) (p q : ℕ) : Type 0 where
  pub from : p ≤ q
  pub one : slice_index_or bs q false ≡ true
  pub none : (j : ℕ) → p ≤ j → j < q → slice_index_or bs j false ≡ false

abbrev pub FirstFinds : Type 0
FirstFinds = (bs : List Bool) (p q : ℕ) → (first_from bs p ≡ Some q → First bs p q) × (First bs p q → first_from bs p ≡ Some q)

-- and there is none exactly when no place at or after p holds a one
abbrev pub FirstLacks : Type 0
FirstLacks = (bs : List Bool) (p : ℕ) → (first_from bs p ≡ None → (q : ℕ) → p ≤ q → slice_index_or bs q false ≢ true) × (((q : ℕ) → p ≤ q → slice_index_or bs q false ≢ true) → first_from bs p ≡ None)

-- two sound columns with the same bits have the same counts, words and tail, however the bits came in
abbrev pub OneHolding : Type 0
OneHolding = (cs ws : List ℕ) (t k : ℕ) (ds vs : List ℕ) (u l : ℕ) → Sound cs ws t k → Sound ds vs u l → bits_of ws t k ≡ bits_of vs u l → (cs ≡ ds) × (ws ≡ vs) × (t ≡ u) × (k ≡ l)

-- the words, tail and counts worked out from bits hold just these bits, as a sound column does; by the law
-- above, every sound column of these bits has them
abbrev pub FormHolds : Type 0
FormHolds = (bs : List Bool) → length bs ≤ most_bits → (bits_of (full_words bs) (tail_word bs) (tail_bits bs) ≡ bs) × Sound (counts_of bs) (full_words bs) (tail_word bs) (tail_bits bs)
