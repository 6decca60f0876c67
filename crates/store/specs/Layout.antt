-- The layout of a store, from the slices that it holds.
use Rattle.std.specs.Prelude.{◌≡◌, ℕ, ◌+◌, ◌*◌, ◌/◌, ◌≤◌, List, [], ◌∷◌, ◌++◌, length, slice_index_or}

-- A slice of bytes: its length in bytes, and its bytes as words, lowest byte first, padded with zero bytes.
pub record Slice : Type 0 where
  pub bytes : ℕ
  pub words : List ℕ

-- the words that n bytes take
abbrev pub up : ℕ → ℕ
up n = (n + 7) / 8

abbrev pub none : Slice
none = record { bytes = 0; words = [] }

-- slice k, and no bytes past the last
abbrev pub slice : List Slice → ℕ → Slice
slice ss k = slice_index_or ss k none

-- the most bytes of a slice
abbrev pub most_bytes : ℕ
most_bytes = 536870912

-- as many words as its bytes take, and not too many bytes
abbrev pub Formed : Slice → Type 0
Formed s = (length s.words ≡ up s.bytes) × (s.bytes ≤ most_bytes)

abbrev pub AllFormed : List Slice → Type 0
AllFormed [] = Unit {0}
AllFormed (s ∷ ss) = Formed s × AllFormed ss

-- the end of a slice that comes behind the end e
abbrev pub end_of : ℕ → Slice → ℕ
end_of e s = 8 * up e + s.bytes

abbrev pub ends : ℕ → List Slice → List ℕ
ends e [] = []
ends e (s ∷ ss) = end_of e s ∷ ends (end_of e s) ss

abbrev pub last_end : ℕ → List Slice → ℕ
last_end e [] = e
last_end e (s ∷ ss) = last_end (end_of e s) ss

abbrev pub contents : List Slice → List ℕ
contents [] = []
contents (s ∷ ss) = s.words ++ contents ss

-- word 0 and the ends
abbrev pub head : List Slice → List ℕ
head ss = 8 * (length ss + 1) ∷ ends (8 * (length ss + 1)) ss

abbrev pub layout : List Slice → List ℕ
layout ss = head ss ++ contents ss
