-- Bytes in words. A byte is a number below 256. A word holds 8 bytes, lowest first; where bytes end within a
-- word, the rest of it is 0.
use Rattle.std.specs.Prelude.{ℕ, zero, suc, ◌+◌, ◌*◌, ◌/◌, ◌%◌, List, [], ◌∷◌, ◌++◌, length, take, drop}
use Rattle.store.specs.Layout.{Slice, up}

-- bytes as a number, lowest first
abbrev pub value : List ℕ → ℕ
value [] = 0
value (b ∷ bs) = b + 256 * value bs

-- the first n words of bytes
abbrev pub pack : ℕ → List ℕ → List ℕ
pack zero bs = []
pack (suc n) bs = value (take 8 bs) ∷ pack n (drop 8 bs)

-- bytes as one slice, in as many words as they take
abbrev pub bytes_slice : List ℕ → Slice
bytes_slice bs = record { bytes = length bs; words = pack (up (length bs)) bs }

-- the k lowest bytes of a number
abbrev pub low_bytes : ℕ → ℕ → List ℕ
low_bytes zero w = []
low_bytes (suc k) w = w % 256 ∷ low_bytes k (w / 256)

-- all bytes of words
abbrev pub bytes_in : List ℕ → List ℕ
bytes_in [] = []
bytes_in (w ∷ ws) = low_bytes 8 w ++ bytes_in ws

-- the first n bytes of words, or all of them where they are fewer
abbrev pub part_bytes : List ℕ → ℕ → List ℕ
part_bytes ws n = take n (bytes_in ws)
