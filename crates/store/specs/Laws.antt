-- What stands between slices, their layout and a checked store.
use Rattle.std.specs.Prelude.{◌≡◌, ℕ, ◌+◌, ◌*◌, ◌%◌, ◌<◌, ◌≤◌, List, length, Ok, slice_index}
use Rattle.store.specs.Layout.{Slice, up, slice, AllFormed, layout}
use Rattle.store.specs.Answers.{longest, check_answer, validate_answer, bytes_of, slices_in, slice_of}

-- one layout holds one list of slices
abbrev pub LayoutOne : Type 0
LayoutOne = (ss ts : List Slice) → AllFormed ss → AllFormed ts → layout ss ≡ layout ts → ss ≡ ts

-- a layout of no more words than there may be passes check, with its own number of slices
abbrev pub LayoutPasses : Type 0
LayoutPasses = (ss : List Slice) → AllFormed ss → length (layout ss) ≤ longest → check_answer (layout ss) (length ss) ≡ Ok tt

-- slice k of a layout is slice k: its words, and the bytes of the last of them that are in use
abbrev pub LayoutSlices : Type 0
LayoutSlices = (ss : List Slice) (k : ℕ) → AllFormed ss → slice_of (layout ss) k ≡ ((slice ss k).words, (slice ss k).bytes % 8)

-- a store of n slices, each of which ends in it, at or behind its start
pub record Checked (ws : List ℕ) (n : ℕ) : Type 0 where
  pub count : slices_in ws ≡ n
  pub long : length ws ≤ longest
  pub before : (k : ℕ) → k < n → 8 * up (slice_index ws k) ≤ slice_index ws (k + 1)
  pub within : (k : ℕ) → k < n → slice_index ws (k + 1) ≤ 8 * length ws

-- what passes check is such a store
abbrev pub CheckChecks : Type 0
CheckChecks = (ws : List ℕ) (n : ℕ) → check_answer ws n ≡ Ok tt → Checked ws n

-- slice k of such a store is whole: as many words as its bytes take, of which the last has the tail bytes
abbrev pub CheckedSlices : Type 0
CheckedSlices = (ws : List ℕ) (n k : ℕ) → Checked ws n → k < n
    → (length (slice_of ws k).0 ≡ up (bytes_of ws k)) × ((slice_of ws k).1 ≡ bytes_of ws k % 8)

-- what passes validate is such a store, and each slice is a whole number of its elements, of which none is empty
abbrev pub ValidateChecks : Type 0
ValidateChecks = (ws sizes : List ℕ) → validate_answer ws sizes ≡ Ok tt
    → Checked ws (length sizes)
    × ((k : ℕ) → k < length sizes → (0 < slice_index sizes k) × (bytes_of ws k % slice_index sizes k ≡ 0))
