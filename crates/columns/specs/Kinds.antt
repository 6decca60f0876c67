-- How lists of items are stored: as slices of bytes, worked out from the list alone.
use Rattle.std.specs.Prelude.{◌≡◌, ℕ, ◌*◌, ◌%◌, ◌<◌, ◌≤◌, min, if◌then◌else◌, List, [], ◌∷◌, length, nat_lt, slice_index}
use Rattle.store.specs.Layout.{Slice}

-- the most items of a list that is stored
abbrev pub most_items : ℕ
most_items = 67108863

-- P holds of each item
abbrev pub Each : {A : Type 0} → (A → Type 0) → List A → Type 0
Each P [] = Unit {0}
Each P (x ∷ xs) = P x × Each P xs

-- a list that may be stored: not too long, and each item fits its type
pub record Lawful {A : Type 0} (Fit : A → Type 0) (xs : List A) : Type 0 where
  pub few : length xs ≤ most_items
  pub each : Each Fit xs

-- each slice is a whole number of elements, whose sizes are above 0
abbrev pub Whole : List ℕ → List Slice → Type 0
Whole [] [] = Unit {0}
Whole [] (s ∷ ss) = ⊥
Whole (z ∷ zs) [] = ⊥
Whole (z ∷ zs) (s ∷ ss) = ((0 < z) × (s.bytes % z ≡ 0)) × Whole zs ss

-- one more than the most slices of a kind that is written or opened
abbrev pub cut : ℕ
cut = 4096

-- the number of slices, cut
abbrev pub count_of : List ℕ → ℕ
count_of sizes = min (length sizes) cut

-- the size of an element of slice k; 0 past the last, and from the cut on
abbrev pub size_of : List ℕ → ℕ → ℕ
size_of sizes k = if nat_lt k cut then slice_index sizes k else 0

-- words as one slice, 8 bytes a word
abbrev pub words_slice : List ℕ → Slice
words_slice ws = record { bytes = 8 * length ws; words = ws }

-- items as one slice, `width` bytes an item
abbrev pub one_slice : {A : Type 0} → ℕ → (List A → List ℕ) → List A → List Slice
one_slice width words xs = record { bytes = width * length xs; words = words xs } ∷ []
