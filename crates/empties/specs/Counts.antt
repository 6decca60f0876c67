-- Lists of units. A unit has one value, so a list of units is told by its length alone.
use Rattle.std.specs.Prelude.{ℕ, List, [], ◌∷◌, length, replicate}
use Rattle.store.specs.Layout.{Slice}

-- the list of n units
abbrev pub units : ℕ → List (Unit {0})
units n = replicate n tt

-- units as one slice of one word, which is their number
abbrev pub count_slice : List (Unit {0}) → Slice
count_slice xs = record { bytes = 8; words = length xs ∷ [] }
