-- What the calls of a store answer, over the list of its words.
use Rattle.std.specs.Prelude.{ℕ, ◌+◌, ◌-◌, ◌*◌, ◌/◌, ◌%◌, not, ◌||◌, if◌then◌else◌, List, [], ◌∷◌, length, take, drop, Some, None, Ok, Err, Option, Result, ◌==◌, nat_lt, slice_index}
use Rattle.refusals.specs.declared.fault.Fault.{Fault}
use Rattle.refusals.specs.declared.fault.Fault.TheVariants.{Extent, First, Table, Slices, Beyond, Before, Ragged}
use Rattle.store.specs.Layout.{up}

-- the most words of a store, and the most slices that a caller may ask for
abbrev pub longest : ℕ
longest = 268435456

abbrev pub most_slices : ℕ
most_slices = 4095

-- refusals 11 and 12 of the slices from i on, of which the first starts at start
abbrev pub ends_fault : ℕ → ℕ → ℕ → List ℕ → Option Fault
ends_fault bytes i start [] = None
ends_fault bytes i start (e ∷ es) =
    if nat_lt bytes e then Some (Beyond i e)
    else if nat_lt e start then Some (Before i e)
    else ends_fault bytes (i + 1) (8 * up e) es

-- refusals 8 to 12, where the first word is first
abbrev pub table_fault : List ℕ → ℕ → ℕ → Option Fault
table_fault ws first expected =
    if nat_lt first 8 || not (first % 8 == 0) then Some (First first)
    else if nat_lt (length ws) (first / 8) then Some (Table (first / 8))
    else if not (first / 8 - 1 == expected) then Some (Slices expected (first / 8 - 1))
    else ends_fault (8 * length ws) 0 first (take (first / 8 - 1) (drop 1 ws))

-- refusals 7 to 12
abbrev pub store_fault : List ℕ → ℕ → Option Fault
store_fault ws expected =
    if length ws == 0 || nat_lt longest (length ws) then Some Extent
    else table_fault ws (slice_index ws 0) expected

abbrev pub answered : Option Fault → Result (Unit {0}) Fault
answered None = Ok tt
answered (Some f) = Err f

abbrev pub check_answer : List ℕ → ℕ → Result (Unit {0}) Fault
check_answer ws expected = answered (store_fault ws expected)

-- the length of slice k in bytes: its end less its start, which is the end before it, rounded up
abbrev pub bytes_of : List ℕ → ℕ → ℕ
bytes_of ws k = slice_index ws (k + 1) - 8 * up (slice_index ws k)

-- refusal 13 of the slices from i on, by the sizes of their elements: no slice is whole at a size of 0
abbrev pub ragged_fault : List ℕ → ℕ → List ℕ → Option Fault
ragged_fault ws i [] = None
ragged_fault ws i (z ∷ zs) =
    if z == 0 || not (bytes_of ws i % z == 0) then Some (Ragged i) else ragged_fault ws (i + 1) zs

abbrev pub first_of : Option Fault → Option Fault → Option Fault
first_of None g = g
first_of (Some f) g = Some f

abbrev pub validate_fault : List ℕ → List ℕ → Option Fault
validate_fault ws sizes =
    if nat_lt most_slices (length sizes) then Some (Slices 4096 0)
    else first_of (store_fault ws (length sizes)) (ragged_fault ws 0 sizes)

abbrev pub validate_answer : List ℕ → List ℕ → Result (Unit {0}) Fault
validate_answer ws sizes = answered (validate_fault ws sizes)

-- how many slices the table has
abbrev pub slices_in : List ℕ → ℕ
slices_in ws = slice_index ws 0 / 8 - 1

-- the words of slice k and its tail bytes
abbrev pub slice_of : List ℕ → ℕ → List ℕ × ℕ
slice_of ws k =
    if nat_lt k (slices_in ws) then
    (take (up (slice_index ws (k + 1)) - up (slice_index ws k)) (drop (up (slice_index ws k)) ws), slice_index ws (k + 1) % 8)
    else ([], 0)
