-- What the calls of a bit column answer, over the list of its bits.
use Rattle.std.specs.Prelude.{ℕ, ◌/◌, ◌^◌, Bool, false, if◌then◌else◌, ◌&&◌, List, ◌++◌, length, Ok, Err, Option, Result, nat_le, nat_lt, slice_index_or, slice_range}
use Rattle.refusals.specs.declared.fault.Fault.{Fault}
use Rattle.refusals.specs.declared.fault.Fault.TheVariants.{Outside, Past, Full, Group}
use Rattle.words.specs.declared.reading.ReadStore.{Ghosts}
use Rattle.words.specs.declared.reading.GrowStore.{Ghosts as Growing}
use Rattle.bitlaws.specs.Bits.{most_bits, low_bits, bits_of, rank_of, first_from}
use Rattle.bits.specs.declared.bools.Bools.{Bools}
use Rattle.bits.specs.declared.rank_select.RankSelect.{RankSelect}

-- the bits of a column, by the list that its word store means
abbrev pub bits_in : {V : Type 0} → (v : Ghosts V ℕ) → Bools V v → List Bool
bits_in v b = bits_of (v.list b.values) b.tail.word b.tail.bits

-- the same of a column that counts them
abbrev pub column_bits : {C V : Type 0} {c : Ghosts C ℕ} → (v : Ghosts V ℕ) → RankSelect C V c v → List Bool
column_bits v r = bits_in v r.values

-- bit i, or refusal 1
abbrev pub get_answer : List Bool → ℕ → Result Bool Fault
get_answer bs i = if nat_lt i (length bs) then Ok (slice_index_or bs i false) else Err (Outside i)

-- the number of ones below i, or refusal 1
abbrev pub rank_answer : List Bool → ℕ → Result ℕ Fault
rank_answer bs i = if nat_le i (length bs) then Ok (rank_of bs i) else Err (Outside i)

-- the first one at or after i, or refusal 1
abbrev pub first_answer : List Bool → ℕ → Result (Option ℕ) Fault
first_answer bs i = if nat_le i (length bs) then Ok (first_from bs i) else Err (Outside i)

-- full word b, or the tail's word t behind the last one, or refusal 1
abbrev pub word_or_tail : List ℕ → ℕ → ℕ → Result ℕ Fault
word_or_tail ws t b = if nat_le b (length ws) then Ok (slice_index_or ws b t) else Err (Outside b)

-- whether n bits are within the limit, where there may be `values` full words
abbrev pub fits_words : ℕ → ℕ → Bool
fits_words n values = nat_le n most_bits && nat_le (n / 64) values

-- and `counts` counts
abbrev pub fits : ℕ → ℕ → ℕ → Bool
fits n values counts = fits_words n values && nat_le (n / 1024) counts

-- the same of a column, by the capacities of its stores
abbrev pub room_in : {C V : Type 0} {rc : Ghosts C ℕ} {rv : Ghosts V ℕ} → Growing C ℕ → Growing V ℕ → RankSelect C V rc rv → ℕ → Bool
room_in c v r n = fits n (v.room r.values.values) (c.room r.counts)

-- adding to the bits bs, where `ok` says whether that keeps the limit: refusal 3 with the length
abbrev pub push_answer : List Bool → Bool → Result (Unit {0}) Fault
push_answer bs ok = if ok then Ok tt else Err (Full (length bs))

-- the bits after it
abbrev pub push_list : List Bool → Bool → List Bool → List Bool
push_list bs ok more = if ok then bs ++ more else bs

-- a group of n bits is lawful: n is at most 64, and no bit is set at or above n
abbrev pub lawful_group : ℕ → ℕ → Bool
lawful_group group n = nat_le n 64 && nat_lt group (2 ^ n)

-- adding it: refusal 4 with n, then as above
abbrev pub group_answer : List Bool → Bool → ℕ → ℕ → Result (Unit {0}) Fault
group_answer bs ok group n = if lawful_group group n then push_answer bs ok else Err (Group n)

abbrev pub group_list : List Bool → Bool → ℕ → ℕ → List Bool
group_list bs ok group n = if lawful_group group n then push_list bs ok (low_bits n group) else bs

-- bits start to end - 1 of a source, none where start is at or above end
abbrev pub range_of : List Bool → ℕ → ℕ → List Bool
range_of src start end = slice_range src start end

-- adding them: refusal 2 with the end where it lies past the source, then as above
abbrev pub append_answer : List Bool → Bool → List Bool → ℕ → Result (Unit {0}) Fault
append_answer bs ok src end = if nat_lt (length src) end then Err (Past end) else push_answer bs ok

abbrev pub append_list : List Bool → Bool → List Bool → ℕ → ℕ → List Bool
append_list bs ok src start end = if nat_lt (length src) end then bs else push_list bs ok (range_of src start end)
