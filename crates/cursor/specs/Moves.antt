-- The moves of a cursor, over the list of bits: each gives an answer, and the place and count after it.
use Rattle.std.specs.Prelude.{ℕ, ◌+◌, ◌*◌, ◌/◌, max, Bool, true, false, if◌then◌else◌, List, length, Some, None, Ok, Err, Option, Result, ◌==◌, nat_lt, slice_index_or}
use Rattle.refusals.specs.declared.fault.Fault.{Fault}
use Rattle.refusals.specs.declared.fault.Fault.TheVariants.{Length, Behind}
use Rattle.bitlaws.specs.Bits.{rank_of, select_of, first_from}
use Rattle.cursor.specs.declared.cursor.Cursor.{Cursor}

-- where a cursor is: its place and its count
abbrev pub Spot : Type 0
Spot = ℕ × ℕ

abbrev pub spot : Cursor → Spot
spot c = (c.place, c.count)

-- the first bit behind the last whole word
abbrev pub last_word : List Bool → ℕ
last_word bs = 64 * (length bs / 64)

-- next_one: to the place behind the first one at or after this place
abbrev pub after_one : List Bool → Spot → Option ℕ → Spot
after_one bs s (Some q) = (q + 1, s.1 + 1)
after_one bs s None = (max s.0 (last_word bs), s.1)

abbrev pub next_one : List Bool → Spot → Option ℕ × Spot
next_one bs s = (first_from bs s.0, after_one bs s (first_from bs s.0))

-- step: past one bit, which is counted
abbrev pub step : List Bool → Spot → Option Bool × Spot
step bs s = if nat_lt s.0 (length bs) then (Some (slice_index_or bs s.0 false), (s.0 + 1, s.1 + (if slice_index_or bs s.0 false then 1 else 0))) else (None, s)

-- seek_to_pos: to the place t, or to the end
abbrev pub to_pos : List Bool → ℕ → Spot → Bool × Spot
to_pos bs t s = if nat_lt t (length bs) then (true, (t, rank_of bs t)) else (false, (length bs, s.1))

-- seek_to_rank: to the place behind the one that t ones stand before, or to the end
abbrev pub behind_one : List Bool → ℕ → Option ℕ → Spot
behind_one bs t (Some q) = (q + 1, t + 1)
behind_one bs t None = (length bs, rank_of bs (last_word bs))

abbrev pub to_rank : List Bool → ℕ → Spot → Option ℕ × Spot
to_rank bs t s = (select_of bs t, behind_one bs t (select_of bs t))

-- a move is over a column of the cursor's length n: refusal 5 with the column's
abbrev pub meets : List Bool → ℕ → Result (Unit {0}) Fault
meets bs n = if length bs == n then Ok tt else Err (Length (length bs))

-- and a seek goes to no target t below `from`: then refusal 6 with t
abbrev pub ahead : List Bool → ℕ → ℕ → ℕ → Result (Unit {0}) Fault
ahead bs n t from = if length bs == n then (if nat_lt t from then Err (Behind t) else Ok tt) else Err (Length (length bs))

-- what a call answers and where it leaves the cursor, where the move would give a and lead to b
abbrev pub told : {A : Type 0} → Result (Unit {0}) Fault → A → Result A Fault
told (Ok _) a = Ok a
told (Err f) a = Err f

abbrev pub left : Result (Unit {0}) Fault → Spot → Spot → Spot
left (Ok _) b old = b
left (Err f) b old = old
