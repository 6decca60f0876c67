-- What the calls of a column answer, over the plain list of items that the column means.
use Rattle.std.specs.Prelude.{ℕ, ◌-◌, Bool, true, false, if◌then◌else◌, List, ◌++◌, map, length, take, drop, Ok, Err, Option, Result, nat_le, nat_lt}
use Rattle.refusals.specs.declared.fault.Fault.{Fault}
use Rattle.refusals.specs.declared.fault.Fault.TheVariants.{Full}
use Rattle.bitlaws.specs.Bits.{rank_of, select_of}

-- the list after a call that would make `new` of `old`: `new` where the limit allows it
abbrev pub grown : {A : Type 0} → Bool → List A → List A → List A
grown true old new = new
grown false old new = old

-- items start to end - 1
abbrev pub part : {A : Type 0} → List A → ℕ → ℕ → List A
part xs start end = take (end - start) (drop start xs)

-- adding items start to end - 1 of `src` to xs: nothing where start is at or above end; else refusal 2 where
-- the end lies past the source, and then what `ask` says of the longer list
abbrev pub append_answer : {A F : Type 0} → (ℕ → F) → (List A → List A → Result (Unit {0}) F) → List A → List A → ℕ → ℕ → Result (Unit {0}) F
append_answer past ask xs src start end =
    if nat_le end start then Ok tt else if nat_lt (length src) end then Err (past end) else ask xs (xs ++ part src start end)

-- the list after it
abbrev pub append_list : {A : Type 0} → (List A → Bool) → List A → List A → ℕ → ℕ → List A
append_list limit xs src start end =
    if nat_le end start then xs else if nat_lt (length src) end then xs else grown (limit (xs ++ part src start end)) xs (xs ++ part src start end)

-- the lists within a capacity
abbrev pub within : {A : Type 0} → ℕ → List A → Bool
within cap xs = nat_le (length xs) cap

-- making `new` of `old` under it: refusal 3 with the length before
abbrev pub within_answer : {A : Type 0} → ℕ → List A → List A → Result (Unit {0}) Fault
within_answer cap old new = if within cap new then Ok tt else Err (Full (length old))

-- the items that `one` holds of, marked by a one in a list of bits
abbrev pub marks : {A : Type 0} → (A → Bool) → List A → List Bool
marks one xs = map one xs

-- how many marked items stand below i, or refusal 1
abbrev pub rank_answer : {A F : Type 0} → (ℕ → F) → (A → Bool) → List A → ℕ → Result ℕ F
rank_answer outside one xs i = if nat_le i (length xs) then Ok (rank_of (marks one xs) i) else Err (outside i)

-- the place of the marked item that r marked ones stand before, or none
abbrev pub select_answer : {A : Type 0} → (A → Bool) → List A → ℕ → Option ℕ
select_answer one xs r = select_of (marks one xs) r
