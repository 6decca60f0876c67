-- What writing a list of slices answers, and what the words handed in then hold.
use Rattle.std.specs.Prelude.{ℕ, ◌+◌, min, if◌then◌else◌, List, ◌++◌, length, take, drop, is_ok, Ok, Err, Result, nat_lt}
use Rattle.refusals.specs.declared.fault.Fault.{Fault}
use Rattle.refusals.specs.declared.fault.Fault.TheVariants.{Slices, Room}
use Rattle.store.specs.Layout.{Slice, layout}
use Rattle.store.specs.Answers.{longest, most_slices}

-- xs with ws written at place n
abbrev pub put : ℕ → List ℕ → List ℕ → List ℕ
put n ws xs = take n xs ++ (ws ++ drop (n + length ws) xs)

-- the words that the slices take, where there are `room` words for them: refusal 10 of too many slices, then
-- 15, with the words needed, of more than there may be or than there are
abbrev pub write_answer : List Slice → ℕ → Result ℕ Fault
write_answer ss room =
    if nat_lt most_slices (length ss) then Err (Slices 4096 0)
    else if nat_lt (min room longest) (length (layout ss)) then Err (Room (length (layout ss)))
    else Ok (length (layout ss))

-- the same where there is room enough
abbrev pub size_answer : List Slice → Result ℕ Fault
size_answer ss = write_answer ss longest

-- the words handed in, after: the layout in front of the rest, where it was not refused
abbrev pub written : List Slice → List ℕ → List ℕ
written ss xs = if is_ok (write_answer ss (length xs)) then put 0 (layout ss) xs else xs
