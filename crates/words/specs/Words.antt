-- What the calls of a store answer, over the list of items that the store means.
use Rattle.std.specs.Prelude.{ℕ, zero, suc, min, List, [], ◌∷◌, ◌++◌, length, take, Ok, Err, Result, nat_lt, if◌then◌else◌}
use Rattle.refusals.specs.declared.fault.Fault.{Fault}
use Rattle.refusals.specs.declared.fault.Fault.TheVariants.{Outside, Full}

-- the most items that a growing store may have
abbrev pub most : ℕ
most = 67108863

-- item i, or the fault f where i lies outside
abbrev pub got : {A F : Type 0} → F → List A → ℕ → Result A F
got f [] i = Err f
got f (x ∷ xs) zero = Ok x
got f (x ∷ xs) (suc i) = got f xs i

-- item i of the list, or refusal 1 with i
abbrev pub item_answer : {A : Type 0} → List A → ℕ → Result A Fault
item_answer xs i = got (Outside i) xs i

-- putting an item at the end of xs, under the capacity cap: refusal 3 with the length where it is full
abbrev pub put_answer : {A : Type 0} → List A → ℕ → Result (Unit {0}) Fault
put_answer xs cap = if nat_lt (length xs) cap then Ok tt else Err (Full (length xs))

-- the list after it
abbrev pub put_list : {A : Type 0} → List A → ℕ → A → List A
put_list xs cap x = if nat_lt (length xs) cap then xs ++ (x ∷ []) else xs

-- the capacity of a buffer of n items, and the first items of it that are in use
abbrev pub buffer_room : ℕ → ℕ
buffer_room n = min most n

abbrev pub buffer_list : {A : Type 0} → List A → ℕ → List A
buffer_list xs used = take (min used (buffer_room (length xs))) xs

-- the words of a table of 64 places that are in use
abbrev pub table_list : List ℕ → ℕ → List ℕ
table_list ws used = take (min used 64) ws
