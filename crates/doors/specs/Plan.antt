-- What the text of a plan says of its doors.
use Rattle.std.specs.Prelude.{◌≡◌, ℕ, Bool, true, false, if◌then◌else◌, ◌||◌, List, [], ◌∷◌, ◌++◌, take, Ok, Err, Result, ◌==◌, slice_index}
use Rattle.doors.specs.declared.plan.Mark.{Mark}
use Rattle.doors.specs.declared.plan.Mark.TheVariants.{Door, Break}
use Rattle.doors.specs.declared.plan.Strange.{Strange}
use Rattle.doors.specs.declared.plan.Trouble.{Trouble}
use Rattle.doors.specs.declared.plan.Trouble.TheVariants as trouble

-- x is 120, - is 45, a line break 10 or 13
abbrev pub mark_of : ℕ → Result Mark Strange
mark_of b = if b == 120 then Ok (Door true) else if b == 45 then Ok (Door false) else if b == 10 || b == 13 then Ok Break else Err (record {})

-- the doors that one mark says
abbrev pub doors_of : Result Mark Strange → List Bool
doors_of (Ok (Door b)) = b ∷ []
doors_of (Ok Break) = []
doors_of (Err _) = []

unfoldable pub doors_in : List ℕ → List Bool
doors_in [] = []
doors_in (b ∷ bs) = doors_of (mark_of b) ++ doors_in bs

-- what a text does to the doors: all are added, or those before the byte that the trouble names
abbrev pub Noted : List ℕ → List Bool → Result (Unit {0}) Trouble → List Bool → Type 0
Noted text old (Ok _) new = new ≡ old ++ doors_in text
Noted text old (Err (trouble.Strange at)) new = (mark_of (slice_index text at) ≡ Err (record {})) × (new ≡ old ++ doors_in (take at text))
Noted text old (Err (trouble.Refused at fault)) new = new ≡ old ++ doors_in (take at text)
