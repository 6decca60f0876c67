-- The limit and the refusals of a column of options, from those of its parts: `room` says how many marks
-- there may be, `limit` and `ask` are the payload's.
use Rattle.std.specs.Prelude.{ℕ, Bool, if◌then◌else◌, ◌&&◌, List, length, Err, Option, Result}
use Rattle.std.specs.Result.{result_map_both}
use Rattle.refusals.specs.declared.fault.Fault.TheVariants.{Full}
use Rattle.options.specs.declared.fault.OptionsFault.{OptionsFault}
use Rattle.options.specs.declared.fault.OptionsFault.TheVariants.{Own, Somes}
use Rattle.options.specs.Entries.{somes}

-- the lists that it may hold
abbrev pub limited : {A : Type 0} → (ℕ → Bool) → (List A → Bool) → List (Option A) → Bool
limited room limit xs = room (length xs) && limit (somes xs)

-- making `new` of `old`: refusal 3 of the marks, with the length before; else what the payload says
abbrev pub asked : {A F : Type 0} → (ℕ → Bool) → (List A → List A → Result (Unit {0}) F) → List (Option A) → List (Option A) → Result (Unit {0}) (OptionsFault F)
asked room ask old new = if room (length new) then result_map_both (λ u. u) Somes (ask (somes old) (somes new)) else Err (Own (Full (length old)))
