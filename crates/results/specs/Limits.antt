-- The limit and the refusals of a column of results, from those of its parts: `room` says how many marks
-- there may be, the limits and the asks are the payloads'.
use Rattle.std.specs.Prelude.{ℕ, Bool, if◌then◌else◌, ◌&&◌, List, length, Err, Result}
use Rattle.std.specs.Result.{result_map_both}
use Rattle.refusals.specs.declared.fault.Fault.TheVariants.{Full}
use Rattle.columns.specs.Variants.{first_of}
use Rattle.results.specs.declared.fault.ResultsFault.{ResultsFault}
use Rattle.results.specs.declared.fault.ResultsFault.TheVariants.{Own, Oks, Errs}
use Rattle.results.specs.Entries.{oks, errs}

-- the lists that it may hold
abbrev pub limited : {A B : Type 0} → (ℕ → Bool) → (List A → Bool) → (List B → Bool) → List (Result A B) → Bool
limited room okay erring xs = room (length xs) && (okay (oks xs) && erring (errs xs))

-- what the two payloads say, Ok first
abbrev pub both : {F G : Type 0} → Result (Unit {0}) F → Result (Unit {0}) G → Result (Unit {0}) (ResultsFault F G)
both r q = first_of (result_map_both (λ u. u) Oks r) (result_map_both (λ u. u) Errs q)

-- making `new` of `old`: refusal 3 of the marks, with the length before; else what the payloads say
abbrev pub asked : {A B F G : Type 0} → (ℕ → Bool) → (List A → List A → Result (Unit {0}) F) → (List B → List B → Result (Unit {0}) G) → List (Result A B) → List (Result A B) → Result (Unit {0}) (ResultsFault F G)
asked room okay erring old new = if room (length new) then both (okay (oks old) (oks new)) (erring (errs old) (errs new)) else Err (Own (Full (length old)))
