-- A list of options: its marks say which entries are Some, its somes what those hold.
use Rattle.std.specs.Prelude.{Bool, true, false, List, [], ◌∷◌, is_some, Some, None, Option}
use Rattle.columns.specs.Plain.{marks}
use Rattle.columns.specs.Variants.{picked}

-- which entries are Some
abbrev pub some_marks : {A : Type 0} → List (Option A) → List Bool
some_marks xs = marks is_some xs

-- what the Some entries hold, in order
abbrev pub somes : {A : Type 0} → List (Option A) → List A
somes xs = picked (λ x. x) xs

-- the entries of marks and of what the marked ones hold; it ends where an item is missing, as none is in a
-- sound column
abbrev pub merge : {A : Type 0} → List Bool → List A → List (Option A)
merge [] ss = []
merge (false ∷ bs) ss = None ∷ merge bs ss
merge (true ∷ bs) [] = []
merge (true ∷ bs) (s ∷ ss) = Some s ∷ merge bs ss

-- an option fits its type where what it holds does
abbrev pub Fits : {A : Type 0} → (A → Type 0) → Option A → Type 0
Fits P None = Unit {0}
Fits P (Some x) = P x
