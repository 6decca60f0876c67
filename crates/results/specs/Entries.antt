-- A list of results: its marks say which entries are Ok, its oks and errs what the entries hold.
use Rattle.std.specs.Prelude.{Bool, true, false, List, [], ◌∷◌, is_ok, Some, None, Ok, Err, Option, Result}
use Rattle.columns.specs.Plain.{marks}
use Rattle.columns.specs.Variants.{picked}

-- which entries are Ok
abbrev pub ok_marks : {A B : Type 0} → List (Result A B) → List Bool
ok_marks xs = marks is_ok xs

-- what an entry holds, if it is Ok; if it is Err
abbrev pub ok_of : {A B : Type 0} → Result A B → Option A
ok_of (Ok x) = Some x
ok_of (Err y) = None

abbrev pub err_of : {A B : Type 0} → Result A B → Option B
err_of (Ok x) = None
err_of (Err y) = Some y

-- what the Ok entries hold, in order, and what the Err entries do
abbrev pub oks : {A B : Type 0} → List (Result A B) → List A
oks xs = picked ok_of xs

abbrev pub errs : {A B : Type 0} → List (Result A B) → List B
errs xs = picked err_of xs

-- the entries of marks and of what the two variants hold; it ends where an item is missing, as none is in a
-- sound column
abbrev pub merge : {A B : Type 0} → List Bool → List A → List B → List (Result A B)
merge [] os es = []
merge (true ∷ bs) [] es = []
merge (true ∷ bs) (o ∷ os) es = Ok o ∷ merge bs os es
merge (false ∷ bs) os [] = []
merge (false ∷ bs) os (e ∷ es) = Err e ∷ merge bs os es

-- a result fits its type where what it holds does
abbrev pub Fits : {A B : Type 0} → (A → Type 0) → (B → Type 0) → Result A B → Type 0
Fits P Q (Ok x) = P x
Fits P Q (Err y) = Q y
