-- Item i of a list, or none.
use Rattle.std.proofs.Common.{◌≡◌, ℕ, zero, suc, ◌<◌, ◌≤◌, List, [], ◌∷◌, length, get_or, Ok, Err, refl, arith}
use Rattle.words.specs.Words.{got}

pub got_outside : {A F : Type 0} (f : F) (xs : List A) (i : ℕ) → length xs ≤ i → got f xs i ≡ Err f
got_outside f [] i h = refl
got_outside f (x ∷ xs) zero h = let z : ◌≡◌ {A = ℕ} 0 1 = omega arith in cc
got_outside f (x ∷ xs) (suc i) h = got_outside f xs i (omega arith)

pub got_inside : {A F : Type 0} (d : A) (f : F) (xs : List A) (i : ℕ) → i < length xs → got f xs i ≡ Ok (get_or xs i d)
got_inside d f [] i h = let z : ⊥ = omega arith in elim z [ ]
got_inside d f (x ∷ xs) zero h = refl
got_inside d f (x ∷ xs) (suc i) h = got_inside d f xs i (omega arith)

-- the item there, at any default
pub got_found : {A F : Type 0} (f : F) (xs : List A) (i : ℕ) → i < length xs → (x : A) × (got f xs i ≡ Ok x) × (get_or xs i x ≡ x)
got_found f [] i h = let z : ⊥ = omega arith in elim z [ ]
got_found f (x ∷ xs) zero h = (x, refl, refl)
got_found f (x ∷ xs) (suc i) h = got_found f xs i (omega arith)

-- an index within the list is not refused
pub got_there : {A F : Type 0} (f e : F) (xs : List A) (i : ℕ) → i < length xs → Err e ≡ got f xs i → ⊥
got_there f e [] i h q = omega arith
got_there f e (x ∷ xs) zero h q = let z : ◌≡◌ {A = ℕ} 0 1 = cc in omega arith
got_there f e (x ∷ xs) (suc i) h q = got_there f e xs i (omega arith) q

-- item i, once it is known, at any default
pub got_at : {A F : Type 0} (d x : A) (f : F) (xs : List A) (i : ℕ) → i < length xs → Ok x ≡ got f xs i → get_or xs i d ≡ x
got_at d x f xs i h e = let q = got_inside d f xs i h in cc
