-- What an append answers and leaves, case by case.
use Rattle.std.proofs.Common.{◌≡◌, ℕ, ◌<◌, ◌≤◌, Bool, true, false, ltb, leb, List, ◌++◌, length, is_ok, Ok, Err, Result, sym, refl, ap, ◌∙◌, subst, append-nil, le-ltb, lt-ltb, leb-true, arith}
use Rattle.std.specs.Result.{OnErr, result_map_both}
use borrow.Author.Tests.{lt-leb}
use Rattle.columns.specs.Plain.{grown, part, append_answer, append_list}
use Rattle.columns.proofs.Lists.{part_none}

pub ok_answer : {F : Type 0} (r : Result (Unit {0}) F) → is_ok r ≡ true → r ≡ Ok tt
ok_answer (Ok u) e = refl
ok_answer (Err f) e = let z : false ≡ true = e in cc

-- a call whose fault was given its side, seen from the answer with the side
pub inner_ok : {X F G : Type 0} (side : F → G) (x : X) (r : Result X F) → ◌≡◌ {A = Result X G} (Ok x) (result_map_both (λ u. u) side r) → r ≡ Ok x
inner_ok side x (Ok y) e = let w : x ≡ y = cc in ap Ok (sym w)
inner_ok side x (Err f) e = let w : ◌≡◌ {A = ℕ} 0 1 = cc in let v : ⊥ = omega arith in elim v [ ]

pub inner_err : {X F G P : Type 0} (side : F → G) (h : G) (r : Result X F) → Err h ≡ result_map_both (λ u. u) side r → OnErr r P → P
inner_err side h (Ok y) e p = let w : ◌≡◌ {A = ℕ} 0 1 = cc in let v : ⊥ = omega arith in elim v [ ]
inner_err side h (Err f) e p = p

-- a refusal that was given its side, by what it is without
pub sided : {X F G : Type 0} (side : F → G) (h : G) (r s : Result X F) (t : Result X G) → r ≡ s → ((f : F) → Err f ≡ s → Err (side f) ≡ t) → Err h ≡ result_map_both (λ u. u) side r → Err h ≡ t
sided side h (Ok x) s t q k e = let w : ◌≡◌ {A = ℕ} 0 1 = cc in let v : ⊥ = omega arith in elim v [ ]
sided side h (Err f) s t q k e = e ∙ k f q

-- what holds whichever way a call went holds where it was refused
pub on_refusal : {T F P : Type 0} (r : Result T F) → P → OnErr r P
on_refusal (Ok u) p = tt
on_refusal (Err f) p = p

-- a refusal that leaves a part as it was leaves the whole as it was, with what holds of the part
pub refused_inside : {T F A B : Type 0} (P : A → Type 0) (make : (a : A) → P a → B) → ((a : A) → IsProp (P a)) → (r : Result T F) (a b : A) (p : P a) (q : P b) → OnErr r (a ≡ b) → OnErr r (make a p ≡ make b q)
refused_inside P make alone (Ok u) a b p q h = tt
refused_inside P make alone (Err e) a b p q h = subst (λ x. (q : P x) → make a p ≡ make x q) h (λ q. ap (make a) (alone a p q)) q

-- the list after a call, by its answer
pub grown_by : {A F : Type 0} (lim : List A → Bool) (ask : List A → List A → Result (Unit {0}) F) (xs ys : List A) (r : Result (Unit {0}) F) → is_ok (ask xs ys) ≡ lim ys → r ≡ ask xs ys → grown (is_ok r) xs ys ≡ grown (lim ys) xs ys
grown_by lim ask xs ys r law e = ap (λ b. grown b xs ys) (ap is_ok e ∙ law)

pub nothing_more : {A : Type 0} (xs src : List A) (s e : ℕ) → e ≤ s → xs ++ part src s e ≡ xs
nothing_more xs src s e h = ap (λ l. xs ++ l) (part_none src s e h) ∙ append-nil xs

module _ {A F : Type 0} (past : ℕ → F) (ask : List A → List A → Result (Unit {0}) F) (lim : List A → Bool) (xs src : List A) (s e : ℕ) where
  pub answer_past : s < e → length src < e → append_answer past ask xs src s e ≡ Err (past e)
  answer_past h k = let p : leb e s ≡ false = lt-leb _ _ h in let q : ltb (length src) e ≡ true = lt-ltb _ _ k in rw (p, q)

  pub answer_in : s < e → e ≤ length src → append_answer past ask xs src s e ≡ ask xs (xs ++ part src s e)
  answer_in h k = let p : leb e s ≡ false = lt-leb _ _ h in let q : ltb (length src) e ≡ false = le-ltb _ _ k in rw (p, q)

  module _ (asks : (ys : List A) → is_ok (ask xs ys) ≡ lim ys) where
    -- the list after an append is the longer one exactly where the append was not refused
    pub list_told : append_list lim xs src s e ≡ grown (is_ok (append_answer past ask xs src s e)) xs (xs ++ part src s e)
    list_told = go (leb e s) (ltb (length src) e) refl refl
      where
        go : (a b : Bool) → leb e s ≡ a → ltb (length src) e ≡ b → append_list lim xs src s e ≡ grown (is_ok (append_answer past ask xs src s e)) xs (xs ++ part src s e)
        go true b p q = rw p (sym (nothing_more xs src s e (leb-true _ _ p)))
        go false true p q = rw (p, q)
        go false false p q = rw (p, q) (ap (λ t. grown t xs (xs ++ part src s e)) (sym (asks (xs ++ part src s e))))

    -- a range within its source, of a list within the limit, is asked for as it is, empty or not
    pub answer_within : s ≤ e → e ≤ length src → lim xs ≡ true → append_answer past ask xs src s e ≡ ask xs (xs ++ part src s e)
    answer_within h k held = go (leb e s) refl
      where
        go : (b : Bool) → leb e s ≡ b → append_answer past ask xs src s e ≡ ask xs (xs ++ part src s e)
        go true p = rw p (sym (ok_answer _ (asks (xs ++ part src s e) ∙ ap lim (nothing_more xs src s e (leb-true _ _ p)) ∙ held)))
        go false p = let q : ltb (length src) e ≡ false = le-ltb _ _ k in rw (p, q)
