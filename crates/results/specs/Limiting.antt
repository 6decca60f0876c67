-- The limit of a column of results, and what it refuses.
use Rattle.std.specs.Prelude.{◌≡◌, ℕ, ◌+◌, ◌<◌, ◌≤◌, Bool, true, false, ◌&&◌, List, ◌++◌, length, is_ok, Ok, Err, Result, ◌≢◌, refl}
use Rattle.std.proofs.Common.{ap, sym, ◌∙◌, arith, length-append}
use Rattle.std.proofs.lemmas.Bool.{and_parts}
use Rattle.std.specs.Result.{result_map_both}
use Rattle.refusals.specs.Faults.{number_of}
use Rattle.refusals.specs.declared.fault.Fault.TheVariants.{Full}
use Rattle.bitlaws.specs.Bits.{ones_among}
use Rattle.words.specs.Words.{got}
use Rattle.words.proofs.Got.{got_there}
use Rattle.columns.proofs.Picked.{picked_append}
use Rattle.results.specs.declared.fault.ResultsFault.{ResultsFault}
use Rattle.results.specs.declared.fault.ResultsFault.TheVariants.{Own, Oks, Errs}
use Rattle.results.specs.Entries.{ok_of, err_of, oks, errs, merge}
use Rattle.results.specs.EntriesLemmas.{merge_length, oks_merge, errs_merge}
use Rattle.results.specs.Limits.{limited, both, asked}

no_way : {A : Type 0} → ⊥ → A
no_way z = elim z [ ]

-- the number of a fault, by those of its parts
abbrev pub numbers : {F G : Type 0} → (F → ℕ) → (G → ℕ) → ResultsFault F G → ℕ
numbers m n (Own h) = number_of h
numbers m n (Oks h) = m h
numbers m n (Errs h) = n h

-- marks and items within their limits are within that of the column
pub limited_held : {A B : Type 0} (room : ℕ → Bool) (okay : List A → Bool) (erring : List B → Bool) (bs : List Bool) (os : List A) (es : List B) → length os ≡ ones_among bs → ones_among bs + length es ≡ length bs → room (length bs) ≡ true → okay os ≡ true → erring es ≡ true → limited room okay erring (merge bs os es) ≡ true
limited_held room okay erring bs os es ones zeros marks oks errs =
    let a : room (length (merge bs os es)) ≡ true = ap room (merge_length bs os es ones zeros) ∙ marks in
    rw (a, oks_merge bs os es ones zeros, errs_merge bs os es ones zeros, oks, errs)

module _ {A B F G : Type 0} (room : ℕ → Bool) (lo : List A → Bool) (le : List B → Bool) (ao : List A → List A → Result (Unit {0}) F) (ae : List B → List B → Result (Unit {0}) G) where
  pub limit_begins : ((m n : ℕ) → m ≤ n → room n ≡ true → room m ≡ true) → ((xs ys : List A) → lo (xs ++ ys) ≡ true → lo xs ≡ true) → ((xs ys : List B) → le (xs ++ ys) ≡ true → le xs ≡ true) → (xs ys : List (Result A B)) → limited room lo le (xs ++ ys) ≡ true → limited room lo le xs ≡ true
  limit_begins less begin-oks begin-errs xs ys e =
      let p = and_parts (room (length (xs ++ ys))) (lo (oks (xs ++ ys)) && le (errs (xs ++ ys))) e in
      let q = and_parts (lo (oks (xs ++ ys))) (le (errs (xs ++ ys))) p.1 in
      let a : room (length xs) ≡ true = less (length xs) (length (xs ++ ys)) (omega (arith, length-append xs ys)) p.0 in
      let b : lo (oks xs) ≡ true = begin-oks (oks xs) (oks ys) (ap lo (sym (picked_append ok_of xs ys)) ∙ q.0) in
      let c : le (errs xs) ≡ true = begin-errs (errs xs) (errs ys) (ap le (sym (picked_append err_of xs ys)) ∙ q.1) in
      rw (a, b, c)

  ok_both : (r : Result (Unit {0}) F) (q : Result (Unit {0}) G) → is_ok (both r q) ≡ is_ok r && is_ok q
  ok_both (Ok u) (Ok v) = refl
  ok_both (Ok u) (Err g) = refl
  ok_both (Err f) q = refl

  pub limit_asks : ((xs ys : List A) → is_ok (ao xs ys) ≡ lo ys) → ((xs ys : List B) → is_ok (ae xs ys) ≡ le ys) → (xs ys : List (Result A B)) → is_ok (asked room ao ae xs ys) ≡ limited room lo le ys
  limit_asks ask-oks ask-errs xs ys = go (room (length ys)) refl
    where
      go : (b : Bool) → room (length ys) ≡ b → is_ok (asked room ao ae xs ys) ≡ limited room lo le ys
      go true e = rw e (ok_both (ao (oks xs) (oks ys)) (ae (errs xs) (errs ys)) ∙ ap (λ t. t && is_ok (ae (errs xs) (errs ys))) (ask-oks (oks xs) (oks ys)) ∙ ap (λ t. lo (oks ys) && t) (ask-errs (errs xs) (errs ys)))
      go false e = rw e

  pub limit_third : (m : F → ℕ) (n : G → ℕ) → ((xs ys : List A) (f : F) → ao xs ys ≡ Err f → m f ≡ 3) → ((xs ys : List B) (f : G) → ae xs ys ≡ Err f → n f ≡ 3) → (xs ys : List (Result A B)) (f : ResultsFault F G) → asked room ao ae xs ys ≡ Err f → numbers m n f ≡ 3
  limit_third m n third-oks third-errs xs ys f = go (room (length ys)) refl
    where
      inner : (r : Result (Unit {0}) F) (q : Result (Unit {0}) G) → ao (oks xs) (oks ys) ≡ r → ae (errs xs) (errs ys) ≡ q → both r q ≡ Err f → numbers m n f ≡ 3
      inner (Ok u) (Ok v) d e z = let w : ◌≡◌ {A = ℕ} 0 1 = cc in no_way (omega arith)
      inner (Ok u) (Err g) d e z = let w : f ≡ Errs g = cc in rw w (third-errs (errs xs) (errs ys) g e)
      inner (Err g) q d e z = let w : f ≡ Oks g = cc in rw w (third-oks (oks xs) (oks ys) g d)

      go : (b : Bool) → room (length ys) ≡ b → asked room ao ae xs ys ≡ Err f → numbers m n f ≡ 3
      go true e q = inner (ao (oks xs) (oks ys)) (ae (errs xs) (errs ys)) refl refl (rw e at q)
      go false e q = let p = rw e at q in let w : f ≡ Own (Full (length xs)) = cc in rw w

  -- more entries than there is room for marks
  pub asked_over : (xs ys : List (Result A B)) (m n : ℕ) → length xs ≡ m → length ys ≡ n → false ≡ room n → asked room ao ae xs ys ≡ Err (Own (Full m))
  asked_over xs ys m n p q e = let r : room (length ys) ≡ false = ap room q ∙ sym e in rw r (ap (λ k. Err (Own (Full k))) p)

  -- else the payloads decide
  pub asked_within : (xs ys : List (Result A B)) (n : ℕ) (os ot : List A) (es et : List B) → length ys ≡ n → true ≡ room n → oks xs ≡ os → oks ys ≡ ot → errs xs ≡ es → errs ys ≡ et → asked room ao ae xs ys ≡ both (ao os ot) (ae es et)
  asked_within xs ys n os ot es et q e a b c d = let r : room (length ys) ≡ true = ap room q ∙ sym e in rw (r, a, b, c, d)

-- an item that is there is not refused
pub ok_there : {X F G : Type 0} (h : ResultsFault F G) (f : F) (xs : List X) (n : ℕ) (r : Result X F) → r ≡ got f xs n → n < length xs → Err h ≢ result_map_both (λ u. u) Oks r
ok_there h f xs n (Ok y) e l p = let w : ◌≡◌ {A = ℕ} 0 1 = cc in omega arith
ok_there h f xs n (Err g) e l p = got_there f g xs n l e

pub err_there : {X F G : Type 0} (h : ResultsFault F G) (f : G) (xs : List X) (n : ℕ) (r : Result X G) → r ≡ got f xs n → n < length xs → Err h ≢ result_map_both (λ u. u) Errs r
err_there h f xs n (Ok y) e l p = let w : ◌≡◌ {A = ℕ} 0 1 = cc in omega arith
err_there h f xs n (Err g) e l p = got_there f g xs n l e

pub limited_same : {A B : Type 0} {r s : ℕ → Bool} {k l : List A → Bool} {m n : List B → Bool} → r ≡ s → k ≡ l → m ≡ n → limited r k m ≡ limited s l n
limited_same {s = s} {k = k} {l = l} {m = m} p q t = ap (λ x. limited x k m) p ∙ ap (λ x. limited s x m) q ∙ ap (limited s l) t

pub asked_same : {A B F G : Type 0} {r s : ℕ → Bool} {k l : List A → List A → Result (Unit {0}) F} {m n : List B → List B → Result (Unit {0}) G} → r ≡ s → k ≡ l → m ≡ n → asked r k m ≡ asked s l n
asked_same {s = s} {k = k} {l = l} {m = m} p q t = ap (λ x. asked x k m) p ∙ ap (λ x. asked s x m) q ∙ ap (asked s l) t
