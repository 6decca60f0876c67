-- The limit of a column of options, and what it refuses.
use Rattle.std.specs.Prelude.{◌≡◌, ℕ, ◌≤◌, Bool, true, false, List, ◌++◌, length, is_ok, Ok, Err, Option, Result, refl}
use Rattle.std.proofs.Common.{ap, sym, ◌∙◌, arith, length-append}
use Rattle.std.proofs.lemmas.Bool.{and_parts}
use Rattle.std.specs.Result.{result_map_both}
use Rattle.refusals.specs.Faults.{number_of}
use Rattle.refusals.specs.declared.fault.Fault.TheVariants.{Full}
use Rattle.bitlaws.specs.Bits.{ones_among}
use Rattle.columns.proofs.Picked.{picked_append}
use Rattle.options.specs.declared.fault.OptionsFault.{OptionsFault}
use Rattle.options.specs.declared.fault.OptionsFault.TheVariants.{Own, Somes}
use Rattle.options.specs.Entries.{merge, somes}
use Rattle.options.specs.EntriesLemmas.{merge_length, somes_merge}
use Rattle.options.specs.Limits.{limited, asked}

-- marks and items within their limits are within that of the column
pub limited_held : {A : Type 0} (room : ℕ → Bool) (limit : List A → Bool) (bs : List Bool) (ss : List A) → length ss ≡ ones_among bs → room (length bs) ≡ true → limit ss ≡ true → limited room limit (merge bs ss) ≡ true
limited_held room limit bs ss many marks items =
    let a : room (length (merge bs ss)) ≡ true = ap room (merge_length bs ss many) ∙ marks in
    rw (a, somes_merge bs ss many, items)

module _ {A F : Type 0} (room : ℕ → Bool) (lim : List A → Bool) (ask : List A → List A → Result (Unit {0}) F) where
  pub limit_begins : ((m n : ℕ) → m ≤ n → room n ≡ true → room m ≡ true) → ((xs ys : List A) → lim (xs ++ ys) ≡ true → lim xs ≡ true) → (xs ys : List (Option A)) → limited room lim (xs ++ ys) ≡ true → limited room lim xs ≡ true
  limit_begins less begins xs ys e =
      let p = and_parts (room (length (xs ++ ys))) (lim (somes (xs ++ ys))) e in
      let a : room (length xs) ≡ true = less (length xs) (length (xs ++ ys)) (omega (arith, length-append xs ys)) p.0 in
      let b : lim (somes xs) ≡ true = begins (somes xs) (somes ys) (ap lim (sym (picked_append (λ x. x) xs ys)) ∙ p.1) in
      rw (a, b)

  ok_inside : (r : Result (Unit {0}) F) → is_ok (result_map_both (λ u. u) (λ f. Somes f) r) ≡ is_ok r
  ok_inside (Ok u) = refl
  ok_inside (Err f) = refl

  pub limit_asks : ((xs ys : List A) → is_ok (ask xs ys) ≡ lim ys) → (xs ys : List (Option A)) → is_ok (asked room ask xs ys) ≡ limited room lim ys
  limit_asks asks xs ys = go (room (length ys)) refl
    where
      go : (b : Bool) → room (length ys) ≡ b → is_ok (asked room ask xs ys) ≡ limited room lim ys
      go true e = rw e (ok_inside (ask (somes xs) (somes ys)) ∙ asks (somes xs) (somes ys))
      go false e = rw e

  pub limit_third : (number : F → ℕ) → ((xs ys : List A) (f : F) → ask xs ys ≡ Err f → number f ≡ 3) → (xs ys : List (Option A)) (f : OptionsFault F) → asked room ask xs ys ≡ Err f → elim f as (λ q. ℕ) [ Own g ↦ number_of g | Somes g ↦ number g ] ≡ 3
  limit_third number third xs ys f = go (room (length ys)) refl
    where
      inner : (r : Result (Unit {0}) F) → ask (somes xs) (somes ys) ≡ r → result_map_both (λ u. u) (λ g. Somes g) r ≡ Err f → elim f as (λ q. ℕ) [ Own g ↦ number_of g | Somes g ↦ number g ] ≡ 3
      inner (Ok u) e q = let z : ◌≡◌ {A = ℕ} 0 1 = cc in let v : ⊥ = omega arith in elim v [ ]
      inner (Err g) e q = let w : f ≡ Somes g = cc in rw w (third (somes xs) (somes ys) g e)

      go : (b : Bool) → room (length ys) ≡ b → asked room ask xs ys ≡ Err f → elim f as (λ q. ℕ) [ Own g ↦ number_of g | Somes g ↦ number g ] ≡ 3
      go true e q = inner (ask (somes xs) (somes ys)) refl (rw e at q)
      go false e q = let p = rw e at q in let w : f ≡ Own (Full (length xs)) = cc in rw w

  -- more entries than there is room for marks
  pub asked_over : (xs ys : List (Option A)) (m n : ℕ) → length xs ≡ m → length ys ≡ n → false ≡ room n → asked room ask xs ys ≡ Err (Own (Full m))
  asked_over xs ys m n p q e = let r : room (length ys) ≡ false = ap room q ∙ sym e in rw r (ap (λ k. Err (Own (Full k))) p)

  -- else the payload decides
  pub asked_within : (xs ys : List (Option A)) (n : ℕ) (ss ts : List A) → length ys ≡ n → true ≡ room n → somes xs ≡ ss → somes ys ≡ ts → asked room ask xs ys ≡ result_map_both (λ u. u) Somes (ask ss ts)
  asked_within xs ys n ss ts q e p t = let r : room (length ys) ≡ true = ap room q ∙ sym e in rw (r, p, t)
