-- Lists within a capacity.
use Rattle.std.proofs.Common.{◌≡◌, ℕ, ◌+◌, ◌-◌, ◌<◌, ◌≤◌, Bool, true, false, ltb, List, [], ◌∷◌, ◌++◌, length, is_ok, Ok, Err, sym, refl, ap, ◌∙◌, arith, length-append, ltb-false, ltb-true, le-leb, leb-true}
use borrow.Author.Tests.{lt-leb}
use Rattle.refusals.specs.Faults.{number_of}
use Rattle.refusals.specs.declared.fault.Fault.{Fault}
use Rattle.refusals.specs.declared.fault.Fault.TheVariants.{Full}
use Rattle.columns.specs.Plain.{part, within, within_answer, append_answer}
use Rattle.columns.proofs.Lists.{length_part}
use Rattle.columns.proofs.Appends.{answer_past, answer_in}

module _ {A : Type 0} (cap : ℕ) where
  pub within_begins : (xs ys : List A) → within cap (xs ++ ys) ≡ true → within cap xs ≡ true
  within_begins xs ys e = le-leb _ _ (omega (arith, leb-true _ _ e, length-append xs ys))

  pub within_asks : (xs ys : List A) → is_ok (within_answer cap xs ys) ≡ within cap ys
  within_asks xs ys = go (within cap ys) refl
    where
      go : (b : Bool) → within cap ys ≡ b → is_ok (within_answer cap xs ys) ≡ within cap ys
      go true e = rw e
      go false e = rw e

  pub within_third : (xs ys : List A) (f : Fault) → within_answer cap xs ys ≡ Err f → number_of f ≡ 3
  within_third xs ys f = go (within cap ys) refl
    where
      go : (b : Bool) → within cap ys ≡ b → within_answer cap xs ys ≡ Err f → number_of f ≡ 3
      go true e q = let p = rw e at q in let z : ◌≡◌ {A = ℕ} 0 1 = cc in let w : ⊥ = omega arith in elim w [ ]
      go false e q = let p = rw e at q in let w : f ≡ Full (length xs) = cc in rw w

  pub answer_over : (xs ys : List A) → cap < length ys → within_answer cap xs ys ≡ Err (Full (length xs))
  answer_over xs ys h = let q : within cap ys ≡ false = lt-leb _ _ h in rw q

  pub answer_fits : (xs ys : List A) → length ys ≤ cap → within_answer cap xs ys ≡ Ok tt
  answer_fits xs ys h = let q : within cap ys ≡ true = le-leb _ _ h in rw q

  pub one_more : (xs : List A) (x : A) → length (xs ++ (x ∷ [])) ≡ length xs + 1
  one_more xs x = omega (arith, length-append xs (x ∷ []))

  pub range_more : (xs src : List A) (s e : ℕ) → s ≤ e → e ≤ length src → length (xs ++ part src s e) ≡ length xs + (e - s)
  range_more xs src s e h k = omega (arith, length-append xs (part src s e), length_part src s e h k)

-- an append that was not refused
module _ {A : Type 0} (past : ℕ → Fault) (cap : ℕ) (xs src : List A) (s e : ℕ) (some : s < e) (told : Ok tt ≡ append_answer past (within_answer cap) xs src s e) where
  pub granted_inside : e ≤ length src
  granted_inside = go (ltb (length src) e) refl
    where
      go : (b : Bool) → ltb (length src) e ≡ b → e ≤ length src
      go true q = let p = answer_past past (within_answer cap) (within cap) xs src s e some (ltb-true _ _ q) in let z : ◌≡◌ {A = ℕ} 0 1 = cc in omega arith
      go false q = ltb-false _ _ q

  pub granted_room : length xs + (e - s) ≤ cap
  granted_room =
      let p : is_ok (within_answer cap xs (xs ++ part src s e)) ≡ true = ap is_ok (sym (told ∙ answer_in past (within_answer cap) (within cap) xs src s e some granted_inside)) in
      let q : within cap (xs ++ part src s e) ≡ true = sym (within_asks cap xs (xs ++ part src s e)) ∙ p in
      omega (arith, leb-true _ _ q, range_more cap xs src s e (omega arith) granted_inside)
