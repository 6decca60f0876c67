-- Lists of units, and what is added to them.
use Rattle.std.specs.Prelude.{◌≡◌, ℕ, ◌+◌, ◌-◌, ◌<◌, ◌≤◌, min, true, List, [], ◌∷◌, ◌++◌, length, is_ok, Ok, refl}
use Rattle.std.proofs.Common.{ap, sym, ◌∙◌, arith, leb-true}
use Rattle.std.proofs.lemmas.List.{length-replicate}
use Rattle.refusals.specs.declared.fault.Fault.TheVariants.{Past}
use Rattle.words.specs.Words.{got}
use Rattle.words.proofs.Got.{got_inside}
use Rattle.columns.specs.Kinds.{Each, most_items}
use Rattle.columns.specs.Plain.{part, grown, within, within_answer, append_answer, append_list}
use Rattle.columns.proofs.Appends.{list_told}
use Rattle.columns.proofs.Within.{one_more, range_more, within_asks, granted_inside, granted_room}
use Rattle.empties.specs.Counts.{units}

pub units_length : (n : ℕ) → length (units n) ≡ n
units_length n = length-replicate n tt

pub unit_at : {F : Type 0} (f : F) (n i : ℕ) → i < n → got f (units n) i ≡ Ok tt
unit_at f n i h = got_inside tt f (units n) i (omega (arith, units_length n))

pub units_same : (xs ys : List (Unit {0})) → length xs ≡ length ys → xs ≡ ys
units_same [] [] e = refl
units_same [] (y ∷ ys) e = let z : ⊥ = omega arith in elim z [ ]
units_same (x ∷ xs) [] e = let z : ⊥ = omega arith in elim z [ ]
units_same (x ∷ xs) (y ∷ ys) e = ap (λ l. tt ∷ l) (units_same xs ys (omega arith))

pub each_unit : (xs : List (Unit {0})) → Each (λ x. Unit {0}) xs
each_unit [] = tt
each_unit (x ∷ xs) = (tt, each_unit xs)

-- one unit more, and a range of units more
pub units_more : (n : ℕ) (x : Unit {0}) → length (units n ++ (x ∷ [])) ≡ n + 1
units_more n x = omega (arith, one_more 0 (units n) x, units_length n)

pub units_range : (n m s e : ℕ) → s ≤ e → e ≤ m → length (units n ++ part (units m) s e) ≡ n + (e - s)
units_range n m s e h k = omega (arith, range_more 0 (units n) (units m) s e h (omega (arith, units_length m)), units_length n)

-- a push that was not refused: its room, and the list after it
module _ (n : ℕ) (x : Unit {0}) (told : Ok tt ≡ within_answer most_items (units n) (units n ++ (x ∷ []))) where
  within_one : within most_items (units n ++ (x ∷ [])) ≡ true
  within_one = sym (within_asks most_items (units n) (units n ++ (x ∷ []))) ∙ ap is_ok (sym told)

  pub push_room : n + 1 ≤ most_items
  push_room = omega (arith, leb-true _ _ within_one, units_more n x)

  pub push_list : units (n + 1) ≡ grown (within most_items (units n ++ (x ∷ []))) (units n) (units n ++ (x ∷ []))
  push_list = rw within_one (units_same _ _ (units_length (n + 1) ∙ sym (units_more n x)))

  -- the same of the number that is cut
  pub push_cut : units (min (n + 1) most_items) ≡ grown (within most_items (units n ++ (x ∷ []))) (units n) (units n ++ (x ∷ []))
  push_cut = let q : min (n + 1) most_items ≡ n + 1 = omega (arith, push_room) in ap units q ∙ push_list

-- an append that was not refused
module _ (n m s e : ℕ) (some : s < e) (told : Ok tt ≡ append_answer Past (within_answer most_items) (units n) (units m) s e) where
  pub append_room : n + (e - s) ≤ most_items
  append_room = omega (arith, units_length n, granted_room Past most_items (units n) (units m) s e some told)

  longer : units (n + (e - s)) ≡ units n ++ part (units m) s e
  longer =
      let k = granted_inside Past most_items (units n) (units m) s e some told in
      units_same _ _ (units_length (n + (e - s)) ∙ sym (units_range n m s e (omega arith) (omega (arith, k, units_length m))))

  pub append_longer : units (n + (e - s)) ≡ append_list (within most_items) (units n) (units m) s e
  append_longer =
      longer ∙ sym (list_told Past (within_answer most_items) (within most_items) (units n) (units m) s e (within_asks most_items (units n))
      ∙ ap (λ r. grown (is_ok r) (units n) (units n ++ part (units m) s e)) (sym told))

  -- the same of the number that is cut
  pub append_cut : units (min (n + (e - s)) most_items) ≡ append_list (within most_items) (units n) (units m) s e
  append_cut = let q : min (n + (e - s)) most_items ≡ n + (e - s) = omega (arith, append_room) in ap units q ∙ append_longer
