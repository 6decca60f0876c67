-- Parts of plain lists, and what holds of each item.
use Rattle.std.proofs.Common.{◌≡◌, ℕ, zero, suc, ◌+◌, ◌-◌, ◌<◌, ◌≤◌, List, [], ◌∷◌, ◌++◌, length, get_or, take, drop, Ok, sym, ap, ◌∙◌, append_assoc, arith, length-drop, length-take, get_or-drop, take-add}
use Rattle.std.proofs.lemmas.List.{take_more}
use Rattle.std.specs.Coded.{×_prop, Unit-prop}
use Rattle.words.specs.Words.{got}
use Rattle.words.proofs.Got.{got_at}
use Rattle.columns.specs.Plain.{part}
use Rattle.columns.specs.Kinds.{Each}

pub length_part : {A : Type 0} (xs : List A) (s e : ℕ) → s ≤ e → e ≤ length xs → length (part xs s e) ≡ e - s
length_part xs s e h k = simp (length-take, length-drop) (omega arith)

pub part_none : {A : Type 0} (xs : List A) (s e : ℕ) → e ≤ s → part xs s e ≡ []
part_none xs s e h = let z : e - s ≡ 0 = omega arith in ap (λ n. take n (drop s xs)) z

part_more : {A F : Type 0} (x : A) (f : F) (xs : List A) (s k : ℕ) → s ≤ k → k < length xs → Ok x ≡ got f xs k → part xs s (k + 1) ≡ part xs s k ++ (x ∷ [])
part_more x f xs s k h q e =
    let n : k + 1 - s ≡ (k - s) + 1 = omega arith in
    let m : s + (k - s) ≡ k = omega arith in
    let w : k - s < length (drop s xs) = omega (arith, length-drop s xs) in
    ap (λ n. take n (drop s xs)) n ∙ take_more (drop s xs) (k - s) x w
    ∙ ap (λ y. part xs s k ++ (y ∷ [])) (get_or-drop s xs (k - s) x ∙ ap (λ n. get_or xs n x) m ∙ got_at x x f xs k q e)

-- an item more behind a part that was added
pub part_added : {A F : Type 0} (x : A) (f : F) (xs ys zs src : List A) (s k : ℕ) → s ≤ k → k < length src → Ok x ≡ got f src k → ys ≡ xs ++ part src s k → zs ≡ ys ++ (x ∷ []) → zs ≡ xs ++ part src s (k + 1)
part_added x f xs ys zs src s k h q e p n =
    n ∙ ap (λ l. l ++ (x ∷ [])) p ∙ append_assoc xs (part src s k) (x ∷ []) ∙ ap (λ l. xs ++ l) (sym (part_more x f src s k h q e))

pub take_range : {A : Type 0} (xs : List A) (s e : ℕ) → s ≤ e → take e xs ≡ take s xs ++ part xs s e
take_range xs s e h = let q : e ≡ s + (e - s) = omega arith in ap (λ n. take n xs) q ∙ take-add s (e - s) xs

module _ {A : Type 0} (P : A → Type 0) where
  -- it is one fact where it is one of each item
  pub each_alone : ((x : A) → IsProp (P x)) → (xs : List A) → IsProp (Each P xs)
  each_alone h [] = Unit-prop
  each_alone h (x ∷ xs) = ×_prop (h x) (each_alone h xs)

  -- what follows of each item from what holds of it
  pub each_given : (Q : A → Type 0) → ((x : A) → P x → Q x) → (xs : List A) → Each P xs → Each Q xs
  each_given Q h [] e = tt
  each_given Q h (x ∷ xs) e = (h x e.0, each_given Q h xs e.1)

  pub each_take : (n : ℕ) (xs : List A) → Each P xs → Each P (take n xs)
  each_take zero xs h = tt
  each_take (suc n) [] h = tt
  each_take (suc n) (x ∷ xs) h = (h.0, each_take n xs h.1)

  pub each_drop : (n : ℕ) (xs : List A) → Each P xs → Each P (drop n xs)
  each_drop zero xs h = h
  each_drop (suc n) [] h = tt
  each_drop (suc n) (x ∷ xs) h = each_drop n xs h.1
