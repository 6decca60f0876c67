-- What the entries of one variant hold, along beginnings, rests and parts of a list of entries.
use Rattle.std.proofs.Common.{◌≡◌, ℕ, zero, suc, ◌+◌, ◌-◌, ◌≤◌, Bool, true, false, cond, not, List, [], ◌∷◌, ◌++◌, map, length, take, drop, is_some, Some, None, Ok, Option, sym, refl, ap, ◌∙◌, zero-add, one-add, arith}
use Rattle.std.proofs.lemmas.List.{take-map, drop-map, length-map, length-take-le}
use Rattle.bitlaws.specs.Bits.{rank_of, ones_among}
use Rattle.bitlaws.proofs.Words.{ones_among_append}
use Rattle.words.specs.Words.{got}
use Rattle.columns.specs.Plain.{part, marks}
use Rattle.columns.specs.Variants.{also, picked}
use Rattle.columns.proofs.Lists.{take_range}

module _ {E A : Type 0} (held : E → Option A) where
  pub picked_append : (xs ys : List E) → picked held (xs ++ ys) ≡ picked held xs ++ picked held ys
  picked_append [] ys = refl
  picked_append (x ∷ xs) ys = ap (also (held x)) (picked_append xs ys) ∙ go (held x)
    where
      go : (o : Option A) → also o (picked held xs ++ picked held ys) ≡ also o (picked held xs) ++ picked held ys
      go None = refl
      go (Some a) = refl

-- where `mark` says which entries hold something
module _ {E A : Type 0} (held : E → Option A) (mark : E → Bool) (tells : (e : E) → is_some (held e) ≡ mark e) where
  count : List E → ℕ
  count xs = ones_among (map mark xs)

  step : (o : Option A) (b : Bool) (n : ℕ) (l : List A) → is_some o ≡ b → length l ≡ n → length (also o l) ≡ cond b 1 0 + n
  step None true n l e h = let z : false ≡ true = e in let w : ◌≡◌ {A = ℕ} 0 1 = cc in omega arith
  step None false n l e h = omega arith
  step (Some a) true n l e h = omega arith
  step (Some a) false n l e h = let z : true ≡ false = e in let w : ◌≡◌ {A = ℕ} 0 1 = cc in omega arith

  pub picked_length : (xs : List E) → length (picked held xs) ≡ ones_among (marks mark xs)
  unfolding ones_among
  picked_length [] = refl
  picked_length (x ∷ xs) = step (held x) (mark x) (ones_among (marks mark xs)) (picked held xs) (tells x) (picked_length xs)

  take_step : (o : Option A) (b : Bool) (n : ℕ) (k l : List A) → is_some o ≡ b → k ≡ take n l → also o k ≡ take (cond b 1 0 + n) (also o l)
  take_step None true n k l e h = let z : false ≡ true = e in let w : ◌≡◌ {A = ℕ} 0 1 = cc in let v : ⊥ = omega arith in elim v [ ]
  take_step None false n k l e h = h ∙ ap (λ m. take m l) (sym (zero-add n))
  take_step (Some a) true n k l e h = ap (λ m. a ∷ m) h ∙ ap (λ m. take m (a ∷ l)) (sym (one-add n))
  take_step (Some a) false n k l e h = let z : true ≡ false = e in let w : ◌≡◌ {A = ℕ} 0 1 = cc in let v : ⊥ = omega arith in elim v [ ]

  pub picked_take : (n : ℕ) (xs : List E) → picked held (take n xs) ≡ take (rank_of (marks mark xs) n) (picked held xs)
  unfolding ones_among
  picked_take zero xs = refl
  picked_take (suc n) [] = refl
  picked_take (suc n) (x ∷ xs) = take_step (held x) (mark x) (rank_of (marks mark xs) n) (picked held (take n xs)) (picked held xs) (tells x) (picked_take n xs)

  drop_step : (o : Option A) (b : Bool) (n : ℕ) (k l : List A) → is_some o ≡ b → k ≡ drop n l → k ≡ drop (cond b 1 0 + n) (also o l)
  drop_step None true n k l e h = let z : false ≡ true = e in let w : ◌≡◌ {A = ℕ} 0 1 = cc in let v : ⊥ = omega arith in elim v [ ]
  drop_step None false n k l e h = h ∙ ap (λ m. drop m l) (sym (zero-add n))
  drop_step (Some a) true n k l e h = h ∙ ap (λ m. drop m (a ∷ l)) (sym (one-add n))
  drop_step (Some a) false n k l e h = let z : true ≡ false = e in let w : ◌≡◌ {A = ℕ} 0 1 = cc in let v : ⊥ = omega arith in elim v [ ]

  pub picked_drop : (n : ℕ) (xs : List E) → picked held (drop n xs) ≡ drop (rank_of (marks mark xs) n) (picked held xs)
  unfolding ones_among
  picked_drop zero xs = refl
  picked_drop (suc n) [] = refl
  picked_drop (suc n) (x ∷ xs) = drop_step (held x) (mark x) (rank_of (marks mark xs) n) (picked held (drop n xs)) (picked held xs) (tells x) (picked_drop n xs)

  -- the ones of a part
  pub rank_range : (xs : List E) (s e : ℕ) → s ≤ e → rank_of (marks mark xs) e ≡ rank_of (marks mark xs) s + ones_among (marks mark (part xs s e))
  rank_range xs s e h =
      ap ones_among (take_range (marks mark xs) s e h)
      ∙ ones_among_append (take s (marks mark xs)) (part (marks mark xs) s e)
      ∙ ap (λ l. rank_of (marks mark xs) s + ones_among l) (ap (take (e - s)) (drop-map mark s xs) ∙ take-map mark (e - s) (drop s xs))

  -- a part's items are a part of the items
  pub picked_part : (xs : List E) (s e : ℕ) → s ≤ e → picked held (part xs s e) ≡ part (picked held xs) (rank_of (marks mark xs) s) (rank_of (marks mark xs) e)
  picked_part xs s e h =
      let n : rank_of (marks mark (drop s xs)) (e - s) ≡ rank_of (marks mark xs) e - rank_of (marks mark xs) s =
      ap ones_among (take-map mark (e - s) (drop s xs)) ∙ omega (arith, rank_range xs s e h) in
      picked_take (e - s) (drop s xs)
      ∙ ap (take (rank_of (marks mark (drop s xs)) (e - s))) (picked_drop s xs)
      ∙ ap (λ m. take m (drop (rank_of (marks mark xs) s) (picked held xs))) n

  at_step : {F : Type 0} (f : F) (o : Option A) (b : Bool) (n : ℕ) (l : List A) (a : A) → is_some o ≡ b → got f l n ≡ Ok a → got f (also o l) (cond b 1 0 + n) ≡ Ok a
  at_step f None true n l a e h = let z : false ≡ true = e in let w : ◌≡◌ {A = ℕ} 0 1 = cc in let v : ⊥ = omega arith in elim v [ ]
  at_step f None false n l a e h = ap (got f l) (zero-add n) ∙ h
  at_step f (Some c) true n l a e h = ap (got f (c ∷ l)) (one-add n) ∙ h
  at_step f (Some c) false n l a e h = let z : true ≡ false = e in let w : ◌≡◌ {A = ℕ} 0 1 = cc in let v : ⊥ = omega arith in elim v [ ]

  -- what entry i holds stands at its rank
  pub picked_at : {F G : Type 0} (f : F) (g : G) (xs : List E) (i : ℕ) (x : E) (a : A) → got g xs i ≡ Ok x → held x ≡ Some a → got f (picked held xs) (rank_of (marks mark xs) i) ≡ Ok a
  unfolding ones_among
  picked_at f g [] i x a p q = let z : ◌≡◌ {A = ℕ} 0 1 = cc in let v : ⊥ = omega arith in elim v [ ]
  picked_at f g (y ∷ xs) zero x a p q = let r : held y ≡ Some a = ap held (cc) ∙ q in rw r
  picked_at f g (y ∷ xs) (suc i) x a p q = at_step f (held y) (mark y) (rank_of (marks mark xs) i) (picked held xs) a (tells y) (picked_at f g xs i x a p q)

-- the entries that are not marked, counted
ones_not : (bs : List Bool) → ones_among (map not bs) + ones_among bs ≡ length bs
unfolding ones_among
ones_not [] = refl
ones_not (true ∷ bs) = let h = ones_not bs in omega arith
ones_not (false ∷ bs) = let h = ones_not bs in omega arith

map_map : {A B C : Type 0} (f : A → B) (g : B → C) (xs : List A) → map g (map f xs) ≡ map (λ x. g (f x)) xs
map_map f g [] = refl
map_map f g (x ∷ xs) = ap (λ l. g (f x) ∷ l) (map_map f g xs)

pub rank_not : {E : Type 0} (mark : E → Bool) (xs : List E) (i : ℕ) → i ≤ length xs → rank_of (marks (λ e. not (mark e)) xs) i ≡ i - rank_of (marks mark xs) i
rank_not mark xs i h =
    let a : take i (marks (λ e. not (mark e)) xs) ≡ map not (take i (marks mark xs)) = ap (take i) (sym (map_map mark not xs)) ∙ take-map not i (marks mark xs) in
    let l : length (take i (marks mark xs)) ≡ i = length-take-le i (marks mark xs) (omega (arith, length-map xs mark)) in
    ap ones_among a ∙ omega (arith, ones_not (take i (marks mark xs)), l)
