-- Marks and items of a list of results, apart and together.
use Rattle.std.specs.Prelude.{◌≡◌, ℕ, ◌+◌, ◌-◌, ◌<◌, ◌≤◌, Bool, true, false, not, List, [], ◌∷◌, ◌++◌, length, get_or, take, drop, is_some, is_ok, Ok, Err, Result, slice_index_or, refl}
use Rattle.std.proofs.Common.{ap, sym, ◌∙◌, subst, arith}
use Rattle.std.proofs.lemmas.List.{map-append, length-map, take-map, drop-map, get_or-map}
use Rattle.bitlaws.specs.Bits.{ones_among, rank_of}
use Rattle.columns.specs.Kinds.{Each, Lawful}
use Rattle.words.specs.Words.{got}
use Rattle.words.proofs.Got.{got_found}
use Rattle.columns.specs.Plain.{part, marks}
use Rattle.columns.proofs.Picked.{picked_append, picked_length, picked_part, picked_at, rank_not}
use Rattle.results.specs.Entries.{ok_marks, ok_of, err_of, oks, errs, merge, Fits}

no_way : {A : Type 0} → ⊥ → A
no_way z = elim z [ ]

ok_tells : {A B : Type 0} (x : Result A B) → is_some (ok_of x) ≡ is_ok x
ok_tells (Ok a) = refl
ok_tells (Err b) = refl

err_tells : {A B : Type 0} (x : Result A B) → is_some (err_of x) ≡ not (is_ok x)
err_tells (Ok a) = refl
err_tells (Err b) = refl

-- no more ones than marks
ones_few : (bs : List Bool) → ones_among bs ≤ length bs
unfolding ones_among
ones_few [] = omega arith
ones_few (true ∷ bs) = let h = ones_few bs in omega arith
ones_few (false ∷ bs) = let h = ones_few bs in omega arith

pub marks_merge : {A B : Type 0} (bs : List Bool) (os : List A) (es : List B) → length os ≡ ones_among bs → ones_among bs + length es ≡ length bs → ok_marks (merge bs os es) ≡ bs
unfolding ones_among
marks_merge [] os es p q = refl
marks_merge (true ∷ bs) [] es p q = no_way (omega arith)
marks_merge (true ∷ bs) (o ∷ os) es p q = ap (λ l. true ∷ l) (marks_merge bs os es (omega arith) (omega arith))
marks_merge (false ∷ bs) os [] p q = no_way (omega (arith, ones_few bs))
marks_merge (false ∷ bs) os (e ∷ es) p q = ap (λ l. false ∷ l) (marks_merge bs os es (omega arith) (omega arith))

pub oks_merge : {A B : Type 0} (bs : List Bool) (os : List A) (es : List B) → length os ≡ ones_among bs → ones_among bs + length es ≡ length bs → oks (merge bs os es) ≡ os
unfolding ones_among
oks_merge [] [] es p q = refl
oks_merge [] (o ∷ os) es p q = no_way (omega arith)
oks_merge (true ∷ bs) [] es p q = no_way (omega arith)
oks_merge (true ∷ bs) (o ∷ os) es p q = ap (λ l. o ∷ l) (oks_merge bs os es (omega arith) (omega arith))
oks_merge (false ∷ bs) os [] p q = no_way (omega (arith, ones_few bs))
oks_merge (false ∷ bs) os (e ∷ es) p q = oks_merge bs os es (omega arith) (omega arith)

pub errs_merge : {A B : Type 0} (bs : List Bool) (os : List A) (es : List B) → length os ≡ ones_among bs → ones_among bs + length es ≡ length bs → errs (merge bs os es) ≡ es
unfolding ones_among
errs_merge [] os [] p q = refl
errs_merge [] os (e ∷ es) p q = no_way (omega arith)
errs_merge (true ∷ bs) [] es p q = no_way (omega arith)
errs_merge (true ∷ bs) (o ∷ os) es p q = errs_merge bs os es (omega arith) (omega arith)
errs_merge (false ∷ bs) os [] p q = no_way (omega (arith, ones_few bs))
errs_merge (false ∷ bs) os (e ∷ es) p q = ap (λ l. e ∷ l) (errs_merge bs os es (omega arith) (omega arith))

pub merge_split : {A B : Type 0} (xs : List (Result A B)) → merge (ok_marks xs) (oks xs) (errs xs) ≡ xs
merge_split [] = refl
merge_split (Ok x ∷ xs) = ap (λ l. Ok x ∷ l) (merge_split xs)
merge_split (Err y ∷ xs) = ap (λ l. Err y ∷ l) (merge_split xs)

-- entries with the same marks and the same items are the same
pub joined : {A B : Type 0} (xs ys : List (Result A B)) → ok_marks xs ≡ ok_marks ys → oks xs ≡ oks ys → errs xs ≡ errs ys → xs ≡ ys
joined xs ys p q r = sym (merge_split xs) ∙ ap (λ b. merge b (oks xs) (errs xs)) p ∙ ap (λ o. merge (ok_marks ys) o (errs xs)) q ∙ ap (merge (ok_marks ys) (oks ys)) r ∙ merge_split ys

-- every entry holds one item
both_counted : {A B : Type 0} (xs : List (Result A B)) → length (oks xs) + length (errs xs) ≡ length xs
both_counted [] = refl
both_counted (Ok x ∷ xs) = let h = both_counted xs in omega arith
both_counted (Err y ∷ xs) = let h = both_counted xs in omega arith

-- marks and items of a list of entries are that list, with an item for each mark
module _ {A B : Type 0} (bs : List Bool) (os : List A) (es : List B) (ys : List (Result A B)) (p : bs ≡ ok_marks ys) (q : os ≡ oks ys) (r : es ≡ errs ys) where
  pub merged : merge bs os es ≡ ys
  merged = ap (λ b. merge b os es) p ∙ ap (λ o. merge (ok_marks ys) o es) q ∙ ap (merge (ok_marks ys) (oks ys)) r ∙ merge_split ys

  pub matched_ones : length os ≡ ones_among bs
  matched_ones = ap length q ∙ picked_length ok_of is_ok ok_tells ys ∙ ap ones_among (sym p)

  pub matched_zeros : ones_among bs + length es ≡ length bs
  matched_zeros = omega (arith, matched_ones, ap length p, length-map ys is_ok, ap length q, ap length r, both_counted ys)

module _ {A B : Type 0} (P : A → Type 0) (Q : B → Type 0) where
  pub fits_alone : ((x : A) → IsProp (P x)) → ((y : B) → IsProp (Q y)) → (r : Result A B) → IsProp (Fits P Q r)
  fits_alone h k (Ok x) = h x
  fits_alone h k (Err y) = k y

  each_oks : (xs : List (Result A B)) → Each (Fits P Q) xs → Each P (oks xs)
  each_oks [] h = tt
  each_oks (Ok x ∷ xs) h = (h.0, each_oks xs h.1)
  each_oks (Err y ∷ xs) h = each_oks xs h.1

  each_errs : (xs : List (Result A B)) → Each (Fits P Q) xs → Each Q (errs xs)
  each_errs [] h = tt
  each_errs (Ok x ∷ xs) h = each_errs xs h.1
  each_errs (Err y ∷ xs) h = (h.0, each_errs xs h.1)

  pub each_entry : (xs : List (Result A B)) → Each P (oks xs) → Each Q (errs xs) → Each (Fits P Q) xs
  each_entry [] h k = tt
  each_entry (Ok x ∷ xs) h k = (h.0, each_entry xs h.1 k)
  each_entry (Err y ∷ xs) h k = (k.0, each_entry xs h k.1)

  pub lawful_oks : (xs : List (Result A B)) → Lawful (Fits P Q) xs → Lawful P (oks xs)
  lawful_oks xs h = record { few = omega (arith, h.few, both_counted xs); each = each_oks xs h.each }

  pub lawful_errs : (xs : List (Result A B)) → Lawful (Fits P Q) xs → Lawful Q (errs xs)
  lawful_errs xs h = record { few = omega (arith, h.few, both_counted xs); each = each_errs xs h.each }

-- a sound column's marks and items
module _ {A B : Type 0} (bs : List Bool) (os : List A) (es : List B) (ones : length os ≡ ones_among bs) (zeros : ones_among bs + length es ≡ length bs) where
  here : ok_marks (merge bs os es) ≡ bs
  here = marks_merge bs os es ones zeros

  pub merge_length : length (merge bs os es) ≡ length bs
  merge_length = sym (length-map (merge bs os es) is_ok) ∙ ap length here

  pub marks_more : (ys : List (Result A B)) → ok_marks (merge bs os es ++ ys) ≡ bs ++ ok_marks ys
  marks_more ys = map-append is_ok (merge bs os es) ys ∙ ap (λ l. l ++ ok_marks ys) here

  pub oks_more : (ys : List (Result A B)) → oks (merge bs os es ++ ys) ≡ os ++ oks ys
  oks_more ys = picked_append ok_of (merge bs os es) ys ∙ ap (λ l. l ++ oks ys) (oks_merge bs os es ones zeros)

  pub errs_more : (ys : List (Result A B)) → errs (merge bs os es ++ ys) ≡ es ++ errs ys
  errs_more ys = picked_append err_of (merge bs os es) ys ∙ ap (λ l. l ++ errs ys) (errs_merge bs os es ones zeros)

  pub marks_part : (s e : ℕ) → ok_marks (part (merge bs os es) s e) ≡ part bs s e
  marks_part s e =
      sym (ap (take (e - s)) (drop-map is_ok s (merge bs os es)) ∙ take-map is_ok (e - s) (drop s (merge bs os es)))
      ∙ ap (λ l. part l s e) here

  pub oks_part : (s e : ℕ) → s ≤ e → oks (part (merge bs os es) s e) ≡ part os (rank_of bs s) (rank_of bs e)
  oks_part s e h =
      picked_part ok_of is_ok ok_tells (merge bs os es) s e h
      ∙ ap (λ l. part (oks (merge bs os es)) (rank_of l s) (rank_of l e)) here
      ∙ ap (λ l. part l (rank_of bs s) (rank_of bs e)) (oks_merge bs os es ones zeros)

  err_rank : (i : ℕ) → i ≤ length bs → rank_of (marks (λ x. not (is_ok x)) (merge bs os es)) i ≡ i - rank_of bs i
  err_rank i h = rank_not is_ok (merge bs os es) i (omega (arith, h, merge_length)) ∙ ap (λ l. i - rank_of l i) here

  pub errs_part : (s e : ℕ) → s ≤ e → e ≤ length bs → errs (part (merge bs os es) s e) ≡ part es (s - rank_of bs s) (e - rank_of bs e)
  errs_part s e h k =
      picked_part err_of (λ x. not (is_ok x)) err_tells (merge bs os es) s e h
      ∙ ap (λ n. part (errs (merge bs os es)) n (rank_of (marks (λ x. not (is_ok x)) (merge bs os es)) e)) (err_rank s (omega arith))
      ∙ ap (part (errs (merge bs os es)) (s - rank_of bs s)) (err_rank e k)
      ∙ ap (λ l. part l (s - rank_of bs s) (e - rank_of bs e)) (errs_merge bs os es ones zeros)

  -- entry i, by its mark
  found : {F : Type 0} (f : F) (i : ℕ) → i < length bs → (x : Result A B) × (got f (merge bs os es) i ≡ Ok x) × (is_ok x ≡ slice_index_or bs i false)
  found f i h =
      let w : i < length (merge bs os es) = omega (arith, merge_length) in
      let p = got_found f (merge bs os es) i w in
      let x = p.0 in
      (x, p.1, sym (get_or-map is_ok (merge bs os es) i x false w ∙ ap is_ok p.2) ∙ ap (λ l. get_or l i false) here)

  pub get_ok : {F G : Type 0} (f : F) (g : G) (i : ℕ) (x : A) → i < length bs → slice_index_or bs i false ≡ true → Ok x ≡ got g os (rank_of bs i) → got f (merge bs os es) i ≡ Ok (Ok x)
  get_ok f g i x h z q = let p = found f i h in p.1 ∙ ap Ok (go p.0 (p.2 ∙ z) p.1)
    where
      go : (o : Result A B) → is_ok o ≡ true → got f (merge bs os es) i ≡ Ok o → o ≡ Ok x
      go (Err b) m at = let v : false ≡ true = m in let w : ◌≡◌ {A = ℕ} 0 1 = cc in no_way (omega arith)
      go (Ok a) m at =
          let p : got g (oks (merge bs os es)) (rank_of (ok_marks (merge bs os es)) i) ≡ Ok a = picked_at ok_of is_ok ok_tells g f (merge bs os es) i (Ok a) a at refl in
          let r : got g os (rank_of bs i) ≡ Ok a = subst (λ l. got g l (rank_of bs i) ≡ Ok a) (oks_merge bs os es ones zeros) (subst (λ l. got g (oks (merge bs os es)) (rank_of l i) ≡ Ok a) here p) in
          let t : x ≡ a = cc in
          ap Ok (sym t)

  pub get_err : {F G : Type 0} (f : F) (g : G) (i : ℕ) (y : B) → i < length bs → slice_index_or bs i false ≡ false → Ok y ≡ got g es (i - rank_of bs i) → got f (merge bs os es) i ≡ Ok (Err y)
  get_err f g i y h z q = let p = found f i h in p.1 ∙ ap Ok (go p.0 (p.2 ∙ z) p.1)
    where
      go : (o : Result A B) → is_ok o ≡ false → got f (merge bs os es) i ≡ Ok o → o ≡ Err y
      go (Ok a) m at = let v : true ≡ false = m in let w : ◌≡◌ {A = ℕ} 0 1 = cc in no_way (omega arith)
      go (Err b) m at =
          let p : got g (errs (merge bs os es)) (rank_of (marks (λ x. not (is_ok x)) (merge bs os es)) i) ≡ Ok b = picked_at err_of (λ x. not (is_ok x)) err_tells g f (merge bs os es) i (Err b) b at refl in
          let r : got g es (i - rank_of bs i) ≡ Ok b = subst (λ l. got g l (i - rank_of bs i) ≡ Ok b) (errs_merge bs os es ones zeros) (subst (λ n. got g (errs (merge bs os es)) n ≡ Ok b) (err_rank i (omega arith)) p) in
          let t : y ≡ b = cc in
          ap Err (sym t)
