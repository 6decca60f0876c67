-- Marks and items of a list of options, apart and together.
use Rattle.std.specs.Prelude.{◌≡◌, ℕ, ◌-◌, ◌<◌, ◌≤◌, Bool, true, false, List, [], ◌∷◌, ◌++◌, length, get_or, take, drop, is_some, Some, None, Ok, Option, slice_index_or, refl}
use Rattle.std.proofs.Common.{ap, sym, ◌∙◌, subst, arith}
use Rattle.std.proofs.lemmas.List.{map-append, length-map, take-map, drop-map, get_or-map}
use Rattle.bitlaws.specs.Bits.{ones_among, rank_of}
use Rattle.columns.specs.Kinds.{Each, Lawful}
use Rattle.std.specs.Coded.{Unit-prop}
use Rattle.words.specs.Words.{got}
use Rattle.words.proofs.Got.{got_inside}
use Rattle.columns.specs.Plain.{part}
use Rattle.columns.proofs.Picked.{picked_append, picked_length, picked_part, picked_at}
use Rattle.options.specs.Entries.{some_marks, somes, merge, Fits}

no_way : {A : Type 0} → ⊥ → A
no_way z = elim z [ ]

pub marks_merge : {A : Type 0} (bs : List Bool) (ss : List A) → length ss ≡ ones_among bs → some_marks (merge bs ss) ≡ bs
unfolding ones_among
marks_merge [] ss e = refl
marks_merge (false ∷ bs) ss e = ap (λ l. false ∷ l) (marks_merge bs ss (omega arith))
marks_merge (true ∷ bs) [] e = no_way (omega arith)
marks_merge (true ∷ bs) (s ∷ ss) e = ap (λ l. true ∷ l) (marks_merge bs ss (omega arith))

pub somes_merge : {A : Type 0} (bs : List Bool) (ss : List A) → length ss ≡ ones_among bs → somes (merge bs ss) ≡ ss
unfolding ones_among
somes_merge [] [] e = refl
somes_merge [] (s ∷ ss) e = no_way (omega arith)
somes_merge (false ∷ bs) ss e = somes_merge bs ss (omega arith)
somes_merge (true ∷ bs) [] e = no_way (omega arith)
somes_merge (true ∷ bs) (s ∷ ss) e = ap (λ l. s ∷ l) (somes_merge bs ss (omega arith))

pub merge_split : {A : Type 0} (xs : List (Option A)) → merge (some_marks xs) (somes xs) ≡ xs
merge_split [] = refl
merge_split (None ∷ xs) = ap (λ l. None ∷ l) (merge_split xs)
merge_split (Some x ∷ xs) = ap (λ l. Some x ∷ l) (merge_split xs)

-- entries with the same marks and the same items are the same
pub joined : {A : Type 0} (xs ys : List (Option A)) → some_marks xs ≡ some_marks ys → somes xs ≡ somes ys → xs ≡ ys
joined xs ys p q = sym (merge_split xs) ∙ ap (λ b. merge b (somes xs)) p ∙ ap (merge (some_marks ys)) q ∙ merge_split ys

-- marks and items of a list of entries are that list, with an item for each one
pub merged : {A : Type 0} (bs : List Bool) (ss : List A) (ys : List (Option A)) → bs ≡ some_marks ys → ss ≡ somes ys → merge bs ss ≡ ys
merged bs ss ys p q = ap (λ b. merge b ss) p ∙ ap (merge (some_marks ys)) q ∙ merge_split ys

pub matched : {A : Type 0} (bs : List Bool) (ss : List A) (ys : List (Option A)) → bs ≡ some_marks ys → ss ≡ somes ys → length ss ≡ ones_among bs
matched bs ss ys p q = ap length q ∙ picked_length (λ x. x) is_some (λ x. refl) ys ∙ ap ones_among (sym p)

pub each_somes : {A : Type 0} (P : A → Type 0) (xs : List (Option A)) → Each (Fits P) xs → Each P (somes xs)
each_somes P [] h = tt
each_somes P (None ∷ xs) h = each_somes P xs h.1
each_somes P (Some x ∷ xs) h = (h.0, each_somes P xs h.1)

pub each_entry : {A : Type 0} (P : A → Type 0) (xs : List (Option A)) → Each P (somes xs) → Each (Fits P) xs
each_entry P [] h = tt
each_entry P (None ∷ xs) h = (tt, each_entry P xs h)
each_entry P (Some x ∷ xs) h = (h.0, each_entry P xs h.1)

pub somes_fewer : {A : Type 0} (xs : List (Option A)) → length (somes xs) ≤ length xs
somes_fewer [] = omega arith
somes_fewer (None ∷ xs) = let h = somes_fewer xs in omega arith
somes_fewer (Some x ∷ xs) = let h = somes_fewer xs in omega arith

pub fits_alone : {A : Type 0} (P : A → Type 0) → ((x : A) → IsProp (P x)) → (o : Option A) → IsProp (Fits P o)
fits_alone P h None = Unit-prop
fits_alone P h (Some x) = h x

pub lawful_somes : {A : Type 0} (P : A → Type 0) (xs : List (Option A)) → Lawful (Fits P) xs → Lawful P (somes xs)
lawful_somes P xs h = record { few = omega (arith, h.few, somes_fewer xs); each = each_somes P xs h.each }

-- a sound column's marks and items
module _ {A : Type 0} (bs : List Bool) (ss : List A) (many : length ss ≡ ones_among bs) where
  pub merge_length : length (merge bs ss) ≡ length bs
  merge_length = sym (length-map (merge bs ss) is_some) ∙ ap length (marks_merge bs ss many)

  pub marks_more : (ys : List (Option A)) → some_marks (merge bs ss ++ ys) ≡ bs ++ some_marks ys
  marks_more ys = map-append is_some (merge bs ss) ys ∙ ap (λ l. l ++ some_marks ys) (marks_merge bs ss many)

  pub somes_more : (ys : List (Option A)) → somes (merge bs ss ++ ys) ≡ ss ++ somes ys
  somes_more ys = picked_append (λ x. x) (merge bs ss) ys ∙ ap (λ l. l ++ somes ys) (somes_merge bs ss many)

  pub marks_part : (s e : ℕ) → some_marks (part (merge bs ss) s e) ≡ part bs s e
  marks_part s e =
      sym (ap (take (e - s)) (drop-map is_some s (merge bs ss)) ∙ take-map is_some (e - s) (drop s (merge bs ss)))
      ∙ ap (λ l. part l s e) (marks_merge bs ss many)

  pub somes_part : (s e : ℕ) → s ≤ e → somes (part (merge bs ss) s e) ≡ part ss (rank_of bs s) (rank_of bs e)
  somes_part s e h =
      picked_part (λ x. x) is_some (λ x. refl) (merge bs ss) s e h
      ∙ ap (λ l. part (somes (merge bs ss)) (rank_of l s) (rank_of l e)) (marks_merge bs ss many)
      ∙ ap (λ l. part l (rank_of bs s) (rank_of bs e)) (somes_merge bs ss many)

  -- entry i, where its mark is a zero
  pub get_none : {F : Type 0} (f : F) (i : ℕ) → i < length bs → slice_index_or bs i false ≡ false → got f (merge bs ss) i ≡ Ok None
  get_none f i h z =
      let w : i < length (merge bs ss) = omega (arith, merge_length) in
      got_inside None f (merge bs ss) i w ∙ ap Ok (is_none (slice_index_or (merge bs ss) i None) (sym (mark_of w) ∙ ap (λ l. get_or l i false) (marks_merge bs ss many) ∙ z))
    where
      is_none : (o : Option A) → is_some o ≡ false → o ≡ None
      is_none None e = refl
      is_none (Some a) e = let q : true ≡ false = e in let v : ◌≡◌ {A = ℕ} 0 1 = cc in no_way (omega arith)

      mark_of : i < length (merge bs ss) → slice_index_or (some_marks (merge bs ss)) i false ≡ is_some (slice_index_or (merge bs ss) i None)
      mark_of w = get_or-map is_some (merge bs ss) i None false w

  -- and where it is a one
  pub get_some : {F G : Type 0} (f : F) (g : G) (i : ℕ) (x : A) → i < length bs → slice_index_or bs i false ≡ true → Ok x ≡ got g ss (rank_of bs i) → got f (merge bs ss) i ≡ Ok (Some x)
  get_some f g i x h z q =
      let w : i < length (merge bs ss) = omega (arith, merge_length) in
      let e = get_or (merge bs ss) i None in
      let at : got f (merge bs ss) i ≡ Ok e = got_inside None f (merge bs ss) i w in
      let m : is_some e ≡ true = sym (get_or-map is_some (merge bs ss) i None false w) ∙ ap (λ l. get_or l i false) (marks_merge bs ss many) ∙ z in
      at ∙ ap Ok (go e m at)
    where
      go : (o : Option A) → is_some o ≡ true → got f (merge bs ss) i ≡ Ok o → o ≡ Some x
      go None m at = let q : false ≡ true = m in let v : ◌≡◌ {A = ℕ} 0 1 = cc in no_way (omega arith)
      go (Some a) m at =
          let p : got g (somes (merge bs ss)) (rank_of (some_marks (merge bs ss)) i) ≡ Ok a = picked_at (λ x. x) is_some (λ x. refl) g f (merge bs ss) i (Some a) a at refl in
          let r : got g ss (rank_of bs i) ≡ Ok a = subst (λ l. got g l (rank_of bs i) ≡ Ok a) (somes_merge bs ss many) (subst (λ l. got g (somes (merge bs ss)) (rank_of l i) ≡ Ok a) (marks_merge bs ss many) p) in
          let t : x ≡ a = cc in
          ap Some (sym t)
