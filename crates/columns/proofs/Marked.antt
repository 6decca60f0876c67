-- What a bit column says of its marks.
use Rattle.std.proofs.Common.{◌≡◌, ℕ, ◌+◌, ◌-◌, ◌<◌, ◌≤◌, Bool, true, false, cond, ltb, leb, List, [], ◌∷◌, ◌++◌, length, get_or, take, drop, Ok, sym, refl, ap, ◌∙◌, subst, arith, length-drop, length-take, ltb-false, ltb-true, leb-true, ◌⊎◌, inl, inr, Err}
use Rattle.std.proofs.lemmas.List.{take-append-drop, take_all}
use Rattle.words.specs.declared.reading.ReadStore.{Ghosts}
use Rattle.words.specs.declared.reading.GrowStore.{Ghosts as Growing}
use Rattle.bitlaws.specs.Bits.{most_bits, rank_of, ones_among}
use Rattle.bitlaws.proofs.Words.{length_bits, ones_among_append, rank_le, rank_under}
use Rattle.bitlaws.proofs.Ranks.{rank_step}
use Rattle.columns.specs.Plain.{part}
use Rattle.columns.proofs.Lists.{take_range}
use Rattle.bits.specs.declared.rank_select.RankSelect.{RankSelect}
use Rattle.bits.specs.Columns.{column_bits, room_in, get_answer, rank_answer, push_answer, append_answer}
use Rattle.refusals.specs.declared.fault.Fault.{Fault}
use Rattle.refusals.specs.declared.fault.Fault.TheVariants.{Past, Full}
use Rattle.bits.proofs.Growing.{fits_made}

no_way : {A : Type 0} → ⊥ → A
no_way z = elim z [ ]

module _ {C V : Type 0} {c : Ghosts C ℕ} {v : Ghosts V ℕ} (r : RankSelect C V c v) where
  pub marks_few : length (column_bits v r) ≤ most_bits
  marks_few = omega (arith, length_bits (v.list r.values.values) r.values.tail.word r.values.tail.bits, r.values.held.small)

  -- marks are within their limit, where their stores are within theirs
  pub marks_within : (counts : Growing C ℕ) (values : Growing V ℕ) → length (c.list r.counts) ≤ counts.room r.counts → length (v.list r.values.values) ≤ values.room r.values.values → room_in counts values r (length (column_bits v r)) ≡ true
  marks_within counts values k h =
      let n = length_bits (v.list r.values.values) r.values.tail.word r.values.tail.bits in
      fits_made _ (values.room r.values.values) (counts.room r.counts)
      (omega (arith, n, r.values.held.small)) (omega (arith, n, h, r.values.held.tailed.few)) (omega (arith, r.counted.many, k))

module _ (bs : List Bool) (i : ℕ) where
  pub mark_found : (b : Bool) → Ok b ≡ get_answer bs i → (i < length bs) × (get_or bs i false ≡ b)
  mark_found b = go (ltb i (length bs)) refl
    where
      go : (t : Bool) → ltb i (length bs) ≡ t → Ok b ≡ get_answer bs i → (i < length bs) × (get_or bs i false ≡ b)
      go true e q = let p = rw e at q in let w : get_or bs i false ≡ b = cc in (ltb-true _ _ e, w)
      go false e q = let p = rw e at q in let z : ◌≡◌ {A = ℕ} 0 1 = cc in no_way (omega arith)

  pub rank_found : (n : ℕ) → Ok n ≡ rank_answer bs i → (i ≤ length bs) × (rank_of bs i ≡ n)
  rank_found n = go (leb i (length bs)) refl
    where
      go : (t : Bool) → leb i (length bs) ≡ t → Ok n ≡ rank_answer bs i → (i ≤ length bs) × (rank_of bs i ≡ n)
      go true e q = let p = rw e at q in let w : rank_of bs i ≡ n = cc in (leb-true _ _ e, w)
      go false e q = let p = rw e at q in let z : ◌≡◌ {A = ℕ} 0 1 = cc in no_way (omega arith)

pub ones_none : (bs : List Bool) → bs ≡ [] → ones_among bs ≡ 0
unfolding ones_among
ones_none [] e = refl
ones_none (b ∷ bs) e = let z : ◌≡◌ {A = ℕ} 0 1 = cc in no_way (omega arith)

-- a mark among others: the ones before it are fewer than all, and so are the zeros
pub rank_all : (bs : List Bool) (i : ℕ) → rank_of bs i + ones_among (drop i bs) ≡ ones_among bs
rank_all bs i = sym (ones_among_append (take i bs) (drop i bs)) ∙ ap ones_among (take-append-drop i bs)

pub rank_most : (bs : List Bool) (i : ℕ) → rank_of bs i ≤ ones_among bs
rank_most bs i = omega (arith, rank_all bs i)

ones_length : (bs : List Bool) → ones_among bs ≤ length bs
ones_length bs = subst (λ l. ones_among l ≤ length bs) (take_all (length bs) bs (omega arith)) (rank_le bs (length bs))

pub one_below : (bs : List Bool) (i : ℕ) → get_or bs i false ≡ true → rank_of bs i < ones_among bs
one_below bs i e = let s : rank_of bs (i + 1) ≡ rank_of bs i + 1 = rank_step bs i ∙ ap (λ b. rank_of bs i + cond b 1 0) e in omega (arith, s, rank_most bs (i + 1))

pub zero_below : (bs : List Bool) (i n : ℕ) → i < length bs → get_or bs i false ≡ false → ones_among bs + n ≡ length bs → i - rank_of bs i < n
zero_below bs i n h e m =
    let s : rank_of bs (i + 1) ≡ rank_of bs i + 0 = rank_step bs i ∙ ap (λ b. rank_of bs i + cond b 1 0) e in
    omega (arith, s, rank_all bs (i + 1), ones_length (drop (i + 1) bs), length-drop (i + 1) bs, rank_under bs i)

-- the zeros before a place, as many as it is less its rank, never fall and are no more than all
pub zeros_rise : (bs : List Bool) (s e : ℕ) → s ≤ e → s - rank_of bs s ≤ e - rank_of bs e
zeros_rise bs s e h =
    let m : take e bs ≡ take s bs ++ part bs s e = take_range bs s e h in
    let a : rank_of bs e ≡ rank_of bs s + ones_among (part bs s e) = ap ones_among m ∙ ones_among_append (take s bs) (part bs s e) in
    let b : length (part bs s e) ≤ e - s = omega (arith, length-take (e - s) (drop s bs)) in
    omega (arith, a, ones_length (part bs s e), b, rank_under bs s, rank_under bs e)

pub zeros_most : (bs : List Bool) (e n : ℕ) → e ≤ length bs → ones_among bs + n ≡ length bs → e - rank_of bs e ≤ n
zeros_most bs e n h m = omega (arith, rank_all bs e, ones_length (drop e bs), length-drop e bs, rank_under bs e)

-- what the marks answered to a question, told apart
pub room_granted : (bs : List Bool) (ok : Bool) → Ok tt ≡ push_answer bs ok → ok ≡ true
room_granted bs true e = refl
room_granted bs false e = let z : ◌≡◌ {A = ℕ} 0 1 = cc in no_way (omega arith)

pub room_refused : (bs : List Bool) (ok : Bool) (f : Fault) → Err f ≡ push_answer bs ok → (ok ≡ false) × (f ≡ Full (length bs))
room_refused bs true f e = let z : ◌≡◌ {A = ℕ} 0 1 = cc in no_way (omega arith)
room_refused bs false f e = let w : f ≡ Full (length bs) = cc in (refl, w)

pub range_granted : (bs : List Bool) (ok : Bool) (src : List Bool) (e : ℕ) → Ok tt ≡ append_answer bs ok src e → (e ≤ length src) × (ok ≡ true)
range_granted bs ok src e = go (ltb (length src) e) refl
  where
    go : (t : Bool) → ltb (length src) e ≡ t → Ok tt ≡ append_answer bs ok src e → (e ≤ length src) × (ok ≡ true)
    go true p q = let r = rw p at q in let z : ◌≡◌ {A = ℕ} 0 1 = cc in no_way (omega arith)
    go false p q = (ltb-false _ _ p, room_granted bs ok (rw p at q))

pub range_refused : (bs : List Bool) (ok : Bool) (src : List Bool) (e : ℕ) (f : Fault) → Err f ≡ append_answer bs ok src e → ((length src < e) × (f ≡ Past e)) ⊎ ((e ≤ length src) × ((ok ≡ false) × (f ≡ Full (length bs))))
range_refused bs ok src e f = go (ltb (length src) e) refl
  where
    go : (t : Bool) → ltb (length src) e ≡ t → Err f ≡ append_answer bs ok src e → ((length src < e) × (f ≡ Past e)) ⊎ ((e ≤ length src) × ((ok ≡ false) × (f ≡ Full (length bs))))
    go true p q = let r = rw p at q in let w : f ≡ Past e = cc in inl (ltb-true _ _ p, w)
    go false p q = inr (ltb-false _ _ p, room_refused bs ok f (rw p at q))
