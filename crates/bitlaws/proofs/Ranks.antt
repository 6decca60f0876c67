-- What rank means.
use Rattle.std.proofs.Common.{◌≡◌, ℕ, zero, suc, ◌+◌, ◌-◌, ◌<◌, ◌≤◌, Bool, true, false, cond, List, [], ◌∷◌, ◌++◌, length, get_or, take, sym, refl, ap, ◌∙◌, ⊎_elim, not-suc-le-zero, add-zero, add-one, arith}
use Rattle.std.proofs.lemmas.List.{take_more, take_all, get_or_past, get_or_push, get_or_append_left, length_push}
use Rattle.std.proofs.lemmas.Bool.{cases_lt, cases_Bool}
use Rattle.bitlaws.specs.Bits.{ones_among, rank_of}
use Rattle.bitlaws.specs.Laws.{OnesBelow, RankCounts, RankSteps, RankRises}
use Rattle.bitlaws.proofs.Words.{ones_among_append, rank_none}

one_bit : (b : Bool) → ones_among (b ∷ []) ≡ cond b 1 0
unfolding ones_among
one_bit b = add-zero (cond b 1 0)

-- one place further
pub rank_step : (bs : List Bool) (i : ℕ) → rank_of bs (i + 1) ≡ rank_of bs i + cond (get_or bs i false) 1 0
rank_step bs i = ⊎_elim inside past (cases_lt i (length bs))
  where
    inside : i < length bs → rank_of bs (i + 1) ≡ rank_of bs i + cond (get_or bs i false) 1 0
    inside h = rw (take_more bs i false h, ones_among_append (take i bs) (get_or bs i false ∷ []), one_bit (get_or bs i false)) refl

    past : length bs ≤ i → rank_of bs (i + 1) ≡ rank_of bs i + cond (get_or bs i false) 1 0
    past h = rw (take_all (i + 1) bs (omega arith), take_all i bs h, get_or_past bs i false h) (sym (add-zero (ones_among bs)))

pub rank_steps_lem : RankSteps
rank_steps_lem bs = (rank_none bs, rank_step bs)

rank_more : (bs : List Bool) (i d : ℕ) → rank_of bs i ≤ rank_of bs (i + d)
rank_more bs i zero = rw add-zero (omega arith)
rank_more bs i (suc d) =
    let next : i + suc d ≡ (i + d) + 1 = omega arith in
    rw next (omega (arith, rank_more bs i d, rank_step bs (i + d)))

pub rank_rises_lem : RankRises
rank_rises_lem bs i j h = let e : i + (j - i) ≡ j = omega arith in rw e at (rank_more bs i (j - i))

-- one place more among those that are counted
with_one : (bs : List Bool) (i n : ℕ) → get_or bs i false ≡ true → OnesBelow bs i n → OnesBelow bs (i + 1) (n + 1)
with_one bs i n bit h =
    let ps = h.places in
    let more = ps ++ (i ∷ []) in
    let long : length more ≡ length ps + 1 = length_push ps i in
    let old : (a : ℕ) → a < length ps → get_or more a 0 ≡ get_or ps a 0 = λ a l. get_or_append_left ps (i ∷ []) 0 a l in
    let last : (a : ℕ) → length ps ≡ a → get_or more a 0 ≡ i = λ a e. get_or_push ps i 0 a e in
    record {
      places = more;
      many = long ∙ ap (λ (x : ℕ). x + 1) h.many;
      rising = λ a b lt l. ⊎_elim
          (λ (small : b < length ps). omega (arith, h.rising a b lt small, old a (omega arith), old b small))
          (λ (big : length ps ≤ b).
          let at : length ps ≡ b = omega (arith, long) in
          omega (arith, last b at, old a (omega arith), (h.ones a (omega arith)).0))
          (cases_lt b (length ps));
      ones = λ a l. ⊎_elim
          (λ (small : a < length ps).
          (omega (arith, (h.ones a small).0, old a small), rw (old a small) (h.ones a small).1))
          (λ (big : length ps ≤ a).
          let at : length ps ≡ a = omega (arith, long) in
          (omega (arith, last a at), rw (last a at) bit))
          (cases_lt a (length ps));
      all = λ p l one. ⊎_elim
          (λ (small : p < i).
          let was = h.all p small one in
          (was.0, (omega (arith, was.1.0, long), old was.0 was.1.0 ∙ was.1.1)))
          (λ (big : i ≤ p). (length ps, (omega (arith, long), last (length ps) refl ∙ (let e : i ≡ p = omega arith in e))))
          (cases_lt p i);
    }

without : (bs : List Bool) (i n : ℕ) → get_or bs i false ≡ false → OnesBelow bs i n → OnesBelow bs (i + 1) n
without bs i n bit h = record {
  places = h.places;
  many = h.many;
  rising = h.rising;
  ones = λ a l. (omega (arith, (h.ones a l).0), (h.ones a l).1);
  all = λ p l one. ⊎_elim
      (λ (small : p < i). h.all p small one)
      (λ (big : i ≤ p). let e : p ≡ i = omega arith in let one_at = rw e at one in absurd (cc))
      (cases_lt p i);
}

counts_next : (bs : List Bool) (i : ℕ) → OnesBelow bs i (rank_of bs i) → OnesBelow bs (i + 1) (rank_of bs (i + 1))
counts_next bs i h = ⊎_elim
    (λ (e : get_or bs i false ≡ true). rw (rank_step bs i, e) (with_one bs i (rank_of bs i) e h))
    (λ (e : get_or bs i false ≡ false). rw (rank_step bs i, e, add-zero) (without bs i (rank_of bs i) e h))
    (cases_Bool (get_or bs i false))

pub rank_counts_lem : RankCounts
rank_counts_lem bs zero = record {
  places = [];
  many = sym (rank_none bs);
  rising = λ a b lt l. absurd (not-suc-le-zero l);
  ones = λ a l. absurd (not-suc-le-zero l);
  all = λ p l one. absurd (not-suc-le-zero l);
}
rank_counts_lem bs (suc i) = rw (← add-one i) (counts_next bs i (rank_counts_lem bs i))
