-- The first one at or after a place.
use Rattle.std.proofs.Common.{◌≡◌, ℕ, zero, suc, ◌+◌, ◌-◌, ◌*◌, ◌/◌, ◌%◌, ◌^◌, ◌<◌, ◌≤◌, Bool, true, false, eqb, List, ◌∷◌, length, get_or, Some, None, refl, ap, ⊎_elim, lt_of_lt_of_le, add-zero, add_assoc, pow-suc, zero-add, div-one, arith, lit<, pow_mono}
use Rattle.std.proofs.Math.Nat.{div-eq_of_lt, div-add-mod}
use Rattle.std.specs.Int.Count.{ones, under, count_trailing_zeros}
use Rattle.std.proofs.Math.Pow.{split}
use Rattle.std.proofs.lemmas.Nat.{mod_below, shr-shr, shr_le, div-add-mod', div_below}
use Rattle.std.proofs.lemmas.List.{take_all, get_or_past, get_or_default}
use Rattle.std.proofs.lemmas.Bool.{eqb-true, cases_lt, cases_Bool}
use Rattle.bitlaws.specs.Bits.{low_bits, bits_of, ones_among, rank_of, after, select_of, first_from, Held}
use Rattle.bitlaws.specs.Laws.{Selected, FirstFinds, FirstLacks}
use Rattle.bitlaws.proofs.Words.{ones_zero, length_low, length_bits, rank_place, rank_word}
use Rattle.bitlaws.proofs.Ranks.{rank_step, rank_rises_lem}
use Rattle.bitlaws.proofs.Selects.{select_some, select_none, select_place, select_few}
use Rattle.bitlaws.proofs.InWord.{low_bit, low_rank, ones_split, ones_all, selected_in}

-- the first one of a number's bits
pub trailing_first : (k n : ℕ) → 0 < n → n < 2 ^ k → select_of (low_bits k n) 0 ≡ Some (count_trailing_zeros k n)
unfolding low_bits select_of count_trailing_zeros
trailing_first zero n some few = absurd (omega arith)
trailing_first (suc k) n some few = by_digit (n % 2) refl (mod_below n 2 (lit< tt))
    (λ even. trailing_first k (n / 2) (omega (arith, div-add-mod' n 2)) (div_below n 2 (2 ^ k) (lit< tt) (omega (arith, few, pow-suc 2 k))))
  where
    by_digit : (d : ℕ) → n % 2 ≡ d → d < 2 → (n % 2 ≡ 0 → select_of (low_bits k (n / 2)) 0 ≡ Some (count_trailing_zeros k (n / 2))) → select_of (eqb d 1 ∷ low_bits k (n / 2)) 0 ≡ Some (under d (count_trailing_zeros k (n / 2)))
    by_digit zero e lt rest = ap after (rest e)
    by_digit (suc zero) e lt rest = refl
    by_digit (suc (suc d)) e lt rest = absurd (omega arith)

-- the same above bit r of a word
module _ (w r : ℕ) (fit : w < 2 ^ 64) (some : 0 < w / 2 ^ r) where
  -- how far above
  abbrev up : ℕ
  up = count_trailing_zeros 64 (w / 2 ^ r)

  here : Selected (low_bits 64 (w / 2 ^ r)) 0 up
  here = select_place (low_bits 64 (w / 2 ^ r)) 0 up (trailing_first 64 (w / 2 ^ r) some (omega (arith, fit, shr_le w r)))

  inside : up < 64
  inside = ⊎_elim
      (λ (lt : up < 64). lt)
      (λ (ge : 64 ≤ up). let none = rw (get_or_past (low_bits 64 (w / 2 ^ r)) up false (omega (arith, length_low 64 (w / 2 ^ r)))) at here.one in absurd (cc))
      (cases_lt up 64)

  bit_set : w / 2 ^ (r + up) % 2 ≡ 1
  bit_set = rw (← shr-shr w r up) (eqb-true (w / 2 ^ r / 2 ^ up % 2) 1 (rw (← low_bit 64 (w / 2 ^ r) up inside) here.one))

  low : r + up < 64
  low = ⊎_elim
      (λ (lt : r + up < 64). lt)
      (λ (ge : 64 ≤ r + up). absurd (omega (arith, rw (div-eq_of_lt (lt_of_lt_of_le fit (pow_mono ge))) at bit_set)))
      (cases_lt (r + up) 64)

  first_above : Selected (low_bits 64 w) (ones (w % 2 ^ r)) (r + up)
  first_above = record {
    one = rw (low_bit 64 w (r + up) low, bit_set) refl;
    rank = omega (arith, low_rank 64 w (r + up) (omega (arith, low)), ones_split w r up, low_rank 64 (w / 2 ^ r) up (omega (arith, inside)), here.rank);
  }

module _ (ws : List ℕ) (t k b : ℕ) (h : Held ws t k) (le : b ≤ length ws) where
  all_ones : (i : ℕ) → 64 * length ws + k ≤ i → rank_of (bits_of ws t k) i ≡ ones_among (bits_of ws t k)
  all_ones i ge = ap ones_among (take_all i (bits_of ws t k) (omega (arith, length_bits ws t k)))

  -- one word, or the tail, further
  pub rank_next : rank_of (bits_of ws t k) (64 * (b + 1)) ≡ rank_of (bits_of ws t k) (64 * b) + ones (get_or ws b t)
  rank_next = ⊎_elim
      (λ (lt : b < length ws). rw (get_or_default ws b t 0 lt) (rank_word ws t k b lt (h.fit b)))
      (λ (ge : length ws ≤ b).
      let e : b ≡ length ws = omega arith in
      rw (get_or_past ws b t ge, all_ones (64 * (b + 1)) (omega (arith, h.tailed.few)), e) (ones_all ws t k h.tailed))
      (cases_lt b (length ws))

  -- no one is left in the word at or after bit r
  pub rank_rest : (r : ℕ) → r < 64 → 64 * b + r ≤ 64 * length ws + k → get_or ws b t / 2 ^ r ≡ 0 → rank_of (bits_of ws t k) (64 * (b + 1)) ≡ rank_of (bits_of ws t k) (64 * b + r)
  rank_rest r lt inside none =
      let whole = rw none at (split (get_or ws b t) r) in
      let same : get_or ws b t % 2 ^ r ≡ get_or ws b t = omega (arith, whole) in
      rw (rank_place ws t k b r le (omega arith) inside, same) rank_next

  -- there is one
  pub first_in : (r w : ℕ) → r < 64 → 64 * b + r ≤ 64 * length ws + k → w ≡ get_or ws b t → w < 2 ^ 64 → 0 < w / 2 ^ r → first_from (bits_of ws t k) (64 * b + r) ≡ Some (64 * b + (r + count_trailing_zeros 64 (w / 2 ^ r)))
  first_in r w lt inside is fit some =
      let one = rw is at (first_above w r fit some) in
      rw (rank_place ws t k b r le (omega arith) inside, is)
      (select_some (bits_of ws t k) _ _ (selected_in ws t k b _ _ le h.tailed one))

-- past the last word there is none
pub first_past : (ws : List ℕ) (t k b : ℕ) → Held ws t k → length ws < b → select_of (bits_of ws t k) (rank_of (bits_of ws t k) (64 * b)) ≡ None
first_past ws t k b h gt =
    select_none (bits_of ws t k) (rank_of (bits_of ws t k) (64 * b)) (omega (arith, all_ones ws t k 0 h (omega arith) (64 * b) (omega (arith, h.tailed.few))))

no_more : (bs : List Bool) (p d : ℕ) → ((j : ℕ) → p ≤ j → j < p + d → get_or bs j false ≡ false) → rank_of bs (p + d) ≡ rank_of bs p
no_more bs p zero none = rw add-zero refl
no_more bs p (suc d) none =
    let e : p + suc d ≡ (p + d) + 1 = omega arith in
    rw (e, rank_step bs (p + d), none (p + d) (omega arith) (omega arith), add-zero) (no_more bs p d (λ j l m. none j l (omega arith)))

one_more : (bs : List Bool) (j : ℕ) → get_or bs j false ≡ true → rank_of bs (j + 1) ≡ rank_of bs j + 1
one_more bs j e = rw (rank_step bs j, e) refl

pub first_finds_lem : FirstFinds
first_finds_lem bs p q = (
  (λ e.
      let s = select_place bs (rank_of bs p) q e in
      record {
        from = ⊎_elim
            (λ (lt : q < p). absurd (omega (arith, one_more bs q s.one, s.rank, rank_rises_lem bs (q + 1) p (omega arith))))
            (λ (ge : p ≤ q). ge)
            (cases_lt q p);
        one = s.one;
        none = λ j l m. ⊎_elim
            (λ (bit : get_or bs j false ≡ true). absurd (omega (arith, one_more bs j bit, s.rank, rank_rises_lem bs p j l, rank_rises_lem bs (j + 1) q (omega arith))))
            (λ (bit : get_or bs j false ≡ false). bit)
            (cases_Bool (get_or bs j false));
      }),
  (λ f.
      let e : p + (q - p) ≡ q = omega (arith, f.from) in
      select_some bs (rank_of bs p) q (record {
        one = f.one;
        rank = rw e at (no_more bs p (q - p) (λ j l m. f.none j l (omega (arith, m, e))));
      })),
)

pub first_lacks_lem : FirstLacks
first_lacks_lem bs p = (
  (λ e q l bit.
      omega (arith, one_more bs q bit, select_few bs (rank_of bs p) e, rank_rises_lem bs p q l, rank_rises_lem bs (q + 1) (q + 1 + length bs) (omega arith), ap ones_among (take_all (q + 1 + length bs) bs (omega arith)))),
  (λ none.
      let all : rank_of bs (p + length bs) ≡ rank_of bs p = no_more bs p (length bs) (λ j l m. ⊎_elim
      (λ (bit : get_or bs j false ≡ true). absurd (none j l bit))
      (λ (bit : get_or bs j false ≡ false). bit)
      (cases_Bool (get_or bs j false))) in
      select_none bs (rank_of bs p) (omega (arith, all, ap ones_among (take_all (p + length bs) bs (omega arith))))),
)

module _ (ws : List ℕ) (t k b w : ℕ) (h : Held ws t k) (le : b ≤ length ws) (is : w ≡ get_or ws b t) where
  -- a word with a one, from its lowest bit on
  pub first_word : w < 2 ^ 64 → (w ≡ 0 → ⊥) → first_from (bits_of ws t k) (64 * b) ≡ Some (64 * b + count_trailing_zeros 64 w)
  first_word fit some =
      let same : w / 2 ^ 0 ≡ w = div-one w in
      let first = first_in ws t k b h le 0 w (omega arith) (omega arith) is fit (omega (arith, some, same)) in
      rw (same, add-zero, zero-add) at first

  -- a word without
  pub rank_skip : w ≡ 0 → rank_of (bits_of ws t k) (64 * (b + 1)) ≡ rank_of (bits_of ws t k) (64 * b)
  rank_skip none = rw (← is, none, ones_zero, add-zero) at (rank_next ws t k b h le)

-- the same from a place that need not be split by hand
module _ (ws : List ℕ) (t k i w : ℕ) (h : Held ws t k) (inside : i ≤ 64 * length ws + k) (is : w ≡ get_or ws (i / 64) t) where
  block : i / 64 ≤ length ws
  block = omega (arith, div-add-mod i 64, h.tailed.few)

  within : 64 * (i / 64) + i % 64 ≤ 64 * length ws + k
  within = omega (arith, div-add-mod i 64)

  few : i % 64 < 64
  few = omega arith

  pub first_here : w < 2 ^ 64 → (w / 2 ^ (i % 64) ≡ 0 → ⊥) → first_from (bits_of ws t k) i ≡ Some (i + count_trailing_zeros 64 (w / 2 ^ (i % 64)))
  first_here fit some =
      rw (← add_assoc, div-add-mod i 64) at (first_in ws t k (i / 64) h block (i % 64) w few within is fit (omega (arith, some)))

  pub rank_on : w / 2 ^ (i % 64) ≡ 0 → rank_of (bits_of ws t k) (64 * (i / 64 + 1)) ≡ rank_of (bits_of ws t k) i
  rank_on none = rw (div-add-mod i 64) at (rank_rest ws t k (i / 64) h block (i % 64) few within (rw (← is) none))
