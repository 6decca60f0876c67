-- The first one of a word at or above bit r, by the word without its r lowest bits.
use Rattle.std.proofs.Common.{◌≡◌, ℕ, zero, suc, ◌+◌, ◌-◌, ◌*◌, ◌/◌, ◌%◌, ◌^◌, ◌<◌, ◌≤◌, Bool, false, eqb, List, length, get_or, Some, None, Ok, Err, Option, Result, sym, refl, ap, ◌∙◌, subst, ap₂, ⊎_elim, add-zero, add_comm, add-one, arith, pow_pos, pow_mono}
use native.Mathlib.Nat.{mod-one, mod_self, zero-mod}
use lib.Bits.{bit_and, and_block, and_self, and_mask}
use lib.Count.{ones, under, count_trailing_zeros}
use lib.Pow.{high, low, split, mod-mod-pow}
use Rattle.std.proofs.lemmas.Nat.{mod_below, shr-shr, mod-pow-add, pow_below}
use Rattle.std.proofs.lemmas.List.{get_or_past, take_all}
use Rattle.std.proofs.lemmas.Bool.{true≢false, eqb-true, eq-eqb, le-leb, lt-leb, cases_lt}
use Rattle.bitlaws.specs.Bits.{low_bits, bits_of, ones_among, rank_of, select_of, first_from, Held}
use Rattle.bitlaws.specs.Laws.{Selected}
use Rattle.bitlaws.proofs.Words.{length_low, rank_place}
use Rattle.bitlaws.proofs.Selects.{select_some, select_place, select_none}
use Rattle.bitlaws.proofs.InWord.{low_bit, low_rank, selected_in}
use Rattle.bitlaws.proofs.Firsts.{trailing_first, rank_next}
use Rattle.refusals.specs.declared.fault.Fault.{Fault}
use Rattle.refusals.specs.declared.fault.Fault.TheVariants.{Outside}
use Rattle.std.specs.Result.{result_unwrap_or}
use Rattle.bits.specs.Columns.{first_answer}
use Rattle.cursor.specs.Hint.{above}
use Rattle.cursor.proofs.Bounds.{first_bounds}

-- below the lowest one of a number there is nothing
trailing_mod : (k n : ℕ) → n % 2 ^ count_trailing_zeros k n ≡ 0
unfolding count_trailing_zeros
trailing_mod zero n = mod-one n
trailing_mod (suc k) n = by (n % 2) refl (trailing_mod k (n / 2))
  where
    by : (d : ℕ) → n % 2 ≡ d → n / 2 % 2 ^ count_trailing_zeros k (n / 2) ≡ 0 → n % 2 ^ under d (count_trailing_zeros k (n / 2)) ≡ 0
    by zero e h =
        let t = count_trailing_zeros k (n / 2) in
        ap (λ (x : ℕ). n % 2 ^ x) (sym (add-one t)) ∙ mod-pow-add n t 1 ∙ omega (arith, e, h)
    by (suc d) e h = mod-one n

above_le : (w r : ℕ) → above w r + w % 2 ^ r ≡ w
above_le w r = split w r

above_mod : (w r : ℕ) → above w r % 2 ^ r ≡ 0
above_mod w r = ap (λ (x : ℕ). x % 2 ^ r) (sym (add-zero (above w r))) ∙ low (w / 2 ^ r) r (pow_pos r)

-- the lowest one of what is left of a word of 64 bits
module _ (w r : ℕ) (fit : w < 2 ^ 64) (some : above w r ≡ 0 → ⊥) where
  rest_fit : above w r < 2 ^ 64
  rest_fit = omega (arith, fit, above_le w r)

  here : Selected (low_bits 64 (above w r)) 0 (count_trailing_zeros 64 (above w r))
  here = select_place (low_bits 64 (above w r)) 0 (count_trailing_zeros 64 (above w r)) (trailing_first 64 (above w r) (omega (arith, some)) rest_fit)

  pub in_word : count_trailing_zeros 64 (above w r) < 64
  in_word = ⊎_elim
      (λ (lt : count_trailing_zeros 64 (above w r) < 64). lt)
      (λ (ge : 64 ≤ count_trailing_zeros 64 (above w r)). absurd (true≢false (sym here.one ∙ get_or_past (low_bits 64 (above w r)) (count_trailing_zeros 64 (above w r)) false (omega (arith, length_low 64 (above w r))))))
      (cases_lt (count_trailing_zeros 64 (above w r)) 64)

  bit : above w r / 2 ^ count_trailing_zeros 64 (above w r) % 2 ≡ 1
  bit = eqb-true (above w r / 2 ^ count_trailing_zeros 64 (above w r) % 2) 1 (sym (low_bit 64 (above w r) (count_trailing_zeros 64 (above w r)) in_word) ∙ here.one)

  none : above w r % 2 ^ count_trailing_zeros 64 (above w r) ≡ 0
  none = trailing_mod 64 (above w r)

  lowest : above w r % 2 ^ (1 + count_trailing_zeros 64 (above w r)) ≡ 2 ^ count_trailing_zeros 64 (above w r)
  lowest = mod-pow-add (above w r) 1 (count_trailing_zeros 64 (above w r)) ∙ omega (arith, none, ap (λ (x : ℕ). x * 2 ^ count_trailing_zeros 64 (above w r)) bit)

  pub past_r : r ≤ count_trailing_zeros 64 (above w r)
  past_r = ⊎_elim
      (λ (lt : count_trailing_zeros 64 (above w r) < r).
      let j = r - (1 + count_trailing_zeros 64 (above w r)) in
      let e : j + (1 + count_trailing_zeros 64 (above w r)) ≡ r = omega arith in
      let gone : above w r % 2 ^ (1 + count_trailing_zeros 64 (above w r)) ≡ 0 =
      sym (mod-mod-pow (above w r) j (1 + count_trailing_zeros 64 (above w r)))
      ∙ ap (λ (x : ℕ). above w r % 2 ^ x % 2 ^ (1 + count_trailing_zeros 64 (above w r))) e
      ∙ ap (λ (x : ℕ). x % 2 ^ (1 + count_trailing_zeros 64 (above w r))) (above_mod w r)
      ∙ zero-mod (2 ^ (1 + count_trailing_zeros 64 (above w r))) in
      absurd (omega (arith, gone, lowest, pow_pos (count_trailing_zeros 64 (above w r)))))
      (λ (ge : r ≤ count_trailing_zeros 64 (above w r)). ge)
      (cases_lt (count_trailing_zeros 64 (above w r)) r)

  -- the word is what is left, in whole steps of 2 ^ z, and less than one such step
  whole : (above w r / 2 ^ count_trailing_zeros 64 (above w r)) * 2 ^ count_trailing_zeros 64 (above w r) + w % 2 ^ r ≡ w
  whole = omega (arith, split (above w r) (count_trailing_zeros 64 (above w r)), none, above_le w r)

  less : w % 2 ^ r < 2 ^ count_trailing_zeros 64 (above w r)
  less = omega (arith, mod_below w (2 ^ r) (pow_pos r), pow_mono past_r)

  same_high : w / 2 ^ count_trailing_zeros 64 (above w r) ≡ above w r / 2 ^ count_trailing_zeros 64 (above w r)
  same_high = ap (λ (x : ℕ). x / 2 ^ count_trailing_zeros 64 (above w r)) (sym whole) ∙ high (above w r / 2 ^ count_trailing_zeros 64 (above w r)) (count_trailing_zeros 64 (above w r)) less

  same_low : w % 2 ^ count_trailing_zeros 64 (above w r) ≡ w % 2 ^ r
  same_low = ap (λ (x : ℕ). x % 2 ^ count_trailing_zeros 64 (above w r)) (sym whole) ∙ low (above w r / 2 ^ count_trailing_zeros 64 (above w r)) (count_trailing_zeros 64 (above w r)) less

  pub hinted : Selected (low_bits 64 w) (ones (w % 2 ^ r)) (count_trailing_zeros 64 (above w r))
  hinted = record {
    one = low_bit 64 w (count_trailing_zeros 64 (above w r)) in_word ∙ ap (λ (x : ℕ). eqb (x % 2) 1) same_high ∙ eq-eqb (above w r / 2 ^ count_trailing_zeros 64 (above w r) % 2) 1 bit;
    rank = low_rank 64 w (count_trailing_zeros 64 (above w r)) (omega (arith, in_word)) ∙ ap ones same_low;
  }

  -- `rest & (rest - 1)`
  pub cleared : bit_and (above w r) (above w r - 1) ≡ above w (count_trailing_zeros 64 (above w r) + 1)
  cleared =
      let m = 1 + count_trailing_zeros 64 (above w r) in
      let p = 2 ^ count_trailing_zeros 64 (above w r) in
      let a = above w r / 2 ^ m in
      let small : p < 2 ^ m = pow_below (count_trailing_zeros 64 (above w r)) m (omega arith) in
      let is : above w r ≡ a * 2 ^ m + p = omega (arith, split (above w r) m, lowest) in
      let one_less : above w r - 1 ≡ a * 2 ^ m + (p - 1) = omega (arith, is, pow_pos (count_trailing_zeros 64 (above w r))) in
      let e : count_trailing_zeros 64 (above w r) + 1 ≡ m = add_comm (count_trailing_zeros 64 (above w r)) 1 in
      let high_same : w / 2 ^ m ≡ a =
      ap (λ (x : ℕ). w / 2 ^ x) (sym e) ∙ sym (shr-shr w (count_trailing_zeros 64 (above w r)) 1) ∙ ap (λ (x : ℕ). x / 2 ^ 1) same_high
      ∙ shr-shr (above w r) (count_trailing_zeros 64 (above w r)) 1 ∙ ap (λ (x : ℕ). above w r / 2 ^ x) e in
      ap₂ bit_and is one_less ∙ and_block m a a p (p - 1) small (omega (arith, small))
      ∙ ap₂ (λ (x y : ℕ). x * 2 ^ m + y) (and_self a) (and_mask p (count_trailing_zeros 64 (above w r)) ∙ mod_self p)
      ∙ add-zero (a * 2 ^ m) ∙ ap (λ (x : ℕ). x * 2 ^ m) (sym high_same) ∙ ap (above w) (sym e)

module _ (ws : List ℕ) (t k b r w : ℕ) (h : Held ws t k) (le : b ≤ length ws) (few : r ≤ 64) (inside : 64 * b + r ≤ 64 * length ws + k) (is : w ≡ get_or ws b t) where
  at : rank_of (bits_of ws t k) (64 * b + r) ≡ rank_of (bits_of ws t k) (64 * b) + ones (w % 2 ^ r)
  at = rank_place ws t k b r le few inside ∙ ap (λ (x : ℕ). rank_of (bits_of ws t k) (64 * b) + ones (x % 2 ^ r)) (sym is)

  pub hint_some : w < 2 ^ 64 → (above w r ≡ 0 → ⊥) → first_from (bits_of ws t k) (64 * b + r) ≡ Some (64 * b + count_trailing_zeros 64 (above w r))
  hint_some fit some =
      let one : Selected (low_bits 64 (get_or ws b t)) (ones (w % 2 ^ r)) (count_trailing_zeros 64 (above w r)) =
      subst (λ (x : ℕ). Selected (low_bits 64 x) (ones (w % 2 ^ r)) (count_trailing_zeros 64 (above w r))) is (hinted w r fit some) in
      ap (select_of (bits_of ws t k)) at
      ∙ select_some (bits_of ws t k) (rank_of (bits_of ws t k) (64 * b) + ones (w % 2 ^ r)) (64 * b + count_trailing_zeros 64 (above w r)) (selected_in ws t k b (ones (w % 2 ^ r)) (count_trailing_zeros 64 (above w r)) le h.tailed one)

  pub hint_none : above w r ≡ 0 → first_from (bits_of ws t k) (64 * b + r) ≡ first_from (bits_of ws t k) (64 * (b + 1))
  hint_none none =
      let all : w % 2 ^ r ≡ w = omega (arith, above_le w r) in
      ap (select_of (bits_of ws t k)) (at ∙ ap (λ (x : ℕ). rank_of (bits_of ws t k) (64 * b) + ones x) (all ∙ is) ∙ sym (rank_next ws t k b h le))

-- the same from a place p in block b, or right behind it
module _ (ws : List ℕ) (t k p b w rest : ℕ) (h : Held ws t k) (begun : 64 * b ≤ p) (ended : p ≤ 64 * b + 64) (inside : p ≤ 64 * length ws + k)
    (is : w ≡ get_or ws b t) (e : rest ≡ above w (p - 64 * b)) where
  at_place : 64 * b + (p - 64 * b) ≡ p
  at_place = omega arith

  block_in : b ≤ length ws
  block_in = omega (arith, h.tailed.few)

  pub some_at : w < 2 ^ 64 → (rest ≡ 0 → ⊥) → first_from (bits_of ws t k) p ≡ Some (64 * b + count_trailing_zeros 64 rest)
  some_at fit some =
      ap (first_from (bits_of ws t k)) (sym at_place)
      ∙ hint_some ws t k b (p - 64 * b) w h block_in (omega arith) (omega arith) is fit (λ z. some (e ∙ z))
      ∙ ap (λ (x : ℕ). Some (64 * b + count_trailing_zeros 64 x)) (sym e)

  -- which is in the column
  pub some_in : w < 2 ^ 64 → (rest ≡ 0 → ⊥) → 64 * b + count_trailing_zeros 64 rest < length (bits_of ws t k)
  some_in fit some = (first_bounds (bits_of ws t k) p (64 * b + count_trailing_zeros 64 rest) (sym (some_at fit some))).1

  pub none_at : rest ≡ 0 → first_from (bits_of ws t k) p ≡ first_from (bits_of ws t k) (64 * (b + 1))
  none_at none = ap (first_from (bits_of ws t k)) (sym at_place) ∙ hint_none ws t k b (p - 64 * b) w h block_in (omega arith) (omega arith) is (sym e ∙ none)

-- past the end there is none
none_past : (bs : List Bool) (i : ℕ) → length bs < i → None ≡ first_from bs i
none_past bs i h = sym (select_none bs (rank_of bs i) (omega (arith, ap ones_among (take_all i bs (omega arith)))))

-- a first one that is refused is none
pub first_or_none : (bs : List Bool) (i : ℕ) (r : Result (Option ℕ) Fault) → r ≡ first_answer bs i → result_unwrap_or r None ≡ first_from bs i
first_or_none bs i r e = ⊎_elim
    (λ (lt : length bs < i).
    let q : r ≡ Err (Outside i) = e ∙ simp (lt-leb i (length bs) lt) in
    ap (λ (x : Result (Option ℕ) Fault). result_unwrap_or x None) q ∙ none_past bs i lt)
    (λ (ge : i ≤ length bs).
    let q : r ≡ Ok (first_from bs i) = e ∙ simp (le-leb i (length bs) ge) in
    ap (λ (x : Result (Option ℕ) Fault). result_unwrap_or x None) q)
    (cases_lt (length bs) i)
