-- A group of bits behind a tail: n bits of the number a above the k bits of t.
use Rattle.std.proofs.Common.{◌≡◌, ℕ, zero, suc, ◌+◌, ◌-◌, ◌*◌, ◌/◌, ◌%◌, ◌^◌, ◌<◌, ◌≤◌, Bool, true, false, cond, List, [], ◌∷◌, ◌++◌, length, sym, refl, ⊎_elim, lt_of_lt_of_le, add-zero, mod-eq_of_lt, arith, pow_mono}
use Rattle.std.specs.Int.Bits.{bit_and, and_mask, bit_or, block_half, block_odd, or_shifted_r}
use Rattle.std.proofs.Math.Pow.{high, low, split}
use Rattle.std.proofs.lemmas.Nat.{one_shl, pow-add, pow_pos, shr-shr, mod-pow-add, shr_below, mul-add-lt}
use Rattle.std.proofs.lemmas.List.{append_assoc, append-nil, get_or_append_left, get_or_push, get_or_past, length_push}
use Rattle.std.proofs.lemmas.Bool.{cases_order}
use Rattle.bitlaws.specs.Bits.{low_bits, word_bits, bits_of, Words64}
use Rattle.bitlaws.proofs.Words.{words_append, low_split, take_low}

-- what lies above the k lowest bits does not show in them
pub low_above : (k a w : ℕ) → low_bits k (a * 2 ^ k + w) ≡ low_bits k w
unfolding low_bits
low_above zero a w = refl
low_above (suc k) a w = rw (block_odd a k w, block_half a k w, low_above k a (w / 2)) refl

-- so a remainder has the same
pub low_cut : (k w : ℕ) → low_bits k (w % 2 ^ k) ≡ low_bits k w
low_cut k w = sym (rw (split w k) at (low_above k (w / 2 ^ k) (w % 2 ^ k)))

-- a bit is a group of one
pub low_one : (b : Bool) → low_bits 1 (cond b 1 0) ≡ b ∷ []
unfolding low_bits
low_one true = refl
low_one false = refl

one_word : (w : ℕ) → word_bits (w ∷ []) ≡ low_bits 64 w
unfolding word_bits
one_word w = append-nil (low_bits 64 w)

-- more than 64 bits are a word, and a tail of the rest
pub bits_carry : (ws : List ℕ) (w k : ℕ) → bits_of (ws ++ (w % 2 ^ 64 ∷ [])) (w / 2 ^ 64) k ≡ word_bits ws ++ low_bits (64 + k) w
bits_carry ws w k =
    rw (words_append ws (w % 2 ^ 64 ∷ []), one_word (w % 2 ^ 64), low_cut 64 w, low_split 64 k w)
    (append_assoc (word_bits ws) (low_bits 64 w) (low_bits k (w / 2 ^ 64)))

-- a word that fits joins the words that do
pub fit_push : (ws : List ℕ) (w : ℕ) → Words64 ws → w < 2 ^ 64 → Words64 (ws ++ (w ∷ []))
fit_push ws w h fit i = ⊎_elim
    (λ (e : i ≡ length ws). rw (get_or_push ws w 0 i (sym e)) fit)
    (⊎_elim
    (λ (l : i < length ws). rw (get_or_append_left ws (w ∷ []) 0 i l) (h i))
    (λ (l : length ws < i). rw (get_or_past (ws ++ (w ∷ [])) i 0 (omega (arith, length_push ws w))) (pow_pos 64)))
    (cases_order i (length ws))

-- a cut at or above k leaves the k lowest bits
pub low_cut_above : (k m w : ℕ) → k ≤ m → low_bits k (w % 2 ^ m) ≡ low_bits k w
low_cut_above k m w h = rw (← take_low k m (w % 2 ^ m) h, low_cut m w) (take_low k m w h)

module _ (t k a : ℕ) (clean : t < 2 ^ k) where
  pub low_cat : (n : ℕ) → low_bits (k + n) (a * 2 ^ k + t) ≡ low_bits k t ++ low_bits n a
  low_cat n = rw (low_split k n (a * 2 ^ k + t), low_above k a t, high a k clean) refl

  -- the group behind the tail, as bits
  pub bits_group : (ws : List ℕ) (n : ℕ) → word_bits ws ++ low_bits (k + n) (a * 2 ^ k + t) ≡ bits_of ws t k ++ low_bits n a
  bits_group ws n = rw (low_cat n) (sym (append_assoc (word_bits ws) (low_bits k t) (low_bits n a)))

  -- and as a number
  pub joined_lt : (n : ℕ) → a < 2 ^ n → a * 2 ^ k + t < 2 ^ (k + n)
  joined_lt n small = omega (arith, mul-add-lt a (2 ^ k) t (2 ^ n) small clean, pow-add 2 k n)

  -- what of it 64 bits hold
  joined_cut : k ≤ 64 → (a * 2 ^ k + t) % 2 ^ 64 ≡ (a % 2 ^ (64 - k)) * 2 ^ k + t
  joined_cut le =
      let e : (64 - k) + k ≡ 64 = omega arith in
      rw (e, high a k clean, low a k clean) at (mod-pow-add (a * 2 ^ k + t) (64 - k) k)

  -- and what is left
  pub joined_rest : k ≤ 64 → (a * 2 ^ k + t) / 2 ^ 64 ≡ a / 2 ^ (64 - k)
  joined_rest le =
      let e : k + (64 - k) ≡ 64 = omega arith in
      sym (rw (e, high a k clean) at (shr-shr (a * 2 ^ k + t) k (64 - k)))

  pub rest_lt : (n m : ℕ) → a < 2 ^ n → k + n ≡ m + 64 → (a * 2 ^ k + t) / 2 ^ 64 < 2 ^ m
  rest_lt n m small e = shr_below (a * 2 ^ k + t) m 64 (rw e at (joined_lt n small))

-- `t | (a << k)`
pub joined_is : (t k a : ℕ) → t < 2 ^ k → k ≤ 64 → bit_or t ((a * 2 ^ k) % 2 ^ 64) ≡ (a * 2 ^ k + t) % 2 ^ 64
joined_is t k a clean le =
    let cut : (a * 2 ^ k) % 2 ^ 64 ≡ (a % 2 ^ (64 - k)) * 2 ^ k = rw (add-zero (a * 2 ^ k), add-zero ((a % 2 ^ (64 - k)) * 2 ^ k)) at (joined_cut 0 k a (pow_pos k) le) in
    rw (cut, or_shifted_r (a % 2 ^ (64 - k)) k t clean) (sym (joined_cut t k a clean le))

-- the group leaves the word room
pub joined_whole : (t k a n : ℕ) → t < 2 ^ k → a < 2 ^ n → k + n ≤ 64 → (a * 2 ^ k + t) % 2 ^ 64 ≡ a * 2 ^ k + t
joined_whole t k a n clean small le = mod-eq_of_lt (lt_of_lt_of_le (joined_lt t k a clean n small) (pow_mono le))

-- `w & ((1 << n) - 1)`
pub masked : (w n : ℕ) → n < 64 → bit_and w ((1 * 2 ^ n) % 2 ^ 64 - 1) ≡ w % 2 ^ n
masked w n h = rw (one_shl n 64 h) (and_mask w n)
