-- The ones of one word, and where they stand in a column.
use Rattle.std.proofs.Common.{◌≡◌, ℕ, zero, suc, ◌+◌, ◌*◌, ◌/◌, ◌%◌, ◌^◌, ◌<◌, ◌≤◌, false, eqb, List, length, get_or, refl, ⊎_elim, lt_of_lt_of_le, mod-eq_of_lt, add_comm, div-one, one-add, arith, pow_mono}
use Rattle.std.proofs.Math.Nat.{div-eq_of_lt}
use Rattle.std.specs.Int.Count.{ones, ones_cat}
use Rattle.std.proofs.lemmas.Nat.{shr-shr, mod-pow-add, mod_below, pow_pos}
use Rattle.std.proofs.lemmas.List.{get_or_past, take_at}
use Rattle.std.proofs.lemmas.Bool.{eqb-true, cases_lt}
use Rattle.bitlaws.specs.Bits.{low_bits, word_bits, bits_of, ones_among, rank_of, Tailed}
use Rattle.bitlaws.specs.Laws.{Selected}
use Rattle.bitlaws.proofs.Words.{length_low, length_words, take_low, ones_low, ones_among_append, bit_place, rank_place}

-- bit d of a number's n lowest
pub low_bit : (n w d : ℕ) → d < n → get_or (low_bits n w) d false ≡ eqb (w / 2 ^ d % 2) 1
unfolding low_bits
low_bit zero w d h = absurd (omega arith)
low_bit (suc n) w zero h = rw (div-one w) refl
low_bit (suc n) w (suc d) h = rw (shr-shr w 1 d, one-add d) at (low_bit n (w / 2) d (omega arith))

pub low_rank : (n w d : ℕ) → d ≤ n → rank_of (low_bits n w) d ≡ ones (w % 2 ^ d)
low_rank n w d h = rw (take_low d n w h) (ones_low d w)

-- the ones of the k lowest bits, and of the j above them
pub ones_split : (w k j : ℕ) → ones (w % 2 ^ (k + j)) ≡ ones (w % 2 ^ k) + ones (w / 2 ^ k % 2 ^ j)
ones_split w k j =
    rw (add_comm k j, mod-pow-add w j k, ones_cat k (w / 2 ^ k % 2 ^ j) (w % 2 ^ k) (mod_below w (2 ^ k) (pow_pos k))) (omega arith)

-- a tail's word has no one at or above its bits
past_tail : (t k p : ℕ) → t < 2 ^ k → k ≤ p → t / 2 ^ p % 2 ≡ 0
past_tail t k p clean h = rw (div-eq_of_lt (lt_of_lt_of_le clean (pow_mono h))) refl

-- the j-th one of word b is a one of the column
module _ (ws : List ℕ) (t k b j p : ℕ) (h : b ≤ length ws) (tail : Tailed t k) (s : Selected (low_bits 64 (get_or ws b t)) j p) where
  in_word : p < 64
  in_word = ⊎_elim
      (λ (lt : p < 64). lt)
      (λ (ge : 64 ≤ p). let none = rw (get_or_past (low_bits 64 (get_or ws b t)) p false (omega (arith, length_low 64 (get_or ws b t)))) at s.one in absurd (cc))
      (cases_lt p 64)

  in_column : 64 * b + p < 64 * length ws + k
  in_column = ⊎_elim
      (λ (lt : b < length ws). omega (arith, in_word))
      (λ (ge : length ws ≤ b). ⊎_elim
      (λ (lt : p < k). omega arith)
      (λ (past : k ≤ p).
      let one = eqb-true (get_or ws b t / 2 ^ p % 2) 1 (rw (low_bit 64 (get_or ws b t) p in_word) at s.one) in
      absurd (omega (arith, past_tail t k p tail.clean past, rw (get_or_past ws b t ge) at one)))
      (cases_lt p k))
      (cases_lt b (length ws))

  pub selected_in : Selected (bits_of ws t k) (rank_of (bits_of ws t k) (64 * b) + j) (64 * b + p)
  selected_in = record {
    one = rw (bit_place ws t k b p h in_word in_column, ← low_bit 64 (get_or ws b t) p in_word) s.one;
    rank = omega (arith, rank_place ws t k b p h (omega (arith, in_word)) (omega (arith, in_column)), low_rank 64 (get_or ws b t) p (omega (arith, in_word)), s.rank);
  }

-- the ones of a word's 64 bits
pub ones_word : (w : ℕ) → w < 2 ^ 64 → ones_among (low_bits 64 w) ≡ ones w
ones_word w fit = rw (mod-eq_of_lt fit) at (ones_low 64 w)

-- all ones are those of the words and those of the tail
pub ones_all : (ws : List ℕ) (t k : ℕ) → Tailed t k → ones_among (bits_of ws t k) ≡ rank_of (bits_of ws t k) (64 * length ws) + ones t
ones_all ws t k tail =
    rw (take_at (word_bits ws) (low_bits k t) (64 * length ws) (length_words ws), ones_among_append (word_bits ws) (low_bits k t), ones_low k t, mod-eq_of_lt tail.clean) refl
