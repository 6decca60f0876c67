-- A range of the bits that words and a tail hold, as the bits of a number.
use Rattle.std.proofs.Common.{◌≡◌, ℕ, ◌+◌, ◌-◌, ◌*◌, ◌/◌, ◌%◌, ◌^◌, ◌<◌, ◌≤◌, List, ◌++◌, length, get_or, take, drop, sym, refl, div-one, arith, take-add}
use Rattle.std.proofs.Math.Nat.{div-add-mod}
use Rattle.std.specs.Int.Bits.{bit_or}
use Rattle.std.proofs.lemmas.Nat.{shr_below}
use Rattle.std.proofs.lemmas.List.{drop-take, drop-drop, drop_at, length-take-le, append_assoc}
use Rattle.bitlaws.specs.Bits.{low_bits, word_bits, bits_of}
use Rattle.bitlaws.proofs.Words.{length_low, length_words, take_place, low_split}
use Rattle.bitlaws.proofs.Groups.{low_cut_above, low_cat, joined_is}

-- inside one word
pub range_one : (ws : List ℕ) (t k b r n : ℕ) → b ≤ length ws → r + n ≤ 64 → 64 * b + (r + n) ≤ 64 * length ws + k → take n (drop (64 * b + r) (bits_of ws t k)) ≡ low_bits n (get_or ws b t / 2 ^ r)
range_one ws t k b r n h few inside =
    let bs = bits_of ws t k in
    let front = word_bits (take b ws) in
    let w = get_or ws b t in
    let long : length front ≡ 64 * b = omega (arith, length_words (take b ws), length-take-le b ws h) in
    let e : 64 * b + r + n ≡ 64 * b + (r + n) = omega arith in
    rw (← drop-take (64 * b + r) n bs, e, take_place ws t k b (r + n) h few inside, ← drop-drop r (64 * b) (front ++ low_bits (r + n) w))
    (rw (drop_at front (low_bits (r + n) w) (64 * b) long, low_split r n w, drop_at (low_bits r w) (low_bits n (w / 2 ^ r)) r (length_low r w)) refl)

-- across two
pub range_two : (ws : List ℕ) (t k b r n : ℕ) → b < length ws → r ≤ 64 → n ≤ 64 → 64 * (b + 1) + n ≤ 64 * length ws + k → take ((64 - r) + n) (drop (64 * b + r) (bits_of ws t k)) ≡ low_bits (64 - r) (get_or ws b t / 2 ^ r) ++ low_bits n (get_or ws (b + 1) t)
range_two ws t k b r n h le few inside =
    let bs = bits_of ws t k in
    let at : 64 * b + r + (64 - r) ≡ 64 * (b + 1) + 0 = omega arith in
    rw (take-add (64 - r) n (drop (64 * b + r) bs), range_one ws t k b r (64 - r) (omega arith) (omega arith) (omega arith), drop-drop (64 - r) (64 * b + r) bs, at)
    (rw (range_one ws t k (b + 1) 0 n (omega arith) (omega arith) (omega arith), div-one (get_or ws (b + 1) t)) refl)

module _ (ws : List ℕ) (t k pos n w : ℕ) (few : k < 64) (inside : pos + n ≤ 64 * length ws + k) (is : w ≡ get_or ws (pos / 64) t) where
  -- `word >> bit`
  pub one_word_range : 0 < n → pos % 64 + n ≤ 64 → low_bits n (w / 2 ^ (pos % 64)) ≡ take n (drop pos (bits_of ws t k))
  one_word_range some fits =
      rw is (sym (rw (div-add-mod pos 64) at (range_one ws t k (pos / 64) (pos % 64) n (omega arith) fits (omega arith))))

  -- `(word >> bit) | (next << (64 - bit))`
  pub two_word_range : (next : ℕ) → next ≡ get_or ws (pos / 64 + 1) t → w < 2 ^ 64 → n ≤ 64 → 64 < pos % 64 + n → low_bits n (bit_or (w / 2 ^ (pos % 64)) ((next * 2 ^ (64 - pos % 64)) % 2 ^ 64)) ≡ take n (drop pos (bits_of ws t k))
  two_word_range next ne fit le over =
      let b = pos / 64 in
      let r = pos % 64 in
      let m = n - (64 - r) in
      let both : (64 - r) + m ≡ n = omega (arith, over) in
      let whole : (64 - r) + r ≡ 64 = omega arith in
      let low : w / 2 ^ r < 2 ^ (64 - r) = shr_below w (64 - r) r (rw whole fit) in
      let two = rw (div-add-mod pos 64, both) at (range_two ws t k b r m (omega arith) (omega arith) (omega arith) (omega arith)) in
      let cut : low_bits n (next * 2 ^ (64 - r) + w / 2 ^ r) ≡ low_bits (64 - r) (w / 2 ^ r) ++ low_bits m next = rw both at (low_cat (w / 2 ^ r) (64 - r) next low m) in
      rw (joined_is (w / 2 ^ r) (64 - r) next low (omega arith), low_cut_above n 64 (next * 2 ^ (64 - r) + w / 2 ^ r) le, cut, is, ne) (sym two)

-- a range, n items further
pub range_more : {A : Type 0} (old src : List A) (start pos n : ℕ) → start ≤ pos → (old ++ take (pos - start) (drop start src)) ++ take n (drop pos src) ≡ old ++ take (pos + n - start) (drop start src)
range_more {A} old src start pos n h =
    let at : start + (pos - start) ≡ pos = omega arith in
    let far : (pos - start) + n ≡ pos + n - start = omega arith in
    let more = rw (drop-drop (pos - start) start src, at, far) at (take-add (pos - start) n (drop start src)) in
    rw (append_assoc, ← more) refl
