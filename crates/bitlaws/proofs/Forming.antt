-- The words, tail and counts that are worked out from bits.
use Rattle.std.proofs.Common.{◌≡◌, ℕ, zero, suc, ◌+◌, ◌*◌, ◌/◌, ◌%◌, ◌^◌, ◌<◌, ◌≤◌, Bool, true, false, cond, eqb, List, [], ◌∷◌, length, get_or, take, drop, refl, ap, pow-suc, add-zero, zero-add, arith, length-drop, length-take, take-add, pow_mono}
use Rattle.std.proofs.lemmas.List.{take-append-drop, length-take-le}
use Rattle.std.proofs.lemmas.Bool.Decides.{nat_tests}
use Rattle.bitlaws.specs.Bits.{most_bits, low_bits, word_bits, bits_of, rank_of, Words64, Tailed, Held, Counted}
use Rattle.bitlaws.specs.Forms.{bits_value, words_from, full_words, tail_word, tail_bits, counts_from, counts_of}
use Rattle.bitlaws.specs.Laws.{FormHolds}

-- a number, one digit on
digit : (b : Bool) (v : ℕ) → eqb ((cond b 1 0 + 2 * v) % 2) 1 ≡ b
digit true v = grind (arith, nat_tests)
digit false v = grind (arith, nat_tests)

shifted : (b : Bool) (v : ℕ) → (cond b 1 0 + 2 * v) / 2 ≡ v
shifted true v = omega arith
shifted false v = omega arith

pub low_value : (bs : List Bool) → low_bits (length bs) (bits_value bs) ≡ bs
unfolding low_bits bits_value
low_value [] = refl
low_value (b ∷ bs) = rw (digit b (bits_value bs), shifted b (bits_value bs), low_value bs) refl

pub value_below : (bs : List Bool) → bits_value bs < 2 ^ length bs
unfolding bits_value
value_below [] = omega arith
value_below (true ∷ bs) = let h = value_below bs in rw pow-suc (omega arith)
value_below (false ∷ bs) = let h = value_below bs in rw pow-suc (omega arith)

pub length_from : (n : ℕ) (bs : List Bool) → length (words_from n bs) ≡ n
unfolding words_from
length_from zero bs = refl
length_from (suc n) bs = ap suc (length_from n (drop 64 bs))

-- the first n words hold the first 64 * n bits
pub words_hold : (n : ℕ) (bs : List Bool) → 64 * n ≤ length bs → word_bits (words_from n bs) ≡ take (64 * n) bs
unfolding word_bits words_from
words_hold zero bs h = refl
words_hold (suc n) bs h =
    let l : length (take 64 bs) ≡ 64 = length-take-le 64 bs (omega arith) in
    let a = rw l at (low_value (take 64 bs)) in
    let b = words_hold n (drop 64 bs) (omega (arith, length-drop 64 bs)) in
    let e : 64 * suc n ≡ 64 + 64 * n = omega arith in
    rw (a, b, e, take-add 64 (64 * n) bs) refl

pub words_fit : (n : ℕ) (bs : List Bool) → Words64 (words_from n bs)
unfolding words_from
words_fit zero bs i = omega arith
words_fit (suc n) bs zero =
    let l : length (take 64 bs) ≤ 64 = omega (arith, length-take 64 bs) in
    let p = pow_mono l in
    omega (arith, value_below (take 64 bs), p)
words_fit (suc n) bs (suc i) = words_fit n (drop 64 bs) i

pub length_counts : (n j : ℕ) (bs : List Bool) → length (counts_from n j bs) ≡ n
unfolding counts_from
length_counts zero j bs = refl
length_counts (suc n) j bs = ap suc (length_counts n (j + 1) bs)

pub count_at : (n j i : ℕ) (bs : List Bool) → i < n → get_or (counts_from n j bs) i 0 ≡ rank_of bs (1024 * (j + i + 1))
unfolding counts_from
count_at zero j i bs h = absurd (omega arith)
count_at (suc n) j zero bs h = rw add-zero refl
count_at (suc n) j (suc i) bs h =
    let e : j + suc i ≡ j + 1 + i = omega arith in
    rw e (count_at n (j + 1) i bs (omega arith))

module _ (bs : List Bool) where
  rest_length : length (drop (64 * (length bs / 64)) bs) ≡ tail_bits bs
  rest_length = omega (arith, length-drop (64 * (length bs / 64)) bs)

  -- the bits come back
  pub form_bits : bits_of (full_words bs) (tail_word bs) (tail_bits bs) ≡ bs
  form_bits =
      let n = length bs / 64 in
      let a = words_hold n bs (omega arith) in
      let b = rw rest_length at (low_value (drop (64 * n) bs)) in
      rw (a, b) (take-append-drop (64 * n) bs)

  tailed : Tailed (tail_word bs) (tail_bits bs)
  tailed = record { few = omega arith; clean = rw rest_length at (value_below (drop (64 * (length bs / 64)) bs)) }

  held : length bs ≤ most_bits → Held (full_words bs) (tail_word bs) (tail_bits bs)
  held h = record { fit = words_fit (length bs / 64) bs; tailed = tailed; small = omega (arith, length_from (length bs / 64) bs) }

  counted : Counted (counts_of bs) bs
  counted =
      let n = length bs / 1024 in
      let m = length_counts n 0 bs in
      record {
        many = m;
        each = λ j h. rw zero-add at (count_at n 0 j bs (omega (arith, m, h)));
      }

pub form_holds_lem : FormHolds
form_holds_lem bs h = (form_bits bs, record { held = held bs h; counted = rw (form_bits bs) (counted bs) })
