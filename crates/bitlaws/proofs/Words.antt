-- Where the bits of words and a tail stand, and the ones among them.
use Rattle.std.proofs.Common.{◌≡◌, ℕ, zero, suc, ◌+◌, ◌*◌, ◌/◌, ◌%◌, ◌^◌, ◌<◌, ◌≤◌, Bool, true, false, cond, eqb, List, [], ◌∷◌, ◌++◌, length, get_or, take, drop, sym, refl, ap, ◌∙◌, ap₂, ⊎_elim, add-zero, mod-lt, mod-eq_of_lt, add_comm, zero-add, mul-suc, div-one, add-one, one-add, arith, lit<, length-append, shr-shr}
use Rattle.std.proofs.Math.Nat.{div-add-mod, mod-one}
use Rattle.std.proofs.Math.Seq.{take-append-le, take-append-add}
use Rattle.std.proofs.Math.Pow.{mod-pow-add}
use Rattle.std.specs.Int.Count.{ones, ones_in, ones_cat}
use Rattle.std.proofs.lemmas.List.{append-nil, append_assoc, length-take, length-take-le, take_more, same_from_push, get_or_past, get_or_default, take_all as take_whole}
use Rattle.std.proofs.lemmas.Bool.{cases_lt}
use Rattle.bitlaws.specs.Bits.{low_bits, word_bits, bits_of, ones_among, rank_of}

pub length_low : (k w : ℕ) → length (low_bits k w) ≡ k
unfolding low_bits
length_low zero w = refl
length_low (suc k) w = ap suc (length_low k (w / 2))

pub length_words : (ws : List ℕ) → length (word_bits ws) ≡ 64 * length ws
unfolding word_bits
length_words [] = refl
length_words (w ∷ ws) = simp (length-append, length_low, length_words ws, mul-suc) (omega arith)

pub length_bits : (ws : List ℕ) (t k : ℕ) → length (bits_of ws t k) ≡ 64 * length ws + k
length_bits ws t k = simp (length-append, length_words, length_low)

pub take_low : (r k w : ℕ) → r ≤ k → take r (low_bits k w) ≡ low_bits r w
unfolding low_bits
take_low zero k w h = refl
take_low (suc r) zero w h = absurd (omega arith)
take_low (suc r) (suc k) w h = rw (take_low r k (w / 2) (omega arith)) refl

pub ones_among_append : (xs ys : List Bool) → ones_among (xs ++ ys) ≡ ones_among xs + ones_among ys
unfolding ones_among
ones_among_append [] ys = omega arith
ones_among_append (x ∷ xs) ys = omega (arith, ones_among_append xs ys)

bit_one : (d : ℕ) → d < 2 → cond (eqb d 1) 1 0 ≡ ones d
unfolding ones ones_in
bit_one zero h = refl
bit_one (suc zero) h = refl
bit_one (suc (suc d)) h = omega arith

pub ones_zero : ones 0 ≡ 0
unfolding ones ones_in
ones_zero = refl

-- the ones among the k lowest bits
pub ones_low : (k w : ℕ) → ones_among (low_bits k w) ≡ ones (w % 2 ^ k)
unfolding low_bits ones_among ones ones_in
ones_low zero w = ap ones (sym (mod-one w))
ones_low (suc k) w =
    let d : w % 2 < 2 = mod-lt w (lit< tt) in
    ap₂ (λ (x y : ℕ). x + y) (bit_one (w % 2) d) (ones_low k (w / 2))
    ∙ add_comm (ones (w % 2)) (ones (w / 2 % 2 ^ k))
    ∙ sym (ones_cat 1 (w / 2 % 2 ^ k) (w % 2) d)
    ∙ ap ones (sym (mod-pow-add w k 1)) ∙ ap (λ (x : ℕ). ones (w % 2 ^ x)) (add-one k)

pub words_append : (xs ys : List ℕ) → word_bits (xs ++ ys) ≡ word_bits xs ++ word_bits ys
unfolding word_bits
words_append [] ys = refl
words_append (x ∷ xs) ys = simp (words_append xs ys, append_assoc)

-- the bits around word b
word_split : (ws : List ℕ) (b : ℕ) → b < length ws → word_bits ws ≡ word_bits (take b ws) ++ (low_bits 64 (get_or ws b 0) ++ word_bits (drop (suc b) ws))
unfolding word_bits
word_split [] b h = absurd (omega arith)
word_split (w ∷ ws) zero h = refl
word_split (w ∷ ws) (suc b) h = rw (word_split ws b (omega arith)) (simp append_assoc)

-- the first 64 * b + r bits are those of b words and r of the next word
take_word : (ws : List ℕ) (rest : List Bool) (b r : ℕ) → b < length ws → r ≤ 64 → take (64 * b + r) (word_bits ws ++ rest) ≡ word_bits (take b ws) ++ low_bits r (get_or ws b 0)
take_word ws rest b r h l =
    let front = word_bits (take b ws) in
    let w = get_or ws b 0 in
    let after = word_bits (drop (suc b) ws) in
    let long : 64 * b ≡ length front = omega (arith, length_words (take b ws), length-take-le b ws (omega arith)) in
    rw (word_split ws b h, append_assoc front (low_bits 64 w ++ after) rest, append_assoc (low_bits 64 w) after rest, long, take-append-add front (low_bits 64 w ++ (after ++ rest)) r)
    (rw (take-append-le r (low_bits 64 w) (after ++ rest) (omega (arith, length_low 64 w)), take_low r 64 w l) refl)

-- the same where the next word may be the tail
pub take_place : (ws : List ℕ) (t k b r : ℕ) → b ≤ length ws → r ≤ 64 → 64 * b + r ≤ 64 * length ws + k → take (64 * b + r) (bits_of ws t k) ≡ word_bits (take b ws) ++ low_bits r (get_or ws b t)
take_place ws t k b r h l m = ⊎_elim at_word at_tail (cases_lt b (length ws))
  where
    at_word : b < length ws → take (64 * b + r) (bits_of ws t k) ≡ word_bits (take b ws) ++ low_bits r (get_or ws b t)
    at_word lt = rw (← get_or_default ws b 0 t lt) (take_word ws (low_bits k t) b r lt l)

    at_tail : length ws ≤ b → take (64 * b + r) (bits_of ws t k) ≡ word_bits (take b ws) ++ low_bits r (get_or ws b t)
    at_tail ge =
        let long : 64 * b ≡ length (word_bits ws) = omega (arith, length_words ws) in
        rw (take_whole b ws ge, get_or_past ws b t ge, long, take-append-add (word_bits ws) (low_bits k t) r, take_low r k t (omega arith)) refl

pub rank_place : (ws : List ℕ) (t k b r : ℕ) → b ≤ length ws → r ≤ 64 → 64 * b + r ≤ 64 * length ws + k → rank_of (bits_of ws t k) (64 * b + r) ≡ rank_of (bits_of ws t k) (64 * b) + ones (get_or ws b t % 2 ^ r)
unfolding low_bits
rank_place ws t k b r h l m =
    let front = word_bits (take b ws) in
    let whole : rank_of (bits_of ws t k) (64 * b) ≡ ones_among front =
    ap ones_among (rw (add-zero, append-nil) at (take_place ws t k b 0 h (omega arith) (omega arith))) in
    rw (take_place ws t k b r h l m, ones_among_append front (low_bits r (get_or ws b t)), ones_low r (get_or ws b t)) (omega (arith, whole))

-- the m lowest bits and the n above them
pub low_split : (m n w : ℕ) → low_bits (m + n) w ≡ low_bits m w ++ low_bits n (w / 2 ^ m)
unfolding low_bits
low_split zero n w = ap₂ low_bits (zero-add n) (sym (div-one w))
low_split (suc m) n w =
    let e : suc m + n ≡ suc (m + n) = omega arith in
    rw (e, low_split m n (w / 2), shr-shr w 1 m, one-add m) refl

pub low_more : (k w : ℕ) → low_bits (k + 1) w ≡ low_bits k w ++ (eqb (w / 2 ^ k % 2) 1 ∷ [])
unfolding low_bits
low_more k w = low_split k 1 w

pub bit_place : (ws : List ℕ) (t k b r : ℕ) → b ≤ length ws → r < 64 → 64 * b + r < 64 * length ws + k → get_or (bits_of ws t k) (64 * b + r) false ≡ eqb (get_or ws b t / 2 ^ r % 2) 1
bit_place ws t k b r h l m =
    let bs = bits_of ws t k in
    let i = 64 * b + r in
    let front = word_bits (take b ws) in
    let w = get_or ws b t in
    let inside : i < length bs = omega (arith, length_bits ws t k) in
    let left = take_more bs i false inside in
    let right = take_place ws t k b (r + 1) h (omega arith) (omega arith) in
    let front_r = take_place ws t k b r h (omega arith) (omega arith) in
    let e : 64 * b + (r + 1) ≡ i + 1 = omega arith in
    let more : front ++ low_bits (r + 1) w ≡ (front ++ low_bits r w) ++ (eqb (w / 2 ^ r % 2) 1 ∷ []) = rw (low_more r w) (sym (append_assoc front (low_bits r w) _)) in
    (same_from_push (take i bs) (front ++ low_bits r w) (get_or bs i false) (eqb (w / 2 ^ r % 2) 1) (sym left ∙ rw e at right ∙ more)).1

-- at an index that need not be split by hand
pub rank_at : (ws : List ℕ) (t k i : ℕ) → k < 64 → i ≤ 64 * length ws + k → rank_of (bits_of ws t k) i ≡ rank_of (bits_of ws t k) (64 * (i / 64)) + ones (get_or ws (i / 64) t % 2 ^ (i % 64))
rank_at ws t k i few h = rw (div-add-mod i 64) at (rank_place ws t k (i / 64) (i % 64) (omega arith) (omega arith) (omega arith))

pub bit_at : (ws : List ℕ) (t k i : ℕ) → k < 64 → i < 64 * length ws + k → get_or (bits_of ws t k) i false ≡ eqb (get_or ws (i / 64) t / 2 ^ (i % 64) % 2) 1
bit_at ws t k i few h = rw (div-add-mod i 64) at (bit_place ws t k (i / 64) (i % 64) (omega arith) (omega arith) (omega arith))

-- one whole word further
pub rank_word : (ws : List ℕ) (t k b : ℕ) → b < length ws → get_or ws b 0 < 2 ^ 64 → rank_of (bits_of ws t k) (64 * (b + 1)) ≡ rank_of (bits_of ws t k) (64 * b) + ones (get_or ws b 0)
rank_word ws t k b h fit =
    let next : 64 * (b + 1) ≡ 64 * b + 64 = omega arith in
    rw (next, ← mod-eq_of_lt fit, ← get_or_default ws b t 0 h) (rank_place ws t k b 64 (omega arith) (omega arith) (omega arith))

pub rank_none : (bs : List Bool) → rank_of bs 0 ≡ 0
unfolding ones_among
rank_none bs = refl

ones_among_le : (bs : List Bool) → ones_among bs ≤ length bs
unfolding ones_among
ones_among_le [] = omega arith
ones_among_le (true ∷ bs) = omega (arith, ones_among_le bs)
ones_among_le (false ∷ bs) = omega (arith, ones_among_le bs)

pub rank_le : (bs : List Bool) (i : ℕ) → rank_of bs i ≤ length bs
rank_le bs i = omega (arith, ones_among_le (take i bs), length-take i bs)

pub rank_under : (bs : List Bool) (i : ℕ) → rank_of bs i ≤ i
rank_under bs i = omega (arith, ones_among_le (take i bs), length-take i bs)
