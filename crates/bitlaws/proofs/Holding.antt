-- Equal bits are held in equal words.
use Rattle.std.proofs.Common.{◌≡◌, ℕ, zero, suc, ◌+◌, ◌*◌, ◌/◌, ◌%◌, ◌^◌, ◌<◌, Bool, eqb, List, length, get_or, take, drop, sym, refl, ap, ◌∙◌, subst, pow-suc, div-one, arith}
use Rattle.std.proofs.lemmas.List.{ext_get_or, get_or_default, drop_at}
use Rattle.std.proofs.lemmas.Bool.Decides.{nat_tests}
use Rattle.bitlaws.specs.Bits.{low_bits, word_bits, bits_of, rank_of, Held, Counted}
use Rattle.bitlaws.specs.Laws.{OneHolding}
use Rattle.bitlaws.proofs.Words.{length_bits, length_words}
use Rattle.bitlaws.proofs.Ranges.{range_one}

digit_same : (a b : ℕ) → a < 2 → b < 2 → eqb a 1 ≡ eqb b 1 → a ≡ b
digit_same a b la lb e = grind (arith, nat_tests)

-- n bits are the bits of one number below 2 ^ n
pub low_same : (n v w : ℕ) → v < 2 ^ n → w < 2 ^ n → low_bits n v ≡ low_bits n w → v ≡ w
unfolding low_bits
low_same zero v w hv hw e = omega arith
low_same (suc n) v w hv hw e =
    let ones : eqb (v % 2) 1 ≡ eqb (w % 2) 1 = cc in
    let bit = digit_same (v % 2) (w % 2) (omega arith) (omega arith) ones in
    let rest : low_bits n (v / 2) ≡ low_bits n (w / 2) = cc in
    let half = rw pow-suc at hv in
    let half_w = rw pow-suc at hw in
    let same = low_same n (v / 2) (w / 2) (omega arith) (omega arith) rest in
    omega arith

module _ (ws vs : List ℕ) (t u k l : ℕ) (a : Held ws t k) (b : Held vs u l) (e : bits_of ws t k ≡ bits_of vs u l) where
  long : 64 * length ws + k ≡ 64 * length vs + l
  long = omega (arith, length_bits ws t k, ap length e, length_bits vs u l)

  pub same_length : length ws ≡ length vs
  same_length = omega (arith, long, a.tailed.few, b.tailed.few)

  pub same_count : k ≡ l
  same_count = omega (arith, long, same_length)

  word_at : (i : ℕ) → i < length ws → take 64 (drop (64 * i + 0) (bits_of ws t k)) ≡ low_bits 64 (get_or ws i 0)
  word_at i h = rw (div-one (get_or ws i t), get_or_default ws i t 0 h) at (range_one ws t k i 0 64 (omega arith) (omega arith) (omega arith))

  word_of : (i : ℕ) → i < length vs → take 64 (drop (64 * i + 0) (bits_of vs u l)) ≡ low_bits 64 (get_or vs i 0)
  word_of i h = rw (div-one (get_or vs i u), get_or_default vs i u 0 h) at (range_one vs u l i 0 64 (omega arith) (omega arith) (omega arith))

  pub same_words : ws ≡ vs
  same_words = ext_get_or 0 ws vs same_length (λ i h.
      low_same 64 (get_or ws i 0) (get_or vs i 0) (a.fit i) (b.fit i)
      (rw (← word_at i h, ← word_of i (omega (arith, same_length)), e) refl))

  pub same_tail : t ≡ u
  same_tail =
      low_same k t u a.tailed.clean (subst (λ (x : ℕ). u < 2 ^ x) (sym same_count) b.tailed.clean)
      (sym (drop_at (word_bits ws) (low_bits k t) (64 * length ws) (length_words ws))
      ∙ ap (drop (64 * length ws)) e
      ∙ ap (λ (x : ℕ). drop (64 * x) (bits_of vs u l)) same_length
      ∙ drop_at (word_bits vs) (low_bits l u) (64 * length vs) (length_words vs)
      ∙ ap (λ (x : ℕ). low_bits x u) (sym same_count))

pub same_counts : (cs ds : List ℕ) (bs es : List Bool) → Counted cs bs → Counted ds es → bs ≡ es → cs ≡ ds
same_counts cs ds bs es a b e =
    let long : length cs ≡ length ds = a.many ∙ ap (λ (x : List Bool). length x / 1024) e ∙ sym b.many in
    ext_get_or 0 cs ds long (λ i h. a.each i h ∙ ap (λ (x : List Bool). rank_of x (1024 * (i + 1))) e ∙ sym (b.each i (omega arith)))

pub one_holding_lem : OneHolding
one_holding_lem cs ws t k ds vs u l a b e = (
  same_counts cs ds (bits_of ws t k) (bits_of vs u l) a.counted b.counted e,
  same_words ws vs t u k l a.held b.held e,
  same_tail ws vs t u k l a.held b.held e,
  same_count ws vs t u k l a.held b.held e,
)
