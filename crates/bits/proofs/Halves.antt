-- The k-th one of a word, half by half.
use Rattle.std.proofs.Common.{◌≡◌, ℕ, ◌+◌, ◌-◌, ◌*◌, ◌/◌, ◌%◌, ◌^◌, ◌<◌, ◌≤◌, eqb, sym, ap, ◌∙◌, subst, ⊎_elim, lt_of_lt_of_le, add-zero, div-one, arith, lit<, pow_mono}
use native.Mathlib.Nat.{mod-one, div-eq_of_lt}
use lib.Bits.{bit_and}
use lib.Count.{ones, ones-le}
use Rattle.std.proofs.lemmas.Nat.{shr-shr, mod_below}
use Rattle.std.proofs.lemmas.Bool.{cases_lt, eq-eqb}
use Rattle.bitlaws.specs.Bits.{low_bits}
use Rattle.bitlaws.specs.Laws.{Selected}
use Rattle.bitlaws.proofs.Words.{ones_zero}
use Rattle.bitlaws.proofs.Groups.{masked}
use Rattle.bitlaws.proofs.InWord.{low_bit, low_rank, ones_split}
use Rattle.bits.specs.declared.in_word.Sought.{Sought}
use Rattle.bits.specs.Halving.{Moved}

-- `(w & ((1 << h) - 1)).count_ones()`
pub masked_ones : (w h : ℕ) → h ≤ 32 → ones (bit_and w ((1 * 2 ^ h) % 2 ^ 64 - 1)) ≡ ones (w % 2 ^ h)
masked_ones w h le = ap ones (masked w h (omega arith))

pub stays : (s : Sought) → Moved s s
stays s = record {
  by = 0;
  word = sym (div-one s.word);
  passed = ap (λ (x : ℕ). s.k + ones x) (mod-one s.word) ∙ ap (λ (x : ℕ). s.k + x) ones_zero ∙ add-zero s.k;
  place = sym (add-zero s.place);
}

pub then : (a b c : Sought) → Moved a b → Moved b c → Moved a c
then a b c f g =
    let d = f.by in
    let e = g.by in
    record {
      by = d + e;
      word = g.word ∙ ap (λ (x : ℕ). x / 2 ^ e) f.word ∙ shr-shr a.word d e;
      passed = omega (arith, f.passed, g.passed, ones_split a.word d e, ap (λ (x : ℕ). ones (x % 2 ^ e)) f.word);
      place = omega (arith, f.place, g.place);
    }

-- one bit is left, and it is the one
module _ (w k : ℕ) (fit : w < 2 ^ 64) (s : Sought) (m : Moved (record { word = w; k = k; place = 0 }) s) (near : s.k < ones (s.word % 2)) where
  bit : ℕ
  bit = s.word % 2

  small : s.word % 2 < 2
  small = mod_below s.word 2 (lit< tt)

  is_one : s.word % 2 ≡ 1
  is_one = ⊎_elim
      (λ (lt : s.word % 2 < 1). let e : s.word % 2 ≡ 0 = omega arith in absurd (omega (arith, near, ap ones e, ones_zero)))
      (λ (ge : 1 ≤ s.word % 2). omega (arith, small))
      (cases_lt (s.word % 2) 1)

  first : s.k ≡ 0
  first = omega (arith, near, ones-le 1 (s.word % 2) small)

  in_word : m.by < 64
  in_word = ⊎_elim
      (λ (lt : m.by < 64). lt)
      (λ (ge : 64 ≤ m.by).
      let none : s.word ≡ 0 = m.word ∙ div-eq_of_lt (lt_of_lt_of_le fit (pow_mono ge)) in
      absurd (omega (arith, is_one, ap (λ (x : ℕ). x % 2) none)))
      (cases_lt m.by 64)

  pub placed : Selected (low_bits 64 w) k s.place
  placed =
      let at : s.place ≡ m.by = omega (arith, m.place) in
      subst (λ (x : ℕ). Selected (low_bits 64 w) k x) (sym at) (record {
        one = low_bit 64 w m.by in_word ∙ ap (λ (x : ℕ). eqb (x % 2) 1) (sym m.word) ∙ eq-eqb (s.word % 2) 1 is_one;
        rank = low_rank 64 w m.by (omega (arith, in_word)) ∙ omega (arith, m.passed, first);
      })
