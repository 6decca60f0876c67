-- The place that select answers, over the words and the tail.
use Rattle.std.proofs.Common.{◌≡◌, ℕ, ◌+◌, ◌-◌, ◌*◌, ◌^◌, ◌<◌, ◌≤◌, Bool, false, List, length, get_or, Some, None, sym, ap, ◌∙◌, subst, ⊎_elim, arith}
use lib.Count.{ones}
use Rattle.std.proofs.lemmas.List.{get_or_past, get_or_default}
use Rattle.std.proofs.lemmas.Bool.{true≢false, cases_lt}
use Rattle.bitlaws.specs.Bits.{low_bits, bits_of, rank_of, select_of, Tailed}
use Rattle.bitlaws.specs.Laws.{Selected}
use Rattle.bitlaws.proofs.InWord.{selected_in, ones_word, ones_all}
use Rattle.bitlaws.proofs.Selects.{select_some, select_none, select_place, select_few}

pub selected_inside : (bs : List Bool) (r p : ℕ) → Selected bs r p → p < length bs
selected_inside bs r p s = ⊎_elim
    (λ (lt : p < length bs). lt)
    (λ (ge : length bs ≤ p). absurd (true≢false (sym s.one ∙ get_or_past bs p false ge)))
    (cases_lt p (length bs))

-- word b, which `count` ones stand before
module _ (ws : List ℕ) (t k b w count rank : ℕ) (h : b ≤ length ws) (tail : Tailed t k) (is : w ≡ get_or ws b t)
    (counted : count ≡ rank_of (bits_of ws t k) (64 * b)) (below : count ≤ rank) where
  selected : (p : ℕ) → Some p ≡ select_of (low_bits 64 w) (rank - count) → Selected (bits_of ws t k) rank (64 * b + p)
  selected p e =
      let here : Selected (low_bits 64 (get_or ws b t)) (rank - count) p = subst (λ (x : ℕ). Selected (low_bits 64 x) (rank - count) p) is (select_place (low_bits 64 w) (rank - count) p (sym e)) in
      let all : rank_of (bits_of ws t k) (64 * b) + (rank - count) ≡ rank = omega arith in
      subst (λ (x : ℕ). Selected (bits_of ws t k) x (64 * b + p)) all (selected_in ws t k b (rank - count) p h tail here)

  pub some_is : (p : ℕ) → Some p ≡ select_of (low_bits 64 w) (rank - count) → Some (64 * b + p) ≡ select_of (bits_of ws t k) rank
  some_is p e = sym (select_some (bits_of ws t k) rank (64 * b + p) (selected p e))

  pub some_inside : (p : ℕ) → Some p ≡ select_of (low_bits 64 w) (rank - count) → 64 * b + p < length (bits_of ws t k)
  some_inside p e = selected_inside (bits_of ws t k) rank (64 * b + p) (selected p e)

  pub none_is : None ≡ select_of (low_bits 64 w) (rank - count) → w < 2 ^ 64 → (b < length ws → rank < count + ones (get_or ws b 0)) → None ≡ select_of (bits_of ws t k) rank
  none_is e fit above =
      let few : ones w ≤ rank - count = omega (arith, select_few (low_bits 64 w) (rank - count) (sym e), ones_word w fit) in
      ⊎_elim
      (λ (lt : b < length ws). absurd (omega (arith, above lt, few, ap ones (is ∙ get_or_default ws b t 0 lt))))
      (λ (ge : length ws ≤ b).
      let last : b ≡ length ws = omega arith in
      sym (select_none (bits_of ws t k) rank
      (omega (arith, ones_all ws t k tail, few, ap ones (is ∙ get_or_past ws b t ge), ap (λ (x : ℕ). rank_of (bits_of ws t k) (64 * x)) last))))
      (cases_lt b (length ws))
