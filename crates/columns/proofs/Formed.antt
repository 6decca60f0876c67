-- The stores of a bit column hold the stored form of its bits, slice by slice.
use Rattle.std.proofs.Common.{◌≡◌, ℕ, ◌-◌, ◌<◌, ◌≤◌, List, [], ◌∷◌, ◌++◌, length, sym, ap, ◌∙◌}
use Rattle.std.proofs.lemmas.List.{get_or_append_left, get_or-append_right}
use Rattle.words.specs.declared.reading.ReadStore.{Ghosts}
use Rattle.store.specs.Layout.{Slice, none, slice}
use Rattle.bitlaws.specs.Forms.{full_words, tail_word, tail_bits, counts_of}
use Rattle.bitlaws.proofs.Holding.{one_holding_lem}
use Rattle.bitlaws.proofs.Forming.{form_holds_lem}
use Rattle.bits.specs.declared.tail.Tail.{Tail}
use Rattle.bits.specs.declared.rank_select.RankSelect.{RankSelect}
use Rattle.bits.specs.Columns.{column_bits}
use Rattle.columns.specs.Kinds.{words_slice}
use Rattle.columns.specs.Variants.{bits_form}
use Rattle.columns.proofs.Marked.{marks_few}

-- what a column holds is what its bits are stored as
module _ {C V : Type 0} {c : Ghosts C ℕ} {v : Ghosts V ℕ} (r : RankSelect C V c v) where
  alike : (c.list r.counts ≡ counts_of (column_bits v r)) × (v.list r.values.values ≡ full_words (column_bits v r)) × (r.values.tail.word ≡ tail_word (column_bits v r)) × (r.values.tail.bits ≡ tail_bits (column_bits v r))
  alike =
      let bs = column_bits v r in
      let f = form_holds_lem bs (marks_few r) in
      one_holding_lem (c.list r.counts) (v.list r.values.values) r.values.tail.word r.values.tail.bits (counts_of bs) (full_words bs) (tail_word bs) (tail_bits bs)
      (record { held = r.values.held; counted = r.counted }) f.1 (sym f.0)

  pub counts_slice : words_slice (c.list r.counts) ≡ slice (bits_form (column_bits v r)) 0
  counts_slice = ap words_slice alike.0

  full_slice : words_slice (v.list r.values.values) ≡ slice (bits_form (column_bits v r)) 1
  full_slice = ap words_slice alike.1

  tail_slice : words_slice (r.values.tail.word ∷ r.values.tail.bits ∷ []) ≡ slice (bits_form (column_bits v r)) 2
  tail_slice = ap (λ w. words_slice (w ∷ r.values.tail.bits ∷ [])) alike.2 ∙ ap (λ k. words_slice (tail_word (column_bits v r) ∷ k ∷ [])) alike.3

  pub full_at : (k : ℕ) → k ≡ 1 → (ws : V) → ws ≡ r.values.values → words_slice (v.list ws) ≡ slice (bits_form (column_bits v r)) k
  full_at k e ws p = ap (λ w. words_slice (v.list w)) p ∙ full_slice ∙ ap (slice (bits_form (column_bits v r))) (sym e)

  pub tail_at : (k : ℕ) → k ≡ 2 → (t : Tail) → t ≡ r.values.tail → words_slice (t.word ∷ t.bits ∷ []) ≡ slice (bits_form (column_bits v r)) k
  tail_at k e t p = ap (λ t. words_slice (t.word ∷ t.bits ∷ [])) p ∙ tail_slice ∙ ap (slice (bits_form (column_bits v r))) (sym e)

-- a slice of the marks, and one of what is stored behind them
pub slice_front : (ss ts : List Slice) (k : ℕ) → k < length ss → slice ss k ≡ slice (ss ++ ts) k
slice_front ss ts k h = sym (get_or_append_left ss ts none k h)

pub slice_behind : (ss ts : List Slice) (n k : ℕ) → length ss ≡ n → n ≤ k → slice ts (k - n) ≡ slice (ss ++ ts) k
slice_behind ss ts n k e h = sym (get_or-append_right ss ts n k none e h)
