-- The slices of a column of results: those of its marks, then those of its payloads, Ok first.
use Rattle.std.proofs.Common.{◌≡◌, ℕ, ◌+◌, ◌-◌, ◌<◌, ◌≤◌, Bool, List, ◌++◌, length, sym, refl, ap, ◌∙◌}
use Rattle.store.specs.Layout.{Slice, slice}
use Rattle.bitlaws.specs.Bits.{ones_among}
use Rattle.columns.specs.Variants.{bits_form}
use Rattle.columns.proofs.Formed.{slice_front, slice_behind}
use Rattle.results.specs.Entries.{merge, oks, errs, ok_marks}
use Rattle.results.specs.EntriesLemmas.{marks_merge, oks_merge, errs_merge}

module _ {A B : Type 0} (fo : List A → List Slice) (fe : List B → List Slice) (bs : List Bool) (os : List A) (es : List B) (ones : length os ≡ ones_among bs) (zeros : ones_among bs + length es ≡ length bs) (k : ℕ) where
  abbrev all : List Slice
  all = bits_form (ok_marks (merge bs os es)) ++ (fo (oks (merge bs os es)) ++ fe (errs (merge bs os es)))

  pub marks_slice : k < 3 → slice (bits_form bs) k ≡ slice all k
  marks_slice h =
      ap (λ b. slice (bits_form b) k) (sym (marks_merge bs os es ones zeros))
      ∙ slice_front (bits_form (ok_marks (merge bs os es))) (fo (oks (merge bs os es)) ++ fe (errs (merge bs os es))) k h

  items : 3 ≤ k → slice (fo os ++ fe es) (k - 3) ≡ slice all k
  items h =
      ap (λ s. slice (fo s ++ fe es) (k - 3)) (sym (oks_merge bs os es ones zeros))
      ∙ ap (λ s. slice (fo (oks (merge bs os es)) ++ fe s) (k - 3)) (sym (errs_merge bs os es ones zeros))
      ∙ slice_behind (bits_form (ok_marks (merge bs os es))) (fo (oks (merge bs os es)) ++ fe (errs (merge bs os es))) 3 k refl h

  pub oks_slice : 3 ≤ k → k - 3 < length (fo os) → slice (fo os) (k - 3) ≡ slice all k
  oks_slice h l = slice_front (fo os) (fe es) (k - 3) l ∙ items h

  pub errs_slice : 3 ≤ k → (n : ℕ) → length (fo os) ≡ n → n ≤ k - 3 → slice (fe es) (k - 3 - n) ≡ slice all k
  errs_slice h n e l = slice_behind (fo os) (fe es) n (k - 3) e l ∙ items h
