-- The slices of a column of options: those of its marks, and then its payload's.
use Rattle.std.proofs.Common.{◌≡◌, ℕ, ◌-◌, ◌<◌, ◌≤◌, Bool, List, ◌++◌, length, sym, refl, ap, ◌∙◌}
use Rattle.store.specs.Layout.{Slice, slice}
use Rattle.bitlaws.specs.Bits.{ones_among}
use Rattle.columns.specs.Variants.{bits_form}
use Rattle.columns.proofs.Formed.{slice_front, slice_behind}
use Rattle.options.specs.Entries.{merge, somes, some_marks}
use Rattle.options.specs.EntriesLemmas.{marks_merge, somes_merge}

module _ {A : Type 0} (form : List A → List Slice) (bs : List Bool) (ss : List A) (many : length ss ≡ ones_among bs) (k : ℕ) where
  pub marks_slice : k < 3 → slice (bits_form bs) k ≡ slice (bits_form (some_marks (merge bs ss)) ++ form (somes (merge bs ss))) k
  marks_slice h = ap (λ b. slice (bits_form b) k) (sym (marks_merge bs ss many)) ∙ slice_front (bits_form (some_marks (merge bs ss))) (form (somes (merge bs ss))) k h

  pub items_slice : 3 ≤ k → slice (form ss) (k - 3) ≡ slice (bits_form (some_marks (merge bs ss)) ++ form (somes (merge bs ss))) k
  items_slice h = ap (λ s. slice (form s) (k - 3)) (sym (somes_merge bs ss many)) ∙ slice_behind (bits_form (some_marks (merge bs ss))) (form (somes (merge bs ss))) 3 k refl h
