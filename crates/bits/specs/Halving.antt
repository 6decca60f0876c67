-- Where the k-th one of a word is sought, half by half.
use Rattle.std.specs.Prelude.{◌≡◌, ℕ, ◌+◌, ◌/◌, ◌%◌, ◌^◌, count_ones}
use Rattle.bits.specs.declared.in_word.Sought.{Sought}

-- what is sought moves up `by` places, past the ones that stand there
pub record Moved (old new : Sought) : Type 0 where
  pub by : ℕ
  pub word : new.word ≡ old.word / 2 ^ by
  pub passed : new.k + count_ones (old.word % 2 ^ by) ≡ old.k
  pub place : new.place ≡ old.place + by
