-- What the reading calls answer, over the words and the tail.
use Rattle.std.proofs.Common.{◌≡◌, ℕ, zero, suc, ◌+◌, ◌-◌, ◌*◌, ◌/◌, ◌%◌, ◌^◌, ◌<◌, ◌≤◌, Bool, false, cond, eqb, ltb, List, [], ◌∷◌, length, get_or, Ok, Option, Result, sym, ap, ◌∙◌, ap₂, arith}
use lib.Bits.{bit_and, and_mask}
use lib.Count.{ones, ones-le}
use Rattle.std.proofs.lemmas.Bool.{lt-ltb, le-leb}
use Rattle.std.specs.Result.{result_unwrap_or}
use Rattle.words.specs.Words.{got}
use Rattle.bitlaws.specs.Bits.{bits_of, rank_of, first_from}
use Rattle.bitlaws.proofs.Groups.{masked}
use Rattle.bitlaws.proofs.Words.{length_bits, bit_at, rank_at, rank_none}
use Rattle.bits.specs.Columns.{get_answer, rank_answer, first_answer}

module _ (ws : List ℕ) (t k i w : ℕ) (few : k < 64) (is : w ≡ get_or ws (i / 64) t) where
  pub get_is : i < length (bits_of ws t k) → Ok (eqb (bit_and (w / 2 ^ (i % 64)) 1) 1) ≡ get_answer (bits_of ws t k) i
  get_is h =
      let same : eqb (bit_and (w / 2 ^ (i % 64)) 1) 1 ≡ get_or (bits_of ws t k) i false =
      ap (λ (x : ℕ). eqb x 1) (and_mask (w / 2 ^ (i % 64)) 1) ∙ ap (λ (x : ℕ). eqb (x / 2 ^ (i % 64) % 2) 1) is
      ∙ sym (bit_at ws t k i few (omega (arith, length_bits ws t k))) in
      ap Ok same ∙ simp (lt-ltb i (length (bits_of ws t k)) h)

  pub rank_sum : (n : ℕ) → i ≤ length (bits_of ws t k) → n ≡ rank_of (bits_of ws t k) (64 * (i / 64)) → n + ones (bit_and w ((1 * 2 ^ (i % 64)) % 2 ^ 64 - 1)) ≡ rank_of (bits_of ws t k) i
  rank_sum n h e =
      ap₂ (λ (x y : ℕ). x + ones y) e (masked w (i % 64) (omega arith) ∙ ap (λ (x : ℕ). x % 2 ^ (i % 64)) is)
      ∙ sym (rank_at ws t k i few (omega (arith, length_bits ws t k)))

pub rank_is : (bs : List Bool) (i n : ℕ) → i ≤ length bs → n ≡ rank_of bs i → Ok n ≡ rank_answer bs i
rank_is bs i n h e = ap Ok e ∙ simp (le-leb i (length bs) h)

pub first_is : (bs : List Bool) (i : ℕ) (o : Option ℕ) → i ≤ length bs → o ≡ first_from bs i → Ok o ≡ first_answer bs i
first_is bs i o h e = ap Ok e ∙ simp (le-leb i (length bs) h)

-- the ones before chunk n: the count of the chunk before it
pub before_is : (cs : List ℕ) (bs : List Bool) (n : ℕ) → ((j : ℕ) → j < length cs → get_or cs j 0 ≡ rank_of bs (1024 * (j + 1))) → n ≤ length cs → cond (ltb 0 n) (get_or cs (n - 1) 0) 0 ≡ rank_of bs (1024 * n)
before_is cs bs zero each h = sym (rank_none bs)
before_is cs bs (suc n) each h =
    let at : 1024 * (n + 1) ≡ 1024 * suc n = omega arith in
    let last : suc n - 1 ≡ n = omega arith in
    ap (λ (x : Bool). cond x (get_or cs (suc n - 1) 0) 0) (lt-ltb 0 (suc n) (omega arith)) ∙ ap (λ (x : ℕ). get_or cs x 0) last ∙ each n (omega arith) ∙ ap (rank_of bs) at

-- the same, where words are counted
pub before_words : (cs : List ℕ) (bs : List Bool) (n : ℕ) → ((j : ℕ) → j < length cs → get_or cs j 0 ≡ rank_of bs (1024 * (j + 1))) → n ≤ length cs → cond (ltb 0 n) (get_or cs (n - 1) 0) 0 ≡ rank_of bs (64 * (16 * n))
before_words cs bs n each h =
    let at : 1024 * n ≡ 64 * (16 * n) = omega arith in
    before_is cs bs n each h ∙ ap (rank_of bs) at

-- a word has at most 64 ones
pub few_ones : (w : ℕ) → w < 2 ^ 64 → ones w ≤ 64
few_ones w h = ones-le 64 w h

-- an item, or what stands in for one that is not there
pub got_or : {A F : Type 0} (f : F) (xs : List A) (i : ℕ) (d : A) (r : Result A F) → r ≡ got f xs i → result_unwrap_or r d ≡ get_or xs i d
got_or f [] i d r e = ap (λ r. result_unwrap_or r d) e
got_or f (x ∷ xs) zero d r e = ap (λ r. result_unwrap_or r d) e
got_or f (x ∷ xs) (suc i) d r e = got_or f xs i d r e
