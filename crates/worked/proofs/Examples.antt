-- What the examples come to, over lists alone.
use Rattle.std.proofs.Common.{◌≡◌, ℕ, zero, suc, ◌+◌, ◌/◌, ◌<◌, ◌≤◌, Bool, true, cond, ◌&&◌, ltb, List, [], ◌∷◌, ◌++◌, length, get_or, replicate, Some, Ok, Err, refl, ap, ◌∙◌, ap₂, ⊎_elim, one-add, arith, lit<, lit≤}
use Rattle.std.proofs.lemmas.List.{length-replicate, take-replicate, replicate_more}
use Rattle.std.proofs.lemmas.Nat.{pow_pos}
use Rattle.std.proofs.lemmas.Bool.{le-leb, lt-ltb, le-ltb, cases_lt}
use Rattle.refusals.specs.declared.fault.Fault.TheVariants.{Outside}
use Rattle.words.specs.Words.{item_answer}
use Rattle.words.proofs.Got.{got_inside, got_outside}
use Rattle.bitlaws.specs.Bits.{most_bits, low_bits, word_bits, bits_of, ones_among, select_of, Words64, Held, Counted}
use Rattle.bits.specs.Columns.{fits, push_list, group_list}
use Rattle.cursor.specs.Moves.{Spot, next_one, step, meets, told, left}
use Rattle.bitlaws.proofs.Holding.{same_words, same_tail, same_count}

-- two tables have room for 4,096 bits
pub roomy : (n : ℕ) → n ≤ 4096 → fits n 64 64 ≡ true
roomy n h =
    ap₂ (λ (x y : Bool). x && y)
    (ap₂ (λ (x y : Bool). x && y) (le-leb n most_bits (omega arith)) (le-leb (n / 64) 64 (omega arith)))
    (le-leb (n / 1024) 64 (omega arith))

ones_replicate : (n : ℕ) → ones_among (replicate n true) ≡ n
unfolding ones_among
ones_replicate zero = refl
ones_replicate (suc n) = ap (λ (x : ℕ). 1 + x) (ones_replicate n) ∙ one-add n

-- the counts of n ones
pub counts_long : (cs : List ℕ) (n : ℕ) → Counted cs (replicate n true) → length cs ≡ n / 1024
counts_long cs n h = h.many ∙ ap (λ (x : ℕ). x / 1024) (length-replicate n true)

pub counts_first : (cs : List ℕ) (n : ℕ) → Counted cs (replicate n true) → 0 < n / 1024 → get_or cs 0 0 ≡ 1024
counts_first cs n h some =
    let long = counts_long cs n h in
    h.each 0 (omega (arith, long)) ∙ ap ones_among (take-replicate 1024 n true (omega arith)) ∙ ones_replicate 1024

-- a push onto n ones
pub one_more : (bs : List Bool) (n : ℕ) → n < 4096 → bs ≡ replicate n true → push_list bs (fits (length bs + 1) 64 64) (true ∷ []) ≡ replicate (n + 1) true
one_more bs n h e =
    let long : length bs ≡ n = ap length e ∙ length-replicate n true in
    ap (λ (x : Bool). push_list bs x (true ∷ [])) (roomy (length bs + 1) (omega arith))
    ∙ ap (λ (x : List Bool). x ++ (true ∷ [])) e ∙ replicate_more n true

one_word : Words64 (4611686018427387904 ∷ [])
one_word zero = lit< tt
one_word (suc i) = pow_pos 64

grouped_held : Held (4611686018427387904 ∷ []) 1 1
grouped_held = record { fit = one_word; tailed = record { few = lit< tt; clean = lit< tt }; small = lit≤ tt }

pub after_groups : (bs : List Bool) → bs ≡ [] → group_list (group_list bs (fits (length bs + 62) 64 64) 0 62) (fits (length (group_list bs (fits (length bs + 62) 64 64) 0 62) + 3) 64 64) 5 3 ≡ bits_of (4611686018427387904 ∷ []) 1 1
unfolding low_bits word_bits
after_groups bs e = ap (λ (x : List Bool). group_list (group_list x (fits (length x + 62) 64 64) 0 62) (fits (length (group_list x (fits (length x + 62) 64 64) 0 62) + 3) 64 64) 5 3) e

module _ (ws : List ℕ) (t k : ℕ) (h : Held ws t k) (e : bits_of ws t k ≡ bits_of (4611686018427387904 ∷ []) 1 1) where
  pub group_word : ws ≡ 4611686018427387904 ∷ []
  group_word = same_words ws (4611686018427387904 ∷ []) t 1 k 1 h grouped_held e

  pub group_tail : t ≡ 1
  group_tail = same_tail ws (4611686018427387904 ∷ []) t 1 k 1 h grouped_held e

  pub group_bits : k ≡ 1
  group_bits = same_count ws (4611686018427387904 ∷ []) t 1 k 1 h grouped_held e

-- the first count of n ones, where there is one
pub first_word : (cs : List ℕ) (n : ℕ) → Counted cs (replicate n true) → item_answer cs 0 ≡ cond (ltb 0 (n / 1024)) (Ok 1024) (Err (Outside 0))
first_word cs n h = ⊎_elim
    (λ (some : 0 < n / 1024).
    let long : 0 < length cs = omega (arith, counts_long cs n h) in
    got_inside 0 (Outside 0) cs 0 long ∙ simp (lt-ltb 0 (n / 1024) some, counts_first cs n h some))
    (λ (none : n / 1024 ≤ 0).
    let short : length cs ≤ 0 = omega (arith, counts_long cs n h) in
    got_outside (Outside 0) cs 0 short ∙ simp (le-ltb 0 (n / 1024) none))
    (cases_lt 0 (n / 1024))

-- 130 bits with ones at 63, 64 and 129, as three groups
unfoldable pub grow : List Bool → ℕ → ℕ → List Bool
grow bs group n = group_list bs (fits (length bs + n) 64 64) group n

unfoldable pub walk_bits : List Bool
walk_bits = low_bits 64 9223372036854775808 ++ (low_bits 64 1 ++ low_bits 2 2)

pub walk_grown : (bs : List Bool) → bs ≡ [] → grow (grow (grow bs 9223372036854775808 64) 1 64) 2 2 ≡ walk_bits
unfolding grow walk_bits low_bits
walk_grown bs e = ap (λ (x : List Bool). grow (grow (grow x 9223372036854775808 64) 1 64) 2 2) e

-- the moves over them
module _ (bs : List Bool) (n : ℕ) (s : Spot) (be : bs ≡ walk_bits) (ne : n ≡ 130) where
  at_bits : {A : Type 0} (F : List Bool → ℕ → Spot → A) (p : Spot) → s ≡ p → F bs n s ≡ F walk_bits 130 p
  at_bits F p e = ap (λ (x : List Bool). F x n s) be ∙ ap (λ (x : ℕ). F walk_bits x s) ne ∙ ap (F walk_bits 130) e

  pub first_move : s ≡ (0, 0) → (told (meets bs n) (next_one bs s).0 ≡ Ok (Some 63)) × (left (meets bs n) (next_one bs s).1 s ≡ (64, 1))
  unfolding walk_bits low_bits ones_among select_of
  first_move e =
      (at_bits (λ x m p. told (meets x m) (next_one x p).0) (0, 0) e, at_bits (λ x m p. left (meets x m) (next_one x p).1 p) (0, 0) e)

  pub second_move : s ≡ (64, 1) → (told (meets bs n) (step bs s).0 ≡ Ok (Some true)) × (left (meets bs n) (step bs s).1 s ≡ (65, 2))
  unfolding walk_bits low_bits ones_among select_of
  second_move e =
      (at_bits (λ x m p. told (meets x m) (step x p).0) (64, 1) e, at_bits (λ x m p. left (meets x m) (step x p).1 p) (64, 1) e)

  pub third_move : s ≡ (65, 2) → told (meets bs n) (next_one bs s).0 ≡ Ok (Some 129)
  unfolding walk_bits low_bits ones_among select_of
  third_move e = at_bits (λ x m p. told (meets x m) (next_one x p).0) (65, 2) e
