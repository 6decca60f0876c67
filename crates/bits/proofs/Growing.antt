-- What the growing calls answer, and what their columns then hold.
use Rattle.std.proofs.Common.{◌≡◌, ℕ, ◌+◌, ◌-◌, ◌*◌, ◌/◌, ◌%◌, ◌^◌, ◌<◌, ◌≤◌, Bool, true, false, ◌&&◌, eqb, leb, List, [], ◌∷◌, ◌++◌, length, Ok, sym, refl, ap, ◌∙◌, subst, ap₂, subst₂, ⊎_elim, arith}
use native.Mathlib.Nat.{div-eq_of_lt}
use Rattle.std.proofs.lemmas.Nat.{mod_below, pow_pos, le-div}
use Rattle.std.proofs.lemmas.List.{length_push}
use Rattle.std.proofs.lemmas.Bool.{and_parts, leb-true, eq-eqb, ne_eqb, le-leb, lt-ltb, le-ltb, cases_lt}
use Rattle.bitlaws.specs.Bits.{most_bits, low_bits, word_bits, bits_of, Words64, Held, Counted}
use mir.Val.{bool_byte}
use Rattle.bitlaws.proofs.Words.{length_bits}
use Rattle.bitlaws.proofs.Groups.{low_one, bits_carry, bits_group, fit_push, rest_lt}
use Rattle.bits.specs.Columns.{fits_words, fits, push_answer, push_list, lawful_group}

-- a bit, as the number that it is cast to
pub bit_group : (b : Bool) → low_bits 1 (bool_byte b) ≡ b ∷ []
bit_group true = low_one true
bit_group false = low_one false

pub pushed : (bs : List Bool) (ok : Bool) → ok ≡ true → Ok tt ≡ push_answer bs ok
pushed bs ok e = simp e

pub pushed_list : (bs xs more : List Bool) (ok : Bool) → ok ≡ true → xs ≡ bs ++ more → xs ≡ push_list bs ok more
pushed_list bs xs more ok e p = p ∙ simp e

pub fits_parts : (n v : ℕ) → fits_words n v ≡ true → (n ≤ most_bits) × (n / 64 ≤ v)
fits_parts n v e =
    let p = and_parts (leb n most_bits) (leb (n / 64) v) e in
    (leb-true n most_bits p.0, leb-true (n / 64) v p.1)

no_bits : bits_of [] 0 0 ≡ []
unfolding word_bits low_bits
no_bits = refl

-- what is cleared
module _ (ws : List ℕ) (t k : ℕ) (we : ws ≡ []) (te : t ≡ 0) (ke : k ≡ 0) where
  pub empty_list : bits_of ws t k ≡ []
  empty_list = ap (λ (x : List ℕ). bits_of x t k) we ∙ ap₂ (λ (x y : ℕ). bits_of [] x y) te ke ∙ no_bits

-- a group of n bits, the number a, behind the tail
module _ (ws : List ℕ) (t k a n v : ℕ) (h : Held ws t k) (small : a < 2 ^ n) (limit : fits_words (length (bits_of ws t k) + n) v ≡ true) where
  size : 64 * length ws + k + n ≤ most_bits
  size = omega (arith, (fits_parts (length (bits_of ws t k) + n) v limit).0, length_bits ws t k)

  -- there is room for the word that it fills
  pub word_room : 64 ≤ k + n → length ws < v
  word_room full = omega (arith, (fits_parts (length (bits_of ws t k) + n) v limit).1, length_bits ws t k)

  -- it stays in the tail
  module _ (t' k' : ℕ) (te : t' ≡ a * 2 ^ k + t) (ke : k' ≡ k + n) (room : k + n < 64) where
    pub tail_list : bits_of ws t' k' ≡ bits_of ws t k ++ low_bits n a
    tail_list = ap₂ (λ (x y : ℕ). bits_of ws x y) te ke ∙ bits_group t k a h.tailed.clean ws n

  -- it fills a word, and the rest is the tail
  module _ (ws' : List ℕ) (t' k' : ℕ) (we : ws' ≡ ws ++ ((a * 2 ^ k + t) % 2 ^ 64 ∷ [])) (te : t' ≡ (a * 2 ^ k + t) / 2 ^ 64) (ke : k' ≡ k + n - 64) (full : 64 ≤ k + n) (few : n ≤ 64) where
    pub word_list : bits_of ws' t' k' ≡ bits_of ws t k ++ low_bits n a
    word_list =
        let both : 64 + (k + n - 64) ≡ k + n = omega arith in
        ap (λ (x : List ℕ). bits_of x t' k') we ∙ ap₂ (λ (x y : ℕ). bits_of (ws ++ ((a * 2 ^ k + t) % 2 ^ 64 ∷ [])) x y) te ke
        ∙ bits_carry ws (a * 2 ^ k + t) (k + n - 64)
        ∙ ap (λ (x : ℕ). word_bits ws ++ low_bits x (a * 2 ^ k + t)) both
        ∙ bits_group t k a h.tailed.clean ws n

    pub word_held : Held ws' t' k'
    word_held = record {
      fit = subst (λ (x : List ℕ). Words64 x) (sym we) (fit_push ws ((a * 2 ^ k + t) % 2 ^ 64) h.fit (mod_below (a * 2 ^ k + t) (2 ^ 64) (pow_pos 64)));
      tailed = record {
        few = omega (arith, h.tailed.few);
        clean = subst₂ (λ (x y : ℕ). x < 2 ^ y) (sym te) (sym ke) (rest_lt t k a h.tailed.clean n (k + n - 64) small (omega arith));
      };
      small = omega (arith, size, ap length we, length_push ws ((a * 2 ^ k + t) % 2 ^ 64));
    }

pub fits_all : (n v k : ℕ) → fits n v k ≡ true → (fits_words n v ≡ true) × (n / 1024 ≤ k)
fits_all n v k e =
    let p = and_parts (fits_words n v) (leb (n / 1024) k) e in
    (p.0, leb-true (n / 1024) k p.1)

-- an answer that is no refusal added all
pub added : (bs more : List Bool) (ok : Bool) → Ok tt ≡ push_answer bs ok → push_list bs ok more ≡ bs ++ more
added bs more true e = refl
added bs more false e = let z : ◌≡◌ {A = ℕ} 0 1 = cc in absurd (omega arith)

-- `group >> n == 0`
pub group_is : (a n : ℕ) → n < 64 → eqb (a / 2 ^ n) 0 ≡ lawful_group a n
group_is a n h = ⊎_elim
    (λ (lt : a < 2 ^ n). eq-eqb (a / 2 ^ n) 0 (div-eq_of_lt lt) ∙ sym (ap₂ (λ (x y : Bool). x && y) (le-leb n 64 (omega arith)) (lt-ltb a (2 ^ n) lt)))
    (λ (ge : 2 ^ n ≤ a).
    let some : 1 ≤ a / 2 ^ n = le-div 1 a (2 ^ n) (pow_pos n) (omega arith) in
    ne_eqb (a / 2 ^ n) 0 (λ e. omega arith) ∙ sym (ap₂ (λ (x y : Bool). x && y) (le-leb n 64 (omega arith)) (le-ltb a (2 ^ n) ge)))
    (cases_lt a (2 ^ n))

-- the limit, put together from its parts
pub fits_made : (n v k : ℕ) → n ≤ most_bits → n / 64 ≤ v → n / 1024 ≤ k → fits n v k ≡ true
fits_made n v k a b c =
    let p : leb n most_bits ≡ true = le-leb _ _ a in
    let q : leb (n / 64) v ≡ true = le-leb _ _ b in
    let r : leb (n / 1024) k ≡ true = le-leb _ _ c in
    rw (p, q, r)

-- fewer bits than within the limit are within it
pub fits_less : (m n v k : ℕ) → m ≤ n → fits n v k ≡ true → fits m v k ≡ true
fits_less m n v k h e =
    let p = fits_all n v k e in
    let q = fits_parts n v p.0 in
    fits_made m v k (omega (arith, h, q.0)) (omega (arith, h, q.1)) (omega (arith, h, p.1))

-- bits that stay in the tail pass no limit, that of the words alone and that of both
pub words_tail : (ws : List ℕ) (t k m v : ℕ) → Held ws t k → k + m < 64 → length ws ≤ v → fits_words (length (bits_of ws t k) + m) v ≡ true
words_tail ws t k m v h few words =
    let long = length_bits ws t k in
    let p : leb (length (bits_of ws t k) + m) most_bits ≡ true = le-leb _ _ (omega (arith, long, h.small, few)) in
    let q : leb ((length (bits_of ws t k) + m) / 64) v ≡ true = le-leb _ _ (omega (arith, long, words, few)) in
    rw (p, q)

pub fits_tail : (ws cs : List ℕ) (t k m v n : ℕ) → Held ws t k → Counted cs (bits_of ws t k) → k + m < 64 → length ws ≤ v → length cs ≤ n → fits (length (bits_of ws t k) + m) v n ≡ true
fits_tail ws cs t k m v n h counted few words counts =
    let long = length_bits ws t k in
    fits_made (length (bits_of ws t k) + m) v n (omega (arith, long, h.small, few)) (omega (arith, long, words, few)) (omega (arith, long, counted.many, counts, few))
