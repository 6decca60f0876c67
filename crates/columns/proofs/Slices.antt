-- Stored forms that are made of the forms of parts, and the form of marks.
use Rattle.std.proofs.Common.{◌≡◌, ℕ, zero, suc, ◌-◌, ◌/◌, ◌%◌, ◌<◌, ◌≤◌, min, Bool, true, ltb, List, [], ◌∷◌, ◌++◌, length, get_or, sym, refl, ap, ◌∙◌, arith, lt-ltb}
use Rattle.std.proofs.lemmas.List.{get_or_append_left, get_or-append_right}
use Rattle.store.specs.Layout.{Slice, Formed, AllFormed}
use Rattle.bitlaws.specs.Bits.{most_bits, bits_of}
use Rattle.bitlaws.specs.Forms.{full_words, tail_word, tail_bits, counts_of}
use Rattle.bitlaws.proofs.Forming.{form_bits, length_from, length_counts}
use Rattle.columns.specs.Kinds.{Whole, words_slice, cut, size_of}
use Rattle.columns.specs.Variants.{bits_form, bits_sizes}

pub formed_append : (ss ts : List Slice) → AllFormed ss → AllFormed ts → AllFormed (ss ++ ts)
formed_append [] ts h k = k
formed_append (s ∷ ss) ts h k = (h.0, formed_append ss ts h.1 k)

pub whole_append : (zs ys : List ℕ) (ss ts : List Slice) → Whole zs ss → Whole ys ts → Whole (zs ++ ys) (ss ++ ts)
whole_append [] ys [] ts h k = k
whole_append [] ys (s ∷ ss) ts h k = elim h [ ]
whole_append (z ∷ zs) ys [] ts h k = elim h [ ]
whole_append (z ∷ zs) ys (s ∷ ss) ts h k = (h.0, whole_append zs ys ss ts h.1 k)

-- two lists that are joined of parts of one length are equal part by part
pub append_parts : {A : Type 0} (ps qs rs ts : List A) → length ps ≡ length qs → ps ++ rs ≡ qs ++ ts → (ps ≡ qs) × (rs ≡ ts)
append_parts [] [] rs ts l e = (refl, e)
append_parts [] (c ∷ qs) rs ts l e = let z : ⊥ = omega arith in elim z [ ]
append_parts (a ∷ ps) [] rs ts l e = let z : ⊥ = omega arith in elim z [ ]
append_parts (a ∷ ps) (c ∷ qs) rs ts l e =
    let x : a ≡ c = cc in
    let r : ps ++ rs ≡ qs ++ ts = cc in
    let p = append_parts ps qs rs ts (omega arith) r in
    let q = p.0 in
    (cc, p.1)

pub words_formed : (ws : List ℕ) → length ws ≤ 67108864 → Formed (words_slice ws)
words_formed ws h = (omega arith, omega arith)

pub words_whole : (ws : List ℕ) → (0 < 8) × ((words_slice ws).bytes % 8 ≡ 0)
words_whole ws = (omega arith, omega arith)

pub bits_formed : (bs : List Bool) → length bs ≤ most_bits → AllFormed (bits_form bs)
bits_formed bs h = (
  words_formed (counts_of bs) (omega (arith, length_counts (length bs / 1024) 0 bs, h)),
  (
    words_formed (full_words bs) (omega (arith, length_from (length bs / 64) bs, h)),
    (words_formed (tail_word bs ∷ tail_bits bs ∷ []) (omega arith), tt),
  ),
)

pub bits_whole : (bs : List Bool) → Whole bits_sizes (bits_form bs)
bits_whole bs = (words_whole (counts_of bs), (words_whole (full_words bs), (words_whole (tail_word bs ∷ tail_bits bs ∷ []), tt)))

-- one form has one list of bits
pub bits_single : (bs cs : List Bool) (ss ts : List Slice) → bits_form bs ++ ss ≡ bits_form cs ++ ts → (bs ≡ cs) × (ss ≡ ts)
bits_single bs cs ss ts e =
    let p = append_parts (bits_form bs) (bits_form cs) ss ts refl e in
    let q = p.0 in
    let w : full_words bs ≡ full_words cs = ap (λ l. (get_or l 1 (words_slice [])).words) q in
    let t : tail_word bs ≡ tail_word cs = ap (λ l. get_or (get_or l 2 (words_slice [])).words 0 0) q in
    let k : tail_bits bs ≡ tail_bits cs = ap (λ l. get_or (get_or l 2 (words_slice [])).words 1 0) q in
    (sym (form_bits bs) ∙ ap (λ l. bits_of l (tail_word bs) (tail_bits bs)) w ∙ ap (λ n. bits_of (full_words cs) n (tail_bits bs)) t ∙ ap (bits_of (full_words cs) (tail_word cs)) k ∙ form_bits cs, p.1)

-- sizes behind those of the marks, and in two lists one behind the other
size_behind : (zs : List ℕ) (k : ℕ) → 3 ≤ k → get_or (bits_sizes ++ zs) k 0 ≡ get_or zs (k - 3) 0
size_behind zs zero h = let z : ⊥ = omega arith in elim z [ ]
size_behind zs (suc zero) h = let z : ⊥ = omega arith in elim z [ ]
size_behind zs (suc (suc zero)) h = let z : ⊥ = omega arith in elim z [ ]
size_behind zs (suc (suc (suc k))) h = let e : k ≡ suc (suc (suc k)) - 3 = omega arith in ap (λ n. get_or zs n 0) e

module _ (ys zs : List ℕ) (k n : ℕ) (own : n ≡ min (length ys) cut) (h : 3 ≤ k) (l : k < cut) where
  here : (j : ℕ) → j < cut → (xs : List ℕ) → size_of xs j ≡ get_or xs j 0
  here j p xs = let q : ltb j cut ≡ true = lt-ltb _ _ p in rw q

  pub size_first : k - 3 < n → size_of ys (k - 3) ≡ size_of (bits_sizes ++ (ys ++ zs)) k
  size_first p =
      here (k - 3) (omega arith) ys
      ∙ sym (here k l (bits_sizes ++ (ys ++ zs)) ∙ size_behind (ys ++ zs) k h ∙ get_or_append_left ys zs 0 (k - 3) (omega arith))

  pub size_second : n ≤ k - 3 → size_of zs (k - 3 - n) ≡ size_of (bits_sizes ++ (ys ++ zs)) k
  size_second p =
      let e : length ys ≡ n = omega arith in
      here (k - 3 - n) (omega arith) zs
      ∙ sym (here k l (bits_sizes ++ (ys ++ zs)) ∙ size_behind (ys ++ zs) k h ∙ get_or-append_right ys zs n (k - 3) 0 e p)
