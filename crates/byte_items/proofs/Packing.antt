-- Bytes put together to a word, highest first.
use Rattle.std.proofs.Common.{◌≡◌, ℕ, zero, suc, ◌+◌, ◌-◌, ◌*◌, ◌^◌, ◌<◌, ◌≤◌, min, List, [], length, take, drop, get_or, Ok, Fits, w64, sym, ap, ◌∙◌, subst, refl, inl, inr, drop-drop, arith, lt_of_lt_of_le, pow_mono}
use Rattle.std.proofs.lemmas.List.{at_drop_more, take_all, drop_all, length-drop}
use Rattle.std.proofs.lemmas.Bool.{cases_lt}
use Rattle.std.proofs.lemmas.Nat.{pow-add}
use Rattle.words.specs.Words.{got}
use Rattle.words.proofs.Got.{got_inside}
use Rattle.byte_items.specs.Pack.{value, pack}

-- a byte below the word so far
packed_next : (bs : List ℕ) (hi i : ℕ) → suc i ≤ hi → hi ≤ length bs → value (take (hi - i) (drop i bs)) ≡ get_or bs i 0 + 256 * value (take (hi - suc i) (drop (suc i) bs))
packed_next bs hi i h k =
    let n : hi - i ≡ suc (hi - suc i) = omega arith in
    let m : i + 1 ≡ suc i = omega arith in
    ap (λ q. value (take q (drop i bs))) n
    ∙ at_drop_more (λ l. value (take (suc (hi - suc i)) l)) bs i 0 (omega arith)
    ∙ ap (λ q. get_or bs i 0 + 256 * value (take (hi - suc i) (drop q bs))) m

pub packed_step : {F : Type 0} (f : F) (bs : List ℕ) (hi i w b : ℕ) → 0 < i → i ≤ hi → hi ≤ length bs → w ≡ value (take (hi - i) (drop i bs)) → Ok b ≡ got f bs (i - 1) → 256 * w + b ≡ value (take (hi - (i - 1)) (drop (i - 1) bs))
packed_step f bs hi i w b p h k e o =
    let m : suc (i - 1) ≡ i = omega arith in
    let there : b ≡ get_or bs (i - 1) 0 = let q = o ∙ got_inside 0 f bs (i - 1) (omega arith) in cc in
    let next = packed_next bs hi (i - 1) (omega arith) k ∙ ap (λ q. get_or bs (i - 1) 0 + 256 * value (take (hi - q) (drop q bs))) m in
    omega (arith, next, there, e)

pub packed_small : (hi i w b : ℕ) → 0 < i → i ≤ hi → w < 2 ^ (8 * (hi - i)) → b < 256 → 256 * w + b < 2 ^ (8 * (hi - (i - 1)))
packed_small hi i w b p h s t =
    let n : 8 * (hi - (i - 1)) ≡ 8 + 8 * (hi - i) = omega arith in
    let e : 2 ^ (8 + 8 * (hi - i)) ≡ 256 * 2 ^ (8 * (hi - i)) = pow-add 2 8 (8 * (hi - i)) in
    subst (λ q. 256 * w + b < 2 ^ q) (sym n) (omega (arith, e, s, t))

pub packed_fits : (hi i from w b : ℕ) → from < i → hi ≤ from + 8 → w < 2 ^ (8 * (hi - i)) → b < 256 → Fits w64 (256 * w + b)
packed_fits hi i from w b p h s t =
    let q : w < 2 ^ 56 = lt_of_lt_of_le s (pow_mono {j = 56} (omega arith)) in
    omega (arith, q, t)

-- down to the first of them
cut_short : (bs : List ℕ) (from hi : ℕ) → from ≤ hi → hi ≤ length bs → hi ≤ from + 8 → min (length bs) (from + 8) ≤ hi → take (hi - from) (drop from bs) ≡ take 8 (drop from bs)
cut_short bs from hi a b c d =
    let l = length-drop from bs in
    elim (cases_lt hi (from + 8)) [
      | inl lt ↦ take_all (hi - from) (drop from bs) (omega (arith, l, d, lt)) ∙ sym (take_all 8 (drop from bs) (omega (arith, l, d, lt)))
      | inr ge ↦ let e : hi - from ≡ 8 = omega (arith, ge, c) in ap (λ q. take q (drop from bs)) e
    ]

pub packed_all : (bs : List ℕ) (hi i from w : ℕ) → min from hi ≤ i → i ≤ hi → i ≤ from → hi ≤ length bs → hi ≤ from + 8 → min (length bs) (from + 8) ≤ hi → w ≡ value (take (hi - i) (drop i bs)) → w ≡ value (take 8 (drop from bs))
packed_all bs hi i from w a b c d e f is = elim (cases_lt hi from) [
  | inl lt ↦
      let z : hi - i ≡ 0 = omega (arith, a, lt) in
      let none : drop from bs ≡ [] = drop_all from bs (omega (arith, f, lt)) in
      is ∙ ap (λ q. value (take q (drop i bs))) z ∙ ap (λ q. value (take 8 q)) (sym none)
  | inr ge ↦
      let z : i ≡ from = omega (arith, a, c, ge) in
      is ∙ ap (λ q. value (take (hi - q) (drop q bs))) z ∙ ap value (cut_short bs from hi ge d e f)
]

-- word j of the packed bytes
pub pack_at : (n j : ℕ) (bs : List ℕ) → j < n → value (take 8 (drop (8 * j) bs)) ≡ get_or (pack n bs) j 0
pack_at zero j bs h = absurd (omega (arith, h))
pack_at (suc n) zero bs h = refl
pack_at (suc n) (suc j) bs h =
    let m : 8 + 8 * j ≡ 8 * suc j = omega arith in
    ap (λ q. value (take 8 q)) (ap (λ q. drop q bs) (sym m) ∙ sym (drop-drop (8 * j) 8 bs)) ∙ pack_at n j (drop 8 bs) (omega (arith, h))
