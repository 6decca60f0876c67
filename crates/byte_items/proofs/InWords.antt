-- Which bytes words hold.
use Rattle.std.proofs.Common.{◌≡◌, ℕ, zero, suc, ◌+◌, ◌-◌, ◌*◌, ◌/◌, ◌%◌, ◌^◌, ◌<◌, ◌≤◌, min, List, [], ◌∷◌, length, get_or, Ok, slice_index, sym, refl, ap, ◌∙◌, inl, inr, div-one, arith}
use lib.Bits.{bit_and}
use Rattle.std.proofs.lemmas.Nat.{shr-shr, and_mask}
use Rattle.std.proofs.lemmas.List.{length-append, length-take, get_or_append_left, get_or-append_right, get_or-take}
use Rattle.std.proofs.lemmas.Bool.{cases_lt}
use Rattle.words.specs.Words.{got}
use Rattle.words.proofs.Got.{got_inside}
use Rattle.byte_items.specs.Pack.{low_bytes, bytes_in, part_bytes}

-- byte i of a number
abbrev pub byte_of : ℕ → ℕ → ℕ
byte_of w i = w / 2 ^ (8 * i) % 256

length_low : (k w : ℕ) → length (low_bytes k w) ≡ k
length_low zero w = refl
length_low (suc k) w = ap suc (length_low k (w / 256))

length_in : (ws : List ℕ) → length (bytes_in ws) ≡ 8 * length ws
length_in [] = refl
length_in (w ∷ ws) = omega (arith, length-append (low_bytes 8 w) (bytes_in ws), length_in ws)

pub length_part_bytes : (ws : List ℕ) (n : ℕ) → length (part_bytes ws n) ≡ min n (8 * length ws)
length_part_bytes ws n = length-take n (bytes_in ws) ∙ ap (min n) (length_in ws)

low_at : (k w i : ℕ) → i < k → get_or (low_bytes k w) i 0 ≡ byte_of w i
low_at zero w i h = let z : ⊥ = omega arith in elim z [ ]
low_at (suc k) w zero h = ap (λ v. v % 256) (sym (div-one w))
low_at (suc k) w (suc i) h =
    let e : 8 + 8 * i ≡ 8 * suc i = omega arith in
    low_at k (w / 256) i (omega arith) ∙ ap (λ v. v % 256) (shr-shr w 8 (8 * i) ∙ ap (λ k. w / 2 ^ k) e)

byte_first : (w : ℕ) (ws : List ℕ) (i : ℕ) → i < 8 → get_or (bytes_in (w ∷ ws)) i 0 ≡ byte_of (get_or (w ∷ ws) (i / 8) 0) (i % 8)
byte_first w ws i h =
    let q : i / 8 ≡ 0 = omega arith in
    let r : i % 8 ≡ i = omega arith in
    get_or_append_left (low_bytes 8 w) (bytes_in ws) 0 i (omega (arith, length_low 8 w)) ∙ low_at 8 w i h ∙ rw (q, r)

byte_behind : (w : ℕ) (ws : List ℕ) (i : ℕ) → 8 ≤ i → get_or (bytes_in ws) (i - 8) 0 ≡ byte_of (get_or ws ((i - 8) / 8) 0) ((i - 8) % 8) → get_or (bytes_in (w ∷ ws)) i 0 ≡ byte_of (get_or (w ∷ ws) (i / 8) 0) (i % 8)
byte_behind w ws i h e =
    let q : i / 8 ≡ suc ((i - 8) / 8) = omega arith in
    let r : i % 8 ≡ (i - 8) % 8 = omega arith in
    get_or-append_right (low_bytes 8 w) (bytes_in ws) 8 i 0 (length_low 8 w) h ∙ e ∙ rw (q, r)

byte_in : (ws : List ℕ) (i : ℕ) → i < 8 * length ws → get_or (bytes_in ws) i 0 ≡ byte_of (get_or ws (i / 8) 0) (i % 8)
byte_in [] i h = let z : ⊥ = omega arith in elim z [ ]
byte_in (w ∷ ws) i h =
    elim (cases_lt i 8) [ inl l ↦ byte_first w ws i l | inr l ↦ byte_behind w ws i l (byte_in ws (i - 8) (omega arith)) ]

-- byte i, as shifts and masks read it in its word
pub part_got : {F : Type 0} (f : F) (ws : List ℕ) (n i w : ℕ) → i < length (part_bytes ws n) → w ≡ slice_index ws (i / 8) → Ok (bit_and (w / 2 ^ (8 * (i % 8))) 255) ≡ got f (part_bytes ws n) i
part_got f ws n i w h e =
    let l = length_part_bytes ws n in
    ap (λ w. Ok (bit_and (w / 2 ^ (8 * (i % 8))) 255)) e
    ∙ ap Ok (and_mask (get_or ws (i / 8) 0 / 2 ^ (8 * (i % 8))) 8 ∙ sym (get_or-take n (bytes_in ws) i 0 (omega arith) ∙ byte_in ws i (omega arith)))
    ∙ sym (got_inside 0 f (part_bytes ws n) i h)
