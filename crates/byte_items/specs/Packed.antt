-- Bytes packed into words: as many words as asked for, and of one list only.
use Rattle.std.specs.Prelude.{◌≡◌, ℕ, zero, suc, ◌-◌, ◌*◌, ◌<◌, ◌≤◌, min, List, [], ◌∷◌, ◌++◌, length, take, drop, refl}
use Rattle.std.proofs.Common.{ap, sym, ◌∙◌, arith}
use Rattle.std.proofs.lemmas.List.{take-append-drop, length-take, length-drop}
use Rattle.store.specs.Layout.{Slice, up}
use Rattle.columns.specs.Kinds.{Each, one_slice}
use Rattle.columns.proofs.Lists.{each_take, each_drop}
use Rattle.byte_items.specs.Pack.{value, pack, bytes_slice}

abbrev AllBytes : List ℕ → Type 0
AllBytes bs = Each (λ b. b < 256) bs

pub length_pack : (n : ℕ) (bs : List ℕ) → length (pack n bs) ≡ n
length_pack zero bs = refl
length_pack (suc n) bs = ap suc (length_pack n (drop 8 bs))

-- the slice, as that of a kind of one byte an item
pub sole : (xs : List ℕ) → ◌≡◌ {A = List Slice} (bytes_slice xs ∷ []) (one_slice 1 (λ ys. pack (up (length ys)) ys) xs)
sole xs =
    let e : length xs ≡ 1 * length xs = omega arith in
    ap (λ n. record { bytes = n; words = pack (up (length xs)) xs } ∷ []) e

pub value_one : (xs ys : List ℕ) → length xs ≡ length ys → AllBytes xs → AllBytes ys → value xs ≡ value ys → xs ≡ ys
value_one [] [] l f g e = refl
value_one [] (y ∷ ys) l f g e = let z : ◌≡◌ {A = ℕ} 0 1 = omega arith in cc
value_one (x ∷ xs) [] l f g e = let z : ◌≡◌ {A = ℕ} 0 1 = omega arith in cc
value_one (x ∷ xs) (y ∷ ys) l f g e =
    let a : x ≡ y = omega arith in
    let v : value xs ≡ value ys = omega arith in
    let t = value_one xs ys (omega arith) f.1 g.1 v in
    cc

pub pack_one : (n : ℕ) (xs ys : List ℕ) → length xs ≡ length ys → length xs ≤ 8 * n → AllBytes xs → AllBytes ys → pack n xs ≡ pack n ys → xs ≡ ys
pack_one zero [] [] l m f g e = refl
pack_one zero [] (y ∷ ys) l m f g e = let z : ◌≡◌ {A = ℕ} 0 1 = omega arith in cc
pack_one zero (x ∷ xs) ys l m f g e = let z : ◌≡◌ {A = ℕ} 0 1 = omega arith in cc
pack_one (suc n) xs ys l m f g e =
    let a : value (take 8 xs) ≡ value (take 8 ys) = cc in
    let b : pack n (drop 8 xs) ≡ pack n (drop 8 ys) = cc in
    let p = value_one (take 8 xs) (take 8 ys) (length-take 8 xs ∙ ap (min 8) l ∙ sym (length-take 8 ys)) (each_take (λ b. b < 256) 8 xs f) (each_take (λ b. b < 256) 8 ys g) a in
    let k : length (drop 8 xs) ≡ length (drop 8 ys) = length-drop 8 xs ∙ ap (λ q. q - 8) l ∙ sym (length-drop 8 ys) in
    let q = pack_one n (drop 8 xs) (drop 8 ys) k (omega (arith, length-drop 8 xs)) (each_drop (λ b. b < 256) 8 xs f) (each_drop (λ b. b < 256) 8 ys g) b in
    sym (take-append-drop 8 xs) ∙ ap (λ u. u ++ drop 8 xs) p ∙ ap (λ u. take 8 ys ++ u) q ∙ take-append-drop 8 ys
