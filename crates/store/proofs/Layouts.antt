-- A layout and the slices that it holds.
use Rattle.std.proofs.Common.{◌≡◌, ℕ, ◌+◌, ◌*◌, ◌≤◌, List, [], ◌∷◌, ◌++◌, length, None, sym, refl, arith}
use Rattle.std.proofs.lemmas.List.{length-append, take_at, drop_at}
use Rattle.std.proofs.lemmas.Bool.{le-ltb}
use Rattle.store.specs.Layout.{Slice, up, AllFormed, end_of, ends, last_end, contents, layout}
use Rattle.store.specs.Answers.{ends_fault}

pub up_add : (e b : ℕ) → up (8 * up e + b) ≡ up e + up b
up_add e b = omega arith

pub length_ends : (e : ℕ) (ss : List Slice) → length (ends e ss) ≡ length ss
length_ends e [] = refl
length_ends e (s ∷ ss) = let h = length_ends (end_of e s) ss in cc

same_parts : (us vs cs ds : List ℕ) → length us ≡ length vs → us ++ cs ≡ vs ++ ds → (us ≡ vs) × (cs ≡ ds)
same_parts us vs cs ds l e =
    let t = take_at us cs (length us) refl in
    let u = take_at vs ds (length us) (sym l) in
    let v = drop_at us cs (length us) refl in
    let w = drop_at vs ds (length us) (sym l) in
    (cc, cc)

parts_one : (e : ℕ) (ss ts : List Slice) → AllFormed ss → AllFormed ts → ends e ss ≡ ends e ts → contents ss ≡ contents ts → ss ≡ ts
parts_one e [] [] f g p q = refl
parts_one e [] (t ∷ ts) f g p q = cc
parts_one e (s ∷ ss) [] f g p q = cc
parts_one e (s ∷ ss) (t ∷ ts) f g p q =
    let a : end_of e s ≡ end_of e t = cc in
    let b : s.bytes ≡ t.bytes = omega arith in
    let r = same_parts s.words t.words (contents ss) (contents ts) (omega arith) q in
    let d = parts_one (end_of e s) ss ts f.1 g.1 (cc) r.1 in
    let w = r.0 in
    λ i. record { bytes = b i; words = w i } ∷ d i

pub layout_one_lem : (ss ts : List Slice) → AllFormed ss → AllFormed ts → layout ss ≡ layout ts → ss ≡ ts
layout_one_lem ss ts f g e =
    let a : 8 * (length ss + 1) ≡ 8 * (length ts + 1) = cc in
    let n : length ss ≡ length ts = omega arith in
    let h = length_ends (8 * (length ss + 1)) ss in
    let k = length_ends (8 * (length ss + 1)) ts in
    let r = same_parts (ends (8 * (length ss + 1)) ss) (ends (8 * (length ss + 1)) ts) (contents ss) (contents ts) (omega arith) (cc) in
    parts_one (8 * (length ss + 1)) ss ts f g r.0 r.1

length_contents : (e : ℕ) (ss : List Slice) → AllFormed ss → up (last_end e ss) ≡ up e + length (contents ss)
length_contents e [] f = omega arith
length_contents e (s ∷ ss) f =
    let h = length_contents (end_of e s) ss f.1 in
    let k = up_add e s.bytes in
    simp length-append (omega (arith, h, k, f.0.0))

pub length_layout : (ss : List Slice) → AllFormed ss → up (last_end (8 * (length ss + 1)) ss) ≡ length (layout ss)
length_layout ss f =
    let h = length_contents (8 * (length ss + 1)) ss f in
    let k = length_ends (8 * (length ss + 1)) ss in
    simp length-append (omega (arith, h, k))

last_above : (e : ℕ) (ss : List Slice) → e ≤ last_end e ss
last_above e [] = omega arith
last_above e (s ∷ ss) = let h = last_above (end_of e s) ss in omega arith

-- no end of a layout is refused
pub ends_pass : (b i e : ℕ) (ss : List Slice) → last_end e ss ≤ b → ends_fault b i (8 * up e) (ends e ss) ≡ None
ends_pass b i e [] h = refl
ends_pass b i e (s ∷ ss) h =
    let p : end_of e s ≤ b = omega (arith, last_above (end_of e s) ss) in
    let q : 8 * up e ≤ end_of e s = omega arith in
    rw (le-ltb b (end_of e s) p, le-ltb (end_of e s) (8 * up e) q) (ends_pass b (i + 1) (end_of e s) ss h)
