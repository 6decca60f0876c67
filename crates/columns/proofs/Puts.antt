-- One turn of each loop that writes a list of slices, and what comes out.
use Rattle.std.proofs.Common.{◌≡◌, ℕ, zero, suc, min, ◌+◌, ◌*◌, ◌<◌, ◌≤◌, Bool, true, false, ltb, List, [], ◌∷◌, ◌++◌, length, take, drop, set, get_or, is_ok, Ok, Err, sym, refl, ap, ◌∙◌, arith, length-append, append-nil, le-ltb, lt-ltb, ltb-false, drop-drop, length-set}
use Rattle.std.specs.Int.{div_ceil}
use Rattle.std.proofs.lemmas.List.{append_assoc, take_at, drop_at, set_split, take_more, length-take-le, take-append-drop}
use Rattle.refusals.specs.declared.fault.Fault.{Fault}
use Rattle.refusals.specs.declared.fault.Fault.TheVariants.{Room}
use Rattle.store.specs.Layout.{Slice, up, none, slice, Formed, AllFormed, end_of, ends, last_end, contents, head, layout}
use Rattle.store.specs.Answers.{longest, most_slices}
use Rattle.store.proofs.Layouts.{length_ends, length_layout}
use Rattle.columns.specs.Writing.{put, write_answer, written}

formed_at : (ss : List Slice) → AllFormed ss → (i : ℕ) → Formed (slice ss i)
formed_at [] f i = (refl, omega arith)
formed_at (s ∷ ss) f zero = f.0
formed_at (s ∷ ss) f (suc i) = formed_at ss f.1 i

ends_more : (e : ℕ) (ss : List Slice) (s : Slice) → ends e (ss ++ (s ∷ [])) ≡ ends e ss ++ (end_of (last_end e ss) s ∷ [])
ends_more e [] s = refl
ends_more e (t ∷ ss) s = let h = ends_more (end_of e t) ss s in cc

last_more : (e : ℕ) (ss : List Slice) (s : Slice) → last_end e (ss ++ (s ∷ [])) ≡ end_of (last_end e ss) s
last_more e [] s = refl
last_more e (t ∷ ss) s = last_more (end_of e t) ss s

contents_more : (ss : List Slice) (s : Slice) → contents (ss ++ (s ∷ [])) ≡ contents ss ++ s.words
contents_more [] s = append-nil s.words
contents_more (t ∷ ss) s = let h = contents_more ss s in rw (append_assoc t.words (contents ss) s.words, h) refl

-- written words in front of others that are written
pub put_put : (n : ℕ) (us vs xs : List ℕ) → n ≤ length xs → put (n + length us) vs (put n us xs) ≡ put n (us ++ vs) xs
put_put n us vs xs h =
    let l : length (take n xs ++ us) ≡ n + length us = simp length-append (omega (arith, length-take-le n xs h)) in
    let x : put n us xs ≡ (take n xs ++ us) ++ drop (n + length us) xs = sym (append_assoc (take n xs) us (drop (n + length us) xs)) in
    let t = ap (take (n + length us)) x ∙ take_at (take n xs ++ us) (drop (n + length us) xs) (n + length us) l in
    let d = ap (drop (n + length us)) x ∙ drop_at (take n xs ++ us) (drop (n + length us) xs) (n + length us) l in
    let r : drop (n + length us + length vs) (put n us xs) ≡ drop (n + length us + length vs) xs =
    sym (drop-drop (length vs) (n + length us) (put n us xs)) ∙ ap (drop (length vs)) d ∙ drop-drop (length vs) (n + length us) xs in
    let m : n + length us + length vs ≡ n + length (us ++ vs) = omega (arith, length-append us vs) in
    ap (λ q. q ++ (vs ++ drop (n + length us + length vs) (put n us xs))) t
    ∙ ap (λ q. (take n xs ++ us) ++ (vs ++ q)) r
    ∙ append_assoc (take n xs) us (vs ++ drop (n + length us + length vs) xs)
    ∙ ap (λ q. take n xs ++ q) (sym (append_assoc us vs (drop (n + length us + length vs) xs)))
    ∙ ap (λ q. take n xs ++ ((us ++ vs) ++ drop q xs)) m

set_put : (xs : List ℕ) (i w : ℕ) → i < length xs → set xs i w ≡ put i (w ∷ []) xs
set_put xs i w h = let m : suc i ≡ i + 1 = omega arith in set_split xs i w h ∙ ap (λ q. take i xs ++ (w ∷ drop q xs)) m

pub put_none : (n : ℕ) (xs : List ℕ) → put n [] xs ≡ xs
put_none n xs = let m : n + 0 ≡ n = omega arith in ap (λ q. take n xs ++ drop q xs) m ∙ take-append-drop n xs

-- one word more
put_step : (n i : ℕ) (us xs out : List ℕ) (w : ℕ) → i ≡ n + length us → i < length out → n ≤ length xs → out ≡ put n us xs → set out i w ≡ put n (us ++ (w ∷ [])) xs
put_step n i us xs out w e h b o =
    set_put out i w h ∙ ap (λ m. put m (w ∷ []) out) e ∙ ap (put (n + length us) (w ∷ [])) o ∙ put_put n us (w ∷ []) xs b

-- two words
pub put_two : (n v w : ℕ) (xs : List ℕ) → n + 2 ≤ length xs → set (set xs n v) (n + 1) w ≡ put n (v ∷ w ∷ []) xs
put_two n v w xs h = put_step n (n + 1) (v ∷ []) xs (set xs n v) w refl (omega (arith, length-set xs n v, h)) (omega arith) (set_put xs n v (omega arith))

-- one word more of a slice's
pub words_step : (n i : ℕ) (ws xs out : List ℕ) (w : ℕ) → i < length ws → n + i < length out → n ≤ length xs → w ≡ get_or ws i 0 → out ≡ put n (take i ws) xs → set out (n + i) w ≡ put n (take (i + 1) ws) xs
words_step n i ws xs out w a h b v o =
    let l : i ≤ length ws = omega arith in
    put_step n (n + i) (take i ws) xs out w (ap (λ m. n + m) (sym (length-take-le i ws l))) h b o
    ∙ ap (λ y. put n (take i ws ++ (y ∷ [])) xs) v
    ∙ ap (λ t. put n t xs) (sym (take_more ws i 0 a))

-- one end more
last_next : (e i : ℕ) (ss : List Slice) → i < length ss → last_end e (take (i + 1) ss) ≡ end_of (last_end e (take i ss)) (slice ss i)
last_next e i ss h = ap (last_end e) (take_more ss i none h) ∙ last_more e (take i ss) (slice ss i)

-- an end that is rounded up with the bytes of the slice behind it
pub end_next : (e i end q b : ℕ) (ss : List Slice) → i < length ss → end ≡ last_end e (take i ss) → q ≡ div_ceil end 8 → b ≡ (slice ss i).bytes → 8 * q + b ≡ last_end e (take (i + 1) ss)
end_next e i end q b ss h p r d = omega (arith, last_next e i ss h, p, r, d)

pub end_small : (i end q b m : ℕ) (ss : List Slice) → AllFormed ss → up end ≤ m + i * 67108864 → q ≡ div_ceil end 8 → b ≡ (slice ss i).bytes → up (8 * q + b) ≤ m + (i + 1) * 67108864
end_small i end q b m ss f h r d = omega (arith, (formed_at ss f i).1, h, r, d)

pub few_bytes : (ss : List Slice) → AllFormed ss → (i : ℕ) → (slice ss i).bytes ≤ 536870912
few_bytes ss f i = (formed_at ss f i).1

ends_step : (e i : ℕ) (ss : List Slice) (xs out : List ℕ) (v : ℕ) → i < length ss → i + 1 < length out → 1 ≤ length xs → v ≡ end_of (last_end e (take i ss)) (slice ss i) → out ≡ put 1 (ends e (take i ss)) xs → set out (i + 1) v ≡ put 1 (ends e (take (i + 1) ss)) xs
ends_step e i ss xs out v a h b p o =
    let l : i ≤ length ss = omega arith in
    let n : i + 1 ≡ 1 + length (ends e (take i ss)) = omega (arith, length_ends e (take i ss), length-take-le i ss l) in
    put_step 1 (i + 1) (ends e (take i ss)) xs out v n h b o
    ∙ ap (λ y. put 1 (ends e (take i ss) ++ (y ∷ [])) xs) p
    ∙ ap (λ t. put 1 t xs) (sym (ap (ends e) (take_more ss i none a) ∙ ends_more e (take i ss) (slice ss i)))

pub ends_next : (e i end q b : ℕ) (ss : List Slice) (xs out : List ℕ) → i < length ss → i + 1 < length out → 1 ≤ length xs → end ≡ last_end e (take i ss) → q ≡ div_ceil end 8 → b ≡ (slice ss i).bytes → out ≡ put 1 (ends e (take i ss)) xs → set out (i + 1) (8 * q + b) ≡ put 1 (ends e (take (i + 1) ss)) xs
ends_next e i end q b ss xs out a h k p r d o = ends_step e i ss xs out (8 * q + b) a h k (omega (arith, p, r, d)) o

-- word 0 and all ends
pub ends_whole : (k : ℕ) (ss : List Slice) (xs out : List ℕ) → length ss ≡ k → 1 ≤ length xs → out ≡ put 1 (ends (8 * (k + 1)) ss) (set xs 0 (8 * (k + 1))) → out ≡ put 0 (head ss) xs
ends_whole k ss xs out n h o =
    o ∙ ap (put 1 (ends (8 * (k + 1)) ss)) (set_put xs 0 (8 * (k + 1)) (omega arith))
    ∙ put_put 0 (8 * (k + 1) ∷ []) (ends (8 * (k + 1)) ss) xs (omega arith)
    ∙ ap (λ m. put 0 (8 * (m + 1) ∷ ends (8 * (m + 1)) ss) xs) (sym n)

-- one slice more
contents_next : (i : ℕ) (ss : List Slice) → i < length ss → contents (take (i + 1) ss) ≡ contents (take i ss) ++ (slice ss i).words
contents_next i ss h = ap contents (take_more ss i none h) ∙ contents_more (take i ss) (slice ss i)

pub contents_longer : (i : ℕ) (ss : List Slice) → i < length ss → length (contents (take (i + 1) ss)) ≡ length (contents (take i ss)) + length (slice ss i).words
contents_longer i ss h = ap length (contents_next i ss h) ∙ length-append (contents (take i ss)) (slice ss i).words

pub contents_within : (i : ℕ) (ss : List Slice) → i < length ss → length (contents (take i ss)) + length (slice ss i).words ≤ length (contents ss)
contents_within i [] h = omega arith
contents_within zero (s ∷ ss) h = simp length-append (omega arith)
contents_within (suc i) (s ∷ ss) h = let k = contents_within i ss (omega arith) in simp length-append (omega arith)

pub contents_step : (n i at : ℕ) (ss : List Slice) (xs out new : List ℕ) → i < length ss → n ≤ length xs → at ≡ n + length (contents (take i ss)) → out ≡ put n (contents (take i ss)) xs → new ≡ put at (slice ss i).words out → new ≡ put n (contents (take (i + 1) ss)) xs
contents_step n i at ss xs out new a b p o q =
    q ∙ ap (λ m. put m (slice ss i).words out) p ∙ ap (put (n + length (contents (take i ss))) (slice ss i).words) o
    ∙ put_put n (contents (take i ss)) (slice ss i).words xs b ∙ ap (λ t. put n t xs) (sym (contents_next i ss a))

-- the words that the slices take, and what is answered
module _ (ss : List Slice) (f : AllFormed ss) (k end : ℕ) (n : length ss ≡ k) (few : k ≤ most_slices) (e : end ≡ last_end (8 * (k + 1)) ss) where
  needed : up end ≡ length (layout ss)
  needed = ap up (e ∙ ap (λ m. last_end (8 * (m + 1)) ss) (sym n)) ∙ length_layout ss f

  pub fits : (room q : ℕ) → q ≡ div_ceil end 8 → q ≤ min longest room → Ok q ≡ write_answer ss room
  fits room q r h =
      let all : q ≡ length (layout ss) = omega (arith, needed, r) in
      let l : length (layout ss) ≤ min room longest = omega arith in
      ap Ok all ∙ simp (le-ltb most_slices (length ss) (omega arith), le-ltb (min room longest) (length (layout ss)) l)

  pub short : (room q : ℕ) → q ≡ div_ceil end 8 → min longest room < q → Err (Room q) ≡ write_answer ss room
  short room q r h =
      let all : q ≡ length (layout ss) = omega (arith, needed, r) in
      let l : min room longest < length (layout ss) = omega arith in
      ap (λ m. Err (Room m)) all ∙ simp (le-ltb most_slices (length ss) (omega arith), lt-ltb (min room longest) (length (layout ss)) l)

pub parts : (ss : List Slice) → length (layout ss) ≡ length ss + 1 + length (contents ss)
parts ss = let k = length_ends (8 * (length ss + 1)) ss in simp length-append (omega (arith, k))

-- what was granted has room, and is not too many slices
pub granted : (ss : List Slice) (room n : ℕ) → Ok n ≡ write_answer ss room → (n ≡ length (layout ss)) × ((length ss ≤ most_slices) × (length (layout ss) ≤ room))
granted ss room n = go (ltb most_slices (length ss)) (ltb (min room longest) (length (layout ss))) refl refl
  where
    go : (a b : Bool) → ltb most_slices (length ss) ≡ a → ltb (min room longest) (length (layout ss)) ≡ b → Ok n ≡ write_answer ss room → (n ≡ length (layout ss)) × ((length ss ≤ most_slices) × (length (layout ss) ≤ room))
    go true b p q e = let r = rw p at e in let z : ◌≡◌ {A = ℕ} 0 1 = cc in absurd (omega arith)
    go false true p q e = let r = rw (p, q) at e in let z : ◌≡◌ {A = ℕ} 0 1 = cc in absurd (omega arith)
    go false false p q e = let r = rw (p, q) at e in let w : n ≡ length (layout ss) = cc in (w, (ltb-false _ _ p, omega (arith, ltb-false _ _ q)))

pub whole : (ss : List Slice) (k n : ℕ) (xs ys zs : List ℕ) → length ss ≡ k → Ok n ≡ write_answer ss (length xs) → ys ≡ put 0 (head ss) xs → zs ≡ put (k + 1) (contents ss) ys → zs ≡ written ss xs
whole ss k n xs ys zs ke told a b =
    let p : k + 1 ≡ 0 + length (head ss) = omega (arith, length_ends (8 * (length ss + 1)) ss) in
    let ok : is_ok (write_answer ss (length xs)) ≡ true = ap is_ok (sym told) in
    b ∙ ap (λ q. put q (contents ss) ys) p ∙ ap (put (0 + length (head ss)) (contents ss)) a ∙ put_put 0 (head ss) (contents ss) xs (omega arith)
    ∙ simp ok

pub refused : (ss : List Slice) (xs : List ℕ) (f : Fault) → Err f ≡ write_answer ss (length xs) → xs ≡ written ss xs
refused ss xs f told = let no : is_ok (write_answer ss (length xs)) ≡ false = ap is_ok (sym told) in simp no
