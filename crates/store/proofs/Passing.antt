-- A layout passes check, and gives its slices back.
use Rattle.std.proofs.Common.{◌≡◌, ℕ, zero, suc, ◌+◌, ◌-◌, ◌*◌, ◌%◌, ◌<◌, ◌≤◌, List, [], ◌∷◌, ◌++◌, length, get_or, take, drop, None, Ok, refl, ap, ◌∙◌, ⊎_elim, add-one, arith}
use Rattle.std.proofs.lemmas.List.{length-append, take_at, drop_at, append_assoc, drop-drop, get_or_append_left, get_or_past}
use Rattle.std.proofs.lemmas.Bool.{cases_lt}
use Rattle.std.proofs.lemmas.Bool.Decides.{nat_tests}
use Rattle.store.specs.Layout.{Slice, up, none, slice, Formed, AllFormed, end_of, ends, contents, head, layout}
use Rattle.store.specs.Answers.{longest, ends_fault, store_fault, answered, check_answer, slices_in, slice_of}
use Rattle.store.proofs.Layouts.{up_add, length_ends, length_layout, ends_pass}

-- a store that no test refuses
store_pass : (ws : List ℕ) (n : ℕ) → length ws ≤ longest → n + 1 ≤ length ws → get_or ws 0 0 ≡ 8 * (n + 1) → ends_fault (8 * length ws) 0 (8 * (n + 1)) (take n (drop 1 ws)) ≡ None → store_fault ws n ≡ None
store_pass ws n l h w e = grind (arith, nat_tests)

pub layout_passes_lem : (ss : List Slice) → AllFormed ss → length (layout ss) ≤ longest → check_answer (layout ss) (length ss) ≡ Ok tt
layout_passes_lem ss f l =
    let n = length ss in
    let first = 8 * (n + 1) in
    let h : n + 1 ≤ length (layout ss) = simp length-append (omega (arith, length_ends first ss)) in
    let u : 8 * up first ≡ first = omega arith in
    let e = rw u at (ends_pass (8 * length (layout ss)) 0 first ss (omega (arith, length_layout ss f))) in
    ap answered (store_pass (layout ss) n l h refl (rw (take_at (ends first ss) (contents ss) n (length_ends first ss)) e))

-- the end of slice k, from the end before it
end_at : (e : ℕ) (ss : List Slice) (k : ℕ) → k < length ss → get_or (ends e ss) k 0 ≡ end_of (get_or (e ∷ ends e ss) k 0) (slice ss k)
end_at e [] k h = omega arith
end_at e (s ∷ ss) zero h = refl
end_at e (s ∷ ss) (suc k) h = end_at (end_of e s) ss k (omega arith)

-- the word at which slice k starts
place_at : (e : ℕ) (ss : List Slice) (k : ℕ) → AllFormed ss → k ≤ length ss → up (get_or (e ∷ ends e ss) k 0) ≡ up e + length (contents (take k ss))
place_at e ss zero f h = omega arith
place_at e [] (suc k) f h = omega arith
place_at e (s ∷ ss) (suc k) f h =
    let r = place_at (end_of e s) ss k f.1 (omega arith) in
    let a = up_add e s.bytes in
    simp length-append (omega (arith, r, a, f.0.0))

contents_split : (ss : List Slice) (k : ℕ) → contents ss ≡ contents (take k ss) ++ ((slice ss k).words ++ contents (drop (suc k) ss))
contents_split [] zero = refl
contents_split [] (suc k) = refl
contents_split (s ∷ ss) zero = refl
contents_split (s ∷ ss) (suc k) = let h = contents_split ss k in rw h (simp append_assoc)

formed_at : (ss : List Slice) → AllFormed ss → (i : ℕ) → Formed (slice ss i)
formed_at [] f i = (refl, omega arith)
formed_at (s ∷ ss) f zero = f.0
formed_at (s ∷ ss) f (suc i) = formed_at ss f.1 i

slice_in : (ws us : List ℕ) (k t : ℕ) → k < slices_in ws → take (up (get_or ws (k + 1) 0) - up (get_or ws k 0)) (drop (up (get_or ws k 0)) ws) ≡ us → get_or ws (k + 1) 0 % 8 ≡ t → slice_of ws k ≡ (us, t)
slice_in ws us k t h p q = grind (arith, nat_tests)

slice_past : (ws : List ℕ) (k : ℕ) → slices_in ws ≤ k → slice_of ws k ≡ ([], 0)
slice_past ws k h = grind (arith, nat_tests)

-- the words of the table at slice k: the end before it, and its own
table_before : (ss : List Slice) (k : ℕ) → k < length ss → get_or (layout ss) k 0 ≡ get_or (head ss) k 0
table_before ss k h = get_or_append_left (head ss) (contents ss) 0 k (omega (arith, length_ends (8 * (length ss + 1)) ss))

table_end : (ss : List Slice) (k : ℕ) → k < length ss → get_or (layout ss) (k + 1) 0 ≡ end_of (get_or (head ss) k 0) (slice ss k)
table_end ss k h =
    let e = 8 * (length ss + 1) in
    rw (add-one k, get_or_append_left (ends e ss) (contents ss) 0 k (omega (arith, length_ends e ss))) (end_at e ss k h)

slice_starts : (ss : List Slice) (k : ℕ) → AllFormed ss → k < length ss → up (get_or (head ss) k 0) ≡ length ss + 1 + length (contents (take k ss))
slice_starts ss k f h = omega (arith, place_at (8 * (length ss + 1)) ss k f (omega arith))

slice_words : (ss : List Slice) (k : ℕ) → take (length (slice ss k).words) (drop (length ss + 1 + length (contents (take k ss))) (layout ss)) ≡ (slice ss k).words
slice_words ss k =
    let m = length (contents (take k ss)) in
    let ws = (slice ss k).words in
    let rest = contents (drop (suc k) ss) in
    let l : length (head ss) ≡ length ss + 1 = omega (arith, length_ends (8 * (length ss + 1)) ss) in
    rw (← drop-drop m (length ss + 1) (layout ss), drop_at (head ss) (contents ss) (length ss + 1) l, contents_split ss k)
    (rw (drop_at (contents (take k ss)) (ws ++ rest) m refl, take_at ws rest (length ws) refl) refl)

slice_there : (ss : List Slice) (k : ℕ) → AllFormed ss → k < length ss → slice_of (layout ss) k ≡ ((slice ss k).words, (slice ss k).bytes % 8)
slice_there ss k f h =
    let s = slice ss k in
    let p = slice_starts ss k f h in
    let u = table_before ss k h in
    let v = table_end ss k h in
    let q : up (get_or (layout ss) (k + 1) 0) - up (get_or (layout ss) k 0) ≡ length s.words
    = omega (arith, up_add (get_or (head ss) k 0) s.bytes, (formed_at ss f k).0) in
    slice_in (layout ss) s.words k (s.bytes % 8) (omega arith) (rw (q, u, p) (slice_words ss k)) (omega arith)

pub layout_slices_lem : (ss : List Slice) (k : ℕ) → AllFormed ss → slice_of (layout ss) k ≡ ((slice ss k).words, (slice ss k).bytes % 8)
layout_slices_lem ss k f =
    ⊎_elim (λ (h : k < length ss). slice_there ss k f h)
    (λ (h : length ss ≤ k). slice_past (layout ss) k (omega arith) ∙ rw (get_or_past ss k none h) refl)
    (cases_lt k (length ss))
