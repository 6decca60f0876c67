-- What is known of a store that passed check.
use Rattle.std.proofs.Common.{◌≡◌, ℕ, zero, suc, ◌+◌, ◌*◌, ◌%◌, ◌<◌, ◌≤◌, true, ltb, List, [], ◌∷◌, length, get_or, take, drop, Some, None, Ok, Option, refl, ap, add-zero, zero-add, add-one, arith}
use Rattle.std.proofs.lemmas.List.{length-take, length-drop, length-take-le, get_or-take}
use Rattle.std.proofs.lemmas.Bool.{lt-ltb}
use Rattle.std.proofs.lemmas.Bool.Decides.{nat_tests}
use Rattle.refusals.specs.declared.fault.Fault.{Fault}
use Rattle.store.specs.Layout.{up}
use Rattle.store.specs.Answers.{longest, ends_fault, table_fault, store_fault, answered, check_answer, bytes_of, ragged_fault, validate_fault, validate_answer, slices_in, slice_of}
use Rattle.store.specs.Laws.{Checked}

no_fault : (o : Option Fault) → answered o ≡ Ok tt → o ≡ None
no_fault None e = refl
no_fault (Some f) e = cc

end_passed : (b i e x : ℕ) (es : List ℕ) → ends_fault b i (8 * up e) (x ∷ es) ≡ None → (8 * up e ≤ x) × (x ≤ b) × (ends_fault b (i + 1) (8 * up x) es ≡ None)
end_passed b i e x es n = (grind (arith, nat_tests), grind (arith, nat_tests), grind (arith, nat_tests))

-- the ends, where the end before the first of them is e
ends_passed : (b i e : ℕ) (es : List ℕ) → ends_fault b i (8 * up e) es ≡ None → (k : ℕ) → k < length es → (8 * up (get_or (e ∷ es) k 0) ≤ get_or es k 0) × (get_or es k 0 ≤ b)
ends_passed b i e [] n k h = (omega arith, omega arith)
ends_passed b i e (x ∷ es) n zero h = let p = end_passed b i e x es n in (p.0, p.1)
ends_passed b i e (x ∷ es) n (suc k) h = ends_passed b (i + 1) x es (end_passed b i e x es n).2 k (omega arith)

-- the first word of a store that passed, and its ends
record Opened (ws : List ℕ) (w n : ℕ) : Type 0 where
  pub first : w ≡ 8 * (n + 1)
  pub room : n + 1 ≤ length ws
  pub ends : ends_fault (8 * length ws) 0 w (take n (drop 1 ws)) ≡ None

table_passed : (ws : List ℕ) (w n : ℕ) → table_fault ws w n ≡ None → Opened ws w n
table_passed ws w n e = record { first = grind (arith, nat_tests); room = grind (arith, nat_tests); ends = grind (arith, nat_tests) }

store_passed : (w : ℕ) (ws : List ℕ) (n : ℕ) → store_fault (w ∷ ws) n ≡ None → (length (w ∷ ws) ≤ longest) × Opened (w ∷ ws) w n
store_passed w ws n e = (grind (arith, nat_tests), table_passed (w ∷ ws) w n (grind (arith, nat_tests)))

-- slice k of an opened store
opened_at : (w : ℕ) (ws : List ℕ) (n k : ℕ) → Opened (w ∷ ws) w n → k < n → (8 * up (get_or (w ∷ ws) k 0) ≤ get_or (w ∷ ws) (k + 1) 0) × (get_or (w ∷ ws) (k + 1) 0 ≤ 8 * length (w ∷ ws))
opened_at w ws n k o h =
    let r : w ≡ 8 * up w = omega (arith, o.first) in
    let e : ends_fault (8 * length (w ∷ ws)) 0 (8 * up w) (take n ws) ≡ None = rw (← r) o.ends in
    let p = ends_passed (8 * length (w ∷ ws)) 0 w (take n ws) e k (omega (arith, o.room, length-take-le n ws)) in
    let u : get_or (w ∷ take n ws) k 0 ≡ get_or (w ∷ ws) k 0 = get_or-take (suc n) (w ∷ ws) k 0 (omega arith) in
    let v : get_or (take n ws) k 0 ≡ get_or ws k 0 = get_or-take n ws k 0 h in
    rw add-one (omega arith, omega arith)

pub check_checks_lem : (ws : List ℕ) (n : ℕ) → check_answer ws n ≡ Ok tt → Checked ws n
check_checks_lem [] n e = absurd (cc)
check_checks_lem (w ∷ ws) n e =
    let s = store_passed w ws n (no_fault (store_fault (w ∷ ws) n) e) in
    record {
      count = omega (arith, s.1.first);
      long = s.0;
      before = λ k h. (opened_at w ws n k s.1 h).0;
      within = λ k h. (opened_at w ws n k s.1 h).1;
    }

pub checked_slices_lem : (ws : List ℕ) (n k : ℕ) → Checked ws n → k < n → (length (slice_of ws k).0 ≡ up (bytes_of ws k)) × ((slice_of ws k).1 ≡ bytes_of ws k % 8)
checked_slices_lem ws n k c h =
    let a = c.before k h in
    let b = c.within k h in
    let t : ltb k (slices_in ws) ≡ true = lt-ltb k (slices_in ws) (omega (arith, c.count)) in
    let from = up (get_or ws k 0) in
    let to = up (get_or ws (k + 1) 0) in
    (simp (t, length-take, length-drop) (omega arith), simp t (omega arith))

size_passed : (ws : List ℕ) (i z : ℕ) (zs : List ℕ) → ragged_fault ws i (z ∷ zs) ≡ None → (0 < z) × (bytes_of ws i % z ≡ 0) × (ragged_fault ws (i + 1) zs ≡ None)
size_passed ws i z zs e = (grind (arith, nat_tests), grind (arith, nat_tests), grind (arith, nat_tests))

sizes_passed : (ws : List ℕ) (i : ℕ) (zs : List ℕ) → ragged_fault ws i zs ≡ None → (k : ℕ) → k < length zs → (0 < get_or zs k 0) × (bytes_of ws (i + k) % get_or zs k 0 ≡ 0)
sizes_passed ws i [] e k h = (omega arith, omega arith)
sizes_passed ws i (z ∷ zs) e zero h = let p = size_passed ws i z zs e in (p.0, rw add-zero p.1)
sizes_passed ws i (z ∷ zs) e (suc k) h =
    let r = sizes_passed ws (i + 1) zs (size_passed ws i z zs e).2 k (omega arith) in
    let j : i + suc k ≡ i + 1 + k = omega arith in
    (r.0, rw j r.1)

fault_passed : (ws sizes : List ℕ) → validate_fault ws sizes ≡ None → (store_fault ws (length sizes) ≡ None) × (ragged_fault ws 0 sizes ≡ None)
fault_passed ws sizes e = (grind (arith, nat_tests), grind (arith, nat_tests))

pub validate_checks_lem : (ws sizes : List ℕ) → validate_answer ws sizes ≡ Ok tt → Checked ws (length sizes) × ((k : ℕ) → k < length sizes → (0 < get_or sizes k 0) × (bytes_of ws k % get_or sizes k 0 ≡ 0))
validate_checks_lem ws sizes e =
    let p = fault_passed ws sizes (no_fault (validate_fault ws sizes) e) in
    (check_checks_lem ws (length sizes) (ap answered p.0), λ k h. rw zero-add at (sizes_passed ws 0 sizes p.1 k h))
