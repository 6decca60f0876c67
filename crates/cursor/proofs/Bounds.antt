-- Where the answers of a column lie.
use Rattle.std.proofs.Common.{◌≡◌, ℕ, ◌<◌, ◌≤◌, Bool, true, false, cond, leb, List, length, Some, Ok, Err, sym, arith}
use Rattle.refusals.specs.declared.fault.Fault.{Fault}
use Rattle.refusals.specs.declared.fault.Fault.TheVariants.{Outside}
use Rattle.bitlaws.specs.Bits.{rank_of, select_of, first_from}
use Rattle.bitlaws.proofs.Words.{rank_under}
use Rattle.bitlaws.proofs.Selects.{select_place}
use Rattle.bitlaws.proofs.Firsts.{first_finds_lem}
use Rattle.bits.specs.Columns.{rank_answer}
use Rattle.bits.proofs.Selecting.{selected_inside}

-- an answer is what stands in the Ok
within : {A : Type 0} (b : Bool) (a x : A) (f : Fault) → Ok a ≡ cond b (Ok x) (Err f) → a ≡ x
within true a x f e = cc
within false a x f e = let z : ◌≡◌ {A = ℕ} 0 1 = cc in absurd (omega arith)

pub first_bounds : (bs : List Bool) (p q : ℕ) → Some q ≡ first_from bs p → (p ≤ q) × (q < length bs)
first_bounds bs p q e = (((first_finds_lem bs p q).0 (sym e)).from, selected_inside bs (rank_of bs p) q (select_place bs (rank_of bs p) q (sym e)))

pub rank_bound : (bs : List Bool) (i n : ℕ) → Ok n ≡ rank_answer bs i → n ≤ i
rank_bound bs i n e = omega (arith, within (leb i (length bs)) n (rank_of bs i) (Outside i) e, rank_under bs i)

pub select_bounds : (bs : List Bool) (r q : ℕ) → Some q ≡ select_of bs r → (r ≤ q) × (q < length bs)
select_bounds bs r q e =
    let s = select_place bs r q (sym e) in
    (omega (arith, s.rank, rank_under bs q), selected_inside bs r q s)
