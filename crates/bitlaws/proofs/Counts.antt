-- The counts of whole chunks of 1,024 bits.
use Rattle.std.proofs.Common.{◌≡◌, ℕ, ◌+◌, ◌*◌, ◌/◌, ◌≤◌, Bool, List, ◌++◌, length, sym, ap, ◌∙◌, arith, length-append}
use Rattle.std.proofs.Math.Seq.{take-append-le}
use Rattle.bitlaws.specs.Bits.{ones_among, rank_of, Counted, Lagging}

-- what counted the bits still counts them behind more bits
pub rank_append : (bs ys : List Bool) (i : ℕ) → i ≤ length bs → rank_of (bs ++ ys) i ≡ rank_of bs i
rank_append bs ys i h = ap ones_among (take-append-le i bs ys h)

pub lag : (cs : List ℕ) (bs ys : List Bool) → Counted cs bs → Lagging cs (bs ++ ys)
lag cs bs ys h = record {
  most = omega (arith, h.many, length-append bs ys);
  each = λ j l. h.each j l ∙ sym (rank_append bs ys (1024 * (j + 1)) (omega (arith, h.many)));
}

-- none is missing
pub caught : (cs : List ℕ) (bs : List Bool) → Lagging cs bs → length bs / 1024 ≤ length cs → Counted cs bs
caught cs bs h all = record { many = omega (arith, h.most); each = h.each }
