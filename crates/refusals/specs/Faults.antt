-- The number of each refusal, and what it carries.
use Rattle.std.specs.Prelude.{ℕ}
use Rattle.refusals.specs.declared.fault.Fault.{Fault}
use Rattle.refusals.specs.declared.fault.Fault.TheVariants.{Outside, Past, Full, Group, Length, Behind, Extent, First, Table, Slices, Beyond, Before, Ragged, Unlawful, Room}

abbrev pub number_of : Fault → ℕ
number_of (Outside i) = 1
number_of (Past e) = 2
number_of (Full n) = 3
number_of (Group n) = 4
number_of (Length n) = 5
number_of (Behind t) = 6
number_of Extent = 7
number_of (First w) = 8
number_of (Table q) = 9
number_of (Slices e f) = 10
number_of (Beyond k e) = 11
number_of (Before k e) = 12
number_of (Ragged k) = 13
number_of (Unlawful k) = 14
number_of (Room n) = 15

-- what it carries, 0 where it carries less than two numbers
abbrev pub carried_by : Fault → ℕ × ℕ
carried_by (Outside i) = (i, 0)
carried_by (Past e) = (e, 0)
carried_by (Full n) = (n, 0)
carried_by (Group n) = (n, 0)
carried_by (Length n) = (n, 0)
carried_by (Behind t) = (t, 0)
carried_by Extent = (0, 0)
carried_by (First w) = (w, 0)
carried_by (Table q) = (q, 0)
carried_by (Slices e f) = (e, f)
carried_by (Beyond k e) = (k, e)
carried_by (Before k e) = (k, e)
carried_by (Ragged k) = (k, 0)
carried_by (Unlawful k) = (k, 0)
carried_by (Room n) = (n, 0)
