-- What whole walks come to.
use Rattle.std.specs.Prelude.{◌≡◌, ℕ, zero, suc, ◌+◌, ◌<◌, ◌≤◌, Bool, true, List, [], ◌∷◌, ◌++◌, map, length, is_some, Some, None, Option, slice_index_or}
use Rattle.bitlaws.specs.Bits.{rank_of, select_of}
use Rattle.cursor.specs.Moves.{Spot, next_one, step, to_pos, to_rank}

-- a new cursor
abbrev pub fresh : Spot
fresh = (0, 0)

-- the answers of k steps, and of k calls of next_one
unfoldable pub steps : List Bool → ℕ → Spot → List (Option Bool)
steps bs zero s = []
steps bs (suc k) s = (step bs s).0 ∷ steps bs k (step bs s).1

unfoldable pub next_ones : List Bool → ℕ → Spot → List (Option ℕ)
next_ones bs zero s = []
next_ones bs (suc k) s = (next_one bs s).0 ∷ next_ones bs k (next_one bs s).1

-- one step more than there are bits reads the bits in order, and then none
abbrev pub StepsRead : Type 0
StepsRead = (bs : List Bool) → steps bs (length bs + 1) fresh ≡ map Some bs ++ (None ∷ [])

-- repeated, next_one gives the places of the ones in order, and then none: call r answers select r
abbrev pub OnesInOrder : Type 0
OnesInOrder = (bs : List Bool) (k r : ℕ) → r < k → slice_index_or (next_ones bs k fresh) r None ≡ select_of bs r

-- the moves as data
pub data Move : Type 0 where
  One : Move
  Step : Move
  Pos : ℕ → Move
  Rank : ℕ → Move

abbrev pub led : List Bool → Move → Spot → Spot
led bs One s = (next_one bs s).1
led bs Step s = (step bs s).1
led bs (Pos t) s = (to_pos bs t s).1
led bs (Rank t) s = (to_rank bs t s).1

-- a move that is accepted, and no seek that passes the end
abbrev pub Inside : List Bool → Move → Spot → Type 0
Inside bs One s = Unit {0}
Inside bs Step s = Unit {0}
Inside bs (Pos t) s = (s.0 ≤ t) × (t < length bs)
Inside bs (Rank t) s = (s.1 ≤ t) × (is_some (select_of bs t) ≡ true)

-- a walk of such moves
unfoldable pub walked : List Bool → List Move → Spot → Spot
walked bs [] s = s
walked bs (m ∷ ms) s = walked bs ms (led bs m s)

unfoldable pub AllInside : List Bool → List Move → Spot → Type 0
AllInside bs [] s = Unit {0}
AllInside bs (m ∷ ms) s = Inside bs m s × AllInside bs ms (led bs m s)

-- after any such walk the count is the number of ones below the place
abbrev pub CountsBelow : Type 0
CountsBelow = (bs : List Bool) (ms : List Move) → AllInside bs ms fresh → (walked bs ms fresh).1 ≡ rank_of bs (walked bs ms fresh).0
