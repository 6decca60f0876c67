-- What whole walks come to.
use Rattle.std.proofs.Common.{◌≡◌, ℕ, zero, suc, ◌+◌, ◌<◌, ◌≤◌, max, Bool, true, false, cond, List, [], ◌∷◌, ◌++◌, map, length, get_or, drop, is_some, Some, None, Option, sym, refl, ap, ◌∙◌, subst, ap₂, ⊎_elim, not-suc-le-zero, add-zero, add-one, arith}
use Rattle.std.proofs.lemmas.List.{drop_more, drop_all, take_all}
use Rattle.std.proofs.lemmas.Bool.{lt-ltb, le-ltb, cases_lt, false≢true}
use Rattle.bitlaws.specs.Bits.{ones_among, rank_of, select_of, first_from}
use Rattle.bitlaws.proofs.Words.{rank_none}
use Rattle.bitlaws.proofs.Ranks.{rank_step, rank_rises_lem}
use Rattle.bitlaws.proofs.Selects.{select_place, select_few, select_none}
use Rattle.cursor.specs.Moves.{Spot, after_one, behind_one, step, to_pos, last_word}
use Rattle.cursor.specs.Walks.{fresh, steps, next_ones, StepsRead, OnesInOrder, Move, One, Step, Pos, Rank, led, Inside, walked, AllInside, CountsBelow}

step_on : (bs : List Bool) (p c : ℕ) → p < length bs → step bs (p, c) ≡ (Some (get_or bs p false), (p + 1, c + cond (get_or bs p false) 1 0))
step_on bs p c h = simp (lt-ltb p (length bs) h)

step_end : (bs : List Bool) (p c : ℕ) → length bs ≤ p → step bs (p, c) ≡ (None, (p, c))
step_end bs p c h = simp (le-ltb p (length bs) h)

steps_more : (bs : List Bool) (k p c : ℕ) → p < length bs → steps bs (suc k) (p, c) ≡ Some (get_or bs p false) ∷ steps bs k (p + 1, c + cond (get_or bs p false) 1 0)
unfolding steps
steps_more bs k p c h = ap (λ (x : Option Bool × Spot). x.0 ∷ steps bs k x.1) (step_on bs p c h)

steps_last : (bs : List Bool) (p c : ℕ) → length bs ≤ p → steps bs 1 (p, c) ≡ None ∷ []
unfolding steps
steps_last bs p c h = ap (λ (x : Option Bool × Spot). x.0 ∷ []) (step_end bs p c h)

steps_from : (bs : List Bool) (d p c : ℕ) → p + d ≡ length bs → steps bs (suc d) (p, c) ≡ map Some (drop p bs) ++ (None ∷ [])
steps_from bs zero p c e =
    let past : length bs ≤ p = omega arith in
    steps_last bs p c past ∙ ap (λ (x : List Bool). map Some x ++ (None ∷ [])) (sym (drop_all p bs past))
steps_from bs (suc d) p c e =
    let lt : p < length bs = omega arith in
    steps_more bs (suc d) p c lt
    ∙ ap (λ (x : List (Option Bool)). Some (get_or bs p false) ∷ x) (steps_from bs d (p + 1) (c + cond (get_or bs p false) 1 0) (omega arith))
    ∙ ap (λ (x : List Bool). map Some x ++ (None ∷ [])) (sym (drop_more bs p false lt))

pub steps_read_lem : StepsRead
steps_read_lem bs = ap (λ (x : ℕ). steps bs x fresh) (add-one (length bs)) ∙ steps_from bs (length bs) 0 0 (omega arith)

rank_all : (bs : List Bool) (i : ℕ) → rank_of bs i ≤ ones_among bs
rank_all bs i = omega (arith, rank_rises_lem bs i (i + length bs) (omega arith), ap ones_among (take_all (i + length bs) bs (omega arith)))

-- behind a one that is answered
rank_behind : (bs : List Bool) (r q : ℕ) → select_of bs r ≡ Some q → rank_of bs (q + 1) ≡ r + 1
rank_behind bs r q e =
    let s = select_place bs r q e in
    rank_step bs q ∙ ap₂ (λ (x : ℕ) (y : Bool). x + cond y 1 0) s.rank s.one

-- where no one is left, the number of ones below stays
rank_stays : (bs : List Bool) (p i : ℕ) → first_from bs p ≡ None → p ≤ i → rank_of bs i ≡ rank_of bs p
rank_stays bs p i e h = omega (arith, select_few bs (rank_of bs p) e, rank_all bs i, rank_rises_lem bs p i h)

next_more : (bs : List Bool) (k : ℕ) (s : Spot) → next_ones bs (suc k) s ≡ first_from bs s.0 ∷ next_ones bs k (after_one bs s (first_from bs s.0))
unfolding next_ones
next_more bs k s = refl

-- call r from a place with m ones below it
ones_from : (bs : List Bool) (k r p c m : ℕ) → r < k → rank_of bs p ≡ m → get_or (next_ones bs k (p, c)) r None ≡ select_of bs (m + r)
ones_from bs zero r p c m h e = absurd (not-suc-le-zero h)
ones_from bs (suc k) zero p c m h e =
    ap (λ (x : List (Option ℕ)). get_or x 0 None) (next_more bs k (p, c)) ∙ ap (select_of bs) (e ∙ sym (add-zero m))
ones_from bs (suc k) (suc r) p c m h e =
    ap (λ (x : List (Option ℕ)). get_or x (suc r) None) (next_more bs k (p, c)) ∙ by (first_from bs p) refl (λ p' c' m' e'. ones_from bs k r p' c' m' (omega arith) e')
  where
    by : (o : Option ℕ) → first_from bs p ≡ o → ((p' c' m' : ℕ) → rank_of bs p' ≡ m' → get_or (next_ones bs k (p', c')) r None ≡ select_of bs (m' + r)) → get_or (next_ones bs k (after_one bs (p, c) o)) r None ≡ select_of bs (m + suc r)
    by (Some q) f rest =
        let next : m + 1 + r ≡ m + suc r = omega arith in
        rest (q + 1) (c + 1) (m + 1) (rank_behind bs (rank_of bs p) q f ∙ ap (λ (x : ℕ). x + 1) e) ∙ ap (select_of bs) next
    by None f rest =
        let few : ones_among bs ≤ m = omega (arith, select_few bs (rank_of bs p) f, e) in
        rest (max p (last_word bs)) c m (rank_stays bs p (max p (last_word bs)) f (omega arith) ∙ e)
        ∙ select_none bs (m + r) (omega (arith, few)) ∙ sym (select_none bs (m + suc r) (omega (arith, few)))

pub ones_in_order_lem : OnesInOrder
ones_in_order_lem bs k r h = let e : 0 + r ≡ r = omega arith in ones_from bs k r 0 0 0 h (rank_none bs) ∙ ap (select_of bs) e

Right : List Bool → Spot → Type 0
Right bs s = s.1 ≡ rank_of bs s.0

one_right : (bs : List Bool) (s : Spot) (o : Option ℕ) → first_from bs s.0 ≡ o → Right bs s → Right bs (after_one bs s o)
unfolding Right
one_right bs s (Some q) f h = ap (λ (x : ℕ). x + 1) h ∙ sym (rank_behind bs (rank_of bs s.0) q f)
one_right bs s None f h = h ∙ sym (rank_stays bs s.0 (max s.0 (last_word bs)) f (omega arith))

step_right : (bs : List Bool) (p c : ℕ) → Right bs (p, c) → Right bs (step bs (p, c)).1
unfolding Right
step_right bs p c h = ⊎_elim
    (λ (lt : p < length bs). subst (λ (x : Option Bool × Spot). x.1.1 ≡ rank_of bs x.1.0) (sym (step_on bs p c lt)) (ap (λ (x : ℕ). x + cond (get_or bs p false) 1 0) h ∙ sym (rank_step bs p)))
    (λ (ge : length bs ≤ p). subst (λ (x : Option Bool × Spot). x.1.1 ≡ rank_of bs x.1.0) (sym (step_end bs p c ge)) h)
    (cases_lt p (length bs))

pos_right : (bs : List Bool) (t : ℕ) (s : Spot) → t < length bs → Right bs (to_pos bs t s).1
unfolding Right
pos_right bs t s h = subst (λ (x : Bool × Spot). x.1.1 ≡ rank_of bs x.1.0) (sym (on t s h)) refl
  where
    on : (t : ℕ) (s : Spot) → t < length bs → to_pos bs t s ≡ (true, (t, rank_of bs t))
    on t s h = simp (lt-ltb t (length bs) h)

rank_right : (bs : List Bool) (t : ℕ) (o : Option ℕ) → select_of bs t ≡ o → is_some o ≡ true → Right bs (behind_one bs t o)
unfolding Right
rank_right bs t (Some q) f some = sym (rank_behind bs t q f)
rank_right bs t None f some = absurd (false≢true some)

move_right : (bs : List Bool) (m : Move) (s : Spot) → Inside bs m s → Right bs s → Right bs (led bs m s)
move_right bs One s i h = one_right bs s (first_from bs s.0) refl h
move_right bs Step s i h = step_right bs s.0 s.1 h
move_right bs (Pos t) s i h = pos_right bs t s i.1
move_right bs (Rank t) s i h = rank_right bs t (select_of bs t) refl i.1

walk_right : (bs : List Bool) (ms : List Move) (s : Spot) → AllInside bs ms s → Right bs s → Right bs (walked bs ms s)
unfolding walked AllInside
walk_right bs [] s i h = h
walk_right bs (m ∷ ms) s i h = walk_right bs ms (led bs m s) i.1 (move_right bs m s i.0 h)

pub counts_below_lem : CountsBelow
unfolding Right
counts_below_lem bs ms i = walk_right bs ms fresh i (sym (rank_none bs))
