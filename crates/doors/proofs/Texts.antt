-- The doors of a text, byte by byte.
use Rattle.std.proofs.Common.{◌≡◌, ℕ, ◌+◌, ◌<◌, Bool, List, [], ◌∷◌, ◌++◌, length, get_or, take, Result, sym, refl, ap, ◌∙◌}
use Rattle.std.proofs.lemmas.List.{append-nil, append_assoc, take_more}
use Rattle.doors.specs.declared.plan.Mark.{Mark}
use Rattle.doors.specs.declared.plan.Strange.{Strange}
use Rattle.doors.specs.Plan.{mark_of, doors_of, doors_in}

doors_append : (xs ys : List ℕ) → doors_in (xs ++ ys) ≡ doors_in xs ++ doors_in ys
unfolding doors_in
doors_append [] ys = refl
doors_append (x ∷ xs) ys = ap (λ (l : List Bool). doors_of (mark_of x) ++ l) (doors_append xs ys) ∙ sym (append_assoc (doors_of (mark_of x)) (doors_in xs) (doors_in ys))

doors_one : (b : ℕ) → doors_in (b ∷ []) ≡ doors_of (mark_of b)
unfolding doors_in
doors_one b = append-nil (doors_of (mark_of b))

-- one byte further
pub doors_more : (text : List ℕ) (at : ℕ) (m : Result Mark Strange) → at < length text → m ≡ mark_of (get_or text at 0) → (old : List Bool) → (old ++ doors_in (take at text)) ++ doors_of m ≡ old ++ doors_in (take (at + 1) text)
doors_more text at m h e old =
    append_assoc old (doors_in (take at text)) (doors_of m)
    ∙ ap (λ (x : List Bool). old ++ x)
    (ap (λ (x : List Bool). doors_in (take at text) ++ x) (ap doors_of e ∙ sym (doors_one (get_or text at 0)))
    ∙ sym (doors_append (take at text) (get_or text at 0 ∷ []))
    ∙ ap doors_in (sym (take_more text at 0 h)))

pub doors_none : doors_in [] ≡ []
unfolding doors_in
doors_none = refl
