-- What select means.
use Rattle.std.proofs.Common.{◌≡◌, ℕ, zero, suc, ◌+◌, ◌<◌, ◌≤◌, Bool, true, false, ◌⊎◌, List, [], ◌∷◌, length, Some, None, refl, ap, ◌∙◌, inl, inr, ⊎_elim, zero-le, arith}
use Rattle.std.proofs.lemmas.List.{take_all}
use Rattle.std.proofs.lemmas.Bool.{cases_lt}
use Rattle.bitlaws.specs.Bits.{ones_among, rank_of, after, select_of}
use Rattle.bitlaws.specs.Laws.{Selected, SelectFinds, SelectLacks}
use Rattle.bitlaws.proofs.Ranks.{rank_step, rank_rises_lem}

-- select answers a place with the r-th one, or there are too few
abbrev Found : List Bool → ℕ → Type 0
Found bs r = ((select_of bs r ≡ None) × (ones_among bs ≤ r)) ⊎ ((p : ℕ) × ((select_of bs r ≡ Some p) × Selected bs r p))

past_one : (bs : List Bool) (r : ℕ) → Found bs r → Found (true ∷ bs) (suc r)
unfolding select_of ones_among
past_one bs r (inl h) = inl (ap after h.0, omega (arith, h.1))
past_one bs r (inr h) = inr (suc h.0, (ap after h.1.0, record { one = h.1.1.one; rank = omega (arith, h.1.1.rank) }))

past_zero : (bs : List Bool) (r : ℕ) → Found bs r → Found (false ∷ bs) r
unfolding select_of ones_among
past_zero bs r (inl h) = inl (ap after h.0, omega (arith, h.1))
past_zero bs r (inr h) = inr (suc h.0, (ap after h.1.0, record { one = h.1.1.one; rank = omega (arith, h.1.1.rank) }))

found : (bs : List Bool) (r : ℕ) → Found bs r
unfolding select_of ones_among
found [] r = inl (refl, zero-le)
found (true ∷ bs) zero = inr (0, (refl, record { one = refl; rank = refl }))
found (true ∷ bs) (suc r) = past_one bs r (found bs r)
found (false ∷ bs) r = past_zero bs r (found bs r)

-- the ones below a one are fewer than all
below_all : (bs : List Bool) (r p : ℕ) → Selected bs r p → r < ones_among bs
below_all bs r p s =
    let next : rank_of bs (p + 1) ≡ r + 1 = rw (rank_step bs p, s.rank, s.one) refl in
    ⊎_elim
    (λ (h : p + 1 < length bs). omega (arith, next, rank_rises_lem bs (p + 1) (length bs) (omega arith), ap ones_among (take_all (length bs) bs (omega arith))))
    (λ (h : length bs ≤ p + 1). omega (arith, next, ap ones_among (take_all (p + 1) bs h)))
    (cases_lt (p + 1) (length bs))

-- two places with one rank and a one each are the same
same_place : (bs : List Bool) (r p q : ℕ) → Selected bs r p → Selected bs r q → p < q → ⊥
same_place bs r p q s t h =
    let next : rank_of bs (p + 1) ≡ r + 1 = rw (rank_step bs p, s.rank, s.one) refl in
    omega (arith, next, rank_rises_lem bs (p + 1) q (omega arith), t.rank)

pub select_some : (bs : List Bool) (r p : ℕ) → Selected bs r p → select_of bs r ≡ Some p
select_some bs r p s = elim (found bs r) [
  | inl h ↦ absurd (omega (arith, h.1, below_all bs r p s))
  | inr h ↦
      let above : h.0 < p → ⊥ = same_place bs r h.0 p h.1.1 s in
      let below : p < h.0 → ⊥ = same_place bs r p h.0 s h.1.1 in
      let e : h.0 ≡ p = omega arith in
      h.1.0 ∙ ap Some e
]

pub select_none : (bs : List Bool) (r : ℕ) → ones_among bs ≤ r → select_of bs r ≡ None
select_none bs r few = elim (found bs r) [ inl h ↦ h.0 | inr h ↦ absurd (omega (arith, few, below_all bs r h.0 h.1.1)) ]

pub select_place : (bs : List Bool) (r p : ℕ) → select_of bs r ≡ Some p → Selected bs r p
select_place bs r p e = elim (found bs r) [
  | inl h ↦ let n = h.0 in absurd (cc)
  | inr h ↦ let o = h.1.0 in let same : h.0 ≡ p = cc in rw same at h.1.1
]

-- where select answers none, there are too few
pub select_few : (bs : List Bool) (r : ℕ) → select_of bs r ≡ None → ones_among bs ≤ r
select_few bs r e = elim (found bs r) [ inl h ↦ h.1 | inr h ↦ let o = h.1.0 in absurd (cc) ]

pub select_finds_lem : SelectFinds
select_finds_lem bs r p = (select_place bs r p, select_some bs r p)

pub select_lacks_lem : SelectLacks
select_lacks_lem bs r = (
  λ e p s. let o = select_some bs r p s in cc,
  λ lacks. elim (found bs r) [ inl h ↦ h.0 | inr h ↦ absurd (lacks h.0 h.1.1) ],
)
