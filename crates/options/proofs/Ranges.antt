-- A range of entries of a column of options, added to another.
use Rattle.std.proofs.Common.{◌≡◌, ℕ, ◌+◌, ◌-◌, ◌<◌, ◌≤◌, Bool, true, false, ltb, List, ◌++◌, length, is_ok, Ok, Err, Option, Result, ⊎_elim, sym, refl, ap, ◌∙◌, arith, length-append, ltb-false, ltb-true}
use Rattle.std.specs.Result.{result_map_both}
use Rattle.refusals.specs.declared.fault.Fault.{Fault}
use Rattle.refusals.specs.declared.fault.Fault.TheVariants.{Full, Past}
use Rattle.bitlaws.specs.Bits.{rank_of}
use Rattle.bitlaws.proofs.Ranks.{rank_rises_lem}
use Rattle.bits.specs.Columns as marks
use Rattle.columns.specs.Plain.{grown, part, append_answer, append_list}
use Rattle.columns.proofs.Lists.{length_part}
use Rattle.columns.proofs.Appends.{answer_past, answer_in, answer_within, list_told}
use Rattle.columns.proofs.Marked.{rank_most, range_granted, range_refused}
use Rattle.options.specs.declared.fault.OptionsFault.{OptionsFault}
use Rattle.options.specs.declared.fault.OptionsFault.TheVariants.{Own, Somes}
use Rattle.options.specs.Entries.{merge, somes, some_marks}
use Rattle.options.specs.Limits.{limited, asked}
use Rattle.options.specs.EntriesLemmas.{merge_length, marks_more, somes_more, somes_merge, marks_part, somes_part}
use Rattle.options.specs.Limiting.{asked_over, asked_within}
use Rattle.options.proofs.Parts.{Parts, asks_all}

no_way : {A : Type 0} → ⊥ → A
no_way z = elim z [ ]

-- p is the column, q its source
module _ {A F : Type 0} (p q : Parts A F) (s e : ℕ) where
  abbrev old : List (Option A)
  old = merge p.bs p.ss

  abbrev src : List (Option A)
  src = merge q.bs q.ss

  abbrev new : List (Option A)
  new = merge p.bs p.ss ++ part (merge q.bs q.ss) s e

  -- what an append answers
  abbrev answer : Result (Unit {0}) (OptionsFault F)
  answer = append_answer (λ e. Own (Past e)) (asked p.room p.ask) (merge p.bs p.ss) (merge q.bs q.ss) s e

  -- the list after it, by its answer
  pub list_after : (r : Result (Unit {0}) (OptionsFault F)) → r ≡ answer → grown (is_ok r) old new ≡ append_list (limited p.room p.lim) old src s e
  list_after r told = ap (λ r. grown (is_ok r) old new) told ∙ sym (list_told (λ e. Own (Past e)) (asked p.room p.ask) (limited p.room p.lim) old src s e (asks_all p old))

  module _ (some : s < e) where
    past : length q.bs < e → answer ≡ Err (Own (Past e))
    past k = answer_past (λ e. Own (Past e)) (asked p.room p.ask) (limited p.room p.lim) old src s e some (omega (arith, k, merge_length q.bs q.ss q.many))

    module _ (inside : e ≤ length q.bs) where
      long : length new ≡ length p.bs + (e - s)
      long = omega (arith, length-append old (part src s e), merge_length p.bs p.ss p.many, merge_length q.bs q.ss q.many, length_part src s e (omega arith) (omega (arith, inside, merge_length q.bs q.ss q.many)))

      asked_for : answer ≡ asked p.room p.ask old new
      asked_for = answer_in (λ e. Own (Past e)) (asked p.room p.ask) (limited p.room p.lim) old src s e some (omega (arith, inside, merge_length q.bs q.ss q.many))

      over : p.room (length p.bs + (e - s)) ≡ false → answer ≡ Err (Own (Full (length p.bs)))
      over r = asked_for ∙ asked_over p.room p.lim p.ask old new (length p.bs) (length p.bs + (e - s)) (merge_length p.bs p.ss p.many) long (sym r)

    -- the marks refuse
    pub marks_refuse : (f : Fault) → Err f ≡ marks.append_answer p.bs (p.room (length p.bs + (e - s))) q.bs e → Err (Own f) ≡ answer
    marks_refuse f told = ⊎_elim
        (λ (k : (length q.bs < e) × (f ≡ Past e)). ap (λ g. Err (Own g)) k.1 ∙ sym (past k.0))
        (λ (k : (e ≤ length q.bs) × ((p.room (length p.bs + (e - s)) ≡ false) × (f ≡ Full (length p.bs)))). ap (λ g. Err (Own g)) k.1.1 ∙ sym (over k.0 k.1.0))
        (range_refused p.bs (p.room (length p.bs + (e - s))) q.bs e f told)

    -- a granted range lies within its source
    pub granted_end : Ok tt ≡ answer → e ≤ length q.bs
    granted_end told = go (ltb (length q.bs) e) refl
      where
        go : (b : Bool) → ltb (length q.bs) e ≡ b → e ≤ length q.bs
        go true k = let z = told ∙ past (ltb-true _ _ k) in let w : ◌≡◌ {A = ℕ} 0 1 = cc in no_way (omega arith)
        go false k = ltb-false _ _ k

    -- and within the limit of the marks
    pub granted_marks : Ok tt ≡ answer → p.room (length p.bs + (e - s)) ≡ true
    granted_marks told = go (p.room (length p.bs + (e - s))) refl
      where
        go : (b : Bool) → p.room (length p.bs + (e - s)) ≡ b → p.room (length p.bs + (e - s)) ≡ true
        go true k = k
        go false k = let z = told ∙ over (granted_end told) k in let w : ◌≡◌ {A = ℕ} 0 1 = cc in no_way (omega arith)

    -- m to n - 1 are the places of its items
    module _ (m n : ℕ) (from : m ≡ rank_of q.bs s) (to : n ≡ rank_of q.bs e) where
      items : somes new ≡ p.ss ++ part q.ss m n
      items = rw (from, to) (somes_more p.bs p.ss p.many (part src s e) ∙ ap (λ l. p.ss ++ l) (somes_part q.bs q.ss q.many s e (omega arith)))

      payload : append_answer p.past p.ask p.ss q.ss m n ≡ p.ask p.ss (p.ss ++ part q.ss m n)
      payload = answer_within p.past p.ask p.lim p.ss q.ss m n (p.asks p.ss) (omega (arith, from, to, rank_rises_lem q.bs s e (omega arith))) (omega (arith, to, rank_most q.bs e, q.many)) p.held

      decided : e ≤ length q.bs → p.room (length p.bs + (e - s)) ≡ true → answer ≡ result_map_both (λ u. u) Somes (append_answer p.past p.ask p.ss q.ss m n)
      decided inside r =
          asked_for inside
          ∙ asked_within p.room p.lim p.ask old new (length p.bs + (e - s)) p.ss (p.ss ++ part q.ss m n) (long inside) (sym r) (somes_merge p.bs p.ss p.many) items
          ∙ ap (result_map_both (λ u. u) Somes) (sym payload)

      -- the marks grant it, and the payload decides
      pub payload_decides : Ok tt ≡ marks.append_answer p.bs (p.room (length p.bs + (e - s))) q.bs e → (r : Result (Unit {0}) F) → r ≡ append_answer p.past p.ask p.ss q.ss m n → result_map_both (λ u. u) Somes r ≡ answer
      payload_decides told r d =
          let k = range_granted p.bs (p.room (length p.bs + (e - s))) q.bs e told in
          ap (result_map_both (λ u. u) Somes) d ∙ sym (decided k.0 k.1)

      -- a granted range is within the payload's limit
      pub granted_items : Ok tt ≡ answer → append_answer p.past p.ask p.ss q.ss m n ≡ Ok tt
      granted_items told = go (append_answer p.past p.ask p.ss q.ss m n) (told ∙ decided (granted_end told) (granted_marks told))
        where
          go : (r : Result (Unit {0}) F) → Ok tt ≡ result_map_both (λ u. u) (λ f. Somes f) r → r ≡ Ok tt
          go (Ok u) k = refl
          go (Err f) k = let z : ◌≡◌ {A = ℕ} 0 1 = cc in no_way (omega arith)

      -- what marks and payload hold when it is added
      pub range_held : (bt : List Bool) (st : List A) → bt ≡ p.bs ++ part q.bs s e → st ≡ p.ss ++ part q.ss m n → (bt ≡ some_marks new) × (st ≡ somes new)
      range_held bt st a b = (a ∙ sym (marks_more p.bs p.ss p.many (part src s e) ∙ ap (λ l. p.bs ++ l) (marks_part q.bs q.ss q.many s e)), b ∙ sym items)
