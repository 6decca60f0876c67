-- A range of entries of a column of results, added to another.
use Rattle.std.proofs.Common.{◌≡◌, ℕ, ◌+◌, ◌-◌, ◌<◌, ◌≤◌, Bool, true, false, ltb, List, ◌++◌, length, is_ok, Ok, Err, Result, ⊎_elim, sym, refl, ap, ◌∙◌, arith, length-append, ltb-false, ltb-true}
use Rattle.std.specs.Result.{result_map_both}
use Rattle.refusals.specs.declared.fault.Fault.{Fault}
use Rattle.refusals.specs.declared.fault.Fault.TheVariants.{Full, Past}
use Rattle.bitlaws.specs.Bits.{rank_of}
use Rattle.bitlaws.proofs.Ranks.{rank_rises_lem}
use Rattle.bits.specs.Columns as marks
use Rattle.columns.specs.Plain.{grown, part, append_answer, append_list}
use Rattle.columns.proofs.Lists.{length_part}
use Rattle.columns.proofs.Appends.{answer_past, answer_in, answer_within, list_told, inner_ok}
use Rattle.columns.proofs.Marked.{rank_most, zeros_rise, zeros_most, range_granted, range_refused}
use Rattle.results.specs.declared.fault.ResultsFault.{ResultsFault}
use Rattle.results.specs.declared.fault.ResultsFault.TheVariants.{Own, Oks, Errs}
use Rattle.results.specs.Entries.{merge, oks, errs, ok_marks}
use Rattle.results.specs.Limits.{limited, both, asked}
use Rattle.results.specs.EntriesLemmas.{merge_length, marks_more, oks_more, errs_more, oks_merge, errs_merge, marks_part, oks_part, errs_part}
use Rattle.results.specs.Limiting.{asked_over, asked_within}
use Rattle.results.proofs.Parts.{Parts, asks_all}

no_way : {A : Type 0} → ⊥ → A
no_way z = elim z [ ]

both_ok : {F G : Type 0} (r : Result (Unit {0}) F) (q : Result (Unit {0}) G) → Ok tt ≡ both r q → (r ≡ Ok tt) × (q ≡ Ok tt)
both_ok (Ok u) (Ok v) e = (refl, refl)
both_ok (Ok u) (Err g) e = let z : ◌≡◌ {A = ℕ} 0 1 = cc in no_way (omega arith)
both_ok (Err f) q e = let z : ◌≡◌ {A = ℕ} 0 1 = cc in no_way (omega arith)

-- p is the column, q its source
module _ {A B F G : Type 0} (p q : Parts A B F G) (s e : ℕ) where
  abbrev old : List (Result A B)
  old = merge p.bs p.os p.es

  abbrev src : List (Result A B)
  src = merge q.bs q.os q.es

  abbrev new : List (Result A B)
  new = merge p.bs p.os p.es ++ part (merge q.bs q.os q.es) s e

  -- what an append answers
  abbrev answer : Result (Unit {0}) (ResultsFault F G)
  answer = append_answer (λ e. Own (Past e)) (asked p.room p.ao p.ae) (merge p.bs p.os p.es) (merge q.bs q.os q.es) s e

  -- the list after it, by its answer
  pub list_after : (r : Result (Unit {0}) (ResultsFault F G)) → r ≡ answer → grown (is_ok r) old new ≡ append_list (limited p.room p.lo p.le) old src s e
  list_after r told = ap (λ r. grown (is_ok r) old new) told ∙ sym (list_told (λ e. Own (Past e)) (asked p.room p.ao p.ae) (limited p.room p.lo p.le) old src s e (asks_all p old))

  module _ (some : s < e) where
    past : length q.bs < e → answer ≡ Err (Own (Past e))
    past k = answer_past (λ e. Own (Past e)) (asked p.room p.ao p.ae) (limited p.room p.lo p.le) old src s e some (omega (arith, k, merge_length q.bs q.os q.es q.ones q.zeros))

    module _ (inside : e ≤ length q.bs) where
      long : length new ≡ length p.bs + (e - s)
      long = omega (arith, length-append old (part src s e), merge_length p.bs p.os p.es p.ones p.zeros, merge_length q.bs q.os q.es q.ones q.zeros, length_part src s e (omega arith) (omega (arith, inside, merge_length q.bs q.os q.es q.ones q.zeros)))

      asked_for : answer ≡ asked p.room p.ao p.ae old new
      asked_for = answer_in (λ e. Own (Past e)) (asked p.room p.ao p.ae) (limited p.room p.lo p.le) old src s e some (omega (arith, inside, merge_length q.bs q.os q.es q.ones q.zeros))

      over : p.room (length p.bs + (e - s)) ≡ false → answer ≡ Err (Own (Full (length p.bs)))
      over r = asked_for ∙ asked_over p.room p.lo p.le p.ao p.ae old new (length p.bs) (length p.bs + (e - s)) (merge_length p.bs p.os p.es p.ones p.zeros) long (sym r)

    -- the marks refuse
    pub marks_refuse : (f : Fault) → Err f ≡ marks.append_answer p.bs (p.room (length p.bs + (e - s))) q.bs e → Err (Own f) ≡ answer
    marks_refuse f told = ⊎_elim
        (λ (k : (length q.bs < e) × (f ≡ Past e)). ap (λ g. Err (Own g)) k.1 ∙ sym (past k.0))
        (λ (k : (e ≤ length q.bs) × ((p.room (length p.bs + (e - s)) ≡ false) × (f ≡ Full (length p.bs)))). ap (λ g. Err (Own g)) k.1.1 ∙ sym (over k.0 k.1.0))
        (range_refused p.bs (p.room (length p.bs + (e - s))) q.bs e f told)

    -- a granted range lies within its source
    pub granted_end : Ok tt ≡ answer → e ≤ length q.bs
    granted_end told = go (ltb (length q.bs) e) refl
      where
        go : (b : Bool) → ltb (length q.bs) e ≡ b → e ≤ length q.bs
        go true k = let z = told ∙ past (ltb-true _ _ k) in let w : ◌≡◌ {A = ℕ} 0 1 = cc in no_way (omega arith)
        go false k = ltb-false _ _ k

    -- and within the limit of the marks
    pub granted_marks : Ok tt ≡ answer → p.room (length p.bs + (e - s)) ≡ true
    granted_marks told = go (p.room (length p.bs + (e - s))) refl
      where
        go : (b : Bool) → p.room (length p.bs + (e - s)) ≡ b → p.room (length p.bs + (e - s)) ≡ true
        go true k = k
        go false k = let z = told ∙ over (granted_end told) k in let w : ◌≡◌ {A = ℕ} 0 1 = cc in no_way (omega arith)

    -- m to n - 1 are the places of its Ok items, and s - m to e - n - 1 those of its Err items
    module _ (m n : ℕ) (from : m ≡ rank_of q.bs s) (to : n ≡ rank_of q.bs e) (inside : e ≤ length q.bs) where
      okays : oks new ≡ p.os ++ part q.os m n
      okays = rw (from, to) (oks_more p.bs p.os p.es p.ones p.zeros (part src s e) ∙ ap (λ l. p.os ++ l) (oks_part q.bs q.os q.es q.ones q.zeros s e (omega arith)))

      errings : errs new ≡ p.es ++ part q.es (s - m) (e - n)
      errings = rw (from, to) (errs_more p.bs p.os p.es p.ones p.zeros (part src s e) ∙ ap (λ l. p.es ++ l) (errs_part q.bs q.os q.es q.ones q.zeros s e (omega arith) inside))

      abbrev oks_answer : Result (Unit {0}) F
      oks_answer = append_answer p.po p.ao p.os q.os m n

      abbrev errs_answer : Result (Unit {0}) G
      errs_answer = append_answer p.pe p.ae p.es q.es (s - m) (e - n)

      oks_asked : oks_answer ≡ p.ao p.os (p.os ++ part q.os m n)
      oks_asked = answer_within p.po p.ao p.lo p.os q.os m n (p.ask_oks p.os) (omega (arith, from, to, rank_rises_lem q.bs s e (omega arith))) (omega (arith, to, rank_most q.bs e, q.ones)) p.held_oks

      errs_asked : errs_answer ≡ p.ae p.es (p.es ++ part q.es (s - m) (e - n))
      errs_asked =
          answer_within p.pe p.ae p.le p.es q.es (s - m) (e - n) (p.ask_errs p.es)
          (omega (arith, from, to, zeros_rise q.bs s e (omega arith))) (omega (arith, to, zeros_most q.bs e (length q.es) inside q.zeros)) p.held_errs

      decided : p.room (length p.bs + (e - s)) ≡ true → answer ≡ both oks_answer errs_answer
      decided r =
          asked_for inside
          ∙ asked_within p.room p.lo p.le p.ao p.ae old new (length p.bs + (e - s)) p.os (p.os ++ part q.os m n) p.es (p.es ++ part q.es (s - m) (e - n)) (long inside) (sym r)
          (oks_merge p.bs p.os p.es p.ones p.zeros) okays (errs_merge p.bs p.os p.es p.ones p.zeros) errings
          ∙ ap (λ z. both z (p.ae p.es (p.es ++ part q.es (s - m) (e - n)))) (sym oks_asked)
          ∙ ap (both oks_answer) (sym errs_asked)

      -- the marks grant it; the Ok payload refuses, or the Err payload decides
      module _ (granted : Ok tt ≡ marks.append_answer p.bs (p.room (length p.bs + (e - s))) q.bs e) where
        whole : answer ≡ both oks_answer errs_answer
        whole = decided (range_granted p.bs (p.room (length p.bs + (e - s))) q.bs e granted).1

        pub oks_refuse : (f : ResultsFault F G) (r : Result (Unit {0}) F) → Err f ≡ result_map_both (λ u. u) Oks r → r ≡ oks_answer → Err f ≡ answer
        oks_refuse f r k a = go r k a ∙ sym whole
          where
            go : (r : Result (Unit {0}) F) → Err f ≡ result_map_both (λ u. u) Oks r → r ≡ oks_answer → Err f ≡ both oks_answer errs_answer
            go (Ok u) k a = let z : ◌≡◌ {A = ℕ} 0 1 = cc in no_way (omega arith)
            go (Err g) k a = k ∙ ap (λ z. both z errs_answer) a

        pub errs_decide : (r : Result (Unit {0}) F) → ◌≡◌ {A = Result (Unit {0}) (ResultsFault F G)} (Ok tt) (result_map_both (λ u. u) Oks r) → r ≡ oks_answer → (t : Result (Unit {0}) G) → t ≡ errs_answer → result_map_both (λ u. u) Errs t ≡ answer
        errs_decide r k a t b = ap (both (Ok tt)) b ∙ ap (λ z. both z errs_answer) (sym (inner_ok Oks tt r k) ∙ a) ∙ sym whole

      -- a granted range is within both payloads' limits
      pub granted_oks : Ok tt ≡ answer → oks_answer ≡ Ok tt
      granted_oks told = (both_ok _ _ (told ∙ decided (granted_marks told))).0

      pub granted_errs : Ok tt ≡ answer → errs_answer ≡ Ok tt
      granted_errs told = (both_ok _ _ (told ∙ decided (granted_marks told))).1

      -- what marks and payloads hold when it is added
      pub range_held : (bt : List Bool) (ot : List A) (et : List B) → bt ≡ p.bs ++ part q.bs s e → ot ≡ p.os ++ part q.os m n → et ≡ p.es ++ part q.es (s - m) (e - n) → (bt ≡ ok_marks new) × ((ot ≡ oks new) × (et ≡ errs new))
      range_held bt ot et a b c = (
        a ∙ sym (marks_more p.bs p.os p.es p.ones p.zeros (part src s e) ∙ ap (λ l. p.bs ++ l) (marks_part q.bs q.os q.es q.ones q.zeros s e)),
        (b ∙ sym okays, c ∙ sym errings),
      )
