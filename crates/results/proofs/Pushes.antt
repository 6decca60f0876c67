-- One more entry of a column of results.
use Rattle.std.proofs.Common.{◌≡◌, ◌+◌, Bool, true, false, List, [], ◌∷◌, ◌++◌, length, is_ok, Ok, Err, Result, sym, refl, ap, ◌∙◌, append-nil, arith, length-append}
use Rattle.std.specs.Result.{result_map_both}
use Rattle.refusals.specs.declared.fault.Fault.{Fault}
use Rattle.bits.specs.Columns.{push_answer}
use Rattle.columns.specs.Plain.{grown}
use Rattle.columns.proofs.Appends.{ok_answer, grown_by}
use Rattle.columns.proofs.Marked.{room_refused, room_granted}
use Rattle.results.specs.declared.fault.ResultsFault.{ResultsFault}
use Rattle.results.specs.declared.fault.ResultsFault.TheVariants.{Own, Oks, Errs}
use Rattle.results.specs.Entries.{merge, oks, errs, ok_marks}
use Rattle.results.specs.Limits.{limited, both, asked}
use Rattle.results.specs.EntriesLemmas.{merge_length, marks_more, oks_more, errs_more, oks_merge, errs_merge}
use Rattle.results.specs.Limiting.{asked_over, asked_within}
use Rattle.results.proofs.Parts.{Parts, asks_all}

-- nothing more for a payload
held_answer : {A F : Type 0} (lim : List A → Bool) (ask : List A → List A → Result (Unit {0}) F) (xs : List A) → ((xs ys : List A) → is_ok (ask xs ys) ≡ lim ys) → lim xs ≡ true → ask xs (xs ++ []) ≡ Ok tt
held_answer lim ask xs asks held = ok_answer _ (asks xs (xs ++ []) ∙ ap lim (append-nil xs) ∙ held)

-- one side alone
alone : {F G : Type 0} (q : Result (Unit {0}) F) → ◌≡◌ {A = Result (Unit {0}) (ResultsFault F G)} (result_map_both (λ u. u) (λ f. Oks f) q) (both {F = F} {G = G} q (Ok tt))
alone (Ok u) = refl
alone (Err f) = refl

module _ {A B F G : Type 0} (p : Parts A B F G) (x : Result A B) where
  abbrev old : List (Result A B)
  old = merge p.bs p.os p.es

  abbrev new : List (Result A B)
  new = merge p.bs p.os p.es ++ (x ∷ [])

  one_more : length new ≡ length p.bs + 1
  one_more = omega (arith, length-append old (x ∷ []), merge_length p.bs p.os p.es p.ones p.zeros)

  -- the marks have no room
  pub marks_refuse : (f : Fault) → Err f ≡ push_answer p.bs (p.room (length p.bs + 1)) → Err (Own f) ≡ asked p.room p.ao p.ae old new
  marks_refuse f told =
      let r = room_refused p.bs (p.room (length p.bs + 1)) f told in
      ap (λ g. Err (Own g)) r.1 ∙ sym (asked_over p.room p.lo p.le p.ao p.ae old new (length p.bs) (length p.bs + 1) (merge_length p.bs p.os p.es p.ones p.zeros) one_more (sym r.0))

  -- the entry's part in each payload
  module _ (mo : List A) (me : List B) (eo : oks (x ∷ []) ≡ mo) (ee : errs (x ∷ []) ≡ me) where
    decided : Ok tt ≡ push_answer p.bs (p.room (length p.bs + 1)) → asked p.room p.ao p.ae old new ≡ both (p.ao p.os (p.os ++ mo)) (p.ae p.es (p.es ++ me))
    decided granted =
        asked_within p.room p.lo p.le p.ao p.ae old new (length p.bs + 1) p.os (p.os ++ mo) p.es (p.es ++ me) one_more (sym (room_granted p.bs (p.room (length p.bs + 1)) granted))
        (oks_merge p.bs p.os p.es p.ones p.zeros) (oks_more p.bs p.os p.es p.ones p.zeros (x ∷ []) ∙ ap (λ l. p.os ++ l) eo)
        (errs_merge p.bs p.os p.es p.ones p.zeros) (errs_more p.bs p.os p.es p.ones p.zeros (x ∷ []) ∙ ap (λ l. p.es ++ l) ee)

    held : (bt : List Bool) (ot : List A) (et : List B) (b : Bool) → ok_marks (x ∷ []) ≡ b ∷ [] → bt ≡ p.bs ++ (b ∷ []) → ot ≡ p.os ++ mo → et ≡ p.es ++ me → (bt ≡ ok_marks new) × ((ot ≡ oks new) × (et ≡ errs new))
    held bt ot et b em q r s = (
      q ∙ ap (λ l. p.bs ++ l) (sym em) ∙ sym (marks_more p.bs p.os p.es p.ones p.zeros (x ∷ [])),
      (r ∙ ap (λ l. p.os ++ l) (sym eo) ∙ sym (oks_more p.bs p.os p.es p.ones p.zeros (x ∷ [])), s ∙ ap (λ l. p.es ++ l) (sym ee) ∙ sym (errs_more p.bs p.os p.es p.ones p.zeros (x ∷ []))),
    )

  -- the marks have room, and the payload of the entry's side decides
  pub ok_asked : Ok tt ≡ push_answer p.bs (p.room (length p.bs + 1)) → (v : A) → x ≡ Ok v → (r : Result (Unit {0}) F) → r ≡ p.ao p.os (p.os ++ (v ∷ [])) → result_map_both (λ u. u) Oks r ≡ asked p.room p.ao p.ae old new
  ok_asked granted v e r q =
      alone r ∙ ap (λ z. both z (Ok tt)) q ∙ ap (both (p.ao p.os (p.os ++ (v ∷ [])))) (sym (held_answer p.le p.ae p.es p.ask_errs p.held_errs))
      ∙ sym (decided (v ∷ []) [] (ap (λ x. oks (x ∷ [])) e) (ap (λ x. errs (x ∷ [])) e) granted)

  pub err_asked : Ok tt ≡ push_answer p.bs (p.room (length p.bs + 1)) → (w : B) → x ≡ Err w → (r : Result (Unit {0}) G) → r ≡ p.ae p.es (p.es ++ (w ∷ [])) → result_map_both (λ u. u) Errs r ≡ asked p.room p.ao p.ae old new
  err_asked granted w e r q =
      ap (λ z. both (Ok tt) z) q ∙ ap (λ z. both z (p.ae p.es (p.es ++ (w ∷ [])))) (sym (held_answer p.lo p.ao p.os p.ask_oks p.held_oks))
      ∙ sym (decided [] (w ∷ []) (ap (λ x. oks (x ∷ [])) e) (ap (λ x. errs (x ∷ [])) e) granted)

  -- the list after a push, by its answer
  pub list_after : (r : Result (Unit {0}) (ResultsFault F G)) → r ≡ asked p.room p.ao p.ae old new → (xs : List (Result A B)) → xs ≡ grown (is_ok r) old new → xs ≡ grown (limited p.room p.lo p.le new) old new
  list_after r told xs e = e ∙ grown_by (limited p.room p.lo p.le) (asked p.room p.ao p.ae) old new r (asks_all p old new) told

  -- what marks and payloads then hold
  pub ok_held : (v : A) → x ≡ Ok v → (bt : List Bool) (ot : List A) → bt ≡ p.bs ++ (true ∷ []) → ot ≡ grown (p.lo (p.os ++ (v ∷ []))) p.os (p.os ++ (v ∷ [])) → Ok tt ≡ p.ao p.os (p.os ++ (v ∷ [])) → (bt ≡ ok_marks new) × ((ot ≡ oks new) × (p.es ≡ errs new))
  ok_held v e bt ot q r told =
      held (v ∷ []) [] (ap (λ x. oks (x ∷ [])) e) (ap (λ x. errs (x ∷ [])) e) bt ot p.es true (ap (λ x. ok_marks (x ∷ [])) e) q
      (r ∙ sym (grown_by p.lo p.ao p.os (p.os ++ (v ∷ [])) (Ok tt) (p.ask_oks p.os (p.os ++ (v ∷ []))) told)) (sym (append-nil p.es))

  pub err_held : (w : B) → x ≡ Err w → (bt : List Bool) (et : List B) → bt ≡ p.bs ++ (false ∷ []) → et ≡ grown (p.le (p.es ++ (w ∷ []))) p.es (p.es ++ (w ∷ [])) → Ok tt ≡ p.ae p.es (p.es ++ (w ∷ [])) → (bt ≡ ok_marks new) × ((p.os ≡ oks new) × (et ≡ errs new))
  err_held w e bt et q r told =
      held [] (w ∷ []) (ap (λ x. oks (x ∷ [])) e) (ap (λ x. errs (x ∷ [])) e) bt p.os et false (ap (λ x. ok_marks (x ∷ [])) e) q (sym (append-nil p.os))
      (r ∙ sym (grown_by p.le p.ae p.es (p.es ++ (w ∷ [])) (Ok tt) (p.ask_errs p.es (p.es ++ (w ∷ []))) told))
