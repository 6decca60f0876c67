-- One more entry of a column of options.
use Rattle.std.proofs.Common.{◌≡◌, ◌+◌, Bool, true, false, List, [], ◌∷◌, ◌++◌, length, is_ok, Ok, Err, Some, None, Option, Result, sym, ap, ◌∙◌, append-nil, arith, length-append}
use Rattle.std.specs.Result.{result_map_both}
use Rattle.refusals.specs.declared.fault.Fault.{Fault}
use Rattle.bits.specs.Columns.{push_answer}
use Rattle.columns.specs.Plain.{grown}
use Rattle.columns.proofs.Appends.{ok_answer, grown_by}
use Rattle.columns.proofs.Marked.{room_refused, room_granted}
use Rattle.options.specs.declared.fault.OptionsFault.TheVariants.{Own, Somes}
use Rattle.options.specs.Entries.{merge, somes, some_marks}
use Rattle.options.specs.Limits.{limited, asked}
use Rattle.options.specs.EntriesLemmas.{merge_length, marks_more, somes_more, somes_merge}
use Rattle.options.specs.Limiting.{asked_over, asked_within}
use Rattle.options.proofs.Parts.{Parts, asks_all}

module _ {A F : Type 0} (p : Parts A F) (x : Option A) where
  abbrev old : List (Option A)
  old = merge p.bs p.ss

  abbrev new : List (Option A)
  new = merge p.bs p.ss ++ (x ∷ [])

  one_more : length new ≡ length p.bs + 1
  one_more = omega (arith, length-append old (x ∷ []), merge_length p.bs p.ss p.many)

  -- the marks have no room
  pub marks_refuse : (f : Fault) → Err f ≡ push_answer p.bs (p.room (length p.bs + 1)) → Err (Own f) ≡ asked p.room p.ask old new
  marks_refuse f told =
      let r = room_refused p.bs (p.room (length p.bs + 1)) f told in
      ap (λ g. Err (Own g)) r.1 ∙ sym (asked_over p.room p.lim p.ask old new (length p.bs) (length p.bs + 1) (merge_length p.bs p.ss p.many) one_more (sym r.0))

  -- they have, and the payload decides
  module _ (granted : Ok tt ≡ push_answer p.bs (p.room (length p.bs + 1))) where
    decided : (more : List A) → somes (x ∷ []) ≡ more → asked p.room p.ask old new ≡ result_map_both (λ u. u) Somes (p.ask p.ss (p.ss ++ more))
    decided more m =
        asked_within p.room p.lim p.ask old new (length p.bs + 1) p.ss (p.ss ++ more) one_more (sym (room_granted p.bs (p.room (length p.bs + 1)) granted))
        (somes_merge p.bs p.ss p.many) (somes_more p.bs p.ss p.many (x ∷ []) ∙ ap (λ l. p.ss ++ l) m)

    pub some_asked : (v : A) → x ≡ Some v → (r : Result (Unit {0}) F) → r ≡ p.ask p.ss (p.ss ++ (v ∷ [])) → result_map_both (λ u. u) Somes r ≡ asked p.room p.ask old new
    some_asked v e r q = ap (result_map_both (λ u. u) Somes) q ∙ sym (decided (v ∷ []) (ap (λ x. somes (x ∷ [])) e))

    pub none_asked : x ≡ None → Ok tt ≡ asked p.room p.ask old new
    none_asked e = ap (result_map_both (λ u. u) Somes) (sym (ok_answer _ (p.asks p.ss (p.ss ++ []) ∙ ap p.lim (append-nil p.ss) ∙ p.held))) ∙ sym (decided [] (ap (λ x. somes (x ∷ [])) e))

  -- the list after a push, by its answer
  pub list_after : (r : Result (Unit {0}) _) → r ≡ asked p.room p.ask old new → (xs : List (Option A)) → xs ≡ grown (is_ok r) old new → xs ≡ grown (limited p.room p.lim new) old new
  list_after r told xs e = e ∙ grown_by (limited p.room p.lim) (asked p.room p.ask) old new r (asks_all p old new) told

  -- what marks and payload then hold
  module _ (bt : List Bool) (st : List A) where
    both : (b : Bool) (more : List A) → bt ≡ p.bs ++ (b ∷ []) → st ≡ p.ss ++ more → some_marks (x ∷ []) ≡ b ∷ [] → somes (x ∷ []) ≡ more → (bt ≡ some_marks new) × (st ≡ somes new)
    both b more q r c m = (
      q ∙ ap (λ l. p.bs ++ l) (sym c) ∙ sym (marks_more p.bs p.ss p.many (x ∷ [])),
      r ∙ ap (λ l. p.ss ++ l) (sym m) ∙ sym (somes_more p.bs p.ss p.many (x ∷ [])),
    )

    pub some_held : (v : A) → x ≡ Some v → bt ≡ p.bs ++ (true ∷ []) → st ≡ grown (p.lim (p.ss ++ (v ∷ []))) p.ss (p.ss ++ (v ∷ [])) → Ok tt ≡ p.ask p.ss (p.ss ++ (v ∷ [])) → (bt ≡ some_marks new) × (st ≡ somes new)
    some_held v e q r told =
        both true (v ∷ []) q (r ∙ sym (grown_by p.lim p.ask p.ss (p.ss ++ (v ∷ [])) (Ok tt) (p.asks p.ss (p.ss ++ (v ∷ []))) told))
        (ap (λ x. some_marks (x ∷ [])) e) (ap (λ x. somes (x ∷ [])) e)

    pub none_held : x ≡ None → bt ≡ p.bs ++ (false ∷ []) → st ≡ p.ss → (bt ≡ some_marks new) × (st ≡ somes new)
    none_held e q r = both false [] q (r ∙ sym (append-nil p.ss)) (ap (λ x. some_marks (x ∷ [])) e) (ap (λ x. somes (x ∷ [])) e)
