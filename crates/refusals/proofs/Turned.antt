-- What an answer was before its refusal was turned into another, as by `map_err`.
use Rattle.std.proofs.Common.{◌≡◌, Ok, Err, Result, is_ok, sym, ap, ◌∙◌}
use Rattle.std.proofs.lemmas.Bool.{true≢false}
use Rattle.std.specs.Result.{MatchResult}

abbrev taken : {A F : Type 0} → A → Result A F → A
taken d (Ok x) = x
taken d (Err f) = d

pub was_ok : {A E F : Type 0} (Q : E → Type 0) (r : Result A E) (s : Result A F) (x : A) → MatchResult r (λ y. s ≡ Ok y) Q → is_ok s ≡ is_ok r → s ≡ Ok x → r ≡ Ok x
was_ok Q (Ok y) s x h v e = ap (λ q. Ok (taken x q)) (sym h ∙ e)
was_ok Q (Err d) s x h v e = absurd (true≢false (sym (ap is_ok e) ∙ v))
