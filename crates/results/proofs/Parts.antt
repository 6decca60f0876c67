-- A column of results as the proofs see it: what its marks and its payloads hold and answer.
use Rattle.std.proofs.Common.{◌≡◌, ℕ, ◌+◌, Bool, true, List, length, is_ok, Result}
use Rattle.refusals.specs.declared.refusal.Refusal.{Ghosts as Refusing}
use Rattle.words.specs.declared.reading.ReadStore.{Ghosts}
use Rattle.words.specs.declared.reading.GrowStore.{Ghosts as Growing}
use Rattle.bitlaws.specs.Bits.{ones_among}
use Rattle.bits.specs.Columns.{column_bits, room_in}
use Rattle.columns.specs.declared.kind.Kind.{Ghosts as Kinds}
use Rattle.columns.specs.declared.column.Column.{Ghosts as Meant}
use Rattle.columns.specs.declared.column.Payload.{Ghosts as Paying}
use Rattle.results.specs.declared.results.Results.{Results}
use Rattle.results.specs.Limits.{limited, asked}
use Rattle.results.specs.Limiting.{limit_asks}

pub record Parts (A B F G : Type 0) : Type 0 where
  pub room : ℕ → Bool
  pub lo : List A → Bool
  pub le : List B → Bool
  pub ao : List A → List A → Result (Unit {0}) F
  pub ae : List B → List B → Result (Unit {0}) G
  pub po : ℕ → F
  pub pe : ℕ → G
  pub ask_oks : (xs ys : List A) → is_ok (ao xs ys) ≡ lo ys
  pub ask_errs : (xs ys : List B) → is_ok (ae xs ys) ≡ le ys
  pub bs : List Bool
  pub os : List A
  pub es : List B
  pub ones : length os ≡ ones_among bs
  pub zeros : ones_among bs + length es ≡ length bs
  pub held_oks : lo os ≡ true
  pub held_errs : le es ≡ true

module _ {S T A B F G K L C V : Type 0} {so : Meant S A F K} {st : Meant T B G L} {ro : Refusing F} {rt : Refusing G} {ko : Kinds K A} {kt : Kinds L B} {c : Ghosts C ℕ} {v : Ghosts V ℕ} (payo : Paying S A F K) (paye : Paying T B G L) (counts : Growing C ℕ) (values : Growing V ℕ) where
  abbrev pub parts : ((s : S) (xs ys : List A) → is_ok (payo.ask s xs ys) ≡ payo.limit s ys) → ((s : S) → payo.limit s (so.items s) ≡ true) → ((s : T) (xs ys : List B) → is_ok (paye.ask s xs ys) ≡ paye.limit s ys) → ((s : T) → paye.limit s (st.items s) ≡ true) → Results S T C V A F K B G L so ro ko st rt kt c v → Parts A B F G
  parts ask-oks held-oks ask-errs held-errs s = record {
    room = room_in counts values s.indexes;
    lo = payo.limit s.oks;
    le = paye.limit s.errs;
    ao = payo.ask s.oks;
    ae = paye.ask s.errs;
    po = ro.past;
    pe = rt.past;
    ask_oks = ask-oks s.oks;
    ask_errs = ask-errs s.errs;
    bs = column_bits v s.indexes;
    os = so.items s.oks;
    es = st.items s.errs;
    ones = s.ones;
    zeros = s.zeros;
    held_oks = held-oks s.oks;
    held_errs = held-errs s.errs;
  }

pub asks_all : {A B F G : Type 0} (p : Parts A B F G) (xs ys : List (Result A B)) → is_ok (asked p.room p.ao p.ae xs ys) ≡ limited p.room p.lo p.le ys
asks_all p = limit_asks p.room p.lo p.le p.ao p.ae p.ask_oks p.ask_errs
