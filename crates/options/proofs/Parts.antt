-- A column of options as the proofs see it: what its marks and its payload hold and answer.
use Rattle.std.proofs.Common.{◌≡◌, ℕ, Bool, true, List, length, is_ok, Option, Result}
use Rattle.refusals.specs.declared.refusal.Refusal.{Ghosts as Refusing}
use Rattle.words.specs.declared.reading.ReadStore.{Ghosts}
use Rattle.words.specs.declared.reading.GrowStore.{Ghosts as Growing}
use Rattle.bitlaws.specs.Bits.{ones_among}
use Rattle.bits.specs.Columns.{column_bits, room_in}
use Rattle.columns.specs.declared.kind.Kind.{Ghosts as Kinds}
use Rattle.columns.specs.declared.column.Column.{Ghosts as Meant}
use Rattle.columns.specs.declared.column.Payload.{Ghosts as Paying}
use Rattle.options.specs.declared.options.Options.{Options}
use Rattle.options.specs.Limits.{limited, asked}
use Rattle.options.specs.Limiting.{limit_asks}

pub record Parts (A F : Type 0) : Type 0 where
  pub room : ℕ → Bool
  pub lim : List A → Bool
  pub ask : List A → List A → Result (Unit {0}) F
  pub past : ℕ → F
  pub asks : (xs ys : List A) → is_ok (ask xs ys) ≡ lim ys
  pub bs : List Bool
  pub ss : List A
  pub many : length ss ≡ ones_among bs
  pub held : lim ss ≡ true

module _ {T A F K C V : Type 0} {column : Meant T A F K} {refusal : Refusing F} {kind : Kinds K A} {c : Ghosts C ℕ} {v : Ghosts V ℕ} (payload : Paying T A F K) (counts : Growing C ℕ) (values : Growing V ℕ) where
  abbrev pub parts : ((s : T) (xs ys : List A) → is_ok (payload.ask s xs ys) ≡ payload.limit s ys) → ((s : T) → payload.limit s (column.items s) ≡ true) → Options T C V A F K column refusal kind c v → Parts A F
  parts asks holds s = record {
    room = room_in counts values s.indexes;
    lim = payload.limit s.somes;
    ask = payload.ask s.somes;
    past = refusal.past;
    asks = asks s.somes;
    bs = column_bits v s.indexes;
    ss = column.items s.somes;
    many = s.many;
    held = holds s.somes;
  }

pub asks_all : {A F : Type 0} (p : Parts A F) (xs ys : List (Option A)) → is_ok (asked p.room p.ask xs ys) ≡ limited p.room p.lim ys
asks_all p = limit_asks p.room p.lim p.ask p.asks
