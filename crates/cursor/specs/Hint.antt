-- The bits of a word that a walk has not come to yet.
use Rattle.std.specs.Prelude.{ℕ, ◌*◌, ◌/◌, ◌^◌}

-- w without its r lowest bits
abbrev pub above : ℕ → ℕ → ℕ
above w r = w / 2 ^ r * 2 ^ r
