-- The check sum over bytes. Assumes nothing: these are definitions.
use Rattle.std.specs.Prelude.{ℕ, ◌+◌, ◌*◌, ◌%◌, List, fold}

abbrev pub sum_byte : ℕ → ℕ → ℕ
sum_byte s b = (s * 16777619 + b + 1) % 4294967291

abbrev pub sum_bytes : ℕ → List ℕ → ℕ
sum_bytes = fold sum_byte
