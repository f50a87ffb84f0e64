-- A checksum: each byte is added to 31 times the sum so far, in 32 bits. Assumes nothing: these are definitions.
use Rattle.std.specs.Prelude.{ℕ, ◌+◌, ◌*◌, ◌%◌, ◌^◌, List, fold}

abbrev pub mixed : ℕ → ℕ → ℕ
mixed sum x = (sum * 31 % 2 ^ 32 + x) % 2 ^ 32

abbrev pub all_mixed : List ℕ → ℕ
all_mixed xs = fold mixed 0 xs
