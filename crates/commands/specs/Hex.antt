-- Hexadecimal digits. Assumes nothing.
use Rattle.std.specs.Prelude.{ℕ, cond, Some, None, Option, nat_lt}
use Rattle.std.specs.Char.{digit_value}

abbrev pub hex_digit : ℕ → Option ℕ
hex_digit b = cond (nat_lt (digit_value b) 16) (Some (digit_value b)) None
