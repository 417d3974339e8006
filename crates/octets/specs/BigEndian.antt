-- Numbers in bytes, the highest byte first, and back. Assumes nothing.
use Rattle.std.specs.Prelude.{ℕ, zero, suc, ◌+◌, ◌*◌, ◌/◌, ◌%◌, ◌^◌, List, [], ◌∷◌, length, ℤ}
use Rattle.std.specs.Int.{w32}
use Rattle.std.proofs.Common.{of_z, to_z}

-- as many bytes of a number as the width says, from its end
abbrev pub big_endian : ℕ → ℕ → List ℕ
big_endian zero n = []
big_endian (suc zero) n = n % 256 ∷ []
big_endian (suc (suc k)) n = (n / 256 ^ suc k % 256) ∷ big_endian (suc k) n

abbrev pub be2 : ℕ → List ℕ
be2 n = big_endian 2 n

abbrev pub be4 : ℕ → List ℕ
be4 n = big_endian 4 n

abbrev pub be8 : ℕ → List ℕ
be8 n = big_endian 8 n

-- two's complement
abbrev pub be_id : ℤ → List ℕ
be_id z = be4 (of_z w32 z)

abbrev pub number : List ℕ → ℕ
number [] = 0
number (b ∷ bs) = b * 256 ^ length bs + number bs

abbrev pub id_number : List ℕ → ℤ
id_number bs = to_z w32 (number bs)
