-- What is stated and what is not: the two cases of an option. Assumes nothing.
use Rattle.std.proofs.Common.{◌≡◌, ℤ, Some, None, Option, refl}

pub by_stated : {P : Type 0} (o : Option ℤ) → ((n : ℤ) → o ≡ Some n → P) → (o ≡ None → P) → P
by_stated None s g = g refl
by_stated (Some n) s g = s n refl
