-- Bytes, and what a read or a write at a place of them does. Assumes nothing.
use Rattle.std.specs.Prelude.{◌≡◌, ℕ, ◌+◌, ◌<◌, ◌≤◌, List, ◌++◌, length, take, drop, Option, MatchOption}
use Rattle.std.specs.List.{AllByRecursion}

abbrev pub Bytes : List ℕ → Type 0
Bytes bs = AllByRecursion (λ b. b < 256) bs

-- what is read at a place is the value whose bytes stand there; nothing is read past the end
abbrev pub ReadAt : {V : Type 0} → ℕ → (V → List ℕ) → List ℕ → ℕ → Option V → Type 0
ReadAt width written bs at r = MatchOption r (length bs < at + width) (λ v. (at + width ≤ length bs) × (take width (drop at bs) ≡ written v))

-- what is put at a place stands there, the rest is as it was, and the place after it is told; what passes the end is not put
abbrev pub PutAt : List ℕ → List ℕ → ℕ → List ℕ → Option ℕ → Type 0
PutAt src was at after r =
    MatchOption r ((length was < at + length src) × (after ≡ was)) (λ end. (at + length src ≤ length was) × (end ≡ at + length src) × (after ≡ take at was ++ (src ++ drop (at + length src) was)))
