-- What writing a record to an output does. Assumes nothing.
use Rattle.std.specs.Prelude.{◌≡◌, ℕ, ◌+◌, ◌<◌, ◌≤◌, List, ◌++◌, length, take, drop, Result, MatchResult}
use Rattle.records.specs.declared.fault.RecordFault.{RecordFault}
use Rattle.records.specs.declared.fault.RecordFault.TheVariants.{MemoryShort}

-- the bytes are at the front of what the output holds after, and the rest is as it was; or 12 memory short, and all is as it was
abbrev pub Written : List ℕ → List ℕ → List ℕ → Result ℕ RecordFault → Type 0
Written bytes was after r =
    MatchResult r (λ n. (n ≡ length bytes) × (n ≤ length was) × (after ≡ bytes ++ drop n was)) (λ fault. (fault ≡ MemoryShort) × (length was < length bytes) × (after ≡ was))

-- what the output holds after bytes were put at a place
unfoldable pub laid : ℕ → List ℕ → List ℕ → List ℕ
laid at bytes was = take at was ++ (bytes ++ drop (at + length bytes) was)
