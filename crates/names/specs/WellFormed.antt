-- UTF-8 as Unicode's table of well-formed byte sequences has it. Assumes nothing.
use Rattle.std.specs.Prelude.{◌≡◌, ℕ, ◌<◌, ◌≤◌, ◌⊎◌, List, [], ◌∷◌, ◌++◌, length, take, IsUtf8}

-- a row of the table: for each byte of a sequence, the least and the largest that may stand there
abbrev pub Row : Type 0
Row = List (ℕ × ℕ)

abbrev pub tail : ℕ × ℕ
tail = (0x80, 0xBF)

abbrev pub rows : List Row
rows =
    ((0x00, 0x7F) ∷ [])
    ∷ ((0xC2, 0xDF) ∷ tail ∷ [])
    ∷ ((0xE0, 0xE0) ∷ (0xA0, 0xBF) ∷ tail ∷ [])
    ∷ ((0xE1, 0xEC) ∷ tail ∷ tail ∷ [])
    ∷ ((0xED, 0xED) ∷ (0x80, 0x9F) ∷ tail ∷ [])
    ∷ ((0xEE, 0xEF) ∷ tail ∷ tail ∷ [])
    ∷ ((0xF0, 0xF0) ∷ (0x90, 0xBF) ∷ tail ∷ tail ∷ [])
    ∷ ((0xF1, 0xF3) ∷ tail ∷ tail ∷ tail ∷ [])
    ∷ ((0xF4, 0xF4) ∷ (0x80, 0x8F) ∷ tail ∷ tail ∷ [])
    ∷ []

-- the bytes stand in the row, one in each place
abbrev pub Stands : Row → List ℕ → Type 0
Stands [] [] = Unit {0}
Stands [] (b ∷ bs) = ⊥
Stands (r ∷ rs) [] = ⊥
Stands (r ∷ rs) (b ∷ bs) = (r.0 ≤ b) × (b ≤ r.1) × Stands rs bs

abbrev pub InSome : List Row → List ℕ → Type 0
InSome [] bs = ⊥
InSome (r ∷ more) bs = Stands r bs ⊎ InSome more bs

-- one well-formed sequence
abbrev pub Sequence : List ℕ → Type 0
Sequence bs = InSome rows bs

abbrev pub Each : List (List ℕ) → Type 0
Each [] = Unit {0}
Each (s ∷ ss) = Sequence s × Each ss

abbrev pub joined : List (List ℕ) → List ℕ
joined [] = []
joined (s ∷ ss) = s ++ joined ss

-- well-formed sequences, one after the other
abbrev pub WellFormed : List ℕ → Type 0
WellFormed bs = (ss : List (List ℕ)) × (Each ss × (joined ss ≡ bs))

-- the first n bytes are the longest front that is well formed, and more follow
pub record Front (bs : List ℕ) (n : ℕ) : Type 0 where
  pub short : n < length bs
  pub good : WellFormed (take n bs)
  pub longest : (m : ℕ) → n < m → m ≤ length bs → WellFormed (take m bs) → ⊥

-- Unicode's table and the UTF-8 of `str` are one notion
abbrev pub WellFormedIsUtf8 : Type 0
WellFormedIsUtf8 = (bs : List ℕ) → (WellFormed bs → IsUtf8 bs) × (IsUtf8 bs → WellFormed bs)
