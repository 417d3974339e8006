-- A column and its bytes: each type stands at its code, and each has the parameters that are read.
use Rattle.std.proofs.Common.{◌≡◌, ℕ, zero, suc, ◌+◌, ◌*◌, ◌/◌, ◌%◌, ◌^◌, ◌<◌, Bool, true, false, leb, List, [], ◌∷◌, get_or, drop, Some, None, sym, refl, ap, ◌∙◌, subst, ⊎_elim, arith, rules, lit<}
use Rattle.std.specs.List.{slice_get}
use Rattle.std.proofs.lemmas.Option.{slice_get_past, slice_get-get_or}
use Rattle.std.proofs.lemmas.Bool.{cases_lt, le-leb, lt-leb}
use Rattle.octets.specs.BigEndian.{be8}
use Rattle.octets.proofs.Numbers.{be_append, same_from_be}
use Rattle.schemas.specs.declared.schema.Column.{Column}
use Rattle.transforms.specs.declared.datatypes.PrimitiveType.TheVariants.{Boolean, Int, Long, Float, Double, Decimal, Date, Time, Timestamp, Timestamptz, TimestampNs, TimestamptzNs, String, Uuid, Fixed, Binary}
use Rattle.transforms.specs.declared.datatypes.«Type».{«Type» as ColumnType}
use Rattle.transforms.specs.declared.datatypes.«Type».TheVariants.{Primitive, Struct, List as Listed, Map}
use Rattle.sheets.specs.TypeCodes.{code, mark, Parameters, none, two, one, parameters, parameter_bytes, Fit, column_bytes}
use Rattle.sheets.specs.Decoded.{number_of, types, column_at}
use Rattle.sheets.specs.Standing.{ColumnOf}

pub number_fits : (p : Parameters) → Fit p → number_of p < 2 ^ 64
number_fits none f = lit< tt
number_fits (two m n) f = omega (arith, f.0, f.1)
number_fits (one n) f = f

pub parameters_be : (p : Parameters) → Fit p → parameter_bytes p ≡ be8 (number_of p)
parameters_be none f = refl
parameters_be (two m n) f = be_append 4 4 m n f.0 f.1
parameters_be (one n) f = refl

low_part : (m n : ℕ) → n < 2 ^ 32 → (m * 4294967296 + n) % 4294967296 ≡ n
low_part m n h = omega arith

high_part : (m n : ℕ) → n < 2 ^ 32 → (m * 4294967296 + n) / 4294967296 ≡ m
high_part m n h = omega arith

-- each type stands at its code
pub type_at : (t : ColumnType) → Fit (parameters t) → slice_get (types (number_of (parameters t))) (code t) ≡ Some t
type_at (Primitive Boolean) f = refl
type_at (Primitive Int) f = refl
type_at (Primitive Long) f = refl
type_at (Primitive Float) f = refl
type_at (Primitive Double) f = refl
type_at (Primitive (Decimal m n)) f = λ i. Some (Primitive (Decimal (high_part m n f.1 i) (low_part m n f.1 i)))
type_at (Primitive Date) f = refl
type_at (Primitive Time) f = refl
type_at (Primitive Timestamp) f = refl
type_at (Primitive Timestamptz) f = refl
type_at (Primitive TimestampNs) f = refl
type_at (Primitive TimestamptzNs) f = refl
type_at (Primitive String) f = refl
type_at (Primitive Uuid) f = refl
type_at (Primitive (Fixed n)) f = refl
type_at (Primitive Binary) f = refl
type_at (Struct n) f = ap (λ k. Some (Struct k)) (low_part 0 n f.1)
type_at (Listed n) f = ap (λ k. Some (Listed k)) (low_part 0 n f.1)
type_at (Map n) f = ap (λ k. Some (Map k)) (low_part 0 n f.1)

code_below : (t : ColumnType) → Fit (parameters t) → code t < 19
code_below t f =
    ⊎_elim (λ lt. lt)
    (λ past. let e = type_at t f in let g = slice_get_past (types (number_of (parameters t))) (code t) past in let z : ◌≡◌ {A = ℕ} 0 1 = cc in absurd (omega arith))
    (cases_lt (code t) 19)

-- a property of each element and its place, from the place i on
abbrev EachFrom : {X : Type 0} → (ℕ → X → Type 0) → ℕ → List X → Type 0
EachFrom P i [] = Unit {0}
EachFrom P i (x ∷ xs) = P i x × EachFrom P (suc i) xs

each_nth : {X : Type 0} (P : ℕ → X → Type 0) (i k : ℕ) (xs : List X) (x : X) → EachFrom P i xs → slice_get xs k ≡ Some x → P (i + k) x
each_nth P i k [] x each e = let z : ◌≡◌ {A = ℕ} 0 1 = cc in absurd (omega arith)
each_nth P i zero (y ∷ xs) x each e = let s : y ≡ x = cc in subst (λ n. P n x) (omega arith) (subst (P i) s each.0)
each_nth P i (suc k) (y ∷ xs) x each e = subst (λ n. P n x) (omega arith) (each_nth P (suc i) k xs x each.1 e)

-- the type has the code, and parameters that fit
pub record Coded (k : ℕ) (t : ColumnType) : Type 0 where
  pub code : code t ≡ k
  pub fits : Fit (parameters t)

plain : (t : ColumnType) → Fit (parameters t) → Coded (code t) t
plain t f = record { code = refl; fits = f }

all_coded : (n : ℕ) → n < 2 ^ 64 → EachFrom Coded 0 (types n)
all_coded n h =
    let low : n % 4294967296 < 2 ^ 32 = omega arith in
    let high : n / 4294967296 < 2 ^ 32 = omega arith in
    search (rules, plain, lit<)

pub coded : (n k : ℕ) (t : ColumnType) → n < 2 ^ 64 → slice_get (types n) k ≡ Some t → Coded k t
coded n k t h e = let r = each_nth Coded 0 k (types n) t (all_coded n h) e in subst (λ j. Coded j t) (omega arith) r

marked_byte : (byte : ℕ) → byte < 256 → byte % 128 + mark (leb 128 byte) ≡ byte
marked_byte byte h =
    ⊎_elim (λ lt. ap (λ b. byte % 128 + mark b) (lt-leb 128 byte lt) ∙ omega arith) (λ le. ap (λ b. byte % 128 + mark b) (le-leb 128 byte le) ∙ omega arith) (cases_lt byte 128)

-- what is read is a column with these bytes
pub column_read : (byte n : ℕ) (t : ColumnType) (b : Bool) → byte < 256 → n < 2 ^ 64 → slice_get (types n) (byte % 128) ≡ Some t → number_of (parameters t) ≡ n → b ≡ leb 128 byte
    → ColumnOf byte n (record { field_type = t; is_marked = b })
unfolding column_bytes
column_read byte n t b h k e p q =
    let c = coded n (byte % 128) t k e in
    record {
      is = (λ i. (c.code i + mark (q i)) ∷ parameters_be (parameters t) c.fits i) ∙ (λ i. marked_byte byte h i ∷ be8 (p i));
      fits = c.fits;
    }

split_code : (c : ℕ) (b : Bool) → c < 19 → ((c + mark b) % 128 ≡ c) × (leb 128 (c + mark b) ≡ b)
split_code c true h = (omega arith, le-leb 128 (c + 128) (omega arith))
split_code c false h = (omega arith, lt-leb 128 (c + 0) (omega arith))

pub record Found (byte n : ℕ) (column : Column) : Type 0 where
  pub type : slice_get (types n) (byte % 128) ≡ Some column.field_type
  pub mark : leb 128 byte ≡ column.is_marked
  pub number : number_of (parameters column.field_type) ≡ n

-- and every column with these bytes is read
pub column_found : (byte n : ℕ) (column : Column) → n < 2 ^ 64 → ColumnOf byte n column → Found byte n column
unfolding column_bytes
column_found byte n column h c =
    let t = column.field_type in
    let b = column.is_marked in
    let first : code t + mark b ≡ byte = ap (λ l. get_or l 0 0) c.is in
    let rest : parameter_bytes (parameters t) ≡ be8 n = ap (drop 1) c.is in
    let s = split_code (code t) b (code_below t c.fits) in
    let num : number_of (parameters t) ≡ n = same_from_be 8 (number_of (parameters t)) n (number_fits (parameters t) c.fits) h (sym (parameters_be (parameters t) c.fits) ∙ rest) in
    record {
      type = (λ i. slice_get (types (sym num i)) ((ap (λ k. k % 128) (sym first) ∙ s.0) i)) ∙ type_at t c.fits;
      mark = ap (leb 128) (sym first) ∙ s.1;
      number = num;
    }

pub no_type : (byte n : ℕ) → n < 2 ^ 64 → None ≡ slice_get (types n) (byte % 128) → (column : Column) → ColumnOf byte n column → ⊥
no_type byte n h e column c = let f = column_found byte n column h c in let t = f.type in let z : ◌≡◌ {A = ℕ} 0 1 = cc in omega arith

pub other_parameters : (byte n : ℕ) (t : ColumnType) → n < 2 ^ 64 → Some t ≡ slice_get (types n) (byte % 128) → (number_of (parameters t) ≡ n → ⊥) → (column : Column) → ColumnOf byte n column → ⊥
other_parameters byte n t h e no' column c =
    let f = column_found byte n column h c in
    let found = f.type in
    let same : t ≡ column.field_type = cc in
    no' (ap (λ x. number_of (parameters x)) same ∙ f.number)

-- the column that is read at its own bytes
pub column_again : (column : Column) → Fit (parameters column.field_type) → column_at (code column.field_type + mark column.is_marked) (number_of (parameters column.field_type)) ≡ column
column_again column f =
    let t = column.field_type in
    let b = column.is_marked in
    let s = split_code (code t) b (code_below t f) in
    let n = number_of (parameters t) in
    let some : Some (get_or (types n) (code t) (Primitive Boolean)) ≡ Some t = sym (slice_get-get_or (types n) (code t) (Primitive Boolean) (code_below t f)) ∙ type_at t f in
    let same : get_or (types n) (code t) (Primitive Boolean) ≡ t = cc in
    λ i. record { field_type = (ap (λ k. get_or (types n) k (Primitive Boolean)) s.0 ∙ same) i; is_marked = s.1 i }
