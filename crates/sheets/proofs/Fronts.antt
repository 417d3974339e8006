-- A row at the front of bytes: what stands at which place, and that it is the only one.
use Rattle.std.proofs.Common.{◌≡◌, ℕ, ◌+◌, ◌-◌, ◌<◌, ◌≤◌, List, ◌∷◌, ◌++◌, length, get_or, take, drop, ℤ, sym, refl, ap, ◌∙◌, subst, append_assoc, arith, length-append, take-append-drop, w32, SFits}
use Rattle.std.proofs.lemmas.List.{take_at, drop_at, drop-drop, drop_more, length-take-le, length-drop, take_rest}
use Rattle.octets.specs.BigEndian.{be8, be_id, number}
use Rattle.octets.proofs.Numbers.{number_be, id_number_be_id}
use Rattle.schemas.specs.declared.schema.Column.{Column}
use Rattle.sheets.specs.TypeCodes.{code, mark, parameters, parameter_bytes, column_bytes}
use Rattle.sheets.specs.Decoded.{number_of, column_at, row_at}
use Rattle.sheets.specs.Standing.{ColumnOf, Begins}
use Rattle.sheets.specs.Sheets.{SheetRow, RowFits, row_bytes}
use Rattle.sheets.proofs.Codes.{number_fits, parameters_be, column_again}

-- a row by its numbers, with bytes behind it
abbrev pub spread : ℤ → ℕ → ℕ → List ℕ → List ℕ → List ℕ
spread id byte n name rest = be_id id ++ (byte ∷ (be8 n ++ (length name ∷ (name ++ rest))))

abbrev pub byte_of : Column → ℕ
byte_of column = code column.field_type + mark column.is_marked

abbrev pub number_in : Column → ℕ
number_in column = number_of (parameters column.field_type)

pub row_spread : (row : SheetRow) (rest : List ℕ) → RowFits row → row_bytes row ++ rest ≡ spread row.id (byte_of row.column) (number_in row.column) row.name rest
unfolding row_bytes column_bytes
row_spread row rest f =
    let bytes = parameter_bytes (parameters row.column.field_type) in
    ap (λ l. be_id row.id ++ (byte_of row.column ∷ l))
    (append_assoc bytes (length row.name ∷ row.name) rest ∙ ap (λ l. l ++ (length row.name ∷ (row.name ++ rest))) (parameters_be (parameters row.column.field_type) f.parameters))

-- what stands in bytes that begin with a row
pub record Placed (bs : List ℕ) (row : SheetRow) (rest : List ℕ) : Type 0 where
  pub long : length bs ≡ 14 + length row.name + length rest
  pub byte : get_or bs 4 0 ≡ byte_of row.column
  pub eight : take 8 (drop 5 bs) ≡ be8 (number_in row.column)
  pub name_length : get_or bs 13 0 ≡ length row.name
  pub is_row : row_at bs ≡ row
  pub is_rest : drop (14 + get_or bs 13 0) bs ≡ rest

placed_spread : (row : SheetRow) (rest : List ℕ) → RowFits row → Placed (spread row.id (byte_of row.column) (number_in row.column) row.name rest) row rest
unfolding row_at
placed_spread row rest f =
    let bs = spread row.id (byte_of row.column) (number_in row.column) row.name rest in
    let n : number (be8 (number_in row.column)) ≡ number_in row.column = number_be 8 (number_in row.column) (number_fits _ f.parameters) in
    record {
      long = omega (arith, length-append row.name rest);
      byte = refl;
      eight = refl;
      name_length = refl;
      is_row = λ i. record {
        id = id_number_be_id row.id f.id i;
        column = (ap (column_at (byte_of row.column)) n ∙ column_again row.column f.parameters) i;
        name = take_at row.name rest (length row.name) refl i;
      };
      is_rest = sym (drop-drop (length row.name) 14 bs) ∙ drop_at row.name rest (length row.name) refl;
    }

pub placed : (bs : List ℕ) (row : SheetRow) (rest : List ℕ) → Begins bs row rest → Placed bs row rest
placed bs row rest b = subst (λ l. Placed l row rest) (sym (b.is ∙ row_spread row rest b.fits)) (placed_spread row rest b.fits)

-- bytes by the places of a row's parts
whole : (bs : List ℕ) → 14 ≤ length bs → bs ≡ take 4 bs ++ (get_or bs 4 0 ∷ (take 8 (drop 5 bs) ++ (get_or bs 13 0 ∷ drop 14 bs)))
whole bs h =
    sym (take-append-drop 4 bs)
    ∙ ap (λ l. take 4 bs ++ l) (drop_more bs 4 0 (omega arith))
    ∙ ap (λ l. take 4 bs ++ (get_or bs 4 0 ∷ l)) (sym (take-append-drop 8 (drop 5 bs)))
    ∙ ap (λ l. take 4 bs ++ (get_or bs 4 0 ∷ (take 8 (drop 5 bs) ++ l))) (drop-drop 8 5 bs ∙ drop_more bs 13 0 (omega arith))

-- a row that is read by its parts
pub begins : (bs : List ℕ) (id given : ℤ) (n : ℕ) (column : Column) → given ≡ id → SFits w32 id → take 4 bs ≡ be_id id → take 8 (drop 5 bs) ≡ be8 n → ColumnOf (get_or bs 4 0) n column
    → get_or bs 13 0 < 256 → 14 + get_or bs 13 0 ≤ length bs
    → Begins bs (record { id = given; column = column; name = take (14 + get_or bs 13 0 - 14) (drop 14 bs) }) (take (length bs - (14 + get_or bs 13 0)) (drop (14 + get_or bs 13 0) bs))
unfolding row_bytes
begins bs id given n column g f e p c small h =
    let k = get_or bs 13 0 in
    let name = take (14 + get_or bs 13 0 - 14) (drop 14 bs) in
    let rest = take (length bs - (14 + get_or bs 13 0)) (drop (14 + get_or bs 13 0) bs) in
    let cut : 14 + k - 14 ≡ k = omega arith in
    let len : length name ≡ k = length-take-le _ (drop 14 bs) (omega (arith, length-drop 14 bs)) ∙ cut in
    let tail : name ++ rest ≡ drop 14 bs =
    (λ i. take (cut i) (drop 14 bs) ++ take_rest bs (14 + k) i) ∙ ap (λ l. take k (drop 14 bs) ++ l) (sym (drop-drop k 14 bs)) ∙ take-append-drop k (drop 14 bs) in
    record {
      is = whole bs (omega arith)
          ∙ (λ i. (e ∙ ap be_id (sym g)) i ++ (get_or bs 4 0 ∷ (p i ++ (sym len i ∷ sym tail i))))
          ∙ ap (λ l. be_id given ++ (l ++ (length name ∷ (name ++ rest)))) (sym c.is)
          ∙ ap (λ l. be_id given ++ l) (sym (append_assoc (column_bytes column) (length name ∷ name) rest));
      fits = record { id = subst (SFits w32) (sym g) f; parameters = c.fits; name = omega arith };
    }

-- the column of a row, from the bytes that it begins with
pub column_there : (bs : List ℕ) (row : SheetRow) (rest : List ℕ) (n : ℕ) → Begins bs row rest → take 8 (drop 5 bs) ≡ be8 n → ColumnOf (get_or bs 4 0) n row.column
unfolding column_bytes
column_there bs row rest n b p =
    let q = placed bs row rest b in
    record {
      is = (λ i. sym q.byte i ∷ (parameters_be (parameters row.column.field_type) b.fits.parameters ∙ sym q.eight ∙ p) i);
      fits = b.fits.parameters;
    }
