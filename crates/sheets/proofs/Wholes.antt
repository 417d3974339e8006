-- Whole sheets: their rows are read back, so they are unique, and the test of bytes is exact.
use Rattle.std.proofs.Common.{Bor, is_some, None, Some, Option, ◌≡◌, ℕ, zero, suc, ◌+◌, ◌-◌, ◌%◌, ◌^◌, ◌<◌, ◌≤◌, Bool, true, false, ltb, List, [], ◌∷◌, ◌++◌, map, length, get_or, take, drop, Decides, sym, refl, ap, ◌∙◌, subst, ⊎_elim, append_assoc, arith, length-append, take-append-drop}
use mir.Facts.{sfits_to_z}
use Rattle.std.specs.List.{flat_map, AllByRecursion}
use Rattle.std.specs.Bool.{then_some}
use Rattle.std.specs.Option.{option_copied, unwrap_or}
use Rattle.std.specs.Str.{bytes_eq}
use Rattle.std.proofs.ByRecursion.{All-drop, All-get_or, Decides-by_and}
use Rattle.std.proofs.lemmas.Slice.Eq.{bytes_eq-Decides}
use Rattle.std.proofs.lemmas.List.{drop_at, drop-drop, get_or_past, length-drop, length-take, take_all, take_at}
use Rattle.std.proofs.lemmas.Option.{slice_get-get_or}
use Rattle.std.proofs.lemmas.Bool.{cases_lt, cond-true, cond-false, false≢true}
use Rattle.std.proofs.lemmas.Bool.Decides.{Decides-and, Decides-like, Decides-ltb, same_from_decides}
use Rattle.octets.specs.BigEndian.{be2, number}
use Rattle.octets.specs.Octets.{Bytes}
use Rattle.octets.proofs.Numbers.{number_be, number_take_below, same_from_be}
use Rattle.schemas.specs.Rows.{shown}
use Rattle.transforms.specs.declared.datatypes.PrimitiveType.TheVariants.{Boolean}
use Rattle.transforms.specs.declared.datatypes.«Type».TheVariants.{Primitive}
use Rattle.sheets.specs.TypeCodes.{parameters, Fit}
use Rattle.sheets.specs.Decoded.{types, row_at, rows_at, guess, are_bytes, is_sheet, rows_of, body_of}
use Rattle.sheets.specs.Standing.{Holds, Filled}
use Rattle.sheets.specs.Sheets.{SheetRow, RowFits, row_bytes, sheet_bytes, SheetOf, IsSheet, UniqueRows}
use Rattle.sheets.specs.SheetColumns.{named, Shows}
use Rattle.sheets.proofs.Codes.{coded}
use Rattle.sheets.proofs.Fronts.{placed}

-- the parts of a sheet: its rows, their count, the distance
pub record Parts (bs : List ℕ) (rows : List SheetRow) : Type 0 where
  pub long : length bs ≡ length (flat_map row_bytes rows) + 4
  pub body : take (length bs - 4) bs ≡ flat_map row_bytes rows
  pub count : take 2 (drop (length bs - 4) bs) ≡ be2 (length rows)
  pub distance : take 2 (drop (length bs - 4 + 2) bs) ≡ be2 (length (flat_map row_bytes rows))

pub parts : (bs : List ℕ) (rows : List SheetRow) → bs ≡ sheet_bytes rows → Parts bs rows
unfolding sheet_bytes
parts bs rows e =
    let body = flat_map row_bytes rows in
    let tail = be2 (length rows) ++ be2 (length (flat_map row_bytes rows)) in
    let long : length bs ≡ length body + 4 = ap length e ∙ length-append body tail in
    let end : length body ≡ length bs - 4 = omega arith in
    let at : drop (length bs - 4) bs ≡ tail = ap (drop (length bs - 4)) e ∙ drop_at body tail (length bs - 4) end in
    record {
      long = long;
      body = ap (take (length bs - 4)) e ∙ take_at body tail (length bs - 4) end;
      count = ap (take 2) at;
      distance = ap (take 2) (sym (drop-drop 2 (length bs - 4) bs) ∙ ap (drop 2) at);
    }

-- as many rows as are told, as long as is told, are a sheet
pub sheet_made : (bs : List ℕ) (count : ℕ) → Bytes bs → 4 ≤ length bs → count < 65536 → length bs - 4 < 65536 → take 2 (drop (length bs - 4) bs) ≡ be2 count
    → take 2 (drop (length bs - 4 + 2) bs) ≡ be2 (length bs - 4) → Filled (take (length bs - 4) bs) count → IsSheet bs
unfolding sheet_bytes
sheet_made bs count b long few short c d f =
    let end = length bs - 4 in
    let last : drop (length bs - 4 + 2) bs ≡ be2 (length bs - 4) = sym (take_all 2 (drop (length bs - 4 + 2) bs) (omega (arith, length-drop (length bs - 4 + 2) bs))) ∙ d in
    let tail : drop (length bs - 4) bs ≡ be2 count ++ be2 (length bs - 4) =
    sym (take-append-drop 2 (drop (length bs - 4) bs)) ∙ (λ i. c i ++ (drop-drop 2 (length bs - 4) bs ∙ last) i) in
    let body : length (flat_map row_bytes f.rows) ≡ length bs - 4 = ap length (sym f.holds.is) ∙ omega (arith, length-take (length bs - 4) bs) in
    let many = f.many in (
      f.rows,
      record {
        is = sym (take-append-drop (length bs - 4) bs) ∙ (λ i. f.holds.is i ++ tail i) ∙ (λ i. flat_map row_bytes f.rows ++ (be2 (sym many i) ++ be2 (sym body i)));
        octets = b;
        each = f.holds.each;
        few = omega arith;
        short = omega arith;
      },
    )

-- rows are read back, whatever is behind them
rows_again : (rows : List SheetRow) (rest : List ℕ) → AllByRecursion RowFits rows → rows_at (length rows) (flat_map row_bytes rows ++ rest) ≡ rows
unfolding rows_at
rows_again [] rest each = refl
rows_again (row ∷ rows) rest each =
    let p = placed (flat_map row_bytes (row ∷ rows) ++ rest) row (flat_map row_bytes rows ++ rest) (record { is = append_assoc (row_bytes row) (flat_map row_bytes rows) rest; fits = each.0 }) in
    (λ i. p.is_row i ∷ rows_at (length rows) (p.is_rest i)) ∙ ap (λ l. row ∷ l) (rows_again rows rest each.1)

guess_is : (bs : List ℕ) (rows : List SheetRow) → SheetOf bs rows → guess bs ≡ rows
unfolding guess sheet_bytes
guess_is bs rows s =
    let p = parts bs rows s.is in
    ap (λ l. rows_at (number l) bs) p.count
    ∙ (λ i. rows_at (number_be 2 (length rows) s.few i) (s.is i))
    ∙ rows_again rows _ s.each

byte_below : (bs : List ℕ) (i : ℕ) → Bytes bs → get_or bs i 0 < 256
byte_below bs i b = ⊎_elim (λ lt. All-get_or (λ x. x < 256) bs i 0 lt b) (λ past. let e = get_or_past bs i 0 past in omega arith) (cases_lt i (length bs))

type_fits : (k n : ℕ) → n < 2 ^ 64 → Fit (parameters (get_or (types n) k (Primitive Boolean)))
type_fits k n h =
    ⊎_elim (λ lt. (coded n k _ h (slice_get-get_or (types n) k (Primitive Boolean) lt)).fits)
    (λ past. subst (λ t. Fit (parameters t)) (sym (get_or_past (types n) k (Primitive Boolean) past)) tt) (cases_lt k 19)

row_fits : (bs : List ℕ) → Bytes bs → RowFits (row_at bs)
unfolding row_at
row_fits bs b =
    let k = byte_below bs 13 b in
    record {
      id = sfits_to_z (record { fits = number_take_below 4 bs b });
      parameters = type_fits (get_or bs 4 0 % 128) _ (number_take_below 8 (drop 5 bs) (All-drop _ 5 bs b));
      name = omega (arith, length-take (get_or bs 13 0) (drop 14 bs));
    }

rows_fit : (k : ℕ) (bs : List ℕ) → Bytes bs → AllByRecursion RowFits (rows_at k bs)
unfolding rows_at
rows_fit zero bs b = tt
rows_fit (suc k) bs b = (row_fits bs b, rows_fit k (drop (14 + get_or bs 13 0) bs) (All-drop _ _ bs b))

length_rows : (k : ℕ) (bs : List ℕ) → length (rows_at k bs) ≡ k
unfolding rows_at
length_rows zero bs = refl
length_rows (suc k) bs = ap suc (length_rows k (drop (14 + get_or bs 13 0) bs))

sheet_guessed : (bs : List ℕ) → bs ≡ sheet_bytes (guess bs) → Bytes bs → length bs < 65540 → SheetOf bs (guess bs)
unfolding guess
sheet_guessed bs e b h =
    let p = parts bs (guess bs) e in
    let k = number (take 2 (drop (length bs - 4) bs)) in
    let small = number_take_below 2 (drop (length bs - 4) bs) (All-drop _ (length bs - 4) bs b) in
    record {
      is = e;
      octets = b;
      each = rows_fit k bs b;
      few = omega (arith, length_rows k bs);
      short = omega (arith, p.long);
    }

bytes_decides : (bs : List ℕ) → Decides (are_bytes bs) (Bytes bs)
bytes_decides bs = Decides-by_and (λ b. ltb b 256) (λ b. b < 256) are_bytes (λ b. Decides-ltb b 256) refl (λ _ _. refl) bs

pub sheet_decides : (bs : List ℕ) → Decides (is_sheet bs) (IsSheet bs)
unfolding is_sheet
sheet_decides bs =
    let tests = Decides-and (bytes_eq bs (sheet_bytes (guess bs))) _ (bytes_eq-Decides bs (sheet_bytes (guess bs))) (Decides-and (are_bytes bs) (ltb (length bs) 65540) (bytes_decides bs) (Decides-ltb (length bs) 65540)) in (
      λ t. let all = tests.0 t in (guess bs, sheet_guessed bs all.0 all.1.0 all.1.1),
      λ s. let p = parts bs s.0 s.1.is in
          let short = s.1.short in
          tests.1 (s.1.is ∙ ap sheet_bytes (sym (guess_is bs s.0 s.1)), (s.1.octets, omega (arith, p.long))),
    )

pub rows_are : (bs : List ℕ) (rows : List SheetRow) → SheetOf bs rows → rows_of bs ≡ rows
unfolding rows_of
rows_are bs rows s = cond-true (is_sheet bs) (guess bs) [] ((sheet_decides bs).1 (rows, s)) ∙ guess_is bs rows s

pub rows_none : (bs : List ℕ) → is_sheet bs ≡ false → rows_of bs ≡ []
unfolding rows_of
rows_none bs e = cond-false (is_sheet bs) (guess bs) [] e

pub unique_rows : (bs : List ℕ) → UniqueRows bs
unique_rows bs r s p q = sym (rows_are bs r p) ∙ rows_are bs s q

not_sheet : (bs : List ℕ) → (IsSheet bs → ⊥) → false ≡ is_sheet bs
not_sheet bs n = same_from_decides false (is_sheet bs) (λ e. absurd (false≢true e), λ s. absurd (n s)) (sheet_decides bs)

pub no_trailer : (bs : List ℕ) → length bs < 4 → false ≡ is_sheet bs
no_trailer bs h = not_sheet bs (λ s. omega (arith, (parts bs s.0 s.1.is).long))

-- bytes by the count and the distance that are told
module _ (bs : List ℕ) (count distance : ℕ) (few : count < 65536) (short : distance < 65536) (c : take 2 (drop (length bs - 4) bs) ≡ be2 count)
    (d : take 2 (drop (length bs - 4 + 2) bs) ≡ be2 distance) where
  pub other_distance : (distance ≡ length bs - 4 → ⊥) → false ≡ is_sheet bs
  other_distance n =
      not_sheet bs
      (λ s. let p = parts bs s.0 s.1.is in
      let e = same_from_be 2 distance (length (flat_map row_bytes s.0)) short s.1.short (sym d ∙ p.distance) in
      n (omega (arith, p.long)))

  pub by_rows : (r : Bool) (body : List ℕ) → body ≡ take (length bs - 4) bs → Bytes bs → 4 ≤ length bs → distance ≡ length bs - 4 → Decides r (Filled body count) → r ≡ is_sheet bs
  by_rows r body cut b long e f =
      same_from_decides r (is_sheet bs)
      (Decides-like r
      (λ filled. sheet_made bs count b long few (omega arith) c (d ∙ ap be2 e) (subst (λ l. Filled l count) cut filled))
      (λ s. let p = parts bs s.0 s.1.is in
      record {
        rows = s.0;
        many = same_from_be 2 (length s.0) count s.1.few few (sym p.count ∙ c);
        holds = record { is = cut ∙ p.body; each = s.1.each };
      })
      f)
      (sheet_decides bs)

pub no_body : (bs : List ℕ) → length bs < 4 → None ≡ body_of bs
unfolding body_of
no_body bs h = ap (λ b. then_some b (take (length bs - 4) bs)) (no_trailer bs h)

pub body_told : (bs : List ℕ) (b : Bool) (body : Bor (List ℕ)) (o : Option (Bor (List ℕ))) → o ≡ then_some b body → b ≡ is_sheet bs → body.now ≡ take (length bs - 4) bs → option_copied o ≡ body_of bs
unfolding body_of
body_told bs b body o e t f = ap option_copied e ∙ at b ∙ (λ i. then_some (t i) (f i))
  where
    at : (b : Bool) → option_copied (then_some b body) ≡ then_some b body.now
    at true = refl
    at false = refl

pub some_body : (bs : List ℕ) (o : Option (Bor (List ℕ))) → option_copied o ≡ body_of bs → is_some o ≡ is_sheet bs
unfolding body_of
some_body bs o e = copied o ∙ ap is_some e ∙ at (is_sheet bs)
  where
    copied : (o : Option (Bor (List ℕ))) → is_some o ≡ is_some (option_copied o)
    copied None = refl
    copied (Some x) = refl

    at : (b : Bool) → is_some (then_some b (take (length bs - 4) bs)) ≡ b
    at true = refl
    at false = refl

sound_holds : (bs : List ℕ) → is_sheet bs ≡ true → Holds (take (length bs - 4) bs) (rows_of bs)
sound_holds bs t =
    let s = (sheet_decides bs).0 t in
    let p = parts bs s.0 s.1.is in
    record {
      is = p.body ∙ ap (flat_map row_bytes) (sym (rows_are bs s.0 s.1));
      each = subst (AllByRecursion RowFits) (sym (rows_are bs s.0 s.1)) s.1.each;
    }

unsound_holds : (bs : List ℕ) → is_sheet bs ≡ false → Holds [] (rows_of bs)
unsound_holds bs e = subst (Holds []) (sym (rows_none bs e)) (record { is = refl; each = tt })

-- the rows of what was tested, or none
pub rows_hold : (bs : List ℕ) (o : Option (Bor (List ℕ))) (none : Bor (List ℕ)) → none.now ≡ [] → option_copied o ≡ body_of bs → Holds (unwrap_or o none).now (rows_of bs)
unfolding body_of
rows_hold bs o none n e = at (is_sheet bs) refl o e
  where
    at : (b : Bool) → is_sheet bs ≡ b → (o : Option (Bor (List ℕ))) → option_copied o ≡ then_some b (take (length bs - 4) bs) → Holds (unwrap_or o none).now (rows_of bs)
    at true t None e = cc
    at true t (Some x) e = let q : x.now ≡ take (length bs - 4) bs = cc in subst (λ l. Holds l (rows_of bs)) (sym q) (sound_holds bs t)
    at false t None e = subst (λ l. Holds l (rows_of bs)) (sym n) (unsound_holds bs t)
    at false t (Some x) e = cc

pub shows : (bs : List ℕ) → Shows bs
shows bs =
    record {
      rows = λ rows s. ap (λ r. shown (map named r)) (rows_are bs rows s);
      none = λ n. ap (λ r. shown (map named r)) (rows_none bs (sym (not_sheet bs n)));
    }
