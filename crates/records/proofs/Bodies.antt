-- The entries of the first fields: their bytes, how long they are, and how they are put one after another. Assumes nothing.
use Rattle.std.proofs.Common.{◌≡◌, ℕ, ◌+◌, ◌-◌, ◌*◌, ◌<◌, ◌≤◌, List, [], ◌∷◌, ◌++◌, map, length, get_or, take, drop, Some, sym, refl, ap, ◌∙◌, subst, append_assoc, append-nil, arith, length-append, length-drop, take-append-drop}
use borrow.Rule.Slice.PartMut.{put_mid, post_of}
use Rattle.std.specs.List.{slice_get, AllByRecursion}
use Rattle.std.proofs.ByRecursion.{All-push}
use Rattle.std.proofs.lemmas.List.Concat.{flat_map-append}
use Rattle.std.proofs.lemmas.List.{map-append, take_more, take_at, drop_at, drop-drop, drop_all, take_rest, take_all}
use Rattle.std.proofs.lemmas.Option.{slice_get-get_or}
use Rattle.partitions.specs.Fields.{PaperField}
use Rattle.records.specs.Format.{entry_bytes, entry_of, body_bytes, field_bytes, FieldFits}

fields_append : (fs gs : List PaperField) → field_bytes (fs ++ gs) ≡ field_bytes fs ++ field_bytes gs
unfolding body_bytes
fields_append fs gs = ap body_bytes (map-append entry_of fs gs) ∙ flat_map-append entry_bytes (map entry_of fs) (map entry_of gs)

fields_one : (f : PaperField) → field_bytes (f ∷ []) ≡ entry_bytes (entry_of f)
unfolding body_bytes
fields_one f = append-nil _

fields_none : (fs : List PaperField) → field_bytes (take 0 fs) ≡ []
unfolding body_bytes
fields_none fs = refl

-- the first fields, and the next one
module _ (fs : List PaperField) (i : ℕ) (f : PaperField) (inside : i < length fs) (next : Some f ≡ slice_get fs i) where
  one_more : take (i + 1) fs ≡ take i fs ++ f ∷ []
  one_more =
      let at : Some f ≡ Some (get_or fs i f) = next ∙ slice_get-get_or fs i f inside in
      let same : get_or fs i f ≡ f = cc in
      take_more fs i f inside ∙ ap (λ g. take i fs ++ g ∷ []) same

  pub bytes_more : field_bytes (take (i + 1) fs) ≡ field_bytes (take i fs) ++ entry_bytes (entry_of f)
  bytes_more = ap field_bytes one_more ∙ fields_append (take i fs) (f ∷ []) ∙ ap (λ l. field_bytes (take i fs) ++ l) (fields_one f)

  pub length_more : length (field_bytes (take (i + 1) fs)) ≡ length (field_bytes (take i fs)) + length (entry_bytes (entry_of f))
  length_more = ap length bytes_more ∙ length-append (field_bytes (take i fs)) (entry_bytes (entry_of f))

  pub fits_more : AllByRecursion FieldFits (take i fs) → FieldFits f → AllByRecursion FieldFits (take (i + 1) fs)
  fits_more each here = subst (AllByRecursion FieldFits) (sym one_more) (All-push FieldFits (take i fs) f each here)

pub front_within : (fs : List PaperField) (i : ℕ) → length (field_bytes (take i fs)) ≤ length (field_bytes fs)
front_within fs i =
    let e = ap length (ap field_bytes (sym (take-append-drop i fs)) ∙ fields_append (take i fs) (drop i fs)) in
    omega (arith, length-append (field_bytes (take i fs)) (field_bytes (drop i fs)))

-- the first fields are measured
pub record Measured (fs : List PaperField) (i len : ℕ) : Type 0 where
  pub is : len ≡ length (field_bytes (take i fs))
  pub short : len ≤ 159 * i
  pub each : AllByRecursion FieldFits (take i fs)

pub measured_none : (fs : List PaperField) → Measured fs 0 0
measured_none fs = record { is = ap length (sym (fields_none fs)); short = omega arith; each = tt }

module _ (fs : List PaperField) (i len n : ℕ) (f : PaperField) (inside : i < length fs) (next : Some f ≡ slice_get fs i) where
  pub measured_more : (j longer : ℕ) → j ≡ i + 1 → longer ≡ len + n → n ≡ length (entry_bytes (entry_of f)) → n ≤ 159 → FieldFits f → Measured fs i len → Measured fs j longer
  measured_more j longer one sum size short fits m = subst (λ k. Measured fs k longer) (sym one) (record {
    is = omega (arith, length_more fs i f inside next, m.is);
    short = omega (arith, m.short);
    each = fits_more fs i f inside next m.each fits;
  })

pub measured_all : (fs : List PaperField) (i len : ℕ) → length fs ≤ i → Measured fs i len → (len ≡ length (field_bytes fs)) × AllByRecursion FieldFits fs
measured_all fs i len past m =
    let all = take_all i fs past in
    (m.is ∙ ap (λ gs. length (field_bytes gs)) all, subst (AllByRecursion FieldFits) all m.each)

-- the first fields are put at the front of what the output was
pub record Laid (fs : List PaperField) (i at : ℕ) (was out : List ℕ) : Type 0 where
  pub end : at ≡ length (field_bytes (take i fs))
  pub is : out ≡ field_bytes (take i fs) ++ drop at was

pub laid_none : (fs : List PaperField) (was : List ℕ) → Laid fs 0 0 was was
laid_none fs was = record { end = ap length (sym (fields_none fs)); is = ap (λ l. l ++ was) (sym (fields_none fs)) }

-- the rest of the output was lent, and the bytes put at its front
lent_more : (p e was out lent : List ℕ) (at : ℕ) → at ≡ length p → out ≡ p ++ drop at was → lent ≡ e ++ drop (length e) (take (length out - at) (drop at out))
    → put_mid at (length out - at) out lent ≡ (p ++ e) ++ drop (at + length e) was
lent_more p e was out lent at n is put =
    let front : take at out ≡ p = ap (take at) is ∙ take_at p (drop at was) at (sym n) in
    let rest : drop at out ≡ drop at was = ap (drop at) is ∙ drop_at p (drop at was) at (sym n) in
    let none : post_of at (length out - at) out ≡ [] = drop_all (length out - at) (drop at out) (omega (arith, length-drop at out)) in
    let tail : drop (length e) (take (length out - at) (drop at out)) ≡ drop (at + length e) was = ap (drop (length e)) (take_rest out at ∙ rest) ∙ drop-drop (length e) at was in
    ap (λ l. l ++ (lent ++ post_of at (length out - at) out)) front
    ∙ ap (λ l. p ++ (lent ++ l)) none
    ∙ ap (λ l. p ++ l) (append-nil lent ∙ put ∙ ap (λ l. e ++ l) tail)
    ∙ sym (append_assoc p e (drop (at + length e) was))

-- the next entry is within the output
pub record Room (fs : List PaperField) (at : ℕ) (out : List ℕ) (f : PaperField) : Type 0 where
  pub start : at ≤ length out
  pub rest : length (entry_bytes (entry_of f)) ≤ length out - at
  pub end : at + length (entry_bytes (entry_of f)) ≤ length (field_bytes fs)
  pub most : length (field_bytes fs) ≤ length out

module _ (fs : List PaperField) (i at : ℕ) (was out : List ℕ) (f : PaperField) (inside : i < length fs) (next : Some f ≡ slice_get fs i) (fits : length (field_bytes fs) ≤ length was) (l : Laid fs i at was out) where
  pub within : Room fs at out f
  within =
      let size = length_more fs i f inside next in
      let front = front_within fs (i + 1) in
      let whole = ap length l.is ∙ length-append (field_bytes (take i fs)) (drop at was) in
      let stands = l.end in
      let rest = length-drop at was in
      record { start = omega arith; rest = omega arith; end = omega arith; most = omega arith }

  pub laid_more : (j : ℕ) → j ≡ i + 1 → (lent after : List ℕ) (n end : ℕ) → end ≡ at + n → after ≡ put_mid at (length out - at) out lent → n ≡ length (entry_bytes (entry_of f))
      → lent ≡ entry_bytes (entry_of f) ++ drop (length (entry_bytes (entry_of f))) (take (length out - at) (drop at out)) → Laid fs j end was after
  laid_more j one lent after n end sum back size put = subst (λ k. Laid fs k end was after) (sym one) (record {
    end = omega (arith, length_more fs i f inside next, l.end);
    is = back
        ∙ lent_more (field_bytes (take i fs)) (entry_bytes (entry_of f)) was out lent at l.end l.is put
        ∙ (λ k. sym (bytes_more fs i f inside next) k ++ drop (at + sym size k) was)
        ∙ ap (λ k. field_bytes (take (i + 1) fs) ++ drop k was) (sym sum);
  })

pub laid_all : (fs : List PaperField) (i at : ℕ) (was out : List ℕ) → length fs ≤ i → Laid fs i at was out → (at ≡ length (field_bytes fs)) × (out ≡ field_bytes fs ++ drop at was)
laid_all fs i at was out past l =
    let all = take_all i fs past in
    (l.end ∙ ap (λ gs. length (field_bytes gs)) all, l.is ∙ ap (λ gs. field_bytes gs ++ drop at was) all)
