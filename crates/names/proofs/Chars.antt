-- What is well formed by Unicode's table is the UTF-8 of `str`, and the other way round. Assumes nothing.
use Rattle.std.proofs.Common.{◌≡◌, ℕ, zero, suc, ◌+◌, ◌-◌, ◌*◌, ◌<◌, ◌≤◌, true, ◌⊎◌, List, [], ◌∷◌, ◌++◌, length, get_or, take, IsUtf8, sym, refl, ap, subst, inl, inr, le_of_suc-le-suc, not-suc-le-zero, arith, lit<, lit≤}
use Rattle.std.specs.Str.{IsValidUpTo}
use lib.Utf8.{scalar, scalars, encode, encodes, scalar_cases}
use Rattle.std.proofs.lemmas.List.{take_all}
use Rattle.std.proofs.lemmas.Bool.{cases_lt, and_parts}
use Rattle.std.proofs.lemmas.Str.{IsUtf8-append, IsUtf8-nil}
use Rattle.std.proofs.str.Laws.{one, two, three, four}
use Rattle.std.proofs.str.Valid.{of_one, of_two, of_three, of_four}
use Rattle.names.specs.WellFormed.{Row, rows, tail, Stands, InSome, Sequence, Each, joined, WellFormed, Front, WellFormedIsUtf8}

-- bytes that stand in a row are as many as its ranges
as_many : (rs : Row) (s : List ℕ) → Stands rs s → length s ≡ length rs
as_many [] [] h = refl
as_many [] (b ∷ s) h = absurd h
as_many (r ∷ rs) [] h = absurd h
as_many (r ∷ rs) (b ∷ s) h = ap suc (as_many rs s h.2)

-- and each is in its own range
in_range : (rs : Row) (s : List ℕ) → Stands rs s → (k : ℕ) → k < length rs → ((get_or rs k tail).0 ≤ get_or s k 0) × (get_or s k 0 ≤ (get_or rs k tail).1)
in_range [] s h k l = absurd (not-suc-le-zero l)
in_range (r ∷ rs) [] h k l = absurd h
in_range (r ∷ rs) (b ∷ s) h zero l = (h.0, h.1)
in_range (r ∷ rs) (b ∷ s) h (suc k) l = in_range rs s h.2 k (le_of_suc-le-suc l)

-- a row of each width is UTF-8, if the least and the largest number that its first bytes can spell are right
module _ (s : List ℕ) where
  row_1 : (p : ℕ × ℕ) → Stands (p ∷ []) s → p.1 < 128 → IsUtf8 s
  row_1 p h top =
      let n = as_many (p ∷ []) s h in
      let x = in_range (p ∷ []) s h 0 (lit< tt) in
      subst IsUtf8 (take_all 1 s (omega arith)) (of_one s 0 (omega arith) (omega arith))

  row_2 : (p : ℕ × ℕ) → Stands (p ∷ tail ∷ []) s → (194 ≤ p.0) × (p.1 < 224) → IsUtf8 s
  row_2 p h lead =
      let n = as_many (p ∷ tail ∷ []) s h in
      let x = in_range (p ∷ tail ∷ []) s h 0 (lit< tt) in
      let y = in_range (p ∷ tail ∷ []) s h 1 (lit< tt) in
      subst IsUtf8 (take_all 2 s (omega arith)) (of_two s 0 (omega arith) (omega arith, omega arith) (omega arith, omega arith))

  module _ (p q : ℕ × ℕ) (second : (128 ≤ q.0) × (q.1 < 192)) where
    row_3 : Stands (p ∷ q ∷ tail ∷ []) s → (224 ≤ p.0) × (p.1 < 240)
        → let least = (p.0 - 224) * 4096 + (q.0 - 128) * 64 in 2048 ≤ least → ((p.1 - 224) * 4096 + (q.1 - 128) * 64 + 64 ≤ 55296) ⊎ (57344 ≤ least) → IsUtf8 s
    row_3 h lead least apart =
        let n = as_many (p ∷ q ∷ tail ∷ []) s h in
        let x = in_range (p ∷ q ∷ tail ∷ []) s h 0 (lit< tt) in
        let y = in_range (p ∷ q ∷ tail ∷ []) s h 1 (lit< tt) in
        let z = in_range (p ∷ q ∷ tail ∷ []) s h 2 (lit< tt) in
        subst IsUtf8 (take_all 3 s (omega arith))
        (of_three s 0 (omega arith) (omega arith, omega arith) (omega arith, omega arith) (omega arith, omega arith) (omega arith)
        (elim apart [ inl a ↦ inl (omega arith) | inr a ↦ inr (omega arith) ]))

    row_4 : Stands (p ∷ q ∷ tail ∷ tail ∷ []) s → 240 ≤ p.0
        → (16 ≤ (p.0 - 240) * 64 + (q.0 - 128)) × ((p.1 - 240) * 64 + (q.1 - 128) < 272) → IsUtf8 s
    row_4 h lead within =
        let n = as_many (p ∷ q ∷ tail ∷ tail ∷ []) s h in
        let x = in_range (p ∷ q ∷ tail ∷ tail ∷ []) s h 0 (lit< tt) in
        let y = in_range (p ∷ q ∷ tail ∷ tail ∷ []) s h 1 (lit< tt) in
        let z = in_range (p ∷ q ∷ tail ∷ tail ∷ []) s h 2 (lit< tt) in
        let w = in_range (p ∷ q ∷ tail ∷ tail ∷ []) s h 3 (lit< tt) in
        subst IsUtf8 (take_all 4 s (omega arith))
        (of_four s 0 (omega arith) (omega arith) (omega arith, omega arith) (omega arith, omega arith) (omega arith, omega arith) (omega arith, omega arith))

utf8_sequence : (s : List ℕ) → Sequence s → IsUtf8 s
utf8_sequence s (inl h) = row_1 s _ h (lit< tt)
utf8_sequence s (inr (inl h)) = row_2 s _ h (lit≤ tt, lit< tt)
utf8_sequence s (inr (inr (inl h))) = row_3 s _ _ (lit≤ tt, lit< tt) h (lit≤ tt, lit< tt) (lit≤ tt) (inl (lit≤ tt))
utf8_sequence s (inr (inr (inr (inl h)))) = row_3 s _ _ (lit≤ tt, lit< tt) h (lit≤ tt, lit< tt) (lit≤ tt) (inl (lit≤ tt))
utf8_sequence s (inr (inr (inr (inr (inl h))))) = row_3 s _ _ (lit≤ tt, lit< tt) h (lit≤ tt, lit< tt) (lit≤ tt) (inl (lit≤ tt))
utf8_sequence s (inr (inr (inr (inr (inr (inl h)))))) = row_3 s _ _ (lit≤ tt, lit< tt) h (lit≤ tt, lit< tt) (lit≤ tt) (inr (lit≤ tt))
utf8_sequence s (inr (inr (inr (inr (inr (inr (inl h))))))) = row_4 s _ _ (lit≤ tt, lit< tt) h (lit≤ tt) (lit≤ tt, lit< tt)
utf8_sequence s (inr (inr (inr (inr (inr (inr (inr (inl h)))))))) = row_4 s _ _ (lit≤ tt, lit< tt) h (lit≤ tt) (lit≤ tt, lit< tt)
utf8_sequence s (inr (inr (inr (inr (inr (inr (inr (inr (inl h))))))))) = row_4 s _ _ (lit≤ tt, lit< tt) h (lit≤ tt) (lit≤ tt, lit< tt)
utf8_sequence s (inr (inr (inr (inr (inr (inr (inr (inr (inr h))))))))) = absurd h

utf8_joined : (ss : List (List ℕ)) → Each ss → IsUtf8 (joined ss)
utf8_joined [] e = IsUtf8-nil
utf8_joined (s ∷ ss) e = IsUtf8-append s (joined ss) (utf8_sequence s e.0) (utf8_joined ss e.1)

pub to_utf8 : (bs : List ℕ) → WellFormed bs → IsUtf8 bs
to_utf8 bs w = subst IsUtf8 w.1.1 (utf8_joined w.0 w.1.0)

-- what stands in one of the rows, by its place
at_row : (k : ℕ) (rs : List Row) (s : List ℕ) → k < length rs → Stands (get_or rs k []) s → InSome rs s
at_row k [] s l h = absurd (not-suc-le-zero l)
at_row zero (r ∷ rs) s l h = inl h
at_row (suc k) (r ∷ rs) s l h = inr (at_row k rs s (le_of_suc-le-suc l) h)

-- a character's bytes stand in the row whose numbers hold it
module _ (c : ℕ) where
  in_row : (k : ℕ) (s : List ℕ) → k < 9 → encode c ≡ s → Stands (get_or rows k []) s → Sequence (encode c)
  in_row k s l e h = subst Sequence (sym e) (at_row k rows s l h)

  in_rows : (c < 128) ⊎ (128 ≤ c) → (c < 2048) ⊎ (2048 ≤ c) → (c < 4096) ⊎ (4096 ≤ c) → (c < 53248) ⊎ (53248 ≤ c) → (c < 55296) ⊎ ((57344 ≤ c) × (c < 1114112))
      → (c < 65536) ⊎ (65536 ≤ c) → (c < 262144) ⊎ (262144 ≤ c) → (c < 1048576) ⊎ (1048576 ≤ c) → Sequence (encode c)
  in_rows (inl h) _ _ _ _ _ _ _ = in_row 0 _ (lit< tt) (one c h) (omega arith, omega arith, tt)
  in_rows (inr l) (inl h) _ _ _ _ _ _ = in_row 1 _ (lit< tt) (two c l h) (omega arith, omega arith, (omega arith, omega arith, tt))
  in_rows (inr _) (inr l) (inl h) _ _ _ _ _ = in_row 2 _ (lit< tt) (three c l (omega arith)) (omega arith, omega arith, (omega arith, omega arith, (omega arith, omega arith, tt)))
  in_rows (inr _) (inr l) (inr m) (inl h) _ _ _ _ = in_row 3 _ (lit< tt) (three c l (omega arith)) (omega arith, omega arith, (omega arith, omega arith, (omega arith, omega arith, tt)))
  in_rows (inr _) (inr l) (inr _) (inr m) (inl h) _ _ _ = in_row 4 _ (lit< tt) (three c l (omega arith)) (omega arith, omega arith, (omega arith, omega arith, (omega arith, omega arith, tt)))
  in_rows (inr _) (inr l) (inr _) (inr _) (inr m) (inl h) _ _ = in_row 5 _ (lit< tt) (three c l h) (omega arith, omega arith, (omega arith, omega arith, (omega arith, omega arith, tt)))
  in_rows (inr _) (inr _) (inr _) (inr _) (inr m) (inr l) (inl h) _ = in_row 6 _ (lit< tt) (four c l) (omega arith, omega arith, (omega arith, omega arith, (omega arith, omega arith, (omega arith, omega arith, tt))))
  in_rows (inr _) (inr _) (inr _) (inr _) (inr m) (inr l) (inr k) (inl h) = in_row 7 _ (lit< tt) (four c l) (omega arith, omega arith, (omega arith, omega arith, (omega arith, omega arith, (omega arith, omega arith, tt))))
  in_rows (inr _) (inr _) (inr _) (inr _) (inr m) (inr l) (inr _) (inr k) = in_row 8 _ (lit< tt) (four c l) (omega arith, omega arith, (omega arith, omega arith, (omega arith, omega arith, (omega arith, omega arith, tt))))

  encoded : scalar c ≡ true → Sequence (encode c)
  encoded e = in_rows (cases_lt c 128) (cases_lt c 2048) (cases_lt c 4096) (cases_lt c 53248) (scalar_cases c e) (cases_lt c 65536) (cases_lt c 262144) (cases_lt c 1048576)

well_formed_encodes : (cs : List ℕ) → scalars cs ≡ true → WellFormed (encodes cs)
well_formed_encodes [] e = ([], (tt, refl))
well_formed_encodes (c ∷ cs) e =
    let p = and_parts (scalar c) (scalars cs) e in
    let w = well_formed_encodes cs p.1 in
    (encode c ∷ w.0, ((encoded c p.0, w.1.0), ap (λ l. encode c ++ l) w.1.1))

pub from_utf8 : (bs : List ℕ) → IsUtf8 bs → WellFormed bs
from_utf8 bs u = subst WellFormed u.1.1 (well_formed_encodes u.0 u.1.0)

pub one_notion : WellFormedIsUtf8
one_notion bs = (to_utf8 bs, from_utf8 bs)

-- the longest front that is well formed, from the library's
pub front : (bs : List ℕ) (n : ℕ) → IsValidUpTo bs n → Front bs n
front bs n v = record { short = v.short; good = from_utf8 (take n bs) v.front; longest = λ m a _ w. v.longest m a (to_utf8 (take m bs) w) }

-- a name with a longest front that is short of it is no text
pub no_text : (bs : List ℕ) (n : ℕ) → Front bs n → IsUtf8 bs → ⊥
no_text bs n f u = f.longest (length bs) f.short (omega arith) (subst WellFormed (sym (take_all (length bs) bs (omega arith))) (from_utf8 bs u))
