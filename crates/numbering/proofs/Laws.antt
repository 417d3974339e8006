-- The numbering of a draft is one only, leaves no field stuck, keeps distinct ids distinct, and keeps ids that are all stated. Assumes nothing.
use Rattle.std.proofs.Common.{◌≡◌, ℕ, zero, suc, ◌<◌, ◌≤◌, List, map, length, get_or, take, ℤ, pos, ◌≤ℤ◌, ◌<ℤ◌, Some, None, Option, sym, refl, ap, ◌∙◌, subst, inl, inr, add-one, arith}
use Rattle.std.specs.List.{ContainsAt as Has}
use Rattle.std.proofs.lemmas.Int.{ints}
use Rattle.std.proofs.lemmas.Bool.{cases_order}
use Rattle.std.proofs.lemmas.List.{take_more_same, take-take, length-take-le, get_or-take, take_all, get_or-map, length-map}
use Rattle.std.proofs.ByRecursion.{All-get_or, has_get_or}
use Rattle.numbering.specs.Ids.{Distinct}
use Rattle.numbering.specs.Numbering.{Least, Permitted, Numbered, Numbering, Stuck, StatedOnce, AllState}
use Rattle.numbering.proofs.Options.{by_stated}
use Rattle.std.proofs.lemmas.Option.{none-some, same_Some}

pub least_unique : (P : ℤ → Type 0) (m n : ℤ) → Least P m → Least P n → m ≡ n
least_unique P m n a b = let p : m ≤ℤ n = a.1 n b.0 in let q : n ≤ℤ m = b.1 m a.0 in omega (arith, ints)

module _ (start : ℤ) (draft : List (Option ℤ)) where
  -- the first ids of a numbering number the first fields
  pub numbered_front : (k j : ℕ) (ids : List ℤ) → j ≤ k → Numbered start draft k ids → Numbered start draft j (take j ids)
  numbered_front k j ids le a =
      let z = a.size in
      record {
        size = length-take-le j ids (omega arith);
        stated = λ i n lt e. get_or-take j ids i (pos 0) lt ∙ a.stated i n (omega arith) e;
        given = λ i lt e. rw (take-take i j ids (omega arith), get_or-take j ids i (pos 0) lt) (a.given i (omega arith) e);
      }

  same_place : (k i : ℕ) (xs ys : List ℤ) → i < k → Numbered start draft k xs → Numbered start draft k ys → take i xs ≡ take i ys → get_or xs i (pos 0) ≡ get_or ys i (pos 0)
  same_place k i xs ys lt a b e = by_stated (get_or draft i None)
      (λ n s. a.stated i n lt s ∙ sym (b.stated i n lt s))
      (λ g. least_unique (Permitted start draft (take i ys)) _ _ (subst (λ (l : List ℤ). Least (Permitted start draft l) (get_or xs i (pos 0))) e (a.given i lt g)) (b.given i lt g))

  same_front : (k i : ℕ) (xs ys : List ℤ) → i ≤ k → Numbered start draft k xs → Numbered start draft k ys → take i xs ≡ take i ys
  same_front k zero xs ys le a b = refl
  same_front k (suc i) xs ys le a b =
      let ih = same_front k i xs ys (omega arith) a b in
      let zx = a.size in
      let zy = b.size in
      rw (← add-one) (take_more_same xs ys i (pos 0) (omega arith) (omega arith) ih (same_place k i xs ys (omega arith) a b ih))

  pub numbered_unique : (k : ℕ) (xs ys : List ℤ) → Numbered start draft k xs → Numbered start draft k ys → xs ≡ ys
  numbered_unique k xs ys a b =
      let zx = a.size in
      let zy = b.size in
      sym (take_all k xs (omega arith)) ∙ same_front k k xs ys (omega arith) a b ∙ take_all k ys (omega arith)

  -- nothing is numbered past a stuck field
  pub stuck_stops : (j k : ℕ) (before ids : List ℤ) → j < k → Stuck start draft j before → Numbered start draft k ids → ⊥
  stuck_stops j k before ids lt s a =
      let e : take j ids ≡ before = numbered_unique j _ _ (numbered_front k j ids (omega arith) a) s.numbered in
      s.none (get_or ids j (pos 0)) (subst (λ (l : List ℤ). Permitted start draft l (get_or ids j (pos 0))) e (a.given j lt s.wants).0)

  -- a draft with a stuck field has no numbering
  pub stuck_excludes : (j : ℕ) (before ids : List ℤ) → Stuck start draft j before → Numbering start draft ids → ⊥
  stuck_excludes j before ids s a = stuck_stops j (length draft) before ids s.inside s a

  -- a draft is stuck at one place only
  pub stuck_unique : (j k : ℕ) (xs ys : List ℤ) → Stuck start draft j xs → Stuck start draft k ys → j ≡ k
  stuck_unique j k xs ys a b = elim (cases_order j k) [
    | inl e ↦ e
    | inr (inl lt) ↦ absurd (stuck_stops j k xs ys lt a b.numbered)
    | inr (inr lt) ↦ absurd (stuck_stops k j ys xs lt b a.numbered)
  ]

  -- where no number is stated twice, no number is given twice
  pub numbered_distinct : (ids : List ℤ) → StatedOnce draft → Numbering start draft ids → Distinct ids
  numbered_distinct ids once a i j lt in' e =
      let z = a.size in
      let lj : j < length draft = omega arith in
      let li : i < length draft = omega arith in
      by_stated (get_or draft j None)
      (λ m sj. by_stated (get_or draft i None)
      (λ n si.
      let q : n ≡ m = sym (a.stated i n li si) ∙ e ∙ a.stated j m lj sj in
      once i j m lt lj (si ∙ ap Some q) sj)
      (λ gi.
      let q : m ≡ get_or ids i (pos 0) = sym (a.stated j m lj sj) ∙ sym e in
      (a.given i li gi).0.unstated (subst (λ (o : Option ℤ). Has draft o) (sj ∙ ap Some q) (has_get_or draft j None lj))))
      (λ gj.
      let below : get_or (take j ids) i (pos 0) <ℤ get_or ids j (pos 0)
      = All-get_or (λ x. x <ℤ get_or ids j (pos 0)) (take j ids) i (pos 0) (let zj = length-take-le j ids (omega arith) in omega arith) (a.given j lj gj).0.past_earlier in
      let same : get_or (take j ids) i (pos 0) ≡ get_or ids j (pos 0) = get_or-take j ids i (pos 0) lt ∙ e in
      omega (arith, ints))

-- ids that are all stated are their own numbering, whatever the start
pub stated_numbering : (start : ℤ) (draft : List (Option ℤ)) (ids : List ℤ) → AllState draft ids → Numbering start draft ids
stated_numbering start draft ids all = subst (λ (d : List (Option ℤ)). Numbering start d ids) (sym all) (record {
  size = sym (length-map ids Some);
  stated = λ i n lt e. same_Some _ n (sym (at i lt) ∙ e);
  given = λ i lt e. absurd (none-some _ (sym e ∙ at i lt));
})
  where
    at : (i : ℕ) → i < length (map {A = ℤ} {B = Option ℤ} Some ids) → get_or (map Some ids) i None ≡ Some (get_or ids i (pos 0))
    at i lt = let z = length-map ids (λ (n : ℤ). Some n) in get_or-map Some ids i (pos 0) None (omega arith)

-- and then no field is stuck
pub stated_never_stuck : (start : ℤ) (draft : List (Option ℤ)) (ids : List ℤ) → AllState draft ids → (place : ℕ) (before : List ℤ) → Stuck start draft place before → ⊥
stated_never_stuck start draft ids all place before s = stuck_excludes start draft place before ids s (stated_numbering start draft ids all)
