-- The steps of the loops that number a draft. Assumes nothing.
use Rattle.std.proofs.Common.{◌≡◌, ℕ, ◌+◌, ◌<◌, ◌≤◌, List, [], ◌∷◌, ◌++◌, map, length, get_or, take, drop, set, ℤ, pos, ◌≤ℤ◌, ◌<ℤ◌, Some, None, Option, sym, refl, ap, ◌∙◌, subst, arith, below_none, below_more}
use Rattle.std.specs.Int.{int_max}
use Rattle.std.specs.List.{ContainsAt as Has, AllByRecursion}
use Rattle.std.proofs.lemmas.Int.{ints, clamps, by_lt_z}
use Rattle.std.proofs.lemmas.List.{take-append-le, get_or_append_left, get_or_push, length_push, take_at, take_more_set, drop-set-lt, drop-drop, length-map}
use Rattle.std.proofs.ByRecursion.{All-push}
use Rattle.numbering.specs.Numbering.{Least, Permitted, Numbered}
use Rattle.numbering.specs.OneField.{IsId, NoId}
use Rattle.numbering.specs.Outcome.{Wrote, Halted}
use Rattle.numbering.proofs.Elements.{told_at}

-- top is the greatest of the start and the ids: to be above it is to be above each of them
abbrev pub Tops : ℤ → List ℤ → ℤ → Type 0
Tops start ids top = (m : ℤ) → (top <ℤ m → (start <ℤ m) × AllByRecursion (λ x. x <ℤ m) ids) × ((start <ℤ m) × AllByRecursion (λ x. x <ℤ m) ids → top <ℤ m)

pub tops_none : (start : ℤ) → Tops start [] start
tops_none start m = (λ h. (h, tt), λ h. h.0)

-- what holds of each after one more
all_parts : (P : ℤ → Type 0) (xs : List ℤ) (x : ℤ) → AllByRecursion P (xs ++ x ∷ []) → AllByRecursion P xs × P x
all_parts P [] x a = (tt, a.0)
all_parts P (y ∷ xs) x a = let r = all_parts P xs x a.1 in ((a.0, r.0), r.1)

module _ (start : ℤ) (ids : List ℤ) (top : ℤ) (t : Tops start ids top) where
  pub tops_more : (x : ℤ) → Tops start (ids ++ x ∷ []) (int_max top x)
  tops_more x m = (
    λ h.
        let a : top <ℤ m = omega (arith, ints, clamps) in
        let b : x <ℤ m = omega (arith, ints, clamps) in
        let r = (t m).0 a in (r.0, All-push (λ y. y <ℤ m) ids x r.1 b),
    λ h.
        let r = all_parts (λ y. y <ℤ m) ids x h.1 in
        let a : top <ℤ m = (t m).1 (h.0, r.0) in
        let b : x <ℤ m = r.1 in
        omega (arith, ints, clamps),
  )

  -- to be permitted after the ids is to be permitted after the top alone
  module _ (draft : List (Option ℤ)) where
    pub permitted_after : (n : ℤ) → Permitted top draft [] n → Permitted start draft ids n
    permitted_after n p = let r = (t n).0 p.past_start in record { fits = p.fits; past_start = r.0; past_earlier = r.1; unstated = p.unstated }

    pub permitted_top : (n : ℤ) → Permitted start draft ids n → Permitted top draft [] n
    permitted_top n p = record { fits = p.fits; past_start = (t n).1 (p.past_start, p.past_earlier); past_earlier = tt; unstated = p.unstated }

    pub least_after : (n : ℤ) → Least (Permitted top draft []) n → Least (Permitted start draft ids) n
    least_after n l = (permitted_after n l.0, λ m p. l.1 m (permitted_top m p))

-- the first number above `last` that no field states is the least permitted one
pub least_free : (draft : List (Option ℤ)) (last n : ℤ) → n ≤ℤ pos 2147483647 → last <ℤ n → (Has draft (Some n) → ⊥) → ((m : ℤ) → last <ℤ m → m <ℤ n → Has draft (Some m)) → Least (Permitted last draft []) n
least_free draft last n fits past un passed = (
  record { fits = fits; past_start = past; past_earlier = tt; unstated = un },
  λ m p. by_lt_z m n (λ lt. absurd (p.unstated (passed m p.past_start lt))) (λ h. h),
)

module _ (start : ℤ) (draft : List (Option ℤ)) where
  pub numbered_none : Numbered start draft 0 []
  numbered_none = record { size = refl; stated = λ i n lt. absurd (below_none (λ _. ⊥) i lt); given = λ i lt. absurd (below_none (λ _. ⊥) i lt) }

  module _ (k : ℕ) (ids : List ℤ) (a : Numbered start draft k ids) (x : ℤ) where
    front : (i : ℕ) → i < k → take i (ids ++ x ∷ []) ≡ take i ids
    front i lt = let z = a.size in take-append-le i ids (x ∷ []) (omega arith)

    old : (i : ℕ) → i < k → get_or (ids ++ x ∷ []) i (pos 0) ≡ get_or ids i (pos 0)
    old i lt = let z = a.size in get_or_append_left ids (x ∷ []) (pos 0) i (omega arith)

    last : get_or (ids ++ x ∷ []) k (pos 0) ≡ x
    last = get_or_push ids x (pos 0) k a.size

    -- one more field
    pub numbered_more : ((n : ℤ) → get_or draft k None ≡ Some n → x ≡ n) → (get_or draft k None ≡ None → Least (Permitted start draft ids) x)
        → Numbered start draft (k + 1) (ids ++ x ∷ [])
    numbered_more s g = record {
      size = length_push ids x ∙ ap (λ n. n + 1) a.size;
      stated = λ i n lt. below_more (λ j. get_or draft j None ≡ Some n → get_or (ids ++ x ∷ []) j (pos 0) ≡ n) k
          (λ j l e. old j l ∙ a.stated j n l e) (λ e. last ∙ s n e) i lt;
      given = λ i lt. below_more (λ j. get_or draft j None ≡ None → Least (Permitted start draft (take j (ids ++ x ∷ []))) (get_or (ids ++ x ∷ []) j (pos 0))) k
          (λ j l e. rw (front j l, old j l) (a.given j l e))
          (λ e. let z = take_at ids (x ∷ []) k a.size in rw (z, last) (g e)) i lt;
    }

-- what holds as a turn begins: the first k are numbered, top is the greatest of the start and their ids, and the rest is as it was
pub record Turned (start : ℤ) (draft : List (Option ℤ)) (old new : List ℤ) (k : ℕ) (top : ℤ) : Type 0 where
  pub numbered : Numbered start draft k (take k new)
  pub tops : Tops start (take k new) top
  pub rest : drop k new ≡ drop k old

module _ {X : Type 0} (f : X → Option ℤ) (fs : List X) (start : ℤ) (old new : List ℤ) (k : ℕ) (top : ℤ) (a : Turned start (map f fs) old new k top) where
  -- the field at k has no number
  pub turn_halts : (x : X) → k < length fs → x ≡ get_or fs k x → length fs ≤ length old → NoId top (map f fs) (f x) → Halted start (map f fs) old new k
  turn_halts x lt is room s =
      let z = length-map fs f in
      record {
        room = omega arith;
        stuck = record {
          inside = omega arith;
          wants = told_at f fs k x lt is None ∙ s.wants;
          numbered = a.numbered;
          none = λ n p. s.none n (permitted_top start (take k new) top a.tops (map f fs) n p);
        };
        rest = a.rest;
      }

  -- the field at k has its id
  pub turn_more : (x : X) → k < length fs → x ≡ get_or fs k x → (id : ℤ) → k < length new → IsId top (map f fs) (f x) id → Turned start (map f fs) old (set new k id) (k + 1) (int_max top id)
  turn_more x lt is id room s =
      let here = told_at f fs k x lt is None in
      let e : take (k + 1) (set new k id) ≡ take k new ++ id ∷ [] = take_more_set new k id room in
      record {
        numbered = subst (λ (l : List ℤ). Numbered start (map f fs) (k + 1) l) (sym e) (numbered_more start (map f fs) k (take k new) a.numbered id (λ n q. s.stated n (sym here ∙ q))
            (λ q. least_after start (take k new) top a.tops (map f fs) id (s.given (sym here ∙ q))));
        tops = subst (λ (l : List ℤ). Tops start l (int_max top id)) (sym e) (tops_more start (take k new) top a.tops id);
        rest = drop-set-lt (k + 1) new k id (omega arith) ∙ sym (drop-drop 1 k new) ∙ ap (drop 1) a.rest ∙ drop-drop 1 k old;
      }

  -- all fields have their ids
  pub turn_all : k ≡ length fs → length fs ≤ length old → Wrote start (map f fs) old new
  turn_all end room =
      let z = length-map fs f in
      let all : k ≡ length (map f fs) = omega arith in
      let b : Turned start (map f fs) old new (length (map f fs)) top = subst (λ (n : ℕ). Turned start (map f fs) old new n top) all a in
      record { room = omega arith; numbering = b.numbered; rest = b.rest }
