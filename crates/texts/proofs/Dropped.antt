-- Dropped dropped: what a turn of each loop keeps, and that what is left is one thing only. Assumes nothing.
use Rattle.std.proofs.Common.{◌≡◌, ℕ, zero, suc, ◌+◌, ◌-◌, List, [], ◌∷◌, ◌++◌, length, get_or, drop, replicate, sym, ap, ◌∙◌, append_assoc, append-nil, add-one, arith}
use Rattle.std.proofs.lemmas.List.{replicate_more, same_from_push, get_or_push, length_push}
use Rattle.texts.specs.Width.{Between}

pub one_open : (text rest after : List ℕ) (k : ℕ) → text ≡ replicate k 91 ++ rest → rest ≡ 91 ∷ after → text ≡ replicate (k + 1) 91 ++ after
one_open text rest after k e h =
    e ∙ ap (λ l. replicate k 91 ++ l) h ∙ sym (append_assoc (replicate k 91) (91 ∷ []) after) ∙ ap (λ l. l ++ after) (replicate_more k 91)

pub one_close : (text rest before : List ℕ) (k : ℕ) → text ≡ rest ++ replicate k 93 → rest ≡ before ++ 93 ∷ [] → text ≡ before ++ replicate (k + 1) 93
one_close text rest before k e h =
    e ∙ ap (λ l. l ++ replicate k 93) h ∙ append_assoc before (93 ∷ []) (replicate k 93) ∙ ap (λ n. before ++ replicate n 93) (sym (add-one k))

open_only : (a b : List ℕ) (j k : ℕ) → replicate j 91 ++ a ≡ replicate k 91 ++ b → (get_or a 0 0 ≡ 91 → ⊥) → (get_or b 0 0 ≡ 91 → ⊥) → a ≡ b
open_only a b zero zero e n m = e
open_only a b zero (suc k) e n m = absurd (n (ap (λ l. get_or l 0 0) e))
open_only a b (suc j) zero e n m = absurd (m (sym (ap (λ l. get_or l 0 0) e)))
open_only a b (suc j) (suc k) e n m = open_only a b j k (ap (drop 1) e) n m

-- the last of the closing brackets
last_close : (a : List ℕ) (k : ℕ) → a ++ replicate (suc k) 93 ≡ (a ++ replicate k 93) ++ 93 ∷ []
last_close a k = ap (λ n. a ++ replicate n 93) (sym (add-one k)) ∙ ap (λ l. a ++ l) (sym (replicate_more k 93)) ∙ sym (append_assoc a (replicate k 93) (93 ∷ []))

ends_so : (a b : List ℕ) → a ≡ b ++ 93 ∷ [] → get_or a (length a - 1) 0 ≡ 93
ends_so a b e =
    let n : length b ≡ length (b ++ 93 ∷ []) - 1 = omega (arith, length_push b 93) in
    ap (λ l. get_or l (length l - 1) 0) e ∙ get_or_push b 93 0 (length (b ++ 93 ∷ []) - 1) n

close_only : (a b : List ℕ) (j k : ℕ) → a ++ replicate j 93 ≡ b ++ replicate k 93 → (get_or a (length a - 1) 0 ≡ 93 → ⊥) → (get_or b (length b - 1) 0 ≡ 93 → ⊥) → a ≡ b
close_only a b zero zero e n m = sym (append-nil a) ∙ e ∙ append-nil b
close_only a b zero (suc k) e n m = absurd (n (ends_so a (b ++ replicate k 93) (sym (append-nil a) ∙ e ∙ last_close b k)))
close_only a b (suc j) zero e n m = absurd (m (ends_so b (a ++ replicate j 93) (sym (append-nil b) ∙ sym e ∙ last_close a j)))
close_only a b (suc j) (suc k) e n m = close_only a b j k (same_from_push (a ++ replicate j 93) (b ++ replicate k 93) 93 93 (sym (last_close a j) ∙ e ∙ last_close b k)).0 n m

pub between_only : (text a b : List ℕ) → Between text a → Between text b → a ≡ b
between_only text a b p q =
    let o = p.1.0 in
    let o' = q.1.0 in
    let c = p.1.1 in
    let c' = q.1.1 in
    let same = open_only p.0 q.0 o.count o'.count (sym o.whole ∙ o'.whole) o.none o'.none in
    close_only a b c.count c'.count (sym c.whole ∙ same ∙ c'.whole) c.none c'.none
