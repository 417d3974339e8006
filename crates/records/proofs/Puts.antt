-- Bytes put one after another, and an entry in the parts that are put. Assumes nothing.
use Rattle.std.proofs.Common.{◌≡◌, ℕ, ◌+◌, ◌-◌, ◌≤◌, List, [], ◌∷◌, ◌++◌, length, take, drop, Some, Option, Result, Ok, Err, sym, refl, ap, ◌∙◌, subst, append_assoc, zero-add, arith, length-append}
use lib.Seq.{paste}
use Rattle.std.specs.Result.{result_unwrap_or}
use Rattle.std.proofs.lemmas.List.{take_at}
use Rattle.texts.specs.Writing.{Wrote}
use Rattle.texts.specs.declared.print.OutputShort.{OutputShort}
use Rattle.std.proofs.lemmas.List.Edits.{paste_all, paste-paste}
use Rattle.octets.specs.BigEndian.{be_id}
use Rattle.octets.specs.Octets.{PutAt}
use Rattle.records.specs.Format.{Entry, entry_bytes, flagged}
use Rattle.records.specs.Written.{laid}

pub put_laid : (bytes was after : List ℕ) (at end : ℕ) (r : Option ℕ) → PutAt bytes was at after r → r ≡ Some end → (end ≡ at + length bytes) × (after ≡ laid at bytes was)
unfolding laid
put_laid bytes was after at end r p e = let h = subst (PutAt bytes was at after) e p in (h.1, h.2)

laid_laid : (at : ℕ) (s t o : List ℕ) → at ≤ length o → laid (at + length s) t (laid at s o) ≡ laid at (s ++ t) o
unfolding laid
laid_laid at s t o h =
    sym (paste_all (laid at s o) (at + length s) t (length t) refl)
    ∙ ap (λ d. paste d (at + length s) t (length t)) (sym (paste_all o at s (length s) refl))
    ∙ paste-paste o at s t (length s) (length t) refl refl h
    ∙ paste_all o at (s ++ t) (length s + length t) (sym (length-append s t))
    ∙ ap (λ n. take at o ++ ((s ++ t) ++ drop (at + n) o)) (sym (length-append s t))

-- bytes are put at the front, and the place after them is told
pub record Front (bytes was now : List ℕ) (at : ℕ) : Type 0 where
  pub is : now ≡ laid 0 bytes was
  pub end : at ≡ length bytes

pub front_first : (s was now : List ℕ) (a : ℕ) → now ≡ laid 0 s was → a ≡ 0 + length s → Front s was now a
front_first s was now a e h = record { is = e; end = h ∙ zero-add _ }

pub front_more : (s t was now after : List ℕ) (a b : ℕ) → Front s was now a → after ≡ laid a t now → b ≡ a + length t → Front (s ++ t) was after b
front_more s t was now after a b w e h = record {
  is = e ∙ ap (λ n. laid n t now) (w.end ∙ sym (zero-add (length s))) ∙ ap (λ l. laid (0 + length s) t l) w.is ∙ laid_laid 0 s t was (omega arith);
  end = h ∙ ap (λ n. n + length t) w.end ∙ sym (length-append s t);
}

pub front_all : (s bytes was now : List ℕ) (a : ℕ) → s ≡ bytes → Front s was now a → (a ≡ length bytes) × (now ≡ bytes ++ drop (length bytes) was)
unfolding laid
front_all s bytes was now a e w = (w.end ∙ ap length e, w.is ∙ ap (λ n. s ++ drop n was) (zero-add (length s)) ∙ ap (λ l. l ++ drop (length l) was) e)

-- `room[0..n]`
pub cut_is : (n : ℕ) (room text : List ℕ) → take n room ≡ text → take (n - 0) room ≡ text
cut_is n room text e = let z : n - 0 ≡ n = omega arith in ap (λ k. take k room) z ∙ e

-- an entry in the parts in which it is put
entry_parts : (e : Entry) → (((be_id e.source ++ (flagged e.id ++ (length e.name ∷ []))) ++ e.name) ++ (length e.text ∷ [])) ++ e.text ≡ entry_bytes e
unfolding entry_bytes
entry_parts e = simp append_assoc

pub parts_same : (e : Entry) (len : ℕ) (head name text : List ℕ) → head ≡ be_id e.source ++ (flagged e.id ++ (length e.name ∷ [])) → name ≡ e.name → len ≡ length e.text → text ≡ e.text
    → ((head ++ name) ++ (len ∷ [])) ++ text ≡ entry_bytes e
parts_same e len head name text p q r s = let whole = entry_parts e in cc

-- a text that the room is long enough for, at the room's front
pub printed_in : (text was now : List ℕ) (r : Result ℕ OutputShort) (n : ℕ) → Wrote text was now r → length text ≤ length was → n ≡ result_unwrap_or r 0 → (n ≡ length text) × (take n now ≡ text)
printed_in text was now (Ok len) n w fits e = (e ∙ w.0, ap (take n) w.2 ∙ take_at text (drop len was) n (sym (e ∙ w.0)))
printed_in text was now (Err f) n w fits e = absurd (omega (arith, w.0))
