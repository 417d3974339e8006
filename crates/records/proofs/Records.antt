-- A trailer put after the entries makes the record. Assumes nothing.
use Rattle.std.proofs.Common.{◌≡◌, ℕ, ◌+◌, ◌≤◌, List, ◌++◌, length, take, drop, sym, ap, ◌∙◌, append_assoc, arith}
use Rattle.std.proofs.lemmas.List.{take_at, drop_at, drop-drop}
use Rattle.partitions.specs.Fields.{PaperSpec}
use Rattle.records.specs.Format.{field_bytes, record_bytes, trailer_bytes, Plan, RecordOf}
use Rattle.records.specs.SameRecord.{SameRecordExactlyWhenEqual}
use Rattle.records.specs.Written.{laid}
use Rattle.records.proofs.Unique.{length_trailer, length_record, record_unique}

-- bytes put after others, which stand at the front of what the output was
laid_after : (p t was now after : List ℕ) (at : ℕ) → at ≡ length p → now ≡ p ++ drop at was → after ≡ laid at t now → after ≡ (p ++ t) ++ drop (at + length t) was
unfolding laid
laid_after p t was now after at n is put =
    let front : take at now ≡ p = ap (take at) is ∙ take_at p (drop at was) at (sym n) in
    let tail : drop (at + length t) now ≡ drop (at + length t) was =
    sym (drop-drop (length t) at now) ∙ ap (drop (length t)) (ap (drop at) is ∙ drop_at p (drop at was) at (sym n)) ∙ drop-drop (length t) at was in
    put ∙ (λ i. front i ++ (t ++ tail i)) ∙ sym (append_assoc p t (drop (at + length t) was))

trailer_is : (s : PaperSpec) (distance : ℕ) → distance ≡ length (field_bytes s.fields) → field_bytes s.fields ++ trailer_bytes s.spec_id (length s.fields) distance ≡ record_bytes s
unfolding record_bytes
trailer_is s distance d = λ i. field_bytes s.fields ++ trailer_bytes s.spec_id (length s.fields) (d i)

-- what writing the whole does
pub record Wrote (s : PaperSpec) (was after : List ℕ) (end : ℕ) : Type 0 where
  pub len : end ≡ length (record_bytes s)
  pub fits : end ≤ length was
  pub is : after ≡ record_bytes s ++ drop end was

pub wrote : (s : PaperSpec) (was now after tail : List ℕ) (at distance end : ℕ) → at ≡ length (field_bytes s.fields) → now ≡ field_bytes s.fields ++ drop at was → tail ≡ trailer_bytes s.spec_id (length s.fields) distance
    → distance ≡ length (field_bytes s.fields) → distance + 8 ≤ length was → end ≡ at + length tail → after ≡ laid at tail now → Wrote s was after end
wrote s was now after tail at distance end a n t d room e put =
    let whole : field_bytes s.fields ++ tail ≡ record_bytes s = ap (λ l. field_bytes s.fields ++ l) t ∙ trailer_is s distance d in
    let size : length tail ≡ 8 = ap length t ∙ length_trailer s.spec_id (length s.fields) distance in
    let long = length_record s in
    record {
      len = omega arith;
      fits = omega arith;
      is = laid_after (field_bytes s.fields) tail was now after at a n put ∙ (λ i. whole i ++ drop (sym e i) was);
    }

pub record_of : (s : PaperSpec) (was after : List ℕ) (end : ℕ) → Wrote s was after end → Plan s → RecordOf (take end after) s
record_of s was after end w p = record { is = ap (take end) w.is ∙ take_at (record_bytes s) (drop end was) end (sym w.len); plan = p }

pub same_record : SameRecordExactlyWhenEqual
same_record s t p q = (record_unique s t p q, λ e. ap record_bytes e)
