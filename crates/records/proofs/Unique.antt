-- Records are unique: the bytes of an entry, of entries and of a trailer tell what they are of. Assumes nothing.
use Rattle.std.proofs.Common.{◌≡◌, ℕ, ◌+◌, ◌*◌, ◌<◌, ◌≤◌, List, [], ◌∷◌, ◌++◌, map, length, get_or, take, drop, ℤ, Some, None, Option, sym, refl, ap, ◌∙◌, append_assoc, arith, length-append}
use Rattle.std.specs.List.{AllByRecursion}
use Rattle.std.proofs.lemmas.List.{take_at, drop_at, length-map}
use Rattle.names.specs.GoodName.{GoodName}
use Rattle.octets.specs.BigEndian.{be2, be_id}
use Rattle.octets.proofs.Numbers.{same_from_be, same_from_be_id}
use Rattle.partitions.specs.Fields.{PaperField, PaperSpec}
use Rattle.texts.proofs.Back.{short, same_text}
use Rattle.transforms.specs.Printed.{printed, Narrow}
use Rattle.records.specs.Format.{flagged, Entry, entry_bytes, entry_of, body_bytes, trailer_bytes, field_bytes, record_bytes, IdFits, FieldFits, EntryFits, Plan}

-- fronts of one length
pub same_fronts : {A : Type 0} (a b c d : List A) → length a ≡ length b → a ++ c ≡ b ++ d → (a ≡ b) × (c ≡ d)
same_fronts a b c d n e = (
  sym (take_at a c (length a) refl) ∙ ap (take (length a)) e ∙ take_at b d (length a) (sym n),
  sym (drop_at a c (length a) refl) ∙ ap (drop (length a)) e ∙ drop_at b d (length a) (sym n),
)

-- ends of one length
pub same_ends : {A : Type 0} (a b c d : List A) → length c ≡ length d → a ++ c ≡ b ++ d → (a ≡ b) × (c ≡ d)
same_ends a b c d n e = same_fronts a b c d (omega (arith, ap length e, length-append a c, length-append b d)) e

pub length_flagged : (id : Option ℤ) → length (flagged id) ≡ 5
length_flagged None = refl
length_flagged (Some id) = refl

pub flagged_unique : (i j : Option ℤ) → IdFits i → IdFits j → flagged i ≡ flagged j → i ≡ j
flagged_unique None None f g e = refl
flagged_unique None (Some j) f g e = let z : ◌≡◌ {A = ℕ} 0 1 = ap (λ l. get_or l 0 0) e in absurd (omega arith)
flagged_unique (Some i) None f g e = let z : ◌≡◌ {A = ℕ} 1 0 = ap (λ l. get_or l 0 0) e in absurd (omega arith)
flagged_unique (Some i) (Some j) f g e = ap (λ (z : ℤ). Some z) (same_from_be_id i j f g (ap (drop 1) e))

-- an entry with bytes behind it
pub entry_spread : (e : Entry) (rest : List ℕ) → entry_bytes e ++ rest ≡ be_id e.source ++ (flagged e.id ++ (length e.name ∷ (e.name ++ (length e.text ∷ (e.text ++ rest)))))
unfolding entry_bytes
entry_spread e rest = simp append_assoc

pub length_entry : (e : Entry) → length (entry_bytes e) ≡ 11 + length e.name + length e.text
unfolding entry_bytes
length_entry e = simp length-append (omega (arith, length_flagged e.id))

pub entry_unique : (e f : Entry) (xs ys : List ℕ) → EntryFits e → EntryFits f → entry_bytes e ++ xs ≡ entry_bytes f ++ ys → (e ≡ f) × (xs ≡ ys)
entry_unique e f xs ys p q h =
    let both = sym (entry_spread e xs) ∙ h ∙ entry_spread f ys in
    let a = same_fronts (be_id e.source) (be_id f.source) _ _ refl both in
    let b = same_fronts (flagged e.id) (flagged f.id) _ _ (length_flagged e.id ∙ sym (length_flagged f.id)) a.1 in
    let n = same_fronts e.name f.name _ _ (ap (λ l. get_or l 0 0) b.1) (ap (drop 1) b.1) in
    let t = same_fronts e.text f.text xs ys (ap (λ l. get_or l 0 0) n.1) (ap (drop 1) n.1) in
    let source = same_from_be_id e.source f.source p.source q.source a.0 in
    let id = flagged_unique e.id f.id p.id q.id b.0 in
    ((λ i. record { source = source i; id = id i; name = n.0 i; text = t.0 i }), t.1)

body_more : (e : Entry) (es : List Entry) (xs : List ℕ) → body_bytes (e ∷ es) ++ xs ≡ entry_bytes e ++ (body_bytes es ++ xs)
unfolding body_bytes
body_more e es xs = append_assoc (entry_bytes e) (body_bytes es) xs

pub body_unique : (es fs : List Entry) (xs ys : List ℕ) → AllByRecursion EntryFits es → AllByRecursion EntryFits fs → length es ≡ length fs → body_bytes es ++ xs ≡ body_bytes fs ++ ys → (es ≡ fs) × (xs ≡ ys)
unfolding body_bytes
body_unique [] [] xs ys p q n h = (refl, h)
body_unique [] (f ∷ fs) xs ys p q n h = absurd (omega arith)
body_unique (e ∷ es) [] xs ys p q n h = absurd (omega arith)
body_unique (e ∷ es) (f ∷ fs) xs ys p q n h =
    let a = entry_unique e f (body_bytes es ++ xs) (body_bytes fs ++ ys) p.0 q.0 (sym (body_more e es xs) ∙ h ∙ body_more f fs ys) in
    let b = body_unique es fs xs ys p.1 q.1 (omega arith) a.1 in
    ((λ i. a.0 i ∷ b.0 i), b.1)

pub trailer_unique : (i j : Option ℤ) (m n d e : ℕ) → IdFits i → IdFits j → d < 65536 → e < 65536 → trailer_bytes i m d ≡ trailer_bytes j n e → (i ≡ j) × (m ≡ n) × (d ≡ e)
trailer_unique i j m n d e p q r s h =
    let a = same_fronts (flagged i) (flagged j) (m ∷ be2 d) (n ∷ be2 e) (length_flagged i ∙ sym (length_flagged j)) h in
    (flagged_unique i j p q a.0, ap (λ l. get_or l 0 0) a.1, same_from_be 2 d e r s (ap (drop 1) a.1))

pub length_trailer : (id : Option ℤ) (count distance : ℕ) → length (trailer_bytes id count distance) ≡ 8
length_trailer None count distance = refl
length_trailer (Some id) count distance = refl

pub field_entry_fits : (f : PaperField) → FieldFits f → GoodName f.name → EntryFits (entry_of f)
field_entry_fits f p g =
    let text = short f.transform p.width in
    record { source = p.source; id = p.id; some = omega (arith, g.some); short = g.short; text = omega arith }

pub fields_entry_fits : (fs : List PaperField) → AllByRecursion FieldFits fs → AllByRecursion (λ f. GoodName f.name) fs → AllByRecursion EntryFits (map entry_of fs)
fields_entry_fits [] p g = tt
fields_entry_fits (f ∷ fs) p g = (field_entry_fits f p.0 g.0, fields_entry_fits fs p.1 g.1)

-- the entry of a field tells the field
pub entry_of_unique : (f g : PaperField) → Narrow f.transform → Narrow g.transform → entry_of f ≡ entry_of g → f ≡ g
entry_of_unique f g p q e =
    let t : f.transform ≡ g.transform = (same_text (printed f.transform) (printed g.transform) f.transform g.transform (p, refl) (q, refl)).0 (ap (λ (x : Entry). x.text) e) in
    λ i. record { source = (e i).source; id = (e i).id; name = (e i).name; transform = t i }

pub entries_unique : (fs gs : List PaperField) → AllByRecursion FieldFits fs → AllByRecursion FieldFits gs → map entry_of fs ≡ map entry_of gs → fs ≡ gs
entries_unique [] [] p q e = refl
entries_unique [] (g ∷ gs) p q e = let n : ◌≡◌ {A = ℕ} _ _ = ap length e in absurd (omega arith)
entries_unique (f ∷ fs) [] p q e = let n : ◌≡◌ {A = ℕ} _ _ = ap length e in absurd (omega arith)
entries_unique (f ∷ fs) (g ∷ gs) p q e =
    let a : entry_of f ≡ entry_of g = ap (λ l. get_or l 0 (entry_of f)) e in
    let h = entry_of_unique f g p.0.width q.0.width a in
    let t = entries_unique fs gs p.1 q.1 (ap (drop 1) e) in
    λ i. h i ∷ t i

-- an entry of a field has at most 11 bytes beside a name of 128 and a text of 20
pub field_short : (f : PaperField) → Narrow f.transform → GoodName f.name → length (entry_bytes (entry_of f)) ≤ 159
field_short f p g = omega (arith, length_entry (entry_of f), short f.transform p, g.short)

pub fields_short : (fs : List PaperField) → AllByRecursion FieldFits fs → AllByRecursion (λ f. GoodName f.name) fs → length (field_bytes fs) ≤ 159 * length fs
unfolding body_bytes
fields_short [] p g = omega arith
fields_short (f ∷ fs) p g =
    let one = field_short f p.0.width g.0 in
    let rest = fields_short fs p.1 g.1 in
    omega (arith, length-append (entry_bytes (entry_of f)) (field_bytes fs))

pub length_record : (s : PaperSpec) → length (record_bytes s) ≡ length (field_bytes s.fields) + 8
unfolding record_bytes
length_record s =
    length-append (field_bytes s.fields) _ ∙ ap (λ n. length (field_bytes s.fields) + n) (length_trailer s.spec_id (length s.fields) (length (field_bytes s.fields)))

-- the distance fits its two bytes
pub distance_fits : (s : PaperSpec) → Plan s → length (field_bytes s.fields) < 65536
distance_fits s p = omega (arith, fields_short s.fields p.each p.buildable.good, p.buildable.few)

pub record_unique : (s t : PaperSpec) → Plan s → Plan t → record_bytes s ≡ record_bytes t → s ≡ t
unfolding record_bytes
record_unique s t p q e =
    let m = length (field_bytes s.fields) in
    let n = length (field_bytes t.fields) in
    let parts = same_ends (field_bytes s.fields) (field_bytes t.fields) (trailer_bytes s.spec_id (length s.fields) m) (trailer_bytes t.spec_id (length t.fields) n)
    (length_trailer s.spec_id (length s.fields) m ∙ sym (length_trailer t.spec_id (length t.fields) n)) e in
    let tail = trailer_unique s.spec_id t.spec_id (length s.fields) (length t.fields) m n p.id q.id (distance_fits s p) (distance_fits t q) parts.1 in
    let count = length-map s.fields entry_of ∙ tail.1 ∙ sym (length-map t.fields entry_of) in
    let body = body_unique (map entry_of s.fields) (map entry_of t.fields) [] [] (fields_entry_fits s.fields p.each p.buildable.good) (fields_entry_fits t.fields q.each q.buildable.good) count (ap (λ l. l ++ []) parts.0) in
    let fields = entries_unique s.fields t.fields p.each q.each body.0 in
    λ i. record { spec_id = tail.0 i; fields = fields i }
