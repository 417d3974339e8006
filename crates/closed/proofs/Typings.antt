-- The type of a partition, field by field. Assumes nothing.
use Rattle.std.proofs.Common.{◌≡◌, ℕ, zero, suc, ◌+◌, ◌<◌, ◌≤◌, ◌≢◌, List, [], ◌∷◌, length, get_or, drop, set, Some, None, Ok, Err, Option, Result, sym, ap, ◌∙◌, subst, arith, below_more, MatchResult}
use Rattle.std.proofs.lemmas.List.{length-set, length-map, get_or-set_same, get_or-set_other, drop-set-lt, drop-drop, get_or_default}
use Rattle.faults.specs.Told.{Told}
use Rattle.faults.specs.Rules.{Rule, rule, Kept, AllKept, FirstBroken}
use Rattle.transforms.specs.declared.datatypes.«Type».{«Type» as ColumnType}
use Rattle.transforms.specs.declared.transform.Transform.{Transform}
use Rattle.schemas.specs.Columns.{Columns}
use Rattle.schemas.specs.declared.schema.Column.{Column}
use Rattle.partitions.specs.Fields.{PaperField}
use Rattle.std.proofs.lemmas.Option.{none-some}
use Rattle.faults.proofs.Firsts.{keeps, kept_join, broken_front, broken_back}
use Rattle.closed.specs.Opened.{opened, openeds}
use Rattle.closed.specs.TypeFaults.{told}
use Rattle.closed.specs.Typing.{made_of, making_rules, result_on, field_rules, each_rules, KeptBefore, Typed, TypedAt, Types}
use Rattle.closed.specs.declared.field.PartitionField.{PartitionField}
use Rattle.closed.specs.declared.types.TypeFault.{TypeFault}
use Rattle.closed.specs.declared.types.TypeField.{TypeField}

-- a field that has a result type keeps its rules
made_kept : (t : Transform) (o : Option Column) (x : ColumnType) → made_of t o ≡ Some x → AllKept (rule 24 (o ≡ None) ∷ making_rules t o)
made_kept t None x e = absurd (none-some x e)
made_kept t (Some column) x e = (keeps 24 _ (λ p. none-some column (sym p)), (keeps 8 _ (λ p. none-some x (sym p ∙ e)), tt))

module _ (c : Columns) where
  pub result_kept : (f : PaperField) (x : ColumnType) → result_on c f ≡ Some x → AllKept (field_rules c f)
  result_kept f x e = made_kept f.transform (c.by_id f.source) x e

  -- the first broken rule of the first field that breaks one
  pub broken_at : (t : Told) (fs : List PaperField) (i : ℕ) (d : PaperField) → i < length fs → KeptBefore c fs i → FirstBroken (field_rules c (get_or fs i d)) t → FirstBroken (each_rules c fs) t
  broken_at t [] i d lt k b = absurd (omega arith)
  broken_at t (f ∷ fs) zero d lt k b = broken_front t (field_rules c f) (each_rules c fs) b
  broken_at t (f ∷ fs) (suc i) d lt k b =
      broken_back t (field_rules c f) (each_rules c fs) (k 0 d (omega arith)) (broken_at t fs i d (omega arith) (λ j e l. k (suc j) e (omega arith)) b)

  pub each_kept : (fs : List PaperField) → KeptBefore c fs (length fs) → AllKept (each_rules c fs)
  each_kept [] k = tt
  each_kept (f ∷ fs) k = kept_join (field_rules c f) (each_rules c fs) (k 0 f (omega arith)) (each_kept fs (λ j e l. k (suc j) e (omega arith)))

  module _ (fs : List PaperField) where
    -- f stands at i
    module _ (i : ℕ) (f : PaperField) (lt : i < length fs) (read : f ≡ get_or fs i f) where
      same : (d : PaperField) → f ≡ get_or fs i d
      same d = read ∙ get_or_default fs i f d lt

      pub kept_more : (x : ColumnType) → result_on c f ≡ Some x → KeptBefore c fs i → KeptBefore c fs (i + 1)
      kept_more x e k j d l = below_more (λ m. AllKept (field_rules c (get_or fs m d))) i (λ m h. k m d h) (subst (λ (g : PaperField). AllKept (field_rules c g)) (same d) (result_kept f x e)) j l

      pub broken_here : (t : Told) → KeptBefore c fs i → FirstBroken (field_rules c f) t → FirstBroken (each_rules c fs) t
      broken_here t k b = broken_at t fs i f lt k (subst (λ (g : PaperField). FirstBroken (field_rules c g) t) read b)

      pub typed_more : (old new : List TypeField) (x : TypeField) → i < length new → TypedAt c i f x → Typed c fs i old new → Typed c fs (i + 1) old (set new i x)
      typed_more old new x room is a = record {
        room = let z = a.size in omega arith;
        size = length-set new i x ∙ a.size;
        each = λ k d e l. below_more (λ m. TypedAt c m (get_or fs m d) (get_or (set new i x) m e)) i
            (λ m h. let ne : m ≢ i = omega arith in subst (TypedAt c m (get_or fs m d)) (sym (get_or-set_other new i m x e ne)) (a.each m d e h))
            (subst (TypedAt c i (get_or fs i d)) (sym (get_or-set_same new i x e room)) (subst (λ (g : PaperField). TypedAt c i g x) (same d) is)) k l;
        past = drop-set-lt (i + 1) new i x (omega arith) ∙ sym (drop-drop 1 i new) ∙ ap (drop 1) a.past ∙ drop-drop 1 i old;
      }

-- what the exit of a `?` returns
pub refused_by : {T : Type 0} (P : Type 0) (rules : List Rule) (r : Result T TypeFault) (y fault : TypeFault) → r ≡ Err y → y ≡ fault → FirstBroken rules (told fault) → MatchResult r (λ _. P) (λ e. FirstBroken rules (told e))
refused_by {T} P rules r y fault e q b = subst (λ (s : Result T TypeFault). MatchResult s (λ _. P) (λ e. FirstBroken rules (told e))) (sym (e ∙ ap Err q)) b

-- how asking for the type can end, from the fields in the code to those on paper
module _ (c : Columns) (fs : List PartitionField) (gs : List PaperField) (is : openeds fs ≡ gs) (old : List TypeField) where
  length_paper : length fs ≡ length gs
  length_paper = sym (length-map fs opened) ∙ ap length is

  module _ (room : length fs ≤ length old) where
    enough : Kept (rule 12 (length old < length gs))
    enough = let size = length_paper in keeps 12 _ (λ less. omega arith)

    pub types_all : (new : List TypeField) → KeptBefore c (openeds fs) (length fs) → Typed c (openeds fs) (length fs) old new → Types c gs old new (Ok (length fs))
    types_all new kept typed = (
      length_paper,
      (enough, subst (λ (l : List PaperField). AllKept (each_rules c l)) is (each_kept c (openeds fs) (subst (KeptBefore c (openeds fs)) (sym (length-map fs opened)) kept))),
      subst (λ (l : List PaperField). Typed c l (length fs) old new) is typed,
    )
