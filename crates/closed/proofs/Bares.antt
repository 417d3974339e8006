-- Fields that are the same but for their ids, and fields whose ids are all stated. Assumes nothing.
use Rattle.std.proofs.Common.{◌≡◌, ℕ, ◌<◌, List, [], ◌∷◌, map, length, get_or, ℤ, pos, Some, None, Option, sym, refl, ap, ◌∙◌, subst, arith}
use mathlib.Core.List.{map-map}
use Rattle.std.proofs.lemmas.List.{length-map, get_or-map}
use Rattle.transforms.specs.Orders.{Alike}
use Rattle.transforms.specs.declared.transform.Transform.TheVariants.{Void}
use Rattle.numbering.specs.Ids.{Distinct}
use Rattle.numbering.specs.Numbering.{StatedOnce, AllState}
use Rattle.std.proofs.lemmas.Option.{same_Some}
use Rattle.partitions.specs.Buildable.{SameName, BothAlike, SameId}
use Rattle.partitions.specs.Fields.{PaperField, HasStatedId}
use Rattle.partitions.specs.Places.{Apart}
use Rattle.closed.specs.Bare.{bare, bares, stateds}
use Rattle.closed.specs.Opened.{opened, openeds, ids_of}
use Rattle.closed.specs.declared.field.PartitionField.{PartitionField}
use Rattle.partitions.proofs.Viewed.{same_views_length}

-- places that are apart by a view are apart in every list that has the same views
module _ {X Y : Type 0} (f : X → Y) (D : Y → Y → Type 0) (xs ys : List X) (same : map f xs ≡ map f ys) where
  viewed : (i : ℕ) (d : X) → i < length xs → f (get_or xs i d) ≡ f (get_or ys i d)
  viewed i d lt =
      let size = same_views_length f xs ys same in
      sym (get_or-map f xs i d (f d) lt) ∙ ap (λ (l : List Y). get_or l i (f d)) same ∙ get_or-map f ys i d (f d) (omega arith)

  pub apart_viewed : Apart (λ x y. D (f x) (f y)) ys → Apart (λ x y. D (f x) (f y)) xs
  apart_viewed a c =
      let size = same_views_length f xs ys same in
      let inside : c.later < length xs = c.inside in
      a (record {
        earlier = c.earlier;
        later = c.later;
        order = c.order;
        inside = omega arith;
        clash = λ d.
            subst (λ (y : Y). D y (f (get_or ys c.later d))) (viewed c.earlier d (omega (arith, c.order)))
            (subst (D (f (get_or xs c.earlier d))) (viewed c.later d inside) (c.clash d));
      })

module _ (xs ys : List PaperField) (same : bares xs ≡ bares ys) where
  pub same_length : length xs ≡ length ys
  same_length = same_views_length bare xs ys same

  pub names_kept : Apart SameName ys → Apart SameName xs
  names_kept = apart_viewed bare (λ x y. x.name ≡ y.name) xs ys same

  pub sources_kept : Apart BothAlike ys → Apart BothAlike xs
  sources_kept = apart_viewed bare (λ x y. (x.source ≡ y.source) × Alike x.transform y.transform) xs ys same

some_blank : PaperField
some_blank = record { source = pos 0; id = None; name = []; transform = Void }

-- fields with these ids
module _ (fs : List PaperField) (ids : List ℤ) (all : AllState (stateds fs) ids) where
  pub stated_length : length fs ≡ length ids
  stated_length = sym (length-map fs (λ (f : PaperField). f.id)) ∙ ap length all ∙ length-map ids Some

  pub stated_at : (i : ℕ) (d : PaperField) → i < length fs → (get_or fs i d).id ≡ Some (get_or ids i (pos 0))
  stated_at i d lt =
      let size = stated_length in
      sym (get_or-map (λ (f : PaperField). f.id) fs i d None lt) ∙ ap (λ (l : List (Option ℤ)). get_or l i None) all ∙ get_or-map Some ids i (pos 0) None (omega arith)

  pub distinct_apart : Distinct ids → Apart SameId fs
  distinct_apart distinct c =
      let size = stated_length in
      let inside : c.later < length fs = c.inside in
      let early : c.earlier < length fs = omega (arith, c.order) in
      let clash : HasStatedId (Some (get_or ids c.later (pos 0))) (get_or fs c.earlier some_blank)
      = subst (λ (o : Option ℤ). HasStatedId o (get_or fs c.earlier some_blank)) (stated_at c.later some_blank inside) (c.clash some_blank) in
      distinct c.earlier c.later c.order (omega arith) (same_Some _ _ (sym (stated_at c.earlier some_blank early) ∙ clash))

  pub apart_distinct : Apart SameId fs → Distinct ids
  apart_distinct a i j lt inside e =
      let size = stated_length in
      a (record {
        earlier = i;
        later = j;
        order = lt;
        inside = omega arith;
        clash = λ d. subst (λ (o : Option ℤ). HasStatedId o (get_or fs i d)) (sym (stated_at j d (omega arith))) (stated_at i d (omega arith) ∙ ap Some e);
      })

pub stated_once : (fs : List PaperField) → Apart SameId fs → StatedOnce (stateds fs)
stated_once fs a i j n lt inside p q =
    let size = length-map fs (λ (f : PaperField). f.id) in
    let is : (k : ℕ) (d : PaperField) → k < length fs → get_or (stateds fs) k None ≡ (get_or fs k d).id = λ k d l. get_or-map (λ (f : PaperField). f.id) fs k d None l in
    a (record {
      earlier = i;
      later = j;
      order = lt;
      inside = omega arith;
      clash = λ d. subst (λ (o : Option ℤ). HasStatedId o (get_or fs i d)) (sym q ∙ is j d (omega arith)) (sym (is i d (omega arith)) ∙ p);
    })

-- the same but for the ids, and the same ids
pub same_fields : (xs ys : List PaperField) → bares xs ≡ bares ys → stateds xs ≡ stateds ys → xs ≡ ys
same_fields [] [] b s = refl
same_fields [] (y ∷ ys) b s = absurd (let z : ◌≡◌ {A = ℕ} 0 1 = cc in omega arith)
same_fields (x ∷ xs) [] b s = absurd (let z : ◌≡◌ {A = ℕ} 0 1 = cc in omega arith)
same_fields (x ∷ xs) (y ∷ ys) b s =
    let bs : bares xs ≡ bares ys = cc in
    let ss : stateds xs ≡ stateds ys = cc in
    let rest : bare x ≡ bare y = cc in
    let id : x.id ≡ y.id = cc in
    let head : x ≡ y = (λ k. record { source = (rest k).source; id = id k; name = (rest k).name; transform = (rest k).transform }) in
    let tail = same_fields xs ys bs ss in
    cc

-- what is opened states every id
pub opened_state : (fs : List PartitionField) → AllState (stateds (openeds fs)) (ids_of fs)
opened_state fs = map-map (λ (f : PaperField). f.id) opened fs ∙ sym (map-map Some (λ (f : PartitionField). f.field_id) fs)
