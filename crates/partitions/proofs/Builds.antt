-- Fields that a draft can hold: one more, fewer, and the same as fields that can be added one by one. Assumes nothing.
use Rattle.std.proofs.Common.{◌≡◌, ℕ, ◌+◌, ◌<◌, List, [], ◌∷◌, ◌++◌, length, get_or, take, Some, None, sym, ◌∙◌, subst, ⊎_elim, arith}
use Rattle.std.proofs.ByRecursion.{All-push, All-get_or, All-take, All-from_get_or}
use Rattle.std.proofs.lemmas.List.{length_push, length-take, length-take-le, get_or_append_left, get_or_push, get_or-take, get_or_default}
use Rattle.std.proofs.lemmas.Bool.{cases_lt}
use Rattle.faults.specs.Rules.{AllKept}
use Rattle.names.specs.GoodName.{GoodName}
use Rattle.names.specs.NameRules.{name_rules}
use Rattle.names.proofs.Good.{exactly}
use Rattle.names.proofs.Good as good
use Rattle.partitions.specs.AddRules.{add_rules, used_rules, last_rules}
use Rattle.partitions.specs.Buildable.{Buildable, Built, BuildableExactlyWhenBuilt, SameName, BothAlike, SameId}
use Rattle.partitions.specs.Fields.{PaperField, Named, AlikeOn, HasStatedId}
use Rattle.partitions.specs.Places.{Nowhere, Apart}
use Rattle.partitions.proofs.Finding.{no_first, nowhere_from, nowhere_not, nowhere_since}
use Rattle.faults.proofs.Firsts.{keeps, keeps_at, kept_join}

module _ {X : Type 0} (C : X → X → Type 0) where
  pub apart_none : Apart C []
  apart_none c = omega (arith, c.inside)

  pub apart_push : (xs : List X) (x : X) → Apart C xs → Nowhere (λ y. C y x) xs → Apart C (xs ++ x ∷ [])
  apart_push xs x a n c =
      let last : c.later < length xs + 1 = subst (λ m. c.later < m) (length_push xs x) c.inside in
      let before : c.earlier < length xs = omega (arith, c.order) in
      let old : (i : ℕ) → i < length xs → (d : X) → get_or (xs ++ x ∷ []) i d ≡ get_or xs i d = λ i l d. get_or_append_left xs (x ∷ []) d i l in
      ⊎_elim
      (λ l. a (record {
        earlier = c.earlier;
        later = c.later;
        order = c.order;
        inside = l;
        clash = λ d. subst (λ y. C y (get_or xs c.later d)) (old c.earlier before d) (subst (C (get_or (xs ++ x ∷ []) c.earlier d)) (old c.later l d) (c.clash d));
      }))
      (λ l.
      let end : length xs ≡ c.later = omega arith in
      n c.earlier x before (subst (λ y. C y x) (old c.earlier before x) (subst (C (get_or (xs ++ x ∷ []) c.earlier x)) (get_or_push xs x x c.later end) (c.clash x))))
      (cases_lt c.later (length xs))

  pub apart_take : (n : ℕ) (xs : List X) → Apart C xs → Apart C (take n xs)
  apart_take n xs a c =
      let inside : c.later < length (take n xs) = c.inside in
      let size = length-take n xs in
      let later : c.later < n = omega arith in
      let earlier : c.earlier < n = omega (arith, c.order) in
      a (record {
        earlier = c.earlier;
        later = c.later;
        order = c.order;
        inside = omega arith;
        clash = λ d. subst (λ y. C y (get_or xs c.later d)) (get_or-take n xs c.earlier d earlier) (subst (C (get_or (take n xs) c.earlier d)) (get_or-take n xs c.later d later) (c.clash d));
      })

  -- what stands at k clashes with nothing before it
  pub apart_before : (xs : List X) (k : ℕ) (d : X) → k < length xs → Apart C xs → Nowhere (λ y. C y (get_or xs k d)) (take k xs)
  apart_before xs k d l a i e h p =
      let size = length-take-le k xs (omega arith) in
      let before : i < k = omega arith in
      a (record {
        earlier = i;
        later = k;
        order = before;
        inside = l;
        clash = λ d'. subst (λ y. C y (get_or xs k d')) (get_or-take k xs i e before ∙ get_or_default xs i e d' (omega arith)) (subst (C (get_or (take k xs) i e)) (get_or_default xs k d d' l) p);
      })

  -- and the other way round
  pub apart_from : (xs : List X) → ((k : ℕ) (d : X) → k < length xs → Nowhere (λ y. C y (get_or xs k d)) (take k xs)) → Apart C xs
  apart_from [] n c = omega (arith, c.inside)
  apart_from (x ∷ xs) n c =
      let size = length-take-le c.later (x ∷ xs) (omega (arith, c.inside)) in
      n c.later x c.inside c.earlier x (omega (arith, c.order))
      (subst (λ y. C y (get_or (x ∷ xs) c.later x)) (sym (get_or-take c.later (x ∷ xs) c.earlier x c.order)) (c.clash x))

-- what keeping every rule of an add gives, and what gives it
pub record Fits (fs : List PaperField) (f : PaperField) : Type 0 where
  pub good : GoodName f.name
  pub named : Nowhere (λ g. SameName g f) fs
  pub alike : Nowhere (λ g. BothAlike g f) fs
  pub stated : Nowhere (λ g. SameId g f) fs
  pub room : length fs < 64

pub fits : (fs : List PaperField) (f : PaperField) → AllKept (add_rules fs f) → Fits fs f
fits fs f k = record {
  good = (exactly f.name).1 (k.0, (k.1.0, (k.1.1.0, tt)));
  named = nowhere_from (Named f.name) fs (λ i. k.1.1.1.0 (Some i));
  alike = nowhere_from (AlikeOn f.source f.transform) fs (λ i. k.1.1.1.1.0 (Some i));
  stated = nowhere_since (HasStatedId f.id) fs (k.1.1.1.1.1.0 None);
  room = ⊎_elim (λ l. l) (λ l. absurd (k.1.1.1.1.1.1.0 None l)) (cases_lt (length fs) 64);
}

pub fits_kept : (fs : List PaperField) (f : PaperField) → Fits fs f → AllKept (add_rules fs f)
fits_kept fs f h =
    kept_join (name_rules f.name) (used_rules fs f ++ last_rules fs f) (good.keeps f.name h.good) (
      keeps_at 20 _ (no_first (Named f.name) fs h.named),
      (
        keeps_at 21 _ (no_first (AlikeOn f.source f.transform) fs h.alike),
        (keeps 27 _ (nowhere_not (HasStatedId f.id) fs h.stated), (keeps 28 _ (λ l. omega (arith, h.room)), tt)),
      ),
    )

pub buildable_none : Buildable []
buildable_none = record { few = omega arith; good = tt; names = apart_none SameName; sources = apart_none BothAlike; ids = apart_none SameId }

-- an accepted field keeps the fields buildable
pub buildable_push : (fs : List PaperField) (f : PaperField) → Buildable fs → AllKept (add_rules fs f) → Buildable (fs ++ f ∷ [])
buildable_push fs f b k =
    let h = fits fs f k in
    let size = length_push fs f in
    record {
      few = omega (arith, h.room);
      good = All-push (λ g. GoodName g.name) fs f b.good h.good;
      names = apart_push SameName fs f b.names h.named;
      sources = apart_push BothAlike fs f b.sources h.alike;
      ids = apart_push SameId fs f b.ids h.stated;
    }

pub buildable_take : (n : ℕ) (fs : List PaperField) → Buildable fs → Buildable (take n fs)
buildable_take n fs b =
    let size = length-take n fs in
    record {
      few = omega (arith, b.few);
      good = All-take (λ g. GoodName g.name) n fs b.good;
      names = apart_take SameName n fs b.names;
      sources = apart_take BothAlike n fs b.sources;
      ids = apart_take SameId n fs b.ids;
    }

pub built : (fs : List PaperField) → Buildable fs → Built fs
built fs b k d l =
    let size = length-take-le k fs (omega arith) in
    fits_kept (take k fs) (get_or fs k d) (record {
      good = All-get_or (λ g. GoodName g.name) fs k d l b.good;
      named = apart_before SameName fs k d l b.names;
      alike = apart_before BothAlike fs k d l b.sources;
      stated = apart_before SameId fs k d l b.ids;
      room = omega (arith, b.few);
    })

pub from_built : (fs : List PaperField) → Built fs → Buildable fs
from_built [] h = buildable_none
from_built (f ∷ fs) h =
    let gs = f ∷ fs in
    let each : (k : ℕ) (d : PaperField) → k < length gs → Fits (take k gs) (get_or gs k d) = λ k d l. fits (take k gs) (get_or gs k d) (h k d l) in
    let last = (each (length fs) f (omega arith)).room in
    let size = length-take-le (length fs) gs (omega arith) in
    record {
      few = omega arith;
      good = All-from_get_or (λ g. GoodName g.name) gs f (λ k l. (each k f l).good);
      names = apart_from SameName gs (λ k d l. (each k d l).named);
      sources = apart_from BothAlike gs (λ k d l. (each k d l).alike);
      ids = apart_from SameId gs (λ k d l. (each k d l).stated);
    }

pub buildable_exactly : BuildableExactlyWhenBuilt
buildable_exactly fs = (built fs, from_built fs)
