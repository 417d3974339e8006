-- Good names: decided by the machine, and the same as names that keep every rule. Assumes nothing.
use Rattle.std.proofs.Common.{◌≡◌, ℕ, zero, suc, ◌<◌, ◌≤◌, ◌⊎◌, List, [], length, take, Some, None, sym, refl, ap, ◌∙◌, subst, inl, inr, ⊎_elim, arith}
use mathlib.Core.HLevel.{⊥_prop}
use mathlib.Core.Logic.{∥∥₁_elim}
use Rattle.std.proofs.lemmas.List.{take_all}
use Rattle.std.specs.Str.{is_utf8}
use Rattle.std.proofs.lemmas.Str.{IsUtf8-from_is_utf8, is_utf8-from_IsUtf8}
use Rattle.std.proofs.lemmas.Bool.{cases_lt, cases_Bool, false≢true}
use Rattle.faults.specs.Rules.{AllKept}
use Rattle.faults.proofs.Firsts.{keeps as kept_rule, keeps_at}
use Rattle.names.specs.WellFormed.{WellFormed, Front}
use Rattle.names.specs.GoodName.{GoodName}
use Rattle.names.specs.NameRules.{name_rules, GoodExactlyWhenKept}
use Rattle.names.proofs.Chars.{to_utf8, from_utf8}

formed : (bs : List ℕ) → WellFormed bs ⊎ (WellFormed bs → ⊥)
formed bs =
    ⊎_elim (λ e. inl (from_utf8 bs (IsUtf8-from_is_utf8 bs e))) (λ n. inr (λ w. false≢true (sym n ∙ is_utf8-from_IsUtf8 bs (to_utf8 bs w))))
    (cases_Bool (is_utf8 bs))

-- a fact that is decided is not lost in truncation
decided : {P Q : Type 0} → P ⊎ (P → ⊥) → (Q → P) → ∥ Q ∥₁ → P
decided (inl p) f q = p
decided (inr n) f q = absurd (∥∥₁_elim q ⊥_prop (λ k. n (f k)))

below : (m n : ℕ) → (m < n) ⊎ (m < n → ⊥)
below m n = ⊎_elim inl (λ h. inr (λ l. omega arith)) (cases_lt m n)

pub held : (bs : List ℕ) → ∥ GoodName bs ∥₁ → GoodName bs
held bs g =
    let w = decided (formed bs) (λ (k : GoodName bs). k.well_formed) g in
    let short : length bs < 129 = decided (below (length bs) 129) (λ (k : GoodName bs). omega (arith, k.short)) g in
    record { some = decided (below 0 (length bs)) (λ (k : GoodName bs). k.some) g; short = omega arith; well_formed = w; utf8 = to_utf8 bs w }

-- the longest well-formed front that is shorter than m, where none from m on is well formed
longest : (bs : List ℕ) (m : ℕ) → m ≤ length bs → ((k : ℕ) → m ≤ k → k ≤ length bs → WellFormed (take k bs) → ⊥) → (n : ℕ) × Front bs n
longest bs zero h none = absurd (none 0 (omega arith) (omega arith) ([], (tt, refl)))
longest bs (suc m) h none =
    ⊎_elim (λ w. (m, record { short = h; good = w; longest = none }))
    (λ n. longest bs m (omega arith) (λ k l t w. ⊎_elim (λ a. none k a t w) (λ b. let e : k ≡ m = omega arith in n (subst (λ i. WellFormed (take i bs)) e w)) (cases_lt m k)))
    (formed (take m bs))

all : (bs : List ℕ) → take (length bs) bs ≡ bs
all bs = take_all (length bs) bs (omega arith)

-- where no front is the longest, the whole is well formed
no_front : (bs : List ℕ) → ((n : ℕ) → Front bs n → ⊥) → WellFormed bs
no_front bs none =
    ⊎_elim (λ w. w)
    (λ n. absurd (let f = longest bs (length bs) (omega arith) (λ k l h w. let e : k ≡ length bs = omega arith in n (subst WellFormed (ap (λ i. take i bs) e ∙ all bs) w)) in none f.0 f.1))
    (formed bs)

pub keeps : (name : List ℕ) → GoodName name → AllKept (name_rules name)
keeps name g = (
  kept_rule 1 (length name ≡ 0) (λ e. omega (arith, g.some)),
  (
    kept_rule 2 (128 < length name) (λ l. omega (arith, g.short)),
    (keeps_at 3 (λ n. Front name n) (λ n f. f.longest (length name) f.short (omega arith) (subst WellFormed (sym (all name)) g.well_formed)), tt),
  ),
)

pub exactly : GoodExactlyWhenKept
exactly name = (
  keeps name,
  λ k.
      let w = no_front name (λ n f. k.1.1.0 (Some n) f) in
      record {
        some = ⊎_elim (λ l. l) (λ l. absurd (k.0 None (omega arith))) (cases_lt 0 (length name));
        short = ⊎_elim (λ l. absurd (k.1.0 None l)) (λ l. l) (cases_lt 128 (length name));
        well_formed = w;
        utf8 = to_utf8 name w;
      },
)
