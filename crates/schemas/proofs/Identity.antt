-- Equality of ids: the test on their bits, and `same`.
use Rattle.std.proofs.Common.{◌≡◌, true, false, List, ℤ, pos, negsuc, Decides, sym, refl, ap, ◌∙◌, w32, SFits, to_z, of_z}
use Rattle.std.proofs.lemmas.Int.{to_z-of_z}
use Rattle.std.specs.List.{ContainsAt as Has}
use Rattle.std.proofs.lemmas.Bool.{eqb-true, false_from_ne_true}
use Rattle.std.proofs.lemmas.Bool.Decides.{Decides-by_or}
use Rattle.schemas.specs.Ids.{same, has}
use Rattle.schemas.specs.Sound.{same_refl}

pub from_bits : (x y : ℤ) → SFits w32 x → SFits w32 y → of_z w32 x ≡ of_z w32 y → x ≡ y
from_bits x y fx fy e = sym (to_z-of_z w32 x fx) ∙ ap (to_z w32) e ∙ to_z-of_z w32 y fy

pub same_is : (x y : ℤ) → same x y ≡ true → x ≡ y
same_is (pos a) (pos b) e = ap pos (eqb-true a b e)
same_is (pos a) (negsuc b) e = cc
same_is (negsuc a) (pos b) e = cc
same_is (negsuc a) (negsuc b) e = ap negsuc (eqb-true a b e)

pub same_decides : (x y : ℤ) → Decides (same x y) (x ≡ y)
same_decides x y = (same_is x y, λ e. ap (same x) (sym e) ∙ same_refl x)

pub same_true : (x y : ℤ) → x ≡ y → same x y ≡ true
same_true x y e = (same_decides x y).1 e

pub same_false : (x y : ℤ) → (x ≡ y → ⊥) → same x y ≡ false
same_false x y n = false_from_ne_true (same x y) (λ e. n ((same_decides x y).0 e))

pub has_decides : (ids : List ℤ) (id : ℤ) → Decides (has ids id) (Has ids id)
has_decides ids id = Decides-by_or (λ x. same x id) (λ x. x ≡ id) (λ xs. has xs id) (λ x. same_decides x id) refl (λ _ _. refl) ids
