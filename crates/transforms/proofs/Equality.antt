-- `==` of transforms decides whether they are one.
use Rattle.std.proofs.Common.{◌≡◌, true, Decides, subst, arith}
use Rattle.transforms.specs.contracts.transform.TransformPartialEq.TheImpl.{ghosts}
use Rattle.transforms.specs.declared.transform.Transform.{Transform}

same : (x y : Transform) → ghosts.eq x y ≡ true → x ≡ y
same x y e = grind arith

own : (x : Transform) → ghosts.eq x x ≡ true
own x = grind arith

pub transform_eq-Decides : (x y : Transform) → Decides (ghosts.eq x y) (x ≡ y)
transform_eq-Decides x y = (same x y, λ e. subst (λ z. ghosts.eq x z ≡ true) e (own x))
