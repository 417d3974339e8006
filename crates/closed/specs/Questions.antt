-- What is asked of a closed spec. Assumes nothing.
use Rattle.std.specs.Prelude.{◌≡◌, List}
use Rattle.std.specs.List.{AllByRecursion}
use Rattle.transforms.specs.declared.transform.Transform.TheVariants.{Void}
use Rattle.partitions.specs.Fields.{PaperField}
use Rattle.closed.specs.Bare.{bares}

-- there are no fields, or only void ones
abbrev pub Unpartitioned : List PaperField → Type 0
Unpartitioned fs = AllByRecursion (λ f. f.transform ≡ Void) fs

-- as many fields, and place by place the same source, name and transform
abbrev pub Compatible : List PaperField → List PaperField → Type 0
Compatible xs ys = bares xs ≡ bares ys
