-- What a refusal tells, and the line that it is printed as. Assumes nothing.
use Rattle.std.specs.Prelude.{ℕ, List, [], ◌++◌, Some, None, codes, decimal, Option}
use Rattle.faults.specs.Told.{Told, kind_word, layer_word}
use Rattle.faults.specs.declared.error.ErrorKind.{ErrorKind}
use Rattle.faults.specs.declared.error.Layer.{Layer}
use Rattle.faults.specs.declared.refusal.Refusal.{Refusal}

abbrev pub told_by : Refusal → Told
told_by r = record { number = r.number; kind = r.kind; layer = r.layer; reason = r.reason.now; value = r.value; index = r.index }

-- what is told with no value and no index
abbrev pub plain : ℕ → ErrorKind → Layer → List ℕ → Told
plain number kind layer reason = record { number = number; kind = kind; layer = layer; reason = reason; value = None; index = None }

-- what is printed of a number that goes with the reason, after a mark
abbrev pub after : List ℕ → Option ℕ → List ℕ
after mark None = []
after mark (Some n) = mark ++ decimal n

abbrev pub refusal_text : Told → List ℕ
refusal_text t =
    codes "refused " ++ (decimal t.number ++ (codes " " ++ (kind_word t.kind ++ (codes " " ++ (layer_word t.layer ++ (codes " " ++ (t.reason ++ (after (codes " ") t.value ++ after (codes " @") t.index))))))))
