-- What each command of a script answers, or the refusal in its place. Assumes nothing.
use Rattle.std.specs.Prelude.{◌≡◌, ℕ, List, Decides, Result, MatchResult}
use Rattle.faults.specs.Told.{Told}
use Rattle.faults.specs.Rules.{FirstBroken}
use Rattle.faults.specs.Refusals.{told_by}
use Rattle.faults.specs.declared.refusal.Refusal.{Refusal}
use Rattle.names.specs.GoodName.{GoodName}
use Rattle.names.specs.NameRules.{name_rules}
use Rattle.texts.specs.Tells.{told as textTold}
use Rattle.texts.specs.Reading.{LooseReading, StrictReading}
use Rattle.texts.specs.declared.fault.TextFault.{TextFault}
use Rattle.transforms.specs.Orders.{preserves, Satisfies, Alike}
use Rattle.transforms.specs.Results.{ResultType, told as typeTold}
use Rattle.transforms.specs.declared.datatypes.«Type».{«Type» as ColumnType}
use Rattle.transforms.specs.declared.transform.Transform.{Transform}
use Rattle.transforms.specs.declared.transform.TypeFault.{TypeFault}
use Rattle.replies.specs.declared.answer.Answer.{Answer}
use Rattle.replies.specs.declared.answer.Answer.TheVariants.{Done, Printed, ResultIs, Test, Line, NoSpec, NotHere, NotYet}

abbrev pub Reply : Type 0
Reply = Result Answer Refusal

-- it is a refusal, and what it tells is so
abbrev pub Refuses : Reply → (Told → Type 0) → Type 0
Refuses r P = MatchResult r (λ _. ⊥) (λ refusal. P (told_by refusal))

-- it is the answer
abbrev pub Answers : Reply → Answer → Type 0
Answers r a = MatchResult r (λ b. b ≡ a) (λ _. ⊥)

-- it says whether P holds
abbrev pub Tells : Type 0 → Answer → Type 0
Tells P Done = ⊥
Tells P (Printed t) = ⊥
Tells P (ResultIs t) = ⊥
Tells P (Test b) = Decides b P
Tells P (Line l) = ⊥
Tells P NoSpec = ⊥
Tells P NotHere = ⊥
Tells P NotYet = ⊥

abbrev pub Tests : Reply → Type 0 → Type 0
Tests r P = MatchResult r (Tells P) (λ _. ⊥)

-- a name is good, or refused by the first rule that it breaks
abbrev pub NameAnswer : List ℕ → Reply → Type 0
NameAnswer name r = MatchResult r (λ a. (a ≡ Done) × GoodName name) (λ refusal. FirstBroken (name_rules name) (told_by refusal))

-- the text is read loosely, and the answer is that of its transform, or its refusal
abbrev pub OfText : List ℕ → (Transform → Reply → Type 0) → Reply → Type 0
OfText text P a = (r : Result Transform TextFault) × (LooseReading text r × MatchResult r (λ t. P t a) (λ f. Refuses a (λ x. x ≡ textTold f)))

abbrev pub TransformAnswer : List ℕ → Reply → Type 0
TransformAnswer text = OfText text (λ t a. Answers a (Printed t))

abbrev pub StrictAnswer : List ℕ → Reply → Type 0
StrictAnswer text a = (r : Result Transform TextFault) × (StrictReading text r × MatchResult r (λ t. Answers a (Printed t)) (λ f. Refuses a (λ x. x ≡ textTold f)))

abbrev pub ResultAnswer : List ℕ → ColumnType → Reply → Type 0
ResultAnswer text s =
    OfText text (λ t a. (r : Result ColumnType TypeFault) × (ResultType t s r × MatchResult r (λ x. Answers a (ResultIs x)) (λ f. Refuses a (λ x. x ≡ typeTold f))))

abbrev pub PreservesAnswer : List ℕ → Reply → Type 0
PreservesAnswer text = OfText text (λ t a. Answers a (Test (preserves t)))

-- of two texts the first that is refused decides
abbrev pub SatisfiesAnswer : List ℕ → List ℕ → Reply → Type 0
SatisfiesAnswer text other = OfText text (λ s. OfText other (λ t a. Tests a (Satisfies s t)))

abbrev pub AlikeAnswer : List ℕ → List ℕ → Reply → Type 0
AlikeAnswer text other = OfText text (λ s. OfText other (λ t a. Tests a (Alike s t)))
