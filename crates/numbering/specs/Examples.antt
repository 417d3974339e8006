-- Numberings worked by hand. Assumes nothing.
use Rattle.std.specs.Prelude.{[], ◌∷◌, ℤ, pos, negsuc, Some, None}
use Rattle.numbering.specs.Numbering.{Numbering, Stuck}

-- 1000 is stated by the second field, so the first gets 1001
abbrev pub LaterStatedIsPassed : Type 0
LaterStatedIsPassed = Numbering (pos 999) (None ∷ Some (pos 1000) ∷ []) (pos 1001 ∷ pos 1000 ∷ [])

-- a stated 1005 is kept, and the next field gets 1006
abbrev pub CountsOnFromStated : Type 0
CountsOnFromStated = Numbering (pos 999) (Some (pos 1005) ∷ None ∷ []) (pos 1005 ∷ pos 1006 ∷ [])

-- after the greatest number there is none, whatever the start
abbrev pub NothingAfterTheGreatest : Type 0
NothingAfterTheGreatest = (start : ℤ) → Stuck start (Some (pos 2147483647) ∷ None ∷ []) 1 (pos 2147483647 ∷ [])

-- the greatest number itself is given where the one before it is stated
abbrev pub GreatestIsGiven : Type 0
GreatestIsGiven = Numbering (pos 2147483645) (None ∷ Some (pos 2147483646) ∷ []) (pos 2147483647 ∷ pos 2147483646 ∷ [])

-- from a start of -3 two fields get -2 and -1
abbrev pub CountsThroughNegatives : Type 0
CountsThroughNegatives = Numbering (negsuc 2) (None ∷ None ∷ []) (negsuc 1 ∷ negsuc 0 ∷ [])

-- no fields get no ids, whatever the start
abbrev pub NoFieldsNoIds : Type 0
NoFieldsNoIds = (start : ℤ) → Numbering start [] []
