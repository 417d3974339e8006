-- What was read of the word, and what reading the width or the fixed words answered, is the reading; there is no other.
use Rattle.std.proofs.Common.{Some, codes, rules}
use Rattle.std.proofs.lemmas.Slice.Eq.{strip_prefix_is}
use Rattle.std.proofs.lemmas.Bool.Decides.{Decides-eqb}
use Rattle.texts.specs.Reading.{LooseReading}
use Rattle.texts.proofs.Refusals.{bucket_read, truncate_read, fixed_or_unknown}
use Rattle.texts.proofs.Only.{loose_only}
use Rattle.texts.proofs.read.loose.Goals as goal

pub returns-in-Some : goal.returns-in-Some
returns-in-Some c =
    let r = bucket_read c.args.text.now _ c.width.result c.map.result c.width.ensures (strip_prefix_is Decides-eqb c.args.text.now (codes "bucket") (Some c.in-Some.rest) c.in-Some.ensures.cases) (search rules) in
    record { reading = r; only = λ s. loose_only c.args.text.now c.map.result s r }

pub returns-in-Some-strip_prefix : goal.returns-in-Some-strip_prefix
returns-in-Some-strip_prefix c =
    let r = truncate_read c.args.text.now _ c.width-in-Some-strip_prefix.result c.map-in-Some-strip_prefix.result c.width-in-Some-strip_prefix.ensures (strip_prefix_is Decides-eqb c.args.text.now (codes "truncate") (Some c.in-Some-strip_prefix.rest) c.in-Some-strip_prefix.ensures.cases) (search rules) in
    record { reading = r; only = λ s. loose_only c.args.text.now c.map-in-Some-strip_prefix.result s r }

pub returns : goal.returns
returns c =
    let r : LooseReading c.args.text.now c.ok_or.result = search (rules, fixed_or_unknown) in
    record { reading = r; only = λ s. loose_only c.args.text.now c.ok_or.result s r }
