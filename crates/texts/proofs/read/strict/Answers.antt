-- A text is accepted just where it is what the transform that it was read as prints.
use Rattle.std.proofs.Common.{◌≡◌, false, take, replicate, Ok, Err, sym, refl, ap, ◌∙◌, rules}
use Rattle.std.specs.Result.{is_ok}
use Rattle.std.proofs.lemmas.Slice.Eq.{slice_eq-Decides}
use Rattle.std.proofs.lemmas.Bool.{both_ways, false≢true}
use Rattle.std.proofs.lemmas.Bool.Decides.{Decides-eqb}
use Rattle.transforms.specs.Printed.{printed}
use Rattle.texts.specs.declared.fault.TextFault.TheVariants.{NotPrinted}
use Rattle.texts.specs.Reading.{Prints}
use Rattle.texts.proofs.Back.{compared, fits, same_text, not_printed, loose_refused, loose_same}
use Rattle.texts.proofs.read.strict.Goals as goal

pub returns-in_err-transform : goal.returns-in_err-transform
returns-in_err-transform c =
    let refused : is_ok c.loose.result ≡ false = search rules in
    let e : c.from_residual.result ≡ Err NotPrinted = search rules in
    let n = not_printed c.args.text.now (loose_refused c.args.text.now _ refused c.loose.ensures.only) in
    rw e (record { reading = n.0; accepts = n.1; loosely = tt; same = same_text })

pub returns-in_err-n : goal.returns-in_err-n
returns-in_err-n c =
    let narrow = c.print.ensures.read_back.1.0 in
    let refused : is_ok c.print.result ≡ false = search rules in
    absurd (false≢true (sym refused ∙ fits c.in_ok-transform.transform (replicate 20 0) c.print.new.out c.print.result narrow refl c.print.ensures.wrote))

pub returns-then-eq : goal.returns-then-eq
returns-then-eq c =
    let t = c.in_ok-transform.transform in
    let read : c.loose.result ≡ Ok t = search rules in
    let d = compared c.args.text.now (replicate 20 0) c.print.new.out t c.in_ok-n.n c.print.result c.eq.result (search rules) c.print.ensures.wrote (slice_eq-Decides Decides-eqb (take c.in_ok-n.n c.print.new.out) c.args.text.now c.eq.result c.eq.ensures) in
    let p : Prints t c.args.text.now = (c.print.ensures.read_back.1.0, d.0 c.if-eq.true) in
    record { reading = p; accepts = (λ _. (t, p), λ _. refl); loosely = rw read at c.loose.ensures.reading; same = same_text }

pub returns-else-eq : goal.returns-else-eq
returns-else-eq c =
    let t = c.in_ok-transform.transform in
    let read : c.loose.result ≡ Ok t = search rules in
    let d = compared c.args.text.now (replicate 20 0) c.print.new.out t c.in_ok-n.n c.print.result c.eq.result (search rules) c.print.ensures.wrote (slice_eq-Decides Decides-eqb (take c.in_ok-n.n c.print.new.out) c.args.text.now c.eq.result c.eq.ensures) in
    let n = not_printed c.args.text.now (λ u p. both_ways c.eq.result c.if-eq.false (d.1 (p.1 ∙ ap printed (loose_same c.args.text.now c.loose.result t read c.loose.ensures.only u p)))) in
    record { reading = n.0; accepts = n.1; loosely = tt; same = same_text }
