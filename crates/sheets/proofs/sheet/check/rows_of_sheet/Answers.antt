use Rattle.std.proofs.Common.{◌≡◌, ◌+◌, ◌-◌, ◌<◌, ◌≤◌, length, take, drop, ap, ◌∙◌, subst, arith, rules}
use Rattle.std.specs.Option.{option_copied}
use Rattle.std.proofs.lemmas.Bool.{ne_eqb}
use Rattle.octets.specs.BigEndian.{be2}
use Rattle.octets.proofs.Numbers.{bytes_from_fits}
use Rattle.sheets.specs.Decoded.{is_sheet}
use Rattle.sheets.proofs.Wholes.{no_body, body_told, other_distance, by_rows}
use Rattle.sheets.proofs.sheet.check.rows_of_sheet.Goals.{then-distance-end, else-distance-end}
use Rattle.sheets.proofs.sheet.check.rows_of_sheet.Goals as goal

pub returns-in_err-end : goal.returns-in_err-end
returns-in_err-end c = ap option_copied c.from_residual.ensures ∙ no_body c.args.bytes.now (omega (arith, c.in_err-end.ensures))

pub returns : goal.returns
returns c =
    let bs = c.args.bytes.now in
    let count = c.in_ok-count.count in
    let distance = c.in_ok-distance.distance in
    let few : count < 65536 = search rules in
    let short : distance < 65536 = search rules in
    let long : 4 ≤ length bs = omega (arith, c.in_ok-distance.ensures) in
    let end : c.in_ok-end.end ≡ length bs - 4 = omega (arith, c.in_ok-end.ensures) in
    let told : take 2 (drop (length bs - 4) bs) ≡ be2 count = subst (λ n. take 2 (drop n bs) ≡ be2 count) end c.in_ok-count.ensures.1 in
    let back : take 2 (drop (length bs - 4 + 2) bs) ≡ be2 distance = subst (λ n. take 2 (drop (n + 2) bs) ≡ be2 distance) end c.in_ok-distance.ensures.1 in
    let sheet : c.if-distance-end.then_some ≡ is_sheet bs =
    elim c.if-distance-end.branch [
      | then-distance-end w ↦
          w.then_some-is
          ∙ by_rows bs count distance few short told back _ _ (ap (λ n. take n bs) end) (bytes_from_fits bs c.type_inv.bytes) long (w.if-distance-end.true ∙ end)
          w.are_rows.ensures
      | else-distance-end w ↦
          w.then_some-is ∙ ne_eqb _ _ w.if-distance-end.false ∙ other_distance bs count distance few short told back (λ e. w.if-distance-end.false (omega arith))
    ] in
    body_told bs c.if-distance-end.then_some _ _ c.then_some.ensures sheet (ap (λ n. take n bs) end)
