use Rattle.std.proofs.Common.{◌∙◌}
use Rattle.std.proofs.lemmas.Bool.Decides.{Decides-at}
use Rattle.sheets.proofs.Wholes.{sheet_decides, some_body}
use Rattle.sheets.proofs.sheet.ColumnSheet.is_sound.Goals as goal

pub returns : goal.returns
returns c =
    let bs = c.args.self.now.bytes.now in
    Decides-at _ _ (c.is_some.ensures ∙ some_body bs _ c.args.self.now.checked) (sheet_decides bs)
