-- A print is read back.
use Rattle.std.proofs.Common.{sym, subst, arith}
use Rattle.transforms.specs.declared.transform.Transform.TheVariants.{Bucket, Truncate}
use Rattle.texts.specs.Promises.{ReadBack}
use Rattle.texts.proofs.Back.{read_back}
use Rattle.texts.proofs.print.print.Goals as goal

pub returns-in-Bucket-clause-read_back : goal.returns-in-Bucket-clause-read_back
returns-in-Bucket-clause-read_back c = subst ReadBack (sym c.in-Bucket.is) (read_back (Bucket c.in-Bucket.n) (omega arith))

pub returns-in-Truncate-clause-read_back : goal.returns-in-Truncate-clause-read_back
returns-in-Truncate-clause-read_back c = subst ReadBack (sym c.in-Truncate.is) (read_back (Truncate c.in-Truncate.n) (omega arith))
