-- `curve::all_finite` meets its contract. Assumes nothing.
use Rattle.std.proofs.Common.{◌↔◌, rules}
use Rattle.std.specs.Bool.{IsTrue}
use Rattle.std.specs.List.{All}
use Rattle.floats.specs.Scalar.{is_finite}
use Rattle.curves.proofs.curve.Laws.{finite_if_all}
use Rattle.curves.proofs.curve.all_finite.Goals as goal

pub returns : goal.returns
returns c = let each : IsTrue c.all.result ↔ All (λ x. IsTrue (is_finite x)) c.args.values.now = search rules in finite_if_all _ _ each
