use Rattle.std.proofs.Common.{Err, sym, refl, ap, ◌∙◌}
use Rattle.std.proofs.lemmas.Result.{err_from_is_err_and}
use Rattle.interfaces.specs.Refusals.{told}
use Rattle.replay.proofs.Performing.{quiet, passes}
use Rattle.replay.proofs.pass.Goals as goal

pub returns-in_err-query : goal.returns-in_err-query
returns-in_err-query g c =
    let f = err_from_is_err_and c.from_residual.result c.from_residual.ensures.1 in
    passes g.V.Value.canon g.V.Value.blank g.L.Language.stands g.R.Rebuilder.depth _ _ refl c.query.result (told c.from_residual.result)
    (ap told (f.1 ∙ ap Err f.2) ∙ sym (ap quiet c.in_err-query.was)) c.query.ensures

pub returns : goal.returns
returns g c =
    passes g.V.Value.canon g.V.Value.blank g.L.Language.stands g.R.Rebuilder.depth _ _ refl c.query.result _
    (sym (ap quiet c.in_ok-query.was)) c.query.ensures
