use Rattle.std.proofs.Common.{T, map, sym, subst, ◌∙◌}
use Rattle.interfaces.specs.Cells.{number_of}
use Rattle.past.specs.Afresh.{In}
use Rattle.moves.proofs.Places.{in_any, any_in}
use Rattle.moves.proofs.path.Path.holds.Goals as goal

pub returns-clause-yes : goal.returns-clause-yes
returns-clause-yes c = λ h. subst (λ l. In (number_of c.args.cell) (map number_of l)) c.as_slice.ensures (in_any c.args.cell _ (subst T c.contains.ensures.value h))

pub returns-clause-no : goal.returns-clause-no
returns-clause-no c = λ e o. subst T (sym c.contains.ensures.value ∙ e) (any_in c.args.cell _ (subst (λ l. In (number_of c.args.cell) (map number_of l)) (sym c.as_slice.ensures) o))
