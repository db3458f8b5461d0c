use Rattle.std.proofs.Common.{refl}
use Rattle.formula.specs.Reader.{run}
use Rattle.formula.proofs.sheet_figures.Goals as goal

pub returns : goal.returns
unfolding run
returns c = record { last_of_A = refl; first_of_B = refl; last_of_all = refl; no_row_17 = refl; leading_zero = refl; one_part = refl; open_end = refl; past_last_cell = refl; just_too_large = refl; too_large = refl; too_long = refl; quotient_of_minus = refl; remainder_of_minus = refl; by_zero = refl; sum_beyond = refl; product_beyond = refl; not_worked_out = refl; no_such_cell = refl; left_first = refl; stacked_minus = refl; minus_after_times = refl; only_the_total = refl; asked_again = refl }
