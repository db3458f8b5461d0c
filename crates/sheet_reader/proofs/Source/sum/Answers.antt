use Rattle.sheet_reader.proofs.Exits.{passed_on}
use Rattle.sheet_reader.proofs.Parts.{sum_word_failed, sum_name_failed, sum_comma_failed, sum_count_failed, sum_close_failed, sum_took}
use Rattle.sheet_reader.proofs.Source.sum.Goals as goal

pub returns-in_err-inner : goal.returns-in_err-inner
returns-in_err-inner c = rw (passed_on _ _ c.from_residual.ensures.1)
    (sum_word_failed c.args.self.now.text.now c.args.at c.requires _ c.in_err-inner.ensures.reads)

pub returns-in_err-first : goal.returns-in_err-first
returns-in_err-first c = rw (passed_on _ _ c.from_residual-in_err-first.ensures.1)
    (sum_name_failed c.args.self.now.text.now c.args.at c.requires _ c.in_ok-inner.ensures.reads _ c.in_err-first.ensures.reads)

pub returns-in_err-counted : goal.returns-in_err-counted
returns-in_err-counted c = rw (passed_on _ _ c.from_residual-in_err-counted.ensures.1)
    (sum_comma_failed c.args.self.now.text.now c.args.at c.requires _ c.in_ok-inner.ensures.reads _ _ c.in_ok-first.ensures.reads _ c.in_err-counted.ensures.reads)

pub returns-in_err-cells : goal.returns-in_err-cells
returns-in_err-cells c = rw (passed_on _ _ c.from_residual-in_err-cells.ensures.1)
    (sum_count_failed c.args.self.now.text.now c.args.at c.requires _ c.in_ok-inner.ensures.reads _ _ c.in_ok-first.ensures.reads _ c.in_ok-counted.ensures.reads _ c.in_err-cells.ensures.reads)

pub returns-in_err-end : goal.returns-in_err-end
returns-in_err-end c = rw (passed_on _ _ c.from_residual-in_err-end.ensures.1)
    (sum_close_failed c.args.self.now.text.now c.args.at c.requires _ c.in_ok-inner.ensures.reads _ _ c.in_ok-first.ensures.reads _ c.in_ok-counted.ensures.reads _ _ c.in_ok-cells.ensures.reads _ c.in_err-end.ensures.reads)

pub returns : goal.returns
returns c =
    sum_took c.args.self.now.text.now c.args.at c.requires _ c.in_ok-inner.ensures.reads _ _ c.in_ok-first.ensures.reads _ c.in_ok-counted.ensures.reads _ _ c.in_ok-cells.ensures.reads
    _ c.args.self.now.answers.now c.args.from c.total.result c.in_ok-end.ensures.reads c.total.ensures
