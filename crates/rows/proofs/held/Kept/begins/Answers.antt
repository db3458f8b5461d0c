use Rattle.std.proofs.Common.{◌∙◌, Bool, cond, length, drop, sym, ap, arith, rules, tests}
use mathlib.Core.Option.{some, none}
use Rattle.std.proofs.lemmas.Iterator.{YieldsList-from_slice, YieldsList-from_zip}
use Rattle.std.proofs.lemmas.Iterator.Search.{all_from_yields_List}
use Rattle.interfaces.specs.Asks.{asked_cells}
use Rattle.interfaces.specs.Traces.{pairs_of}
use Rattle.rows.proofs.Plans.{alike_canon, meets, begins_all}
use Rattle.rows.proofs.held.Kept.begins.Goals as goal

pub returns : goal.returns
returns g c =
    let whole = c.args.self.now.whole in
    let short = c.as_slice.ensures.short in
    let few = ap length c.as_slice.ensures.cells in
    begins_all g.V.Value.canon g.V.Value.alike c.args.pairs.now.cells.now c.args.pairs.now.values.now (asked_cells c.args.self.now.asked.now) c.args.self.now.block.now
    c.args.pairs.now.even c.requires (omega arith)
    (alike_canon g.V.Value.canon g.V.Value.alike g.met.V.Value.steady g.met.V.Value.alike_sound g.met.V.Value.alike_whole)
    ∙ ap (λ (b : Bool). cond b (some (pairs_of g.V.Value.canon (drop (length c.args.pairs.now.cells.now) (asked_cells c.args.self.now.asked.now)) (drop (length c.args.pairs.now.cells.now) c.args.self.now.block.now))) none)
    (sym (all_from_yields_List (meets g.V.Value.canon g.V.Value.alike) c.all.new.self _ c.all.result c.all.ensures.ran
    (YieldsList-from_zip (YieldsList-from_zip (YieldsList-from_slice c.args.pairs.now.cells.now cc) (YieldsList-from_slice c.args.pairs.now.values.now cc))
    (YieldsList-from_zip (YieldsList-from_slice (asked_cells c.args.self.now.asked.now) cc) (YieldsList-from_slice c.args.self.now.block.now cc)))
    (λ x b q k. search (rules, tests))))
