use Rattle.std.proofs.Common.{◌≡◌, ℕ, ◌<◌, ◌≤◌, ◌≢◌, List, ◌++◌, length, codes, Some, None, Option, Result, Err, arith, MatchOption, MatchResult, sym, ap, ◌∙◌}
use Rattle.std.proofs.lemmas.Bool.Decides.{Decides-eqb}
use Rattle.std.proofs.lemmas.Result.{err_from_is_err_and}
use Rattle.std.proofs.lemmas.Slice.Eq.{strip_prefix_is}
use Rattle.std.specs.Option.{ok_or}
use Rattle.interfaces.specs.Cells.{cell_count, number_of}
use Rattle.interfaces.specs.Refusals.{said, no}
use Rattle.interfaces.specs.declared.cell.Cell.{Cell}
use Rattle.interfaces.specs.declared.refusal.Refusal.{Refusal}
use Rattle.interfaces.specs.declared.refusal.Refusal.TheVariants.{UnknownLine}
use Rattle.names.specs.Names.{name_of, Named}
use Rattle.names.proofs.Standing.{one_name}
use Rattle.script.specs.declared.lines.Line.{Line}
use Rattle.script.specs.Lines.{line_limit, asked, sets, gets, set, get, long, unknown, ReadAs, Unread}
use Rattle.script.proofs.Forms.{set_only, get_only, no_word, one_set}
use Rattle.script.proofs.reading.read_line.Goals as goal

pub returns-then-line-gt-LINE : goal.returns-then-line-gt-LINE
returns-then-line-gt-LINE c = long c.if-line-gt-LINE.true

-- a line behind `set `, from what stands there
set_line : (line rest : List ℕ) (r : Option Line) → length line ≤ line_limit → line ≡ codes "set " ++ rest
    → MatchOption r ((c : ℕ) (value : List ℕ) → c < cell_count → rest ≢ name_of c ++ (codes " " ++ value)) (λ l. (c : ℕ) × (value : List ℕ) × (c < cell_count) × (rest ≡ name_of c ++ (codes " " ++ value)) × (asked l ≡ sets c value))
    → MatchResult (ok_or r UnknownLine) (λ l. ReadAs line (asked l)) (λ e. Unread line (said e))
set_line line rest (Some l) s e p = record {
  short = s;
  reads = rw (e, p.3, p.4) (set p.0 p.1 p.2);
  only = λ q d. let o = set_only rest q (rw e at d) in o.4 ∙ one_set o.0 p.0 o.1 p.1 o.2 p.2 (sym o.3 ∙ p.3) ∙ sym p.4;
}
set_line line rest None s e n = unknown s (λ r d. let p = set_only rest r (rw e at d) in n p.0 p.1 p.2 p.3)

pub returns-in-Some : goal.returns-in-Some
returns-in-Some c =
    let e = strip_prefix_is Decides-eqb c.args.line.now (codes "set ") (Some c.in-Some.rest) c.in-Some.ensures.cases in
    rw c.ok_or.ensures.value (set_line c.args.line.now c.in-Some.rest.now c.read_set.result c.if-line-gt-LINE.false e c.read_set.ensures)

-- a line behind `get `
get_line : (line rest : List ℕ) (r : Option Cell) → length line ≤ line_limit → line ≡ codes "get " ++ rest → Named rest r
    → MatchOption r (Unread line (no 19)) (λ c. ReadAs line (gets (number_of c)))
get_line line rest (Some c) s e n = record {
  short = s;
  reads = rw (e, ← n.1) (get (number_of c) n.0);
  only = λ q d. let o = get_only rest q (rw e at d) in o.3 ∙ ap gets (one_name o.0 (number_of c) o.1 n.0 (o.2 ∙ sym n.1));
}
get_line line rest None s e n = unknown s (λ r d. let p = get_only rest r (rw e at d) in n p.0 p.1 p.2)

-- where no name was read, the refusal is this one
refused_as : (r : Option Cell) (e : Refusal) → ◌≡◌ {A = Result Cell Refusal} (Err e) (ok_or r UnknownLine) → e ≡ UnknownLine
refused_as (Some c) e q = absurd (let z : ◌≡◌ {A = ℕ} 0 1 = cc in omega arith)
refused_as None e q = cc

pub returns-in_err-cell : goal.returns-in_err-cell
returns-in_err-cell c =
    let e = strip_prefix_is Decides-eqb c.args.line.now (codes "get ") (Some c.in-Some-strip_prefix.rest) c.in-Some-strip_prefix.ensures.cases in
    let g = get_line c.args.line.now c.in-Some-strip_prefix.rest.now c.read_name.result c.if-line-gt-LINE.false e c.read_name.ensures in
    let p = err_from_is_err_and c.from_residual.result c.from_residual.ensures.1 in
    let u : Unread c.args.line.now (no 19) = rw c.in_err-cell.ensures.ok_part at g in
    let v = refused_as c.read_name.result c.in_err-cell.field-0.0 c.in_err-cell.ensures.value in
    rw (p.1, p.2, v) u

pub returns-in-Some-strip_prefix : goal.returns-in-Some-strip_prefix
returns-in-Some-strip_prefix c =
    let e = strip_prefix_is Decides-eqb c.args.line.now (codes "get ") (Some c.in-Some-strip_prefix.rest) c.in-Some-strip_prefix.ensures.cases in
    rw c.in_ok-cell.ensures.ok_part at (get_line c.args.line.now c.in-Some-strip_prefix.rest.now c.read_name.result c.if-line-gt-LINE.false e c.read_name.ensures)

pub returns : goal.returns
returns c =
    let a = strip_prefix_is Decides-eqb c.args.line.now (codes "set ") None c.in_default.ensures.cases in
    let b = strip_prefix_is Decides-eqb c.args.line.now (codes "get ") None c.in_default-strip_prefix.ensures.cases in
    unknown c.if-line-gt-LINE.false (no_word c.args.line.now a b)
