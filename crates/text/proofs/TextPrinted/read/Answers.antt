-- The record of a text means that text, and no record means what is refused.
use Rattle.std.proofs.Common.{◌≡◌, ◌≤◌, [], length, Err, Result, sym, refl, ap, ◌∙◌, arith, length-take}
use Rattle.std.proofs.lemmas.List.{append-nil}
use Rattle.std.proofs.lemmas.Result.{err_from_is_err_and}
use Rattle.interfaces.proofs.Zeros.{some_pieces, none_pieces}
use Rattle.interfaces.specs.Printing.{written_bytes}
use Rattle.interfaces.specs.Refusals.{said}
use Rattle.interfaces.specs.declared.refusal.Refusal.{Refusal}
use Rattle.interfaces.specs.declared.written.Written.{Written}
use Rattle.text.specs.Text.{text_means, text_of}
use Rattle.text.specs.Packing.{too_long, not_printable}
use Rattle.text.proofs.Records.{means_of}
use Rattle.text.proofs.TextPrinted.read.Goals as goal

same_refusal : (x y : Refusal) → ◌≡◌ {A = Result Written Refusal} (Err x) (Err y) → x ≡ y
same_refusal x y e = cc

pub returns-in_err-form : goal.returns-in_err-form
returns-in_err-form c =
    let p = err_from_is_err_and c.from_residual.result c.from_residual.ensures.1 in
    let o = c.in_err-form.ensures.ok_part in
    let l = none_pieces c.args.text.now [] (rw o at c.from_pieces.ensures) in
    let v = same_refusal _ _ (rw o at c.in_err-form.ensures.value) in
    rw (p.1, p.2) (ap said v, too_long c.args.text.now (omega arith))

pub returns-then-all_printable : goal.returns-then-all_printable
returns-then-all_printable c =
    let bs = c.args.text.now in
    let s = some_pieces bs [] (written_bytes c.in_ok-form.form) (rw c.in_ok-form.ensures.ok_part at c.from_pieces.ensures) in
    let b = s ∙ append-nil bs in
    let l : length bs ≤ 32 = omega (arith, ap length b, length-take c.in_ok-form.form.len c.in_ok-form.form.bytes, c.in_ok-form.form.fits) in
    ap text_means (c.packed.ensures ∙ ap text_of b) ∙ means_of bs l (sym c.if-all_printable.ensures)

pub returns-else-all_printable : goal.returns-else-all_printable
returns-else-all_printable c = (refl, not_printable c.args.text.now (sym c.if-all_printable.ensures))
