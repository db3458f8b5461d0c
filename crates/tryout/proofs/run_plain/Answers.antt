use Rattle.std.proofs.Common.{◌≡◌, ℕ, Bool, true, Ok, Err, Result, sym, refl, ap, ◌∙◌, arith}
use Rattle.std.proofs.lemmas.Result.{err_from_is_err_and}
use Rattle.std.proofs.lemmas.Bool.{cond-true, cond-false}
use Rattle.interfaces.specs.Refusals.{Said, said}
use Rattle.interfaces.proofs.Writes.{refused_locked, accepted_open}
use Rattle.tryout.specs.Ran.{stored, held, noted, same}
use Rattle.tryout.proofs.run_plain.Goals as goal

never : (s : Said) → ◌≡◌ {A = Result Bool Said} (Err s) (Ok true) → ⊥
never s e = let z : ◌≡◌ {A = ℕ} 0 1 = cc in omega arith

pub returns-in_err-write-in-Give : goal.returns-in_err-write-in-Give
returns-in_err-write-in-Give g c =
    let p = err_from_is_err_and c.from_residual.result c.from_residual.ensures.1 in
    let w = c.in_err-write-in-Give.ensures in
    let l = refused_locked _ _ w.answer in
    rw p.1 (record {
      values = held _ (sym c.in-Give.ensures) l.0 (ap Err (ap said p.2 ∙ l.1)) (λ k. w.values k ∙ cond-true _ _ _ l.0);
      traces = same (never _) (λ k. refl);
    })

pub returns-in_ok-record-in-Give : goal.returns-in_ok-record-in-Give
returns-in_ok-record-in-Give g c =
    let w = c.in_ok-write-in-Give.ensures in
    let l = accepted_open _ _ w.answer in
    record {
      values = stored _ (sym c.in-Give.ensures) l refl (λ k. w.values k ∙ cond-false _ _ _ l);
      traces = noted _ (sym c.in-Give.ensures) refl c.in_ok-record-in-Give.ensures.traces;
    }
