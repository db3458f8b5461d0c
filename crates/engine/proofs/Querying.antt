-- What a query promises, after one past that the workbook shows.
use Rattle.std.proofs.Common.{◌≡◌, ℕ, Bool, List, Ok, Err, Result, refl, subst}
use Rattle.interfaces.specs.declared.refusal.Refusal.{Refusal}
use Rattle.interfaces.specs.Refusals.{no as refusal}
use Rattle.interfaces.specs.Tasks.{Verdict}
use Rattle.past.specs.Past.{query, refused, queried, Past}
use Rattle.past.specs.Law.{Lawful}
use Rattle.view.specs.View.{Shows}
use Rattle.scheduler.specs.declared.answer.Answer.{Answer}
use Rattle.scheduler.specs.Promise.{Setting, Comes}
use Rattle.engine.specs.Queries.{Lists, answered, not_answered, Asked}

-- the lists of a query
abbrev pub lists_of : {P V : Type 0} → Setting P V → Lists
lists_of q = record { report_before = q.report_before; report_after = q.report_after; chain_before = q.chain_before; chain_after = q.chain_after }

module _ {P V : Type 0} (canon : V → V) (blank : V) (locks : ℕ → Bool) (stands : List ℕ → Verdict V) (depth : ℕ) (q : Setting P V) where
  came : (r : Result (Answer V) Refusal) → Comes canon blank locks stands depth q r → (p : Past V) → Lawful blank locks stands depth p → Shows blank locks depth p q.view_before
      → Asked canon blank locks stands depth p (query q.cell q.lent) (lists_of q) r q.view_after
  came (Ok a) h p l s = let k = h.queried p l s in record {
    call = queried q.cell q.lent k.log k.outcome k.runs;
    request_is = refl;
    lawful = k.lawful;
    shows = k.shows;
    tells = answered (record { answers = k.answers; counted = k.counted; listed = k.listed; report_rest = k.report_rest; chained = k.chained; chain_rest = k.chain_rest });
  }
  came (Err e) h p l s = record {
    call = refused (query q.cell q.lent) (refusal 1);
    request_is = refl;
    lawful = h.lawful p l;
    shows = h.shows p l s;
    tells = not_answered h.number h.same_report h.same_chain;
  }

-- the same, where the locks that the past knows are those that the store shows
pub asked_after : {P V : Type 0} (canon : V → V) (blank : V) (locks locked : ℕ → Bool) (stands : List ℕ → Verdict V) (depth : ℕ) (q : Setting P V)
    → locked ≡ locks → (r : Result (Answer V) Refusal) → Comes canon blank locked stands depth q r → (p : Past V) → Lawful blank locks stands depth p → Shows blank locks depth p q.view_before
    → Asked canon blank locks stands depth p (query q.cell q.lent) (lists_of q) r q.view_after
asked_after canon blank locks locked stands depth q e r h = came canon blank locks stands depth q r (subst (λ z. Comes canon blank z stands depth q r) e h)
