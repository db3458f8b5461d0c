-- What the parts of a workbook show together, by their meanings.
use Rattle.std.specs.Prelude.{Bool, List, map, ℕ}
use Rattle.std.proofs.Math.Option.{Option}
use Rattle.interfaces.specs.declared.value.Value.{Ghosts as ValueMeaning}
use Rattle.interfaces.specs.declared.store.Store.{Ghosts as StoreMeaning}
use Rattle.interfaces.specs.declared.language.Language.{Ghosts as LanguageMeaning}
use Rattle.interfaces.specs.declared.rebuilder.Rebuilder.{Ghosts as RebuilderMeaning}
use Rattle.interfaces.specs.Tasks.{Def}
use Rattle.interfaces.specs.Traces.{Trace}
use Rattle.view.specs.View.{View}
use Rattle.midway.specs.Planning.{plain_trace}
use Rattle.table.specs.Records.{record_in, marked_in, cause_in, asked_in}
use Rattle.parts.specs.declared.Parts.{Parts}

-- `canon` gives a value's normal form, and the others are the meanings of a store, of a language and of a rebuilder;
-- values and traces show as their normal forms
abbrev pub view_of : {V S L R : Type 0} → (canon : V → V) (shows : S → ℕ → V) (locked : S → ℕ → Bool) (means : L → ℕ → Option (Def V))
    (traces : R → ℕ → List (Trace V)) → Parts S L R → View V
view_of canon shows locked means traces parts = record {
  stored = λ x. canon (shows parts.store x);
  locked = locked parts.store;
  defs = means parts.language;
  traces = λ x. map (plain_trace canon) (traces parts.rebuilder x);
  marked = marked_in (record_in parts.table);
  cause = cause_in (record_in parts.table);
  asked = asked_in (record_in parts.table);
}

-- the same, by the members of the four traits, each trait's as one: at bounds `V: Value` and so on a clause writes
-- `shown V.Value S.Store L.Language R.Rebuilder parts`
abbrev pub shown : {V S L R : Type 0} → ValueMeaning V → StoreMeaning S V → LanguageMeaning L V → RebuilderMeaning R V → Parts S L R → View V
shown v s l r parts = view_of v.canon s.shows s.locked l.means r.traces parts
