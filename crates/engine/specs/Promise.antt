-- The promise of a call, over a workbook as it was before it and as it leaves it.
use Rattle.std.specs.Prelude.{Result}
use Rattle.interfaces.specs.declared.value.Value.{Ghosts as ValueMeaning}
use Rattle.interfaces.specs.declared.store.Store.{Ghosts as StoreMeaning}
use Rattle.interfaces.specs.declared.language.Language.{Ghosts as LanguageMeaning}
use Rattle.interfaces.specs.declared.rebuilder.Rebuilder.{Ghosts as RebuilderMeaning}
use Rattle.interfaces.specs.Refusals.{Said}
use Rattle.past.specs.Past.{Request}
use Rattle.calls.specs.Answers.{Answers}
use Rattle.engine.specs.declared.Workbook.{Workbook}
use Rattle.engine.specs.Shown.{shown_by}

-- the request `q` was answered by `a`: after every lawful past that the workbook showed before, that is the answer of a call
-- that came rightly, and the workbook shows the past with it. The first four are the meanings of the kind of value, of the
-- store, of the language and of the rebuilder
abbrev pub Promise : {V S L R : Type 0} → ValueMeaning V → StoreMeaning S V → LanguageMeaning L V → RebuilderMeaning R V
    → (before after : Workbook V S L R) → Request V → Result (Unit {0}) Said → Type 0
Promise v s l r before after q a = Answers v.blank l.stands r.depth q a (shown_by v s l r before) (shown_by v s l r after)
