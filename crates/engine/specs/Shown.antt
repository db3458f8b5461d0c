-- What a workbook shows, by the meanings of its parts.
use Rattle.interfaces.specs.declared.value.Value.{Ghosts as ValueMeaning}
use Rattle.interfaces.specs.declared.store.Store.{Ghosts as StoreMeaning}
use Rattle.interfaces.specs.declared.language.Language.{Ghosts as LanguageMeaning}
use Rattle.interfaces.specs.declared.rebuilder.Rebuilder.{Ghosts as RebuilderMeaning}
use Rattle.view.specs.View.{View}
use Rattle.parts.specs.Shown.{shown}
use Rattle.engine.specs.declared.Workbook.{Workbook}

abbrev pub shown_by : {V S L R : Type 0} → ValueMeaning V → StoreMeaning S V → LanguageMeaning L V → RebuilderMeaning R V → Workbook V S L R → View V
shown_by v s l r w = shown v s l r w.parts
