-- What a refusal says, and what the answer of a call that may refuse means.
use Rattle.std.specs.Prelude.{ℕ, Some, None, Ok, Err, Option, Result}
use Rattle.interfaces.specs.declared.refusal.Refusal.{Refusal}
use Rattle.interfaces.specs.declared.refusal.Refusal.TheVariants.{ShortMemory, DefinedCell, LockedCell, UndefinedCell, TextLength, NotInLanguage, NotANumber, NotAText, BadTrace, AnswerTooLong, ScriptTooLong, BadFirstLine, LineTooLong, UnknownLine}

-- a refusal's number; number 6 comes with a place in the text
pub data Said : Type 0 where
  no : ℕ → Said
  no_at : ℕ → ℕ → Said

-- the number of each refusal
abbrev pub said : Refusal → Said
said ShortMemory = no 1
said DefinedCell = no 2
said LockedCell = no 3
said UndefinedCell = no 4
said TextLength = no 5
said (NotInLanguage place) = no_at 6 place
said NotANumber = no 7
said NotAText = no 8
said BadTrace = no 9
said AnswerTooLong = no 10
said LineTooLong = no 18
said UnknownLine = no 19
said BadFirstLine = no 20
said ScriptTooLong = no 21

abbrev pub said_number : Said → ℕ
said_number (no n) = n
said_number (no_at n place) = n

abbrev pub said_place : Said → Option ℕ
said_place (no n) = None
said_place (no_at n place) = Some place

-- the answer of a call, with its refusal as it is said
abbrev pub told : {A : Type 0} → Result A Refusal → Result A Said
told (Ok a) = Ok a
told (Err e) = Err (said e)
