-- Which bytes are the written form of a text, both ways.
use Rattle.text.proofs.Records.{text_form_lem}
use Rattle.text.proofs.text_form.Goals as goal

pub returns : goal.returns
returns c = text_form_lem
