use Rattle.cdi_options.proofs.WorkedWords.{worked_words}
use Rattle.cdi_options.proofs.laws.law_worked_words.Goals as goal

pub returns : goal.returns
returns c = worked_words
