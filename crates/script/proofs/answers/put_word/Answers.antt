use Rattle.writing.proofs.Puttings.{puts_more}
use Rattle.script.proofs.answers.put_word.Goals as goal

pub returns : goal.returns
returns c = puts_more c.put_byte.ensures c.put_number.ensures
