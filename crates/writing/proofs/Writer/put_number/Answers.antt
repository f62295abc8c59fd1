-- written out, so that a wrong body is refused at this fact, and not at a limit of a wider search
use Rattle.writing.proofs.Writer.put_number.Goals as goal

pub returns : goal.returns
returns c = rw (c.as_bytes.ensures.value, c.format.ensures.text) at c.put_bytes.ensures
