-- written out, so that a wrong body is refused at this fact, and not at a limit of a wider search
use Rattle.writing.proofs.Writer.put_byte.Goals as goal

pub returns : goal.returns
returns c = c.put_bytes.ensures
