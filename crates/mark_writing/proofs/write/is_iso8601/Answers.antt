use Rattle.mark_writing.proofs.write.is_iso8601.Goals as goal

pub returns : goal.returns
returns c = rw c.as_slice.ensures at c.eq.ensures
