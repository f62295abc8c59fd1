use Rattle.std.proofs.Common.{rules}
use Rattle.mark_form.specs.Drafts.{draft_of}
use Rattle.mark_form.proofs.draft.draft_of.Goals as goal

pub returns : goal.returns
unfolding draft_of
returns c = search rules
