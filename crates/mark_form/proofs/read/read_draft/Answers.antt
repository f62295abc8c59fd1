use Rattle.std.proofs.Common.{rules}
use Rattle.mark_form.proofs.Answering.{draft_lawful, draft_read, sign_low}
use Rattle.mark_form.proofs.read.read_draft.Goals as goal

pub draft_of-requires : goal.draft_of-requires
draft_of-requires c = sign_low c.args.text.now c.in_ok-layout.layout c.in_ok-layout.ensures.law.0

pub returns : goal.returns
returns c = draft_lawful c.args.text.now _ (draft_read c.args.text.now c.in_ok-layout.layout c.draft_of.result c.in_ok-layout.ensures.value c.draft_of.ensures)

pub returns-in_err-layout : goal.returns-in_err-layout
returns-in_err-layout c = draft_lawful c.args.text.now _ (search rules)
