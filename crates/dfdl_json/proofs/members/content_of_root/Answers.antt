use Rattle.std.proofs.Common.{◌∙◌, sym}
use Rattle.serde_json.proofs.Views.{members_len-members_view}
use Rattle.dfdl_json.proofs.JsonParts.{found_content, no_content}
use Rattle.dfdl_json.proofs.members.content_of_root.Goals as goal

pub returns-then-len-eq1 : goal.returns-then-len-eq1
returns-then-len-eq1 c = c.get.ensures ∙ found_content _ _ _ c.in_ok-members.ensures (members_len-members_view _ ∙ (sym c.len.ensures.len ∙ c.if-len-eq1.true))

pub returns-else-len-eq1 : goal.returns-else-len-eq1
returns-else-len-eq1 c = no_content _ _ _ c.in_ok-members.ensures (λ one. c.if-len-eq1.false (c.len.ensures.len ∙ (sym (members_len-members_view _) ∙ one)))
