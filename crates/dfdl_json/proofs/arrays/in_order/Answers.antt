use Rattle.std.proofs.Common.{rules}
use Rattle.dfdl_json.proofs.Turned.{retained}
use Rattle.dfdl_json.proofs.arrays.in_order.Goals as goal

pub returns : goal.returns
returns c = retained _ (λ f k v b w f' t. (search rules, search rules)) _ c.args.members.entries c.retain.new.self.entries c.retain.ensures.filtered
