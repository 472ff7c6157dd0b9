use Rattle.std.proofs.Common.{ℕ, List, Some, if◌then◌else◌, bytes_eq, sym, ap, ◌∙◌}
use Rattle.std.specs.BTreeMap.{get_by_text}
use Rattle.dfdl_statements.proofs.Gathering.{put_new, put_old}
use Rattle.dfdl_statements.proofs.names.put.Goals as goal

pub returns-then-contains_key : goal.returns-then-contains_key
returns-then-contains_key c = λ q. put_old (get_by_text c.args.names.now) c.args.name.now q c.args.number (sym c.contains_key.ensures ∙ c.if-contains_key.true)

pub returns : goal.returns
returns c = λ q.
    put_new (get_by_text c.args.names.now) (get_by_text c.add.new.names) c.args.name.now q c.args.number
    (c.in_ok-add.ensures q ∙ ap (λ (t : List ℕ). if bytes_eq t q then Some c.args.number else get_by_text c.args.names.now q) c.in_ok-from_str.ensures.ok)
    (sym c.contains_key.ensures ∙ c.if-contains_key.false)
