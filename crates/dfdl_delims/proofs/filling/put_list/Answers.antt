use Rattle.std.proofs.Common.{◌∙◌}
use Rattle.dfdl_delims.specs.Lists.{Opened}
use Rattle.dfdl_delims.proofs.Tellings.{put_stands}
use Rattle.dfdl_delims.proofs.filling.put_list.Goals as goal

pub returns-clause-firsts : goal.returns-clause-firsts
returns-clause-firsts c =
    let list : Opened = record { encoding = c.args.encoding; fold = c.args.fold; literals = c.args.literals.now } in
    c.in_ok-put_firsts.ensures.put list c.args.place
    (put_stands c.args.pieces.now.items c.deref.result.now c.args.starts.now.items c.deref-2.result.now c.len-from.result c.args.place list
    (c.len-from.ensures ∙ c.args.starts.now.ok.0)
    (c.deref.ensures.value ∙ c.in_ok-put_literals.ensures.pieces) (c.deref-2.ensures.value ∙ c.in_ok-put_literals.ensures.starts))
