use Rattle.std.proofs.Common.{◌&&◌, sym, ap, ◌∙◌}
use Rattle.std.specs.List.{list_all}
use Rattle.dfdl_delims.specs.Candidates.{passes, pieces_from}
use Rattle.dfdl_delims.proofs.Ahead.{whole}
use Rattle.dfdl_delims.proofs.following.is_whole.Goals as goal

pub returns-then-not-is_done : goal.returns-then-not-is_done
returns-then-not-is_done c =
    sym (whole c.args.pieces.now c.args.candidate
    ∙ ap (λ b. b && list_all passes (pieces_from c.args.pieces.now c.args.candidate.at c.args.candidate.end)) (sym c.is_done.ensures ∙ c.if-not-is_done.true))

pub returns : goal.returns
returns c =
    c.all_pass.ensures
    ∙ sym (whole c.args.pieces.now c.args.candidate
    ∙ ap (λ b. b && list_all passes (pieces_from c.args.pieces.now c.args.candidate.at c.args.candidate.end)) (sym c.is_done.ensures ∙ c.if-not-is_done.false))
