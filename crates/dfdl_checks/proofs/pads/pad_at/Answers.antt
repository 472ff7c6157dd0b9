use Rattle.std.proofs.Common.{ap, ◌∙◌}
use Rattle.dfdl_checks.specs.Pads.{character_told}
use Rattle.dfdl_scope.specs.Scoping.{told}
use Rattle.dfdl_scope.specs.Shown.{chain_of}
use Rattle.dfdl_checks.proofs.pads.pad_at.Goals as goal

pub returns : goal.returns
returns c =
    c.character_told.ensures
    ∙ ap (character_told 32) (c.property.ensures ∙ ap (told (chain_of c.args.subject.now.chain.now)) c.pad_name.ensures)
