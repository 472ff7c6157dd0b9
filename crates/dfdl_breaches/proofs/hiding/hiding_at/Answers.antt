use Rattle.std.proofs.Common.{◌∙◌, ap}
use Rattle.dfdl_breaches.specs.Hidden.{hidden_name, hiding_at, hiding_for, hiding_named}
use Rattle.dfdl_breaches.proofs.hiding.hiding_at.Goals as goal

pub returns : goal.returns
unfolding hiding_at
returns c =
    c.hiding_for.ensures
    ∙ ap (hiding_for c.args.purpose)
    (c.hiding_named.ensures
    ∙ (λ i. hiding_named c.args.schema.now (c.requires.sites i)
    ((c.hidden_name-name.ensures ∙ (λ j. hidden_name (c.requires.kind j) (c.requires.facts j).is_empty (c.requires.chain j))) i)))
