use Rattle.std.proofs.Common.{◌∙◌, ap, map, List, codes}
use Rattle.dfdl_scope.specs.Scoping.{Element, told}
use Rattle.dfdl_checks.specs.Orders.{bit_order}
use Rattle.dfdl_breaches.specs.Elements.{element_at}
use Rattle.dfdl_breaches.proofs.telling.bit_order_at.Goals as goal

pub returns : goal.returns
returns c =
    c.bit_order.ensures
    ∙ ap (λ (chain : List Element). bit_order (told chain (codes "bitOrder")))
    (c.in_ok-component.ensures ∙ ap (map (element_at c.args.schema.now)) c.requires.chain)
