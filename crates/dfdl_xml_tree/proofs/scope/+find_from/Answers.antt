use Rattle.std.proofs.Common.{◌≡◌, ◌-◌, map, chars, sym, ap, ◌∙◌, arith}
use Rattle.std.proofs.Math.ListN.{length-map}
use Rattle.dfdl_markup.specs.Values.{found}
use Rattle.dfdl_markup.specs.Trees.{node_at, scope_from}
use Rattle.dfdl_xml_tree.specs.Shown.{node_of}
use Rattle.dfdl_xml_tree.specs.Texts.{declared_in}
use Rattle.dfdl_xml_tree.proofs.Scopes.{found_here, node_shown, beyond_found, no_more_found, or_some, or_none}
use Rattle.dfdl_xml_tree.proofs.scope.+find_from.Goals as goal

pub returns-then-most-eq0 : goal.returns-then-most-eq0
returns-then-most-eq0 t c =
    let nodes = map node_of c.args.elements.now in
    let prefix = chars c.args.prefix.now in
    c.fixed_namespace-then-most-eq0.ensures
    ∙ sym (no_more_found nodes c.args.element prefix)
    ∙ ap (λ most. found (scope_from most nodes c.args.element) prefix) (sym c.if-most-eq0.true)

pub returns-in-Some-declared : goal.returns-in-Some-declared
returns-in-Some-declared t c =
    let nodes = map node_of c.args.elements.now in
    let prefix = chars c.args.prefix.now in
    let n = node_of c.index-elements-number.result in
    let node : node_at nodes c.in-Some.number ≡ n =
    node_shown node_of c.args.elements.now c.in-Some.number c.index-elements-number.result
    (omega (arith, c.if-number-elements.false)) c.index-elements-number.is in
    let here = found_here c.args.most nodes c.args.element c.in-Some.number n prefix c.in-Some.is
    (λ zero. omega (arith, zero, c.if-most-eq0.false)) node in
    sym (or_some (declared_in n.attributes prefix)
    (found (scope_from (c.args.most - 1) nodes n.parent) prefix) (chars c.in-Some-declared.namespace.now)
    c.in-Some-declared.ensures) ∙ sym here

pub returns-in-None : goal.returns-in-None
returns-in-None t c =
    let nodes = map node_of c.args.elements.now in
    let prefix = chars c.args.prefix.now in
    let n = node_of c.index-elements-number.result in
    let node : node_at nodes c.in-Some.number ≡ n =
    node_shown node_of c.args.elements.now c.in-Some.number c.index-elements-number.result
    (omega (arith, c.if-number-elements.false)) c.index-elements-number.is in
    let here = found_here c.args.most nodes c.args.element c.in-Some.number n prefix c.in-Some.is
    (λ zero. omega (arith, zero, c.if-most-eq0.false)) node in
    c.find_from.ensures
    ∙ sym (or_none (declared_in n.attributes prefix)
    (found (scope_from (c.args.most - 1) nodes n.parent) prefix)
    c.in-None.ensures) ∙ sym here

pub returns-then-number-elements : goal.returns-then-number-elements
returns-then-number-elements t c =
    let nodes = map node_of c.args.elements.now in
    let prefix = chars c.args.prefix.now in
    c.fixed_namespace-then-number-elements.ensures
    ∙ sym (beyond_found c.args.most nodes c.in-Some.number prefix
    (omega (arith, length-map c.args.elements.now node_of, c.if-number-elements.true)))
    ∙ ap (λ e. found (scope_from c.args.most nodes e) prefix) (sym c.in-Some.is)
