use Rattle.std.specs.Prelude.{◌≡◌, ◌++◌, ◌∷◌, ◌||◌, ◌+◌, [], false, if◌then◌else◌, map, take}
use Rattle.std.specs.List.{list_any}
use Rattle.std.proofs.Common.{refl, sym, ap, ◌∙◌, subst, arith}
use Rattle.std.proofs.lemmas.List.{take_all}
use Rattle.dfdl_markup.specs.Values.{have_same, is_found, names_of, same_expanded}
use Rattle.dfdl_xml_names.specs.Beyond.{picked, others}
use Rattle.dfdl_xml_names.specs.Shown.{attribute_of, name_of}
use Rattle.dfdl_xml_names.specs.Scoped.{scope_seen}
use Rattle.dfdl_xml_names.specs.Expanded.{IsPaired, IsResolved}
use Rattle.dfdl_xml_names.proofs.Split.{any_sooner, clash_beyond, clash_now, crossed_met, crossed_now, crossed_unmet, crosses, found_pairs, named_more, others_more}
use Rattle.dfdl_xml_names.proofs.resolved.Resolved.clashes_within.Goals as goal

pub returns-then-self : goal.returns-then-self
returns-then-self c = λ outer is kept.
    let own = scope_seen c.args.own.now in
    let names = names_of (map attribute_of c.args.attributes.now) in
    clash_now own outer c.args.self.now names kept c.if-self.true ∙ ap (λ z. have_same (same_expanded z) names) (sym is)

pub returns : goal.returns
returns c = λ outer is kept.
    let own = scope_seen c.args.own.now in
    let test = is_found own in
    let xs = c.args.attributes.now in
    let names = names_of (map attribute_of xs) in
    let more = c.loop-attribute.more in
    let ended = take_all c.loop-attribute.attribute-index xs (omega (arith, c.loop-attribute-test.false)) in
    let end =
    subst (λ l. IsResolved more (scope_seen c.args.scope.now) (others test (names_of (map attribute_of l)))
    × (crosses own outer (picked test names) (others test (names_of (map attribute_of l))) ≡ false)) ended
    (c.loop-attribute.invariant outer is kept) in
    clash_beyond own outer c.args.self.now more names false kept (subst (λ z. IsResolved more z (others test names)) is end.0)
    (sym (ap (λ b. b || crosses own outer (picked test names) (others test names)) c.if-self.false ∙ end.1))
    ∙ ap (λ z. have_same (same_expanded z) names) (sym is)

pub returns-then-branch : goal.returns-then-branch
returns-then-branch c = λ outer is kept.
    let own = scope_seen c.args.own.now in
    let test = is_found own in
    let xs = c.args.attributes.now in
    let i = c.loop-attribute.attribute-index in
    let x = c.attribute-item.result in
    let names = names_of (map attribute_of xs) in
    let found = picked test names in
    let before = names_of (map attribute_of (take i xs)) in
    let one = if test (name_of x.name) then [] else name_of x.name ∷ [] in
    let grown = ap (others test) (named_more xs i x c.loop-attribute-test.true c.attribute-item.is) ∙ others_more test before (name_of x.name) in
    let paired = subst (λ z. IsPaired c.args.self.now.pairs z found) (sym is) (found_pairs own outer c.args.self.now names kept) in
    let here = c.in_ok-meets.ensures.met found paired ∙ ap (λ z. list_any (λ u. list_any (λ o. same_expanded z o u) found) one) is in
    crossed_now own outer names
    (any_sooner test (λ u. list_any (λ o. same_expanded (own ++ outer) o u) found) xs (i + 1)
    (crossed_met (λ u. list_any (λ o. same_expanded (own ++ outer) o u) found) (others test before) one
    (others test (names_of (map attribute_of (take (i + 1) xs)))) c.in_ok-meets.field-0 grown here c.if-branch.true))
    ∙ ap (λ z. have_same (same_expanded z) names) (sym is)

pub loop-attribute-preserved : goal.loop-attribute-preserved
loop-attribute-preserved c = λ outer is kept.
    let own = scope_seen c.args.own.now in
    let test = is_found own in
    let xs = c.args.attributes.now in
    let i = c.loop-attribute.attribute-index in
    let x = c.attribute-item.result in
    let names = names_of (map attribute_of xs) in
    let found = picked test names in
    let before = names_of (map attribute_of (take i xs)) in
    let one = if test (name_of x.name) then [] else name_of x.name ∷ [] in
    let grown = ap (others test) (named_more xs i x c.loop-attribute-test.true c.attribute-item.is) ∙ others_more test before (name_of x.name) in
    let so = c.loop-attribute.invariant outer is kept in
    let paired = subst (λ z. IsPaired c.args.self.now.pairs z found) (sym is) (found_pairs own outer c.args.self.now names kept) in
    let here = c.in_ok-meets.ensures.met found paired ∙ ap (λ z. list_any (λ u. list_any (λ o. same_expanded z o u) found) one) is in (
      subst (λ l. IsResolved c.meets.new.more (scope_seen c.args.scope.now) l) (sym grown) (c.in_ok-meets.ensures.more (others test before) so.0),
      crossed_unmet (λ u. list_any (λ o. same_expanded (own ++ outer) o u) found) (others test before) one
          (others test (names_of (map attribute_of (take (i + 1) xs)))) c.in_ok-meets.field-0 grown so.1 here c.if-branch.false,
    )

pub loop-attribute-init : goal.loop-attribute-init
loop-attribute-init c = λ outer is kept. (c.new-more.ensures (scope_seen c.args.scope.now), refl)
