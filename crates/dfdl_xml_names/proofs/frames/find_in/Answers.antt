use Rattle.std.specs.Prelude.{◌-◌, take, [], ◌≡◌}
use Rattle.std.specs.Option.{option_or}
use Rattle.std.specs.Str.{chars}
use Rattle.std.proofs.Common.{arith, sym, ap, ◌∙◌}
use Rattle.dfdl_markup.specs.Values.{found}
use Rattle.dfdl_markup.specs.Machine.{scope_of}
use Rattle.dfdl_xml_names.specs.Opened.{frames_on}
use Rattle.dfdl_xml_names.proofs.Opened.{found_below, found_outside}
use Rattle.dfdl_xml_names.proofs.frames.find_in.Goals as goal

pub returns-in-Some : goal.returns-in-Some
returns-in-Some c =
    let xs = c.args.elements.now in
    let p = chars c.args.prefix.now in
    ap (λ o. option_or o (found (scope_of (frames_on [] (take (c.loop-at.at - 1) xs))) p)) c.in-Some.ensures
    ∙ (sym (found_below xs c.loop-at.at c.index-elements-at.result p (grind arith) c.loop-at.invariant.0)
    ∙ c.loop-at.invariant.1)

pub loop-at-preserved : goal.loop-at-preserved
loop-at-preserved c =
    let xs = c.args.elements.now in
    let p = chars c.args.prefix.now in (
      omega (arith, c.loop-at.invariant.0),
      ap (λ o. option_or o (found (scope_of (frames_on [] (take (c.loop-at.at - 1) xs))) p)) c.in_default.ensures
          ∙ (sym (found_below xs c.loop-at.at c.index-elements-at.result p (grind arith) c.loop-at.invariant.0)
          ∙ c.loop-at.invariant.1),
    )

pub returns : goal.returns
returns c =
    let xs = c.args.elements.now in
    let p = chars c.args.prefix.now in
    let none : c.loop-at.at ≡ 0 = grind arith in
    c.fixed_namespace.ensures
    ∙ (found_outside p
    ∙ (sym (ap (λ n. found (scope_of (frames_on [] (take n xs))) p) none)
    ∙ c.loop-at.invariant.1))
