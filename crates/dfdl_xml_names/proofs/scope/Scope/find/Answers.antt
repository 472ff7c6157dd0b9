use Rattle.std.specs.Prelude.{[]}
use Rattle.std.specs.Option.{option_or, option_map_or}
use Rattle.std.specs.Str.{chars}
use Rattle.std.proofs.Common.{sym, ap, ◌∙◌}
use Rattle.dfdl_markup.specs.Values.{found}
use Rattle.dfdl_markup.specs.Machine.{scope_of}
use Rattle.dfdl_xml_names.proofs.Kept.{found_append}
use Rattle.dfdl_xml_names.proofs.scope.Scope.find.Goals as goal

pub returns-in-Some : goal.returns-in-Some
returns-in-Some c =
    let p = chars c.args.prefix.now in
    let own = c.args.self.now.declared.now in
    let outer = option_map_or (λ frames. scope_of frames.now) c.args.self.now.outer [] in
    ap (λ o. option_or o (found outer p)) c.in-Some.ensures ∙ sym (found_append own outer p)

pub returns-in-Some-outer : goal.returns-in-Some-outer
returns-in-Some-outer c =
    let p = chars c.args.prefix.now in
    let own = c.args.self.now.declared.now in
    let outer = option_map_or (λ frames. scope_of frames.now) c.args.self.now.outer [] in
    c.find-in-Some-outer.ensures
    ∙ (sym (ap (λ o. found (option_map_or (λ frames. scope_of frames.now) o []) p) c.in-Some-outer.is)
    ∙ (ap (λ o. option_or o (found outer p)) c.in_default.ensures ∙ sym (found_append own outer p)))
