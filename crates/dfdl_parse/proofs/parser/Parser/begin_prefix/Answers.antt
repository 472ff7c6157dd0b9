use Rattle.std.proofs.Common.{◌≡◌, ◌<◌, ◌-◌, List, length, Option, Some, ap, subst, sym, ◌∙◌}
use Rattle.std.specs.Prelude.{slice_get}
use Rattle.dfdl_terms.specs.declared.row.Primitive.{Primitive}
use Rattle.dfdl_terms.specs.Tables.{Named}
use Rattle.dfdl_leaves.specs.Views.{primitive_of}
use Rattle.dfdl_parse.specs.Prefixed.{behind_units, read_prefix}
use Rattle.dfdl_parse.specs.Shown.{limits_of, state_of}
use Rattle.dfdl_parse.specs.Steps.{Moved}
use Rattle.dfdl_parse.proofs.Landings.{indexed, prefix-moved}
use Rattle.dfdl_parse.proofs.parser.Parser.begin_prefix.Goals as goal

pub returns-clause-moved : goal.returns-clause-moved
returns-clause-moved g c =
    let old = c.args.self.now in
    let table = c.args.terms.now in
    let prefix = c.args.prefix.now in
    let held = c.args.sight.now in
    let same : c.primitives.result.now ≡ table.primitives = c.primitives.ensures ∙ ap (λ (n : Named). n.primitives) c.tables.ensures.tables in
    let found : slice_get table.primitives prefix.prim ≡ Some (primitive_of c.of-leaf.result) =
    indexed c.primitives.result.now table.primitives prefix.prim c.index-primitives-prefix.result same
    (subst (λ (xs : List Primitive). prefix.prim < length xs) (sym same) c.requires.by) c.index-primitives-prefix.is
    ∙ ap (λ (p : Primitive). Some p) (sym c.of-leaf.ensures.primitive) in
    subst (λ (o : Option Primitive). Moved (read_prefix (limits_of old held) c.args.id held table.delimiters prefix.own
    (behind_units table.primitives prefix.unit c.args.behind) o old.stack (state_of old)) c.in_ok-waits.waits old.far c.prefix_in_box.new.self c.prefix_in_box.new.sight
    (c.prefix_in_box.new.steps - c.args.steps.now)) (sym found)
    (prefix-moved (limits_of old held) held table.delimiters c.args.id prefix.own (behind_units table.primitives prefix.unit c.args.behind) (primitive_of c.of-leaf.result)
    old.stack (state_of old) c.in_ok-waits.waits old.far c.prefix_in_box.new.self c.prefix_in_box.new.sight (c.prefix_in_box.new.steps - c.args.steps.now)
    (sym c.has_room.ensures ∙ c.if-not-has_room.false) (c.in_ok-waits.ensures.moved c.args.id c.requires.focus))
