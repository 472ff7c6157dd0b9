use Rattle.std.proofs.Common.{◌-◌, List, ap, Option, Some, subst, refl, ◌∙◌, arith}
use Rattle.dfdl_value.specs.declared.value.Value.{Value}
use Rattle.dfdl_terms.specs.Tables.{Named}
use Rattle.dfdl_grammar.specs.Leaves.{nil_values}
use Rattle.dfdl_parse.specs.Moves.{read_leaf}
use Rattle.dfdl_parse.specs.Steps.{Moved}
use Rattle.dfdl_looks.specs.Tallies.{nothing}
use Rattle.dfdl_parse.specs.Shown.{limits_of, state_of}
use Rattle.dfdl_leaves.specs.Views.{primitive_of}
use Rattle.dfdl_parse.proofs.Landings.{indexed, sized-moved}
use Rattle.dfdl_parse.proofs.parser.Parser.read_sized.Goals as goal

pub returns-in_ok-waits-in-Some-clause-moved : goal.returns-in_ok-waits-in-Some-clause-moved
returns-in_ok-waits-in-Some-clause-moved g c =
    let old = c.args.self.now in
    let primitive = c.index-primitives-prim.result in
    let delimiters = c.args.terms.now.delimiters in
    sized-moved (limits_of old c.args.sight.now) c.args.sight.now delimiters (nil_values c.args.terms.now.primitives old.instead) old.focus c.args.prim c.args.size c.args.terms.now.primitives primitive
    (primitive_of c.in-Some.leaf) old.stack (state_of old) c.in_ok-waits-in-Some.waits old.far c.read.new.self c.read.new.sight
    (c.read.new.steps - c.args.steps.now) c.requires.focus
    (indexed c.primitives-primitives.result.now c.args.terms.now.primitives c.args.prim primitive
    (c.primitives-primitives.ensures ∙ ap (λ (n : Named). n.primitives) c.tables.ensures.tables) (omega (arith, c.if-prim-primitives.false)) c.index-primitives-prim.is)
    c.in-Some.ensures.some
    (subst (λ (nil : Option (List Value)). Moved (read_leaf nothing (limits_of old c.args.sight.now) old.focus c.args.sight.now delimiters nil
    (Some (primitive_of c.in-Some.leaf)) old.stack (state_of old)) c.in_ok-waits-in-Some.waits old.far c.read.new.self c.read.new.sight
    (c.read.new.steps - c.args.steps.now)) c.wanted-wanted.ensures (c.in_ok-waits-in-Some.ensures.moved nothing delimiters (refl, refl) (c.requires.registered.holds, c.requires.registered.within.open_lists)))
