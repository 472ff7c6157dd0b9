use Rattle.std.proofs.Common.{Option, ap, subst, sym, ◌∙◌}
use Rattle.dfdl_terms.specs.declared.row.Primitive.{Primitive}
use Rattle.dfdl_terms.specs.Tables.{Named}
use Rattle.dfdl_grammar.specs.Prefixes.{size_of}
use Rattle.dfdl_parse.specs.Prefixed.{sized_begins}
use Rattle.dfdl_parse.specs.Shown.{Becomes, state_of}
use Rattle.dfdl_parse.proofs.Landings.{got}
use Rattle.dfdl_parse.proofs.parser.Parser.begin_leaf.Goals as goal

pub returns-in-Some-clause-becomes : goal.returns-in-Some-clause-becomes
returns-in-Some-clause-becomes c =
    let old = c.args.self.now in
    subst (λ (p : Option Primitive). Becomes old (sized_begins p c.args.prim (size_of c.args.unit c.args.units) old.stack (state_of old)) c.begin_sized.new.self)
    (sym (got c.primitives.result.now c.args.terms.now.primitives c.args.prim c.in-Some.field-0.now (c.primitives.ensures ∙ ap (λ (n : Named). n.primitives) c.tables.ensures.tables)
    c.in-Some.ensures.lookup.0 c.in-Some.ensures.lookup.1)) (c.begin_sized.ensures.becomes c.in-Some.field-0.now)
