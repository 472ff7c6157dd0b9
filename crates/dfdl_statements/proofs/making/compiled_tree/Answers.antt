use Rattle.dfdl_statements.proofs.Compiled.{resolved, unbound, unresolved}
use Rattle.dfdl_statements.proofs.making.compiled_tree.Goals as goal

pub returns-then-names_unbound : goal.returns-then-names_unbound
returns-then-names_unbound c = λ found reading.
    unbound c.args.statics.now c.args.wanted c.args.text.now c.args.tree.now.nodes.items found c.a_text_has_one_tree.ensures.tree c.requires.tree reading
    c.names_unbound.result c.names_unbound.ensures c.if-names_unbound.true

pub returns-in-Ok : goal.returns-in-Ok
returns-in-Ok c = λ found reading.
    resolved c.args.statics.now c.args.wanted c.args.text.now c.args.tree.now.nodes.items found c.a_text_has_one_tree.ensures.tree c.requires.tree reading
    c.names_unbound.result c.names_unbound.ensures c.if-names_unbound.false _ _ (λ f same. c.in-Ok.ensures.answer f same) c.fitting.ensures

pub returns-in-Err : goal.returns-in-Err
returns-in-Err c = λ found reading.
    unresolved c.args.statics.now c.args.wanted c.args.text.now c.args.tree.now.nodes.items found c.a_text_has_one_tree.ensures.tree c.requires.tree reading
    c.names_unbound.result c.names_unbound.ensures c.if-names_unbound.false _ _ (λ f same. c.in-Err.ensures.answer f same) c.unfit.ensures
