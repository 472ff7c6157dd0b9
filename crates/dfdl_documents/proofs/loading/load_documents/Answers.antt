use Rattle.std.proofs.Common.{arith, sym, ap, ◌∙◌, ◌≡◌}
use Rattle.std.specs.List.{slice_get}
use Rattle.dfdl_documents.proofs.Loops.{all_loaded, counted_more, goes_on}
use Rattle.dfdl_documents.proofs.Endings.{ends_by, ends_full, some_value, none_value}
use Rattle.dfdl_documents.proofs.loading.load_documents.Goals as goal

pub returns-in_default-clause-loaded : goal.returns-in_default-clause-loaded
returns-in_default-clause-loaded g c =
    all_loaded _ _ _ c.args.schemas _ c.loop-number.documents c.loop-number.names c.loop-number.number c.loop-number.invariant (sym c.in_default.ensures) (omega arith)

pub returns-in-Err-clause-fault : goal.returns-in-Err-clause-fault
returns-in-Err-clause-fault g c =
    ends_by _ _ _ c.args.most c.args.schemas c.loop-number.number c.args.name.now c.in-Some.next.now c.loop-number.documents c.loop-number.names c.in-Err.fault c.loop-number.invariant
    (sym c.in-Some.ensures) (omega arith) c.in-Err.ensures.fault

pub loop-number-preserved : goal.loop-number-preserved
loop-number-preserved g c =
    goes_on _ _ _ c.args.most c.args.name.now c.in-Some.next.now c.loop-number.documents _ c.loop-number.names _ c.loop-number.number c.in-Ok.loaded c.loop-number.invariant
    (sym c.in-Some.ensures) c.in-Ok.ensures.document c.in_ok-names-2.ensures c.in_ok-push.ensures

pub returns-then-is_some-clause-fault : goal.returns-then-is_some-clause-fault
returns-then-is_some-clause-fault g c =
    ends_full _ _ c.args.most c.args.schemas c.loop-number.number c.from.result c.args.name.now c.loop-number.documents c.loop-number.names c.loop-number.invariant (omega arith)
    c.from.ensures (some_value c.get-2.result _ (sym c.is_some.ensures ∙ c.if-is_some.true) c.get-2.ensures)

pub returns-clause-loaded : goal.returns-clause-loaded
returns-clause-loaded g c =
    let same : c.loop-number.number ≡ c.args.schemas = omega arith in
    all_loaded _ _ _ c.args.schemas _ c.loop-number.documents c.loop-number.names c.loop-number.number c.loop-number.invariant
    (ap (slice_get c.loop-number.names) same ∙ none_value c.get-2.result _ (sym c.is_some.ensures ∙ c.if-is_some.false) c.get-2.ensures) (omega arith)

pub returns-in-Err-clause-counted : goal.returns-in-Err-clause-counted
returns-in-Err-clause-counted g c =
    counted_more _ _ _ c.args.most c.args.schemas c.args.name.now c.loop-number.documents c.loop-number.names c.loop-number.number c.loop-number.invariant (omega arith) c.in-Err.ensures.counted

pub returns-in_err-names-2-clause-counted : goal.returns-in_err-names-2-clause-counted
returns-in_err-names-2-clause-counted g c =
    counted_more _ _ _ c.args.most c.args.schemas c.args.name.now c.loop-number.documents c.loop-number.names c.loop-number.number c.loop-number.invariant (omega arith) c.in-Ok.ensures.counted

pub returns-in_err-push-clause-counted : goal.returns-in_err-push-clause-counted
returns-in_err-push-clause-counted g c =
    counted_more _ _ _ c.args.most c.args.schemas c.args.name.now c.loop-number.documents c.loop-number.names c.loop-number.number c.loop-number.invariant (omega arith) c.in-Ok.ensures.counted
