use Rattle.std.proofs.Common.{lit<}
use Rattle.std.proofs.lemmas.Iterator.Splits.{YieldsList-from_str_split}
use Rattle.std.proofs.lemmas.Iterator.Consumers.{YieldsList-turn, YieldsList-end}
use Rattle.std.proofs.lemmas.List.{length_push}
use Rattle.dfdl_documents.specs.Locations.{segments_of}
use Rattle.dfdl_documents.proofs.Segments.{one_followed, all_followed}
use Rattle.dfdl_documents.proofs.locations.follow_text.Goals as goal

pub loop-segment-preserved : goal.loop-segment-preserved
loop-segment-preserved c =
    let from = YieldsList-from_str_split 47 c.args.text.now (lit< tt) (cc) (cc) (cc) in
    let t = YieldsList-turn from c.loop-segment.yielded _ c.loop-segment.yielded_by _ _ c.in-Some.segment c.in-Some.is c.next.ensures.steps in
    one_followed (segments_of c.args.text.now) _ _ _ _ _ c.in-Some.segment.now t.0 t.1 (length_push c.loop-segment.yielded c.in-Some.segment) c.in_ok-follow.ensures c.loop-segment.invariant

pub returns : goal.returns
returns c =
    let from = YieldsList-from_str_split 47 c.args.text.now (lit< tt) (cc) (cc) (cc) in
    let t = YieldsList-end from c.loop-segment.yielded _ c.loop-segment.yielded_by _ _ c.in-None.is c.next.ensures.steps in
    all_followed (segments_of c.args.text.now) _ _ _ t.1 c.loop-segment.invariant
