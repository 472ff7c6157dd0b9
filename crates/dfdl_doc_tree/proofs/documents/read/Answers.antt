use Rattle.std.proofs.Common.{ℕ, ◌+◌, ◌≤◌, List, Ok, Err, length, arith, ap, sym, subst, ◌∙◌}
use Rattle.dfdl_markup.specs.Building.{read_step}
use Rattle.dfdl_markup.specs.Documents.{IsTreeOf}
use Rattle.dfdl_markup.specs.Trees.{Node}
use Rattle.dfdl_doc_tree.specs.ReaderShown.{Becomes, inside_seen}
use Rattle.dfdl_doc_tree.proofs.Refused.{all_read, counted_start, refused_end, refused_step}
use Rattle.dfdl_doc_tree.proofs.RunsRead.{more_read, more_within, first_behind}
use Rattle.dfdl_doc_tree.proofs.documents.read.Goals as goal

pub loop-at-init : goal.loop-at-init
loop-at-init c = record {
  within = omega arith;
  runs = ap Ok (sym c.new-reader.ensures);
  counted = counted_start (inside_seen c.new-reader.result) c.new-reader.ensures;
}

pub loop-at-preserved : goal.loop-at-preserved
loop-at-preserved c = record {
  within = more_within c.args.bytes.now c.from_place.result.now c.loop-at.at c.in-Ok.count c.from_place.ensures c.loop-at.invariant.within c.in-Ok.ensures.within;
  runs = more_read c.args.bytes.now c.from_place.result.now c.loop-at.at c.in-Ok.count (inside_seen c.loop-at.reader)
      (inside_seen c.read_on.new.self) c.from_place.ensures c.loop-at.invariant.runs c.in-Ok.ensures.read;
  counted = c.in-Ok.ensures.at ∙ ap (λ (n : ℕ). n + c.in-Ok.count) c.loop-at.invariant.counted;
}

pub returns-in-Err-clause-refused : goal.returns-in-Err-clause-refused
returns-in-Err-clause-refused c =
    refused_step c.args.bytes.now c.loop-at.at _ (inside_seen c.loop-at.reader) (inside_seen c.read_on.new.self)
    c.in-Err.refusal c.fault_of.result
    (λ rule is. c.documents_are_read.ensures.refused c.args.bytes.now c.loop-at.at (inside_seen c.loop-at.reader) rule c.loop-at-test.true c.loop-at.invariant.runs is)
    (subst (λ b. Becomes (read_step (inside_seen c.loop-at.reader) b) (Err c.in-Err.refusal) (inside_seen c.read_on.new.self))
    (first_behind c.args.bytes.now c.from_place.result.now c.loop-at.at c.from_place.ensures) c.in-Err.ensures.refused) c.fault_of.ensures

pub returns-then-accepts-clause-tree : goal.returns-then-accepts-clause-tree
returns-then-accepts-clause-tree c =
    let over : length c.args.bytes.now ≤ c.loop-at.at = omega (arith, c.loop-at-test.false) in
    let all = all_read c.args.bytes.now c.loop-at.at (inside_seen c.loop-at.reader) over c.loop-at.invariant.runs in
    subst (λ (nodes : List Node). IsTreeOf c.args.bytes.now nodes) (sym c.finish.ensures)
    (c.documents_are_read.ensures.tree c.args.bytes.now (inside_seen c.loop-at.reader) all
    (sym c.accepts.ensures ∙ c.if-accepts.true))

pub returns-then-accepts-clause-only : goal.returns-then-accepts-clause-only
returns-then-accepts-clause-only c nodes is =
    let over : length c.args.bytes.now ≤ c.loop-at.at = omega (arith, c.loop-at-test.false) in
    let all = all_read c.args.bytes.now c.loop-at.at (inside_seen c.loop-at.reader) over c.loop-at.invariant.runs in
    c.finish.ensures
    ∙ sym (c.documents_are_read.ensures.only c.args.bytes.now (inside_seen c.loop-at.reader) all
    (sym c.accepts.ensures ∙ c.if-accepts.true) nodes is)

pub returns-else-accepts-clause-refused : goal.returns-else-accepts-clause-refused
returns-else-accepts-clause-refused c =
    let over : length c.args.bytes.now ≤ c.loop-at.at = omega (arith, c.loop-at-test.false) in
    let all = all_read c.args.bytes.now c.loop-at.at (inside_seen c.loop-at.reader) over c.loop-at.invariant.runs in
    refused_end c.args.bytes.now c.fault_of-else-accepts.result
    (c.documents_are_read.ensures.ends c.args.bytes.now (inside_seen c.loop-at.reader) all
    (sym c.accepts.ensures ∙ c.if-accepts.false))
    c.fault_of-else-accepts.ensures
