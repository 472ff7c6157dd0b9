use Rattle.std.proofs.Common.{◌-◌, ap, arith}
use Rattle.serde_json.specs.View.{members_view, view}
use Rattle.dfdl_terms.specs.Arrays.{is_marked}
use Rattle.dfdl_json.specs.Reading.{data_at}
use Rattle.dfdl_json.proofs.Contents.{found_there, pushed_member, task_put}
use Rattle.dfdl_json.proofs.reading.Reading.push_members.Goals as goal

pub loop-at-preserved-in-Continue-branch-2 : goal.loop-at-preserved-in-Continue-branch-2
loop-at-preserved-in-Continue-branch-2 c =
    let row = c.index-elements-at.result in
    let entries = members_view c.args.members.now.entries in
    record {
      names = c.loop-at.invariant.names;
      found = c.loop-at.invariant.found;
      pushed = pushed_member c.args.terms.now c.args.elements.now (c.loop-at.at - 1) c.loop-at.at row entries c.loop-at.self.tasks.items _ (data_at c.loop-at.self.contents.items) _
          (omega arith) c.index-elements-at.is c.loop-at.invariant.pushed (view c.in-Some.content.now) c.push_front.new.self.items (data_at c.push_front-in-Some.new.self.items)
          (is_marked c.args.marks.now.items row) (found_there c.args.terms.now row entries c.name_of.result.now (view c.in-Some.content.now) c.in-Some.ensures c.name_of.ensures) (c.requires.items row)
          (task_put row c.loop-at.self.tasks.items _ c.reading_of.result _ c.in_ok-push_front.ensures.items c.reading_of.ensures)
          (ap data_at c.in_ok-push_front-2.ensures.items);
    }
